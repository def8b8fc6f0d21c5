-- A named cause is fixed by its number: no other cause, and no `Other`, has it. So every number from 1 on fixes its cause.
use Rattle.std.specs.Prelude.{◌≡◌, refl, Bool, true, false, cond, ◌&&◌, ℕ, ◌≤◌, ℤ, pos}
use Rattle.std.proofs.Common.{sym, ◌∙◌, ap, arith, true≢false}
use Rattle.std.specs.Int.Signed.{le_z}
use Rattle.causes.specs.declared.Declined.{Declined}
use Rattle.causes.specs.declared.Declined.TheVariants.{Capacity, NoRoom, NoBook, OutOfRange, RateOutOfRange, BaseOutOfRange, LoadOutOfRange}
use Rattle.causes.specs.declared.Declined.TheVariants.{NumberLive, Full, NotLive, NothingToTakeBack, Empty, OutputTooShort, RatesNotApart, NoSuchMark, Other}
use Rattle.causes.specs.Numbers.{is_cause, number_of, Named}

abbrev same : ℤ → ℤ → Bool
same y z = le_z y z && le_z z y

-- the cause with a number
abbrev cause_of : ℤ → Declined
cause_of z =
    cond (same z (pos 1)) Capacity (
    cond (same z (pos 2)) NoRoom (
    cond (same z (pos 3)) NoBook (
    cond (same z (pos 4)) OutOfRange (
    cond (same z (pos 14)) RateOutOfRange (
    cond (same z (pos 15)) BaseOutOfRange (
    cond (same z (pos 16)) LoadOutOfRange (
    cond (same z (pos 5)) NumberLive (
    cond (same z (pos 7)) Full (
    cond (same z (pos 8)) NotLive (
    cond (same z (pos 17)) NothingToTakeBack (
    cond (same z (pos 9)) Empty (
    cond (same z (pos 10)) OutputTooShort (
    cond (same z (pos 12)) RatesNotApart (
    cond (same z (pos 13)) NoSuchMark (
    Other z)))))))))))))))

round : (c : Declined) → Named c → cause_of (number_of c) ≡ c
round Capacity h = refl
round NoRoom h = refl
round NoBook h = refl
round OutOfRange h = refl
round RateOutOfRange h = refl
round BaseOutOfRange h = refl
round LoadOutOfRange h = refl
round NumberLive h = refl
round Full h = refl
round NotLive h = refl
round NothingToTakeBack h = refl
round Empty h = refl
round OutputTooShort h = refl
round RatesNotApart h = refl
round NoSuchMark h = refl
round (Other n) h = absurd h

is_named : (c : Declined) → Named c → is_cause (number_of c) ≡ true
is_named Capacity h = refl
is_named NoRoom h = refl
is_named NoBook h = refl
is_named OutOfRange h = refl
is_named RateOutOfRange h = refl
is_named BaseOutOfRange h = refl
is_named LoadOutOfRange h = refl
is_named NumberLive h = refl
is_named Full h = refl
is_named NotLive h = refl
is_named NothingToTakeBack h = refl
is_named Empty h = refl
is_named OutputTooShort h = refl
is_named RatesNotApart h = refl
is_named NoSuchMark h = refl
is_named (Other n) h = absurd h

not_named : (n : ℤ) → is_cause (number_of (Other n)) ≡ false
not_named n = go (is_cause n) refl
  where
    go : (b : Bool) → is_cause n ≡ b → is_cause (cond b (pos 0) n) ≡ false
    go true e = refl
    go false e = e

named : (c : Declined) → is_cause (number_of c) ≡ true → Named c
named Capacity e = tt
named NoRoom e = tt
named NoBook e = tt
named OutOfRange e = tt
named RateOutOfRange e = tt
named BaseOutOfRange e = tt
named LoadOutOfRange e = tt
named NumberLive e = tt
named Full e = tt
named NotLive e = tt
named NothingToTakeBack e = tt
named Empty e = tt
named OutputTooShort e = tt
named RatesNotApart e = tt
named NoSuchMark e = tt
named (Other n) e = absurd (true≢false (sym e ∙ not_named n))

pub named_once : (c d : Declined) → Named d → number_of c ≡ number_of d → c ≡ d
named_once c d h e = sym (round c (named c (ap is_cause e ∙ is_named d h))) ∙ ap cause_of e ∙ round d h

-- a number of `Other` that is not 0 is its own
own_number : (z : ℤ) (n : ℕ) → 1 ≤ n → number_of (Other z) ≡ pos n → z ≡ pos n
own_number z n h = go (is_cause z)
  where
    go : (b : Bool) → cond b (pos 0) z ≡ pos n → z ≡ pos n
    go true e = let f : 0 ≡ n = cc in absurd (omega (arith, f, h))
    go false e = e

other : (c : Declined) → is_cause (number_of c) ≡ false → (z : ℤ) × (c ≡ Other z)
other Capacity e = absurd (true≢false e)
other NoRoom e = absurd (true≢false e)
other NoBook e = absurd (true≢false e)
other OutOfRange e = absurd (true≢false e)
other RateOutOfRange e = absurd (true≢false e)
other BaseOutOfRange e = absurd (true≢false e)
other LoadOutOfRange e = absurd (true≢false e)
other NumberLive e = absurd (true≢false e)
other Full e = absurd (true≢false e)
other NotLive e = absurd (true≢false e)
other NothingToTakeBack e = absurd (true≢false e)
other Empty e = absurd (true≢false e)
other OutputTooShort e = absurd (true≢false e)
other RatesNotApart e = absurd (true≢false e)
other NoSuchMark e = absurd (true≢false e)
other (Other z) e = (z, refl)

pub number_once : (c d : Declined) (n : ℕ) → 1 ≤ n → number_of c ≡ pos n → number_of d ≡ pos n → c ≡ d
number_once c d n h e f = go (is_cause (pos n)) refl
  where
    go : (b : Bool) → is_cause (pos n) ≡ b → c ≡ d
    go true b = named_once c d (named d (ap is_cause f ∙ b)) (e ∙ sym f)
    go false b =
        let (y, p) = other c (ap is_cause e ∙ b) in
        let (z, q) = other d (ap is_cause f ∙ b) in
        p ∙ ap Other (own_number y n h (ap number_of (sym p) ∙ e) ∙ sym (own_number z n h (ap number_of (sym q) ∙ f))) ∙ sym q
