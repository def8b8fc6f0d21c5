-- The ranges of an offer's entries, as the code tests them.
use Rattle.std.specs.Prelude.{◌≡◌, refl, Bool, true, false, not, ℕ, T, ℤ, pos, Result, Ok, Err}
use Rattle.std.proofs.Common.{subst}
use Rattle.lists.specs.Bools.{not_not, said, denied}
use Rattle.offers.specs.Offers.{number_in_range, rate_in_range, base_in_range, offer_in_range}
use Rattle.plain.specs.Causes.{Clear}
use Rattle.plain.specs.Book.{Call, post, withdraw, take_back, range_trials}
use Rattle.plain.specs.Entries.{Names, posted_number, posted_rate, posted_base, withdrawn_number}
use Rattle.declining.specs.Declining.{clear_offer}
use Rattle.causes.specs.declared.Declined.{Declined}
use Rattle.causes.specs.declared.Declined.TheVariants.{OutOfRange, RateOutOfRange, BaseOutOfRange}
use Rattle.causes.specs.Numbers.{number_of}

-- a call's first entry out of range has the number of this cause
abbrev pub RangeDeclined : Call → Declined → Type 0
RangeDeclined k c = (m : ℕ) × (number_of c ≡ pos m) × Names m k

-- the first of a call's entries that is out of range, where one is
pub record RangeCause (k : Call) (u : Result (Unit {0}) Declined) : Type 0 where
  pub names : (c : Declined) → u ≡ Err c → RangeDeclined k c
  pub clears : u ≡ Ok tt → Clear (range_trials k)

range_named : {k : Call} {c : Declined} → RangeDeclined k c → RangeCause k (Err c)
range_named {k} {c} n = record { names = λ d e. let h : c ≡ d = cc in subst (RangeDeclined k) h n; clears = λ e. cc }

range_clear : {k : Call} → Clear (range_trials k) → RangeCause k (Ok tt)
range_clear g = record { names = λ c e. cc; clears = λ e. g }

module _ (n r z : ℤ) {b : Bool} (e : b ≡ not (number_in_range n)) where
  pub number_out : b ≡ true → RangeCause (post n r z) (Err OutOfRange)
  number_out h = range_named (4, refl, posted_number (said e h))

  module _ {d : Bool} (h : b ≡ false) (e' : d ≡ not (rate_in_range r)) where
    pub rate_out : d ≡ true → RangeCause (post n r z) (Err RateOutOfRange)
    rate_out k = range_named (14, refl, posted_rate (not_not (number_in_range n) (denied e h)) (said e' k))

    module _ {f : Bool} (k : d ≡ false) (e'' : f ≡ not (base_in_range z)) where
      pub base_out : f ≡ true → RangeCause (post n r z) (Err BaseOutOfRange)
      base_out l =
          range_named (15, refl, posted_base (not_not (number_in_range n) (denied e h)) (not_not (rate_in_range r) (denied e' k)) (said e'' l))

      pub offer_in : f ≡ false → RangeCause (post n r z) (Ok tt)
      offer_in l = range_clear (denied e h, (denied e' k, (denied e'' l, tt)))

module _ (n : ℤ) {b : Bool} (e : b ≡ not (number_in_range n)) where
  pub withdraw_out : b ≡ true → RangeCause (withdraw n) (Err OutOfRange)
  withdraw_out h = range_named (4, refl, withdrawn_number (said e h))

  pub withdraw_in : b ≡ false → RangeCause (withdraw n) (Ok tt)
  withdraw_in h = range_clear (denied e h, tt)

-- an offer that none of them is out of is in range
pub range_offer : {n r z : ℤ} {u : Result (Unit {0}) Declined} → RangeCause (post n r z) u → u ≡ Ok tt →
    T (offer_in_range (record { number = n; rate = r; base = z }))
range_offer {n} {r} {z} o q = clear_offer n r z (o.clears q)

-- a take-back has no entries
pub back_in : RangeCause take_back (Ok tt)
back_in = range_clear tt
