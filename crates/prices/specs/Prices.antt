-- What the search reads of a slot, safe whatever the words are: a rate, a base, a numerator or a denominator that is out of range reads 0.
use Rattle.std.specs.Prelude.{ℕ, ◌-◌, ◌≤◌, ◌<◌, ◌≡◌, Bool, true, false, cond, ◌||◌, T, leb, ltb, ℤ, pos, negsuc, neg_ℤ, ◌+ℤ◌, ◌-ℤ◌, ◌*ℤ◌}
use Rattle.std.proofs.Common.{arith, sym, SFits}
use Rattle.std.specs.Int.Signed.{le_z}
use borrow.Author.Tests.{le-leb, lt-leb, lt-ltb, le-ltb}
use Rattle.lists.specs.Bools.{and_left, and_right, and_both, cond_itself, cond_or}
use Rattle.integers.specs.Parts.{int_rules}
use Rattle.offers.specs.Offers.{between, rate_in_range, base_in_range}
use Rattle.offers.specs.Bounded.{bounded, bounded_ranged}
use Rattle.std.specs.Int.{w64}
use Rattle.offers.specs.Sizes.{numerator_in_range, denominator_in_range, base_times_fits, rate_times_fits, scaled_price_fits, base_gap_fits, rate_gap_fits}
use Rattle.table.specs.Fields.{base_field, denominator_field, most_slots, next_piece_field, numerator_field, rate_field}
use Rattle.table.specs.Words.{Words}
use Rattle.table.specs.Layout.{cell, link_at}

abbrev pub rate_at : Words → ℕ → ℤ
rate_at w s = bounded (neg_ℤ (pos 100_000)) (pos 100_000) (cell w rate_field s)

abbrev pub base_at : Words → ℕ → ℤ
base_at w s = bounded (neg_ℤ (pos 1_000_000_000)) (pos 1_000_000_000) (cell w base_field s)

abbrev pub numerator_at : Words → ℕ → ℤ
numerator_at w s = bounded (neg_ℤ (pos 2_000_000_000)) (pos 2_000_000_000) (cell w numerator_field s)

abbrev pub denominator_at : Words → ℕ → ℤ
denominator_at w s = bounded (pos 0) (pos 200_000) (cell w denominator_field s)

pub rate_ranged : (w : Words) (s : ℕ) → T (rate_in_range (rate_at w s))
rate_ranged w s = bounded_ranged (neg_ℤ (pos 100_000)) (pos 100_000) (cell w rate_field s) tt

pub base_ranged : (w : Words) (s : ℕ) → T (base_in_range (base_at w s))
base_ranged w s = bounded_ranged (neg_ℤ (pos 1_000_000_000)) (pos 1_000_000_000) (cell w base_field s) tt

pub numerator_ranged : (w : Words) (s : ℕ) → T (numerator_in_range (numerator_at w s))
numerator_ranged w s = bounded_ranged (neg_ℤ (pos 2_000_000_000)) (pos 2_000_000_000) (cell w numerator_field s) tt

-- a number from 0 to 200,000 is one from −200,000 to 200,000
positive_ranged : (z : ℤ) → T (between (pos 0) (pos 200_000) z) → T (denominator_in_range z)
positive_ranged z t =
    and_both (le_z (neg_ℤ (pos 200_000)) z) (le_z z (pos 200_000)) (low (and_left (le_z (pos 0) z) (le_z z (pos 200_000)) t))
    (and_right (le_z (pos 0) z) (le_z z (pos 200_000)) t)
  where
    low : T (le_z (pos 0) z) → T (le_z (negsuc 199_999) z)
    low h = omega (arith, int_rules)

pub denominator_ranged : (w : Words) (s : ℕ) → T (denominator_in_range (denominator_at w s))
denominator_ranged w s = positive_ranged (denominator_at w s) (bounded_ranged (pos 0) (pos 200_000) (cell w denominator_field s) tt)

-- ---- prices

-- what a price is computed with: a load in range
pub record Priced (n d : ℤ) : Type 0 where
  pub above : T (numerator_in_range n)
  pub below : T (denominator_in_range d)

pub crossing_priced : (w : Words) (p : ℕ) {n d : ℤ} → n ≡ numerator_at w p → d ≡ denominator_at w p → Priced n d
crossing_priced w p a b = record { above = rw a (numerator_ranged w p); below = rw b (denominator_ranged w p) }

-- the price, times d, of the line in slot s at the load n over d
abbrev pub price_in : Words → ℕ → ℤ → ℤ → ℤ
price_in w s n d = base_at w s *ℤ d +ℤ rate_at w s *ℤ n

-- and at the crossing that its own slot keeps
abbrev pub crossing_price_at : Words → ℕ → ℤ
crossing_price_at w s = price_in w s (numerator_at w s) (denominator_at w s)

pub crossing_price_is : (w : Words) (s : ℕ) (n d : ℤ) {p : ℤ} → n ≡ numerator_at w s → d ≡ denominator_at w s → p ≡ price_in w s n d → p ≡ crossing_price_at w s
crossing_price_is w s n d a b c = rw (c, a, b)

-- each of the code's products and sums fits
module _ (w : Words) (s : ℕ) where
  pub base_product_fits : (b d : ℤ) → b ≡ base_at w s → T (denominator_in_range d) → SFits w64 (b *ℤ d)
  base_product_fits b d hb hd = base_times_fits b d (rw hb (base_ranged w s)) hd

  pub rate_product_fits : (r n : ℤ) → r ≡ rate_at w s → T (numerator_in_range n) → SFits w64 (r *ℤ n)
  rate_product_fits r n hr hn = rate_times_fits r n (rw hr (rate_ranged w s)) hn

  pub price_fits : (b r n d : ℤ) → b ≡ base_at w s → r ≡ rate_at w s → T (numerator_in_range n) → T (denominator_in_range d) → SFits w64 (b *ℤ d +ℤ r *ℤ n)
  price_fits b r n d hb hr hn hd = scaled_price_fits b r n d (rw hb (base_ranged w s)) (rw hr (rate_ranged w s)) hn hd

  pub price_is : (b r n d : ℤ) → b ≡ base_at w s → r ≡ rate_at w s → b *ℤ d +ℤ r *ℤ n ≡ price_in w s n d
  price_is b r n d hb hr = rw (hb, hr)

-- and so do numerator and denominator of the crossing of a and b
module _ (w : Words) (a b : ℕ) {x y : ℤ} where
  pub bases_fit : x ≡ base_at w b → y ≡ base_at w a → SFits w64 (x -ℤ y)
  bases_fit d e = base_gap_fits y x (rw e (base_ranged w a)) (rw d (base_ranged w b))

  pub rates_fit : x ≡ rate_at w a → y ≡ rate_at w b → SFits w64 (x -ℤ y)
  rates_fit d e = rate_gap_fits x y (rw d (rate_ranged w a)) (rw e (rate_ranged w b))

-- at the crossing kept in slot p of w, the line in slot s of v is at most the line in slot p
abbrev pub at_most_at : Words → ℕ → Words → ℕ → Bool
at_most_at w p v s = le_z (price_in v s (numerator_at w p) (denominator_at w p)) (price_in w p (numerator_at w p) (denominator_at w p))

-- by what the code computed
pub compared : (w : Words) (p : ℕ) (v : Words) (s : ℕ) (n d y z : ℤ) → n ≡ numerator_at w p → d ≡ denominator_at w p → y ≡ price_in w p n d →
    z ≡ price_in v s n d → le_z z y ≡ at_most_at w p v s
compared w p v s n d y z a b c e = rw (e, c, a, b)

-- the slot in which a node is kept
unfoldable pub kept_in : ℕ → ℕ
kept_in x = cond (leb x most_slots) x (x - most_slots)

pub kept_leaf : (x : ℕ) → x ≤ most_slots → kept_in x ≡ x
unfolding kept_in
kept_leaf x h = rw (le-leb x most_slots h)

pub kept_inner : (x : ℕ) → most_slots < x → kept_in x ≡ x - most_slots
unfolding kept_in
kept_inner x h = rw (lt-leb x most_slots h)

-- the crossing kept in slot p of w is on or above the local envelope of node x of v; slot 0 is a missing end
unfoldable pub above_at : Words → ℕ → Words → ℕ → Bool
above_at w p v x =
    cond (ltb p 1) false (cond (at_most_at w p v (kept_in x)) true (cond (leb x most_slots) false (at_most_at w p v (link_at v next_piece_field (kept_in x)))))

module _ (w : Words) (p : ℕ) (v : Words) (x : ℕ) where
  pub above_missing : p < 1 → false ≡ above_at w p v x
  unfolding above_at
  above_missing h = rw (lt-ltb p 1 h)

  -- each answer of the code: n and d are the crossing kept in slot p, y is the price there of slot p's line, z that of slot s's
  module _ {n d y z : ℤ} {s : ℕ} (some : 1 ≤ p) (en : n ≡ numerator_at w p) (ed : d ≡ denominator_at w p) (ey : y ≡ price_in w p n d) (kept : s ≡ kept_in x)
      (ez : z ≡ price_in v s n d) where
    first_test : at_most_at w p v (kept_in x) ≡ le_z z y
    first_test = rw (← kept) (sym (compared w p v s n d y z en ed ey ez))

    pub above_first : le_z z y ≡ true → true ≡ above_at w p v x
    unfolding above_at
    above_first e = rw (le-ltb p 1 some, first_test, e)

    pub above_leaf : le_z z y ≡ false → x ≤ most_slots → false ≡ above_at w p v x
    unfolding above_at
    above_leaf e k = rw (le-ltb p 1 some, first_test, e, le-leb x most_slots k)

    pub above_second : {t : ℕ} {z' : ℤ} → le_z z y ≡ false → most_slots < x → t ≡ link_at v next_piece_field s → z' ≡ price_in v t n d → le_z z' y ≡ above_at w p v x
    unfolding above_at
    above_second {t} {z'} e k l f = rw (le-ltb p 1 some, first_test, e, lt-leb x most_slots k, ← kept, ← l) (compared w p v t n d y z' en ed ey f)

  -- a leaf's one line, and an inner node's two
  pub above_one : 1 ≤ p → x ≤ most_slots → above_at w p v x ≡ at_most_at w p v (kept_in x)
  unfolding above_at
  above_one h k = rw (le-ltb p 1 h, le-leb x most_slots k) (cond_itself (at_most_at w p v (kept_in x)))

  pub above_two : 1 ≤ p → most_slots < x → above_at w p v x ≡ at_most_at w p v (kept_in x) || at_most_at w p v (link_at v next_piece_field (kept_in x))
  unfolding above_at
  above_two h k = rw (le-ltb p 1 h, lt-leb x most_slots k) (cond_or (at_most_at w p v (kept_in x)) (at_most_at w p v (link_at v next_piece_field (kept_in x))))
