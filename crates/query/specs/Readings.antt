-- What the code reads of a part, whatever its words are: numbers are brought into the ranges that pieces keep, so that no product wraps.
use Rattle.std.specs.Prelude.{◌≡◌, Option, Some, None, Bool, true, false, cond, ℕ, suc, ◌*◌, ◌-◌, ◌≤◌, T, ltb, ℤ, pos, neg_ℤ, nat_abs, ◌+ℤ◌, ◌*ℤ◌}
use Rattle.std.proofs.Common.{mul-le-mul, arith, SFits}
use Rattle.std.specs.Int.{w64}
use Rattle.integers.specs.Magnitude.{fits, nat_abs_add, nat_abs_mul, within_nat_abs}
use Rattle.offers.specs.Offers.{within}
use Rattle.offers.specs.Bounded.{bounded}
use Rattle.table.specs.Fields.{base_field, denominator_field, most_slots, numerator_field, piece_tree, rate_field}
use Rattle.table.specs.Words.{Words}
use Rattle.table.specs.Layout.{cell, link_at}
use Rattle.table.specs.Rep.{bit, child_field}
use Rattle.prices.specs.Positions.{Position, position_of, is_apart, on_or_above}
use Rattle.query.specs.declared.Turn.{Turn}
use Rattle.query.specs.declared.Step.{Step}

-- from −n to n
abbrev pub clamped : ℕ → ℤ → ℤ
clamped n z = bounded (neg_ℤ (pos n)) (pos n) z

pub clamped_size : (n : ℕ) (z : ℤ) → nat_abs (clamped (suc n) z) ≤ suc n
unfolding bounded
clamped_size n z = go (within (suc n) z) (λ t. within_nat_abs n z t)
  where
    go : (b : Bool) → (T b → nat_abs z ≤ suc n) → nat_abs (cond b z (pos 0)) ≤ suc n
    go true f = f tt
    go false f = omega arith

pub clamped_product : {x y : ℤ} (m n : ℕ) (a b : ℤ) → x ≡ clamped (suc m) a → y ≡ clamped (suc n) b → nat_abs (x *ℤ y) ≤ suc m * suc n
clamped_product {x} {y} m n a b d e =
    rw (d, e) (omega (arith, nat_abs_mul (clamped (suc m) a) (clamped (suc n) b), mul-le-mul (clamped_size m a) (clamped_size n b)))

-- base + rate × load
pub price_fits : {b r l : ℤ} (x y q : ℤ) → b ≡ clamped 1_000_000_000 x → r ≡ clamped 100_000 y → l ≡ clamped 1_000_000 q → SFits w64 (b +ℤ r *ℤ l)
price_fits {b} {r} {l} x y q eb er el =
    let e : nat_abs b ≤ 1_000_000_000 = rw eb (clamped_size 999_999_999 x) in
    fits _ (omega (arith, nat_abs_add b (r *ℤ l), clamped_product 99_999 999_999 y q er el))

-- where the load lies against the crossing n / d
unfoldable pub crossing_against : ℤ → ℤ → ℤ → Position
crossing_against q n d = position_of (clamped 1_000_000 q *ℤ clamped 200_000 d) n

-- what is kept in mind there: the slot that keeps the crossing, where the load is at it, else what was kept before; 0 is nothing
abbrev pub kept_at : Position → (slot before : ℕ) → ℕ
kept_at p s before = cond (is_apart p) before s

-- the way on from the crossing n / d that slot s keeps; as a number, left is 0 and right is 1
pub record Turns (q n d : ℤ) (s before : ℕ) (t : Turn) : Type 0 where
  pub side : t.side ≡ bit (on_or_above (crossing_against q n d))
  pub low : t.side ≤ 1
  pub kept : t.kept ≡ kept_at (crossing_against q n d) s before

-- where the load lies against the crossing that slot s keeps
abbrev pub seam_at : Words → ℕ → ℤ → Position
seam_at w s q = crossing_against q (cell w numerator_field s) (cell w denominator_field s)

-- the child, on the load's side, of the inner node kept in slot s; 0 where there is none
unfoldable pub child_toward : Words → ℕ → ℤ → ℕ
child_toward w s q = cond (within 200_000 (cell w denominator_field s)) (link_at w (child_field piece_tree (on_or_above (seam_at w s q))) s) 0

abbrev pub toward_at : Words → ℕ → ℤ → ℕ
toward_at w x q = child_toward w (x - most_slots) q

-- what is kept in mind at node x
abbrev pub mind_at : Words → ℕ → ℤ → ℕ → ℕ
mind_at w x q before = kept_at (seam_at w (x - most_slots) q) (x - most_slots) before

-- the promise of one step from node x
abbrev pub Stepped : Words → ℕ → ℤ → ℕ → Option Step → Type 0
Stepped w x q before (Some s) = (s.child ≡ toward_at w x q) × (s.kept ≡ mind_at w x q before)
Stepped w x q before None = 0 ≡ toward_at w x q

-- what is kept in mind, or else a slot
abbrev pub kept_else : ℕ → ℕ → ℕ
kept_else kept slot = cond (ltb kept 1) slot kept

-- the price of the offer kept in slot s
unfoldable pub price_in : Words → ℕ → ℤ → ℤ
price_in w s q = clamped 1_000_000_000 (cell w base_field s) +ℤ clamped 100_000 (cell w rate_field s) *ℤ clamped 1_000_000 q
