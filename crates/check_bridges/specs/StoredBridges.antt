-- The tests of a bridge between two stretches of slots, by the neighbours of its two ends.
use Rattle.std.specs.Prelude.{◌≡◌, Bool, true, false, not, List, ℕ, ◌+◌, ◌-◌, ◌≤◌, ◌<◌, eqb, get_or, T, ℤ, ◌-ℤ◌, ◌&&◌}
use Rattle.std.proofs.Common.{sym, ◌∙◌, ap, ap₂, arith, eqb-true, eq-eqb, to_z-of_z, SFits, to_z, of_z}
use Rattle.std.proofs.lemmas.Bool.{not-true}
use Rattle.std.specs.Int.{w64}
use Rattle.lists.specs.Bools.{is_true, passed, and_left, and_right, and_both, first_passes, first_fails}
use Rattle.integers.specs.Equal.{equal}
use Rattle.integers.specs.Parts.{equal_eq, equal_is}
use Rattle.offers.specs.Offers.{crossing_numerator, crossing_denominator}
use Rattle.table.specs.Fields.{denominator_field, next_piece_field, numerator_field}
use Rattle.table.specs.Words.{Words}
use Rattle.table.specs.Layout.{cell, link_at}
use Rattle.table.specs.Threads.{Next}
use Rattle.check_trees.specs.Scratch.{scratch_length}
use Rattle.check_trees.specs.Laid.{item_at}
use Rattle.check_trees.specs.Deciding.{Decides, decides_as, Every}
use Rattle.check_trees.specs.Loops.{RangedHere, NextHere}
use Rattle.check_bridges.specs.Gaps.{InRange, base_gap, rate_gap, base_is, rate_is, cross_at}

-- u stands at place i of the stretch from `from` up to `mid`, v at place j of the stretch from `mid` up to `to`; their crossing lies strictly
-- right of u's piece's left end and not right of its right end, and so for v in the mirror
pub record Bridges (w : Words) (xs : List ℕ) (from mid to i j : ℕ) : Type 0 where
  pub left_outer : from < i → cross_at w (get_or xs i 0) (get_or xs j 0) (get_or xs (i - 1) 0) (get_or xs i 0) ≡ false
  pub left_inner : i + 1 < mid → cross_at w (get_or xs i 0) (get_or xs j 0) (get_or xs i 0) (get_or xs (i + 1) 0) ≡ true
  pub right_inner : mid < j → cross_at w (get_or xs (j - 1) 0) (get_or xs j 0) (get_or xs i 0) (get_or xs j 0) ≡ true
  pub right_outer : j + 1 < to → cross_at w (get_or xs j 0) (get_or xs (j + 1) 0) (get_or xs i 0) (get_or xs j 0) ≡ false

-- the places of a bridge's ends
pub record Ends (from mid to i j : ℕ) : Type 0 where
  pub left_low : from ≤ i
  pub left_high : i < mid
  pub right_low : mid ≤ j
  pub right_high : j < to
  pub room : to ≤ scratch_length

-- slot a leads to slot b and keeps the crossing with its line, as the words tell it
unfoldable pub linked : Words → ℕ → ℕ → Bool
linked w a b =
    eqb (link_at w next_piece_field a) b && equal (cell w numerator_field a) (base_gap w a b) && equal (cell w denominator_field a) (rate_gap w a b)

-- a stretch threaded from slot to slot
pub record Threads (w : Words) (xs : List ℕ) (from to : ℕ) (r : Bool) : Type 0 where
  pub told : Every (RangedHere w xs) from to → Decides r (Every (NextHere w xs) from (to - 1))

-- ---- a thread, by its three tests

-- a comparison with a difference that fits is one with what it is
pub told : {q : Bool} {n m : ℤ} (z : ℤ) → n ≡ m → SFits w64 n → q ≡ equal z (to_z w64 (of_z w64 n)) → q ≡ equal z m
told z e f p = simp (to_z-of_z, f) at p ∙ ap (equal z) e

module _ (w : Words) (a b : ℕ) where
  abbrev pub leads : Bool
  leads = eqb (link_at w next_piece_field a) b

  abbrev pub over : Bool
  over = equal (cell w numerator_field a) (base_gap w a b)

  abbrev pub under : Bool
  under = equal (cell w denominator_field a) (rate_gap w a b)

  -- a test at a time, as code makes it
  pub linked_not : {v : Bool} → v ≡ leads && over → v ≡ false → v ≡ linked w a b
  unfolding linked
  linked_not e f = first_fails under e f

  pub linked_rest : {v r : Bool} → v ≡ leads && over → v ≡ true → r ≡ under → r ≡ linked w a b
  unfolding linked
  linked_rest e t p = first_passes e t p

module _ {w : Words} {a b : ℕ} where
  numerator_is : InRange w a → InRange w b → base_gap w a b ≡ crossing_numerator (item_at w a).offer (item_at w b).offer
  numerator_is ha hb = ap₂ ◌-ℤ◌ (base_is hb) (base_is ha)

  denominator_is : InRange w a → InRange w b → rate_gap w a b ≡ crossing_denominator (item_at w a).offer (item_at w b).offer
  denominator_is ha hb = ap₂ ◌-ℤ◌ (rate_is ha) (rate_is hb)

  linked_next : InRange w a → InRange w b → T (linked w a b) → Next w (item_at w a) (item_at w b)
  unfolding linked
  linked_next ha hb t =
      let p : T (leads w a b && over w a b) = and_left (leads w a b && over w a b) (under w a b) t in
      record {
        next = eqb-true _ b (is_true _ (and_left (leads w a b) (over w a b) p));
        numerator = equal_eq _ _ (and_right (leads w a b) (over w a b) p) ∙ numerator_is ha hb;
        denominator = equal_eq _ _ (and_right (leads w a b && over w a b) (under w a b) t) ∙ denominator_is ha hb;
      }

  next_linked : InRange w a → InRange w b → Next w (item_at w a) (item_at w b) → T (linked w a b)
  unfolding linked
  next_linked ha hb n =
      and_both (leads w a b && over w a b) (under w a b)
      (and_both (leads w a b) (over w a b) (passed (eq-eqb _ b n.next)) (equal_is _ _ (n.numerator ∙ sym (numerator_is ha hb))))
      (equal_is _ _ (n.denominator ∙ sym (denominator_is ha hb)))

-- ---- a thread along a stretch

pub threads_by : {w : Words} {xs : List ℕ} {from to : ℕ} {r : Bool} →
    Decides r (Every (λ k. T (linked w (get_or xs k 0) (get_or xs (k + 1) 0))) from (to - 1)) → Threads w xs from to r
threads_by {w} {xs} {from} {to} {r} d = record { told = told }
  where
    told : Every (RangedHere w xs) from to → Decides r (Every (NextHere w xs) from (to - 1))
    told h = decides_as (λ e. record { at = λ k l m. record { next = linked_next (here k l m) (next k l m) (e.at k l m) } })
        (λ e. record { at = λ k l m. next_linked (here k l m) (next k l m) (e.at k l m).next }) d
      where
        here : (k : ℕ) → from ≤ k → k < to - 1 → InRange w (get_or xs k 0)
        here k l m = record { ranged = (h.at k l (omega arith)).ranged }

        next : (k : ℕ) → from ≤ k → k < to - 1 → InRange w (get_or xs (k + 1) 0)
        next k l m = record { ranged = (h.at (k + 1) (omega arith) (omega arith)).ranged }

-- ---- the tests of the neighbours

module _ {A : Type 0} {b y : Bool} where
  pub near_none : {z : Bool} → b ≡ true → (A → ⊥) → Decides b (A → y ≡ z)
  near_none t n = record { sound = λ u a. absurd (n a); complete = λ f. t }

  pub near_is : b ≡ y → A → Decides b (A → y ≡ true)
  near_is e a = record { sound = λ u x. sym e ∙ u; complete = λ f. e ∙ f a }

  pub near_not : b ≡ y → A → Decides (not b) (A → y ≡ false)
  near_not e a = record { sound = λ u x. sym e ∙ not-true b u; complete = λ f. rw (e ∙ f a) }

-- ---- the four of them together

abbrev LeftOuter : Words → List ℕ → ℕ → ℕ → ℕ → ℕ → Type 0
LeftOuter w xs from i u v = from < i → cross_at w u v (get_or xs (i - 1) 0) u ≡ false

abbrev LeftInner : Words → List ℕ → ℕ → ℕ → ℕ → ℕ → Type 0
LeftInner w xs mid i u v = i + 1 < mid → cross_at w u v u (get_or xs (i + 1) 0) ≡ true

abbrev RightInner : Words → List ℕ → ℕ → ℕ → ℕ → ℕ → Type 0
RightInner w xs mid j u v = mid < j → cross_at w (get_or xs (j - 1) 0) v u v ≡ true

abbrev RightOuter : Words → List ℕ → ℕ → ℕ → ℕ → ℕ → Type 0
RightOuter w xs to j u v = j + 1 < to → cross_at w v (get_or xs (j + 1) 0) u v ≡ false

module _ {w : Words} {xs : List ℕ} {from mid to i j u v : ℕ} (eu : u ≡ get_or xs i 0) (ev : v ≡ get_or xs j 0) where
  pub bridges_by :
      {r : Bool} →
      Decides r (((LeftOuter w xs from i u v × LeftInner w xs mid i u v) × RightInner w xs mid j u v) × RightOuter w xs to j u v) →
      Decides r (Bridges w xs from mid to i j)
  bridges_by =
      decides_as
      (λ p. record {
        left_outer = rw (← eu, ← ev) p.0.0.0;
        left_inner = rw (← eu, ← ev) p.0.0.1;
        right_inner = rw (← eu, ← ev) p.0.1;
        right_outer = rw (← eu, ← ev) p.1;
      })
      (λ b. (((rw (eu, ev) b.left_outer, rw (eu, ev) b.left_inner), rw (eu, ev) b.right_inner), rw (eu, ev) b.right_outer))
