-- Theorems on specs/Rebalanced.
use Rattle.std.specs.Prelude.{ℕ, suc, ◌≤◌, ◌<◌, max, ◌≡◌, List, [], ◌∷◌, ◌++◌, leb, length}
use Rattle.std.proofs.Common.{arith, ◌∙◌, append_assoc, leb→le, ltb→lt, nltb→le, length-append}
use Rattle.std.proofs.Math.Dec.{nleb→lt}
use Rattle.lists.specs.Bools.{cond_both}
use Rattle.envelopes.specs.PseudoLines.{Figure, PseudoLines}
use Rattle.trees.specs.Operations.{towers}
use Rattle.meeting.specs.Machine.{Side, left, right}
use Rattle.dynamic.specs.OfferTree.{Held, held_shape, Pair, Made, and_then, outer, inner, lower, raise, raise_on}
use Rattle.dynamic.specs.Updates.{rotate, rebalance}
use Rattle.dynamic.specs.Work.{Inner}
use Rattle.dynamic.specs.Forests.{row_on, merged_here, merged_there, merged_on}
use Rattle.dynamic.specs.Kept.{Kept, held_height, Above}
use Rattle.dynamic.proofs.Kept.{lowered_on, raised_on}
use Rattle.dynamic.specs.Rebalanced.{After, Gathered, Joined, doubled, gather, tall_joined}

module _ (S : Figure) (L : PseudoLines S) (before : List (Inner S.Line)) (live : List S.Line) (xs ys : List (Held S.Line)) where
  module _ (side : Side) where
    gathered :
        (o i s : Held S.Line) {log : List (Pair S.Line)} →
        Kept S before live (xs ++ row_on side (o ∷ i ∷ s ∷ []) ys) log →
        held_height i ≤ suc (held_height s) →
        held_height s ≤ suc (held_height i) →
        held_height o ≤ suc (suc (max (held_height i) (held_height s))) →
        max (held_height i) (held_height s) ≤ held_height o →
        Gathered S before live (xs ++ row_on side ((gather S side o i s).held ∷ []) ys) log o i s (gather S side o i s)
    gathered o i s k hi hs ho hm =
        let Y = raised_on S L side k (merged_on side xs (merged_there merged_here) ys) hi hs in
        let Z = raised_on S L side Y.kept (merged_on side xs merged_here ys) (omega arith) (omega arith) in
        record { kept = rw append_assoc at Z.kept; higher = omega arith; two = rw length-append (omega arith) }

    module _ (tall s : Held S.Line) (log : List (Pair S.Line)) (e : held_height tall ≡ suc (suc (held_height s))) where
      -- o and i are the children of the tall one
      rotated_once :
          (o i : Held S.Line) →
          Kept S before live (xs ++ row_on side (o ∷ i ∷ s ∷ []) ys) log →
          Above o i tall →
          held_height i ≤ held_height o →
          (After S L before live xs ys side) log (held_height tall) (gather S side o i s)
      rotated_once o i k a le =
          let G = gathered o i s k (omega arith) (omega arith) (omega arith) (omega arith) in
          record { kept = G.kept; low = omega arith; high = omega arith; few = omega arith }

      -- and p and q those of i
      rotated_twice :
          (o i p q : Held S.Line) →
          Kept S before live (xs ++ row_on side (o ∷ p ∷ q ∷ s ∷ []) ys) log →
          Above o i tall →
          Above p q i →
          held_height o < held_height i →
          (After S L before live xs ys side) log (held_height tall) (and_then (raise_on S side o p) (λ x. gather S side x q s))
      rotated_twice o i p q k a b lt =
          let d = doubled (held_height (raise_on S side o p).held) e a.higher a.left_level a.right_level b.higher b.left_level
          b.right_level lt in
          let X = raised_on S L side k (merged_on side xs merged_here ys) d.o_level d.p_level in
          let (xq, qx, low, high) = d.x_level X.level.higher in
          let G = gathered (raise_on S side o p).held q s X.kept d.q_level d.s_level xq qx in
          record {
            kept = rw append_assoc at G.kept;
            low = rw G.higher low;
            high = rw G.higher high;
            few =
                rw (length-append, X.one, G.two) (omega arith);
          }

      rotated : Kept S before live (xs ++ row_on side (tall ∷ s ∷ []) ys) log → (After S L before live xs ys side) log (held_height tall) (rotate S side tall s)
      unfolding rotate
      rotated k =
          let c = lower S tall in
          let d = lower S (inner side c) in
          let (k₁, a) = lowered_on S L side tall k (omega arith) (merged_on side xs merged_here ys) in
          cond_both ((After S L before live xs ys side) log (held_height tall)) (leb (held_height (inner side c)) (held_height (outer side c)))
          (λ t. rotated_once (outer side c) (inner side c) k₁ a (leb→le _ _ t))
          (λ t. let lt : held_height (outer side c) < held_height (inner side c) = nleb→lt _ _ t in
          let (k₂, b) = lowered_on S L side (inner side c) k₁ (omega arith) (merged_on side xs (merged_there merged_here) ys) in
          rotated_twice (outer side c) (inner side c) (outer side d) (inner side d) k₂ a b lt)

  raised_level :
      (l r : Held S.Line) {log : List (Pair S.Line)} →
      Kept S before live (xs ++ l ∷ r ∷ ys) log →
      held_height l ≤ suc (held_height r) →
      held_height r ≤ suc (held_height l) →
      Joined S before live (xs ++ (raise S l r).held ∷ ys) log l r (raise S l r)
  raised_level l r k hl hr =
      let R = raised_on S L left k (merged_on left xs {hs = l ∷ r ∷ []} merged_here ys) hl hr in
      record { kept = R.kept; heights = record { low = omega arith; high = omega arith; level = λ a b. R.level.higher }; few = omega arith }

  pub rebalanced :
      (l r : Held S.Line) {log : List (Pair S.Line)} →
      Kept S before live (xs ++ l ∷ r ∷ ys) log →
      held_height l ≤ suc (suc (held_height r)) →
      held_height r ≤ suc (suc (held_height l)) →
      Joined S before live (xs ++ (rebalance S l r).held ∷ ys) log l r (rebalance S l r)
  unfolding rebalance
  rebalanced l r {log} k hl hr =
      cond_both Joins (towers (held_shape l) (held_shape r)) (λ t. left_tall (ltb→lt _ _ t))
      (λ t. cond_both Joins (towers (held_shape r) (held_shape l)) (λ u. right_tall (ltb→lt _ _ u)) (λ u. raised_level l r k (nltb→le _ _ t) (nltb→le _ _ u)))
    where
      Joins : Made S.Line → Type 0
      Joins m = Joined S before live (xs ++ m.held ∷ ys) log l r m

      left_tall : suc (held_height r) < held_height l → Joins (rotate S left l r)
      left_tall t = (tall_joined S L before live xs ys) (omega arith) (omega arith) (rotated left l r log (omega arith) k)

      right_tall : suc (held_height l) < held_height r → Joins (rotate S right r l)
      right_tall t = (tall_joined S L before live xs ys) (omega arith) (omega arith) (rotated right r l log (omega arith) k)
