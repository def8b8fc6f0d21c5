-- Two envelopes that face each other, and their bridge: the mirror image, and what both lines are at the crossing.
use Rattle.std.specs.Prelude.{ℕ, zero, suc, ◌<◌, ◌≤◌, T}
use Rattle.std.proofs.Common.{arith}
use Rattle.envelopes.specs.PseudoLines.{Figure, LeftOf, PseudoLines, mirror, mirror_laws}
use Rattle.envelopes.specs.Crossing.{upto_left_trans}
use Rattle.envelopes.specs.Bridge.{PastOuter, Facing, Bridge}
use Rattle.envelopes.proofs.Chains.{turns_upto, piece_lowest}

pub facing_mirror : (S : Figure) (a : ℕ → S.Line) (m : ℕ) (c : ℕ → S.Line) (n : ℕ) → Facing S a m c n → Facing (mirror S) c n a m
facing_mirror S a m c n F = record { left = F.right; right = F.left; apart = λ j i h g. F.apart i j g h }

pub bridge_mirror : (S : Figure) (a : ℕ → S.Line) (m : ℕ) (c : ℕ → S.Line) (n i j : ℕ) → Bridge S a m c n i j → Bridge (mirror S) c n a m j i
bridge_mirror S a m c n i j B = record { on_left = B.on_right; on_right = B.on_left }

module _ (S : Figure) (L : PseudoLines S) (a : ℕ → S.Line) (m : ℕ) (c : ℕ → S.Line) (n : ℕ) (F : Facing S a m c n) (i j : ℕ) (B : Bridge S a m c n i j) where
  -- at the crossing the left line of the bridge is on or below every line of either side
  pub bridge_lowest_left : (k : ℕ) → k < m → T (S.at_most (a i) (a k) (S.cross (a i) (c j)))
  bridge_lowest_left k h = piece_lowest S L a m F.left (S.cross (a i) (c j)) i k B.on_left h

  pub bridge_lowest_right : (k : ℕ) → k < n → T (S.at_most (a i) (c k) (S.cross (a i) (c j)))
  bridge_lowest_right k h =
      let q : S.Point = S.cross (a i) (c j) in
      L.price_trans (a i) (c j) (c k) q (L.cross_le (a i) (c j) (F.apart i j B.on_left.inside B.on_right.inside))
      (piece_lowest (mirror S) (mirror_laws S L) c n F.right q j k B.on_right h)

  -- the ends of pieces further out lie strictly left of it, the others at or right of it
  pub ends_left : (k : ℕ) → k < i → LeftOf S (S.cross (a k) (a (suc k))) (S.cross (a i) (c j))
  ends_left k h = go i h B.on_left.inside B.on_left.outer
    where
      go : (t : ℕ) → k < t → t < m → PastOuter S a t (S.cross (a i) (c j)) → LeftOf S (S.cross (a k) (a (suc k))) (S.cross (a i) (c j))
      go zero h b o = absurd (omega arith)
      go (suc t) h b o =
          upto_left_trans S L (S.cross (a k) (a (suc k))) (S.cross (a t) (a (suc t))) (S.cross (a i) (c j))
          (turns_upto S L a m F.left k t (omega arith) b) o

  pub ends_right : (k : ℕ) → i ≤ k → suc k < m → T (S.up_to (S.cross (a i) (c j)) (S.cross (a k) (a (suc k))))
  ends_right k h b =
      L.point_trans (S.cross (a i) (c j)) (S.cross (a i) (a (suc i))) (S.cross (a k) (a (suc k))) (B.on_left.inner (omega arith))
      (turns_upto S L a m F.left i k h b)
