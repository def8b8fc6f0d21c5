-- Chains: crossings of neighbours in order say which line is the lowest at a point.
use Rattle.std.specs.Prelude.{ℕ, zero, suc, ◌<◌, ◌≤◌, ◌-◌, ◌≡◌, ◌≢◌, T}
use Rattle.std.proofs.Common.{arith, sym, subst}
use Rattle.std.proofs.Math.Decide.{dec_lt, dec_le, ℕ_discrete}
use Rattle.lists.specs.Members.{decide_true}
use Rattle.envelopes.specs.PseudoLines.{Figure, LeftOf, Below, PseudoLines, mirror}
use Rattle.envelopes.specs.Crossing.{
  price_refl,
  point_refl,
  below_le,
  left_upto,
  le_below_trans,
  upto_left_trans,
  left_trans,
  below_trans,
  fall_strict,
  upto_cross,
  right_of_cross,
}
use Rattle.envelopes.specs.Bridge.{Chain, PastOuter, InPiece}

-- What holds of neighbours and is transitive holds of any two.
pub steps : (R : ℕ → ℕ → Type 0) → ((i j k : ℕ) → R i j → R j k → R i k) → (i j : ℕ) → i < j → ((t : ℕ) → i ≤ t → t < j → R t (suc t)) → R i j
steps R tr i zero h f = absurd (omega arith)
steps R tr i (suc j) h f =
    elim (ℕ_discrete i j) [
      | yes e ↦ subst (λ t. R t (suc j)) (sym e) (f j (omega arith) (omega arith))
      | no e ↦ tr i j (suc j) (steps R tr i j (omega arith) (λ t p q. f t p (omega arith))) (f j (omega arith) (omega arith))
    ]

module _ (S : Figure) (L : PseudoLines S) (a : ℕ → S.Line) (n : ℕ) (K : Chain S a n) where
  pub before_far : (i j : ℕ) → i < j → j < n → T (S.before (a i) (a j))
  before_far i j h b = steps (λ s t. T (S.before (a s) (a t))) (λ s t u. L.before_trans (a s) (a t) (a u)) i j h (λ t p q. K.ordered t (omega arith))

  pub turns_increase : (i j : ℕ) → i < j → suc j < n → LeftOf S (S.cross (a i) (a (suc i))) (S.cross (a j) (a (suc j)))
  turns_increase i j h b =
      steps
      (λ s t. LeftOf S (S.cross (a s) (a (suc s))) (S.cross (a t) (a (suc t))))
      (λ s t u. left_trans S L (S.cross (a s) (a (suc s))) (S.cross (a t) (a (suc t))) (S.cross (a u) (a (suc u))))
      i
      j
      h
      (λ t p q. K.turning t (omega arith))

  pub turns_upto : (i j : ℕ) → i ≤ j → suc j < n → T (S.up_to (S.cross (a i) (a (suc i))) (S.cross (a j) (a (suc j))))
  turns_upto i j h b =
      elim (ℕ_discrete i j) [
        | yes e ↦ subst (λ t. T (S.up_to (S.cross (a i) (a (suc i))) (S.cross (a t) (a (suc t))))) e (point_refl S L (S.cross (a i) (a (suc i))))
        | no e ↦ left_upto S L (S.cross (a i) (a (suc i))) (S.cross (a j) (a (suc j))) (turns_increase i j (omega arith) b)
      ]

  -- past a line's outer end every line further out is strictly above it
  pub outer_above : (x : S.Point) (k i : ℕ) → k < n → PastOuter S a k x → i < k → Below S (a k) (a i) x
  outer_above x zero i b o h = absurd (omega arith)
  outer_above x (suc k) i b o h =
      steps
      (λ s t. Below S (a t) (a s) x)
      (λ s t u p q. below_trans S L (a u) (a t) (a s) x q p)
      i
      (suc k)
      h
      (λ t p q.
      right_of_cross S L (a t) (a (suc t)) x (K.ordered t (omega arith))
      (upto_left_trans S L (S.cross (a t) (a (suc t))) (S.cross (a k) (a (suc k))) x (turns_upto t k (omega arith) b) o))

  pub outer_lowest : (x : S.Point) (k i : ℕ) → k < n → PastOuter S a k x → i ≤ k → T (S.at_most (a k) (a i) x)
  outer_lowest x k i b o h =
      elim (ℕ_discrete k i) [
        | yes e ↦ subst (λ t. T (S.at_most (a k) (a t) x)) e (price_refl S L (a k) x)
        | no e ↦ below_le S L (a k) (a i) x (outer_above x k i b o (omega arith))
      ]

  -- up to its inner end every line further in is on or above it
  pub inner_above : (x : S.Point) (k i : ℕ) → (suc k < n → T (S.up_to x (S.cross (a k) (a (suc k))))) → k < i → i < n → T (S.at_most (a k) (a i) x)
  inner_above x k i e h b =
      steps
      (λ s t. T (S.at_most (a s) (a t) x))
      (λ s t u. L.price_trans (a s) (a t) (a u) x)
      k
      i
      h
      (λ t p q.
      upto_cross S L (a t) (a (suc t)) x (K.ordered t (omega arith))
      (L.point_trans x (S.cross (a k) (a (suc k))) (S.cross (a t) (a (suc t))) (e (omega arith)) (turns_upto k t p (omega arith))))

  -- strictly before it, strictly above
  pub inner_strict : (x : S.Point) (k i : ℕ) → (suc k < n → LeftOf S x (S.cross (a k) (a (suc k)))) → k < i → i < n → Below S (a k) (a i) x
  inner_strict x k i e h b =
      let X : S.Point = S.cross (a k) (a (suc k)) in
      fall_strict S L (a k) (a i) x X (before_far k i h b) (inner_above X k i (λ q. point_refl S L X) h b) (e (omega arith))

  -- in its piece a line is the lowest, the first in order among the lowest
  pub piece_first : (x : S.Point) (k i : ℕ) → InPiece S a n k x → i < k → Below S (a k) (a i) x
  piece_first x k i P h = outer_above x k i P.inside P.outer h

  pub piece_lowest : (x : S.Point) (k i : ℕ) → InPiece S a n k x → i < n → T (S.at_most (a k) (a i) x)
  piece_lowest x k i P b =
      elim (dec_le i k) [
        | yes h ↦ outer_lowest x k i P.inside P.outer h
        | no h ↦ inner_above x k i P.inner (omega arith) b
      ]

  -- every point lies in one piece: the last whose outer end is strictly outside
  piece_from : (x : S.Point) (k : ℕ) → k < n → (suc k < n → T (S.up_to x (S.cross (a k) (a (suc k))))) → (k : ℕ) × InPiece S a n k x
  piece_from x zero b e = (zero, record { inside = b; outer = tt; inner = e })
  piece_from x (suc k) b e =
      elim (decide_true (S.up_to x (S.cross (a k) (a (suc k))))) [
        | yes h ↦ piece_from x k (omega arith) (λ q. h)
        | no h ↦ (suc k, record { inside = b; outer = h; inner = e })
      ]

  pub piece : (x : S.Point) → 0 < n → (k : ℕ) × InPiece S a n k x
  piece x h = piece_from x (n - 1) (omega arith) (λ q. absurd (omega arith))

  pub piece_unique : (x : S.Point) (k l : ℕ) → InPiece S a n k x → InPiece S a n l x → k ≡ l
  piece_unique x k l P Q =
      elim (dec_lt k l) [
        | yes h ↦ absurd (piece_first x l k Q h (piece_lowest x k l P Q.inside))
        | no h ↦
            elim (dec_lt l k) [
              | yes g ↦ absurd (piece_first x k l P g (piece_lowest x l k Q P.inside))
              | no g ↦ omega arith
            ]
      ]

  -- the crossing of neighbours ends the piece of the first: no line of the chain is lower there, and only those two are as low
  pub turn_in_piece : (k : ℕ) → suc k < n → InPiece S a n k (S.cross (a k) (a (suc k)))
  turn_in_piece zero b = record { inside = omega arith; outer = tt; inner = λ q. point_refl S L (S.cross (a zero) (a (suc zero))) }
  turn_in_piece (suc k) b = record { inside = omega arith; outer = K.turning k b; inner = λ q. point_refl S L (S.cross (a (suc k)) (a (suc (suc k)))) }

  pub turn_lowest : (k i : ℕ) → suc k < n → i < n → T (S.at_most (a k) (a i) (S.cross (a k) (a (suc k))))
  turn_lowest k i b h = piece_lowest (S.cross (a k) (a (suc k))) k i (turn_in_piece k b) h

  pub turn_lowest_suc : (k i : ℕ) → suc k < n → i < n → T (S.at_most (a (suc k)) (a i) (S.cross (a k) (a (suc k))))
  turn_lowest_suc k i b h =
      L.price_trans (a (suc k)) (a k) (a i) (S.cross (a k) (a (suc k))) (L.cross_ge (a k) (a (suc k)) (K.ordered k b)) (turn_lowest k i b h)

  pub turn_strict : (k i : ℕ) → suc k < n → i < n → i ≢ k → i ≢ suc k → Below S (a k) (a i) (S.cross (a k) (a (suc k)))
  turn_strict k i b h p q =
      let X : S.Point = S.cross (a k) (a (suc k)) in
      elim (dec_lt i k) [
        | yes g ↦ piece_first X k i (turn_in_piece k b) g
        | no g ↦
            le_below_trans S L (a k) (a (suc k)) (a i) X (L.cross_le (a k) (a (suc k)) (K.ordered k b))
            (inner_strict X (suc k) i (λ r. K.turning k r) (omega arith) h)
      ]

  pub turn_strict_suc : (k i : ℕ) → suc k < n → i < n → i ≢ k → i ≢ suc k → Below S (a (suc k)) (a i) (S.cross (a k) (a (suc k)))
  turn_strict_suc k i b h p q =
      le_below_trans S L (a (suc k)) (a k) (a i) (S.cross (a k) (a (suc k))) (L.cross_ge (a k) (a (suc k)) (K.ordered k b)) (turn_strict k i b h p q)

  -- a point strictly inside the piece
  within : (k : ℕ) → k < n → (x : S.Point) × PastOuter S a k x × (suc k < n → LeftOf S x (S.cross (a k) (a (suc k))))
  within zero b =
      let y : (y : S.Point) × LeftOf S y (S.cross (a zero) (a (suc zero))) = L.left_of (S.cross (a zero) (a (suc zero))) in
      (y.0, tt, λ q. y.1)
  within (suc k) b =
      elim (dec_lt (suc (suc k)) n) [
        | yes h ↦
            let y : (y : S.Point) × LeftOf S (S.cross (a k) (a (suc k))) y × LeftOf S y (S.cross (a (suc k)) (a (suc (suc k)))) =
            L.between (S.cross (a k) (a (suc k))) (S.cross (a (suc k)) (a (suc (suc k)))) (K.turning k h)
            in
            (y.0, y.1, λ q. y.2)
        | no h ↦
            let y : (y : S.Point) × LeftOf S (S.cross (a k) (a (suc k))) y = L.right_of (S.cross (a k) (a (suc k))) in
            (y.0, y.1, λ q. absurd (h q))
      ]

  -- there the line is strictly below every other
  pub strictly_lowest : (k : ℕ) → k < n → (x : S.Point) × ((i : ℕ) → i < n → i ≢ k → Below S (a k) (a i) x)
  strictly_lowest k b =
      let w : (x : S.Point) × PastOuter S a k x × (suc k < n → LeftOf S x (S.cross (a k) (a (suc k)))) = within k b in (
        w.0,
        λ i h p.
            elim (dec_lt i k) [
              | yes g ↦ outer_above w.0 k i b w.1 g
              | no g ↦ inner_strict w.0 k i w.2 (omega arith) h
            ],
      )

-- The lines of a chain from the last to the first make up a chain in the mirror image.
pub reversed : (S : Figure) (a : ℕ → S.Line) (n : ℕ) → Chain S a n → Chain (mirror S) (λ i. a (n - suc i)) n
reversed S a n K =
    record {
      ordered = λ i h.
          let e : n - suc i ≡ suc (n - suc (suc i)) = omega arith in
          rw e (K.ordered (n - suc (suc i)) (omega arith));
      turning = λ i h.
          let d : n - suc i ≡ suc (suc (n - suc (suc (suc i)))) = omega arith in
          let e : n - suc (suc i) ≡ suc (n - suc (suc (suc i))) = omega arith in
          rw (d, e) (K.turning (n - suc (suc (suc i))) (omega arith));
    }
