-- The five facts that the search for a bridge rests on. The second and the fifth are the first and the fourth in the mirror.
use Rattle.std.specs.Prelude.{ℕ, zero, suc, ◌<◌, ◌≤◌, ◌≡◌, refl, ◌⊎◌, T}
use Rattle.std.proofs.Common.{arith, subst, inl, inr}
use Rattle.std.proofs.Math.Decide.{dec_lt, dec_le}
use Rattle.envelopes.specs.PseudoLines.{Figure, PseudoLines, mirror, mirror_laws}
use Rattle.envelopes.specs.Crossing.{le_below_trans, fall_strict, below_le}
use Rattle.envelopes.specs.Bridge.{Facing, Bridge, Kind, leafy, inner, Local, One, Two, Facts}
use Rattle.envelopes.proofs.Chains.{turn_lowest}
use Rattle.envelopes.proofs.Bridges.{facing_mirror, bridge_mirror, bridge_lowest_right, ends_left, ends_right}

-- A local line is one of the chain's; the line just inside the node's point is a local line.
local_place : {A : Type 0} (c : ℕ → A) (n j : ℕ) (h : Kind) (l : A) → j < n → Local c j h l → (k : ℕ) × (k < n) × (l ≡ c k)
local_place c n j leafy l b e = (j, b, e)
local_place c n zero inner l b e = (zero, b, e)
local_place c n (suc j) inner l b (inl e) = (j, omega arith, e)
local_place c n (suc j) inner l b (inr e) = (suc j, b, e)

local_next : {A : Type 0} (c : ℕ → A) (j : ℕ) (h : Kind) → Local c j h (c j)
local_next c j leafy = refl
local_next c zero inner = refl
local_next c (suc j) inner = inr refl

module _ (S : Figure) (L : PseudoLines S) (a : ℕ → S.Line) (m : ℕ) (c : ℕ → S.Line) (n : ℕ) (F : Facing S a m c n) (istar jstar : ℕ)
    (B : Bridge S a m c n istar jstar) where
  -- left of the bridge's crossing the left line of the bridge is strictly below every right line, so the left envelope is too
  fact_one : (i j : ℕ) (k h : Kind) → i < m → j < n → One S a i k c j h → istar < i
  fact_one zero j k h b g o = absurd o
  fact_one (suc i) j k h b g o =
      elim (dec_lt istar (suc i)) [
        | yes e ↦ e
        | no e ↦
            let X : S.Point = S.cross (a i) (a (suc i)) in
            let p : (t : ℕ) × (t < n) × (o.0 ≡ c t) = local_place c n j h o.0 g o.1 in
            absurd
            (le_below_trans S L (a i) (a istar) (c p.0) X (turn_lowest S L a m F.left i istar b B.on_left.inside)
            (fall_strict S L (a istar) (c p.0) X (S.cross (a istar) (c jstar)) (F.apart istar p.0 B.on_left.inside p.1)
            (bridge_lowest_right S L a m c n F istar jstar B p.0 p.1)
            (ends_left S L a m c n F istar jstar B i (omega arith)))
            (rw p.2 at o.2))
      ]

  -- otherwise the right node's point is at or left of the left node's, and the line right of the former rises above the line left of the latter
  fact_three : (i j : ℕ) (k h : Kind) → i < m → j < n → ¬ One S a i k c j h → ¬ Two S a i k c j h → (i ≤ istar) ⊎ (j ≤ jstar)
  fact_three zero j k h b g p q = inl (omega arith)
  fact_three (suc i) zero k h b g p q = inr (omega arith)
  fact_three (suc i) (suc j) k h b g p q =
      elim (dec_le (suc i) istar) [
        | yes e ↦ inl e
        | no e ↦
            elim (dec_le (suc j) jstar) [
              | yes d ↦ inr d
              | no d ↦
                  let X : S.Point = S.cross (a i) (a (suc i)) in
                  let Y : S.Point = S.cross (c (suc j)) (c j) in
                  let meet : S.Point = S.cross (a istar) (c jstar) in
                  let upto : T (S.up_to Y X) =
                  L.point_trans Y meet X
                  (ends_right (mirror S) (mirror_laws S L) c n a m (facing_mirror S a m c n F) jstar istar (bridge_mirror S a m c n istar jstar B) j
                  (omega arith) g)
                  (ends_right S L a m c n F istar jstar B i (omega arith) b)
                  in
                  let at_y : T (S.at_most (c (suc j)) (a (suc i)) Y) =
                  L.price_trans (c (suc j)) (c j) (a (suc i)) Y (L.cross_le (c (suc j)) (c j) (F.right.ordered j g))
                  (below_le S L (c j) (a (suc i)) Y (λ t. q (a (suc i), local_next a (suc i) k, t)))
                  in
                  let at_x : T (S.at_most (c (suc j)) (a (suc i)) X) = L.rise (a (suc i)) (c (suc j)) Y X (F.apart (suc i) (suc j) b g) at_y upto in
                  absurd
                  (p (
                    c (suc j),
                    local_next c (suc j) h,
                    L.price_trans (c (suc j)) (a (suc i)) (a i) X at_x (L.cross_ge (a i) (a (suc i)) (F.left.ordered i b)),
                  ))
            ]
      ]

  -- at or left of the bridge's crossing its left line is on or below every right line
  fact_four : (j : ℕ) (h : Kind) → j < n → ¬ Two S a istar leafy c j h → j ≤ jstar
  fact_four zero h g q = omega arith
  fact_four (suc j) h g q =
      elim (dec_le (suc j) jstar) [
        | yes e ↦ e
        | no e ↦
            let Y : S.Point = S.cross (c (suc j)) (c j) in
            absurd
            (q (
              a istar,
              refl,
              L.fall (a istar) (c j) Y (S.cross (a istar) (c jstar)) (F.apart istar j B.on_left.inside (omega arith))
                  (bridge_lowest_right S L a m c n F istar jstar B j (omega arith))
                  (ends_right (mirror S) (mirror_laws S L) c n a m (facing_mirror S a m c n F) jstar istar (bridge_mirror S a m c n istar jstar B) j
                  (omega arith) g),
            ))
      ]

pub facts : (S : Figure)
    → PseudoLines S
    → (a : ℕ → S.Line)
    (m : ℕ)
    (c : ℕ → S.Line)
    (n : ℕ)
    → Facing S a m c n
    → (istar jstar : ℕ)
    → Bridge S a m c n istar jstar
    → Facts m n istar jstar (λ i k j h. One S a i k c j h) (λ i k j h. Two S a i k c j h)
facts S L a m c n F istar jstar B =
    let M : PseudoLines (mirror S) = mirror_laws S L in
    let G : Facing (mirror S) c n a m = facing_mirror S a m c n F in
    let D : Bridge (mirror S) c n a m jstar istar = bridge_mirror S a m c n istar jstar B in
    record {
      f1 = fact_one S L a m c n F istar jstar B;
      f2 = λ i j k h b g. fact_one (mirror S) M c n a m G jstar istar D j i h k g b;
      f3 = fact_three S L a m c n F istar jstar B;
      f4 = λ i j h b g p q e. fact_four S L a m c n F istar jstar B j h g (subst (λ t. ¬ Two S a t leafy c j h) e q);
      f5 = λ i j k b g p q e. fact_four (mirror S) M c n a m G jstar istar D i k b (subst (λ t. ¬ One S a i k c t leafy) e p);
    }
