-- Two envelopes that face each other have a bridge, and one only.
use Rattle.std.specs.Prelude.{ℕ, zero, suc, ◌-◌, ◌<◌, ◌≡◌, Bool, ◌⊎◌, T}
use Rattle.std.proofs.Common.{arith, subst, inl, inr}
use Rattle.std.proofs.Math.Decide.{ℕ_discrete}
use Rattle.lists.specs.Members.{decide_true}
use Rattle.lists.specs.Bools.{not_refused}
use Rattle.envelopes.specs.PseudoLines.{Figure, Below, PseudoLines, mirror, mirror_laws}
use Rattle.envelopes.specs.Crossing.{below_le, upto_left_trans, below_left_of_cross, ge_cross_upto}
use Rattle.envelopes.specs.Bridge.{PastOuter, Facing, Bridge}
use Rattle.envelopes.proofs.Chains.{turn_lowest_suc, piece_lowest}
use Rattle.envelopes.proofs.Bridges.{facing_mirror, bridge_mirror, bridge_lowest_right, ends_left, ends_right}

-- A test passes at some place below n, or at none.
scan : (f : ℕ → Bool) (n : ℕ) → ((k : ℕ) × (k < n) × T (f k)) ⊎ ((k : ℕ) → k < n → ¬ T (f k))
scan f zero = inr (λ k h. absurd (omega arith))
scan f (suc n) =
    elim (decide_true (f n)) [
      | yes t ↦ inl (n, omega arith, t)
      | no t ↦
          elim (scan f n) [
            | inl (k, h, s) ↦ inl (k, omega arith, s)
            | inr s ↦
                inr λ k h.
                elim (ℕ_discrete n k) [
                  | yes e ↦ subst (λ u. ¬ T (f u)) e t
                  | no e ↦ s k (omega arith)
                ]
          ]
    ]

-- At the outer end of its piece line i is strictly below every line of the other side.
abbrev pub Clear : (S : Figure) → (ℕ → S.Line) → (ℕ → S.Line) → ℕ → ℕ → Type 0
Clear S a c n zero = Unit {0}
Clear S a c n (suc i) = (k : ℕ) → k < n → Below S (a (suc i)) (c k) (S.cross (a i) (a (suc i)))

-- The last line that is clear.
pub record LastClear (S : Figure) (a : ℕ → S.Line) (m : ℕ) (c : ℕ → S.Line) (n i : ℕ) : Type 0 where
  pub inside : i < m
  pub clear : Clear S a c n i
  pub blocked : suc i < m → (k : ℕ) × (k < n) × T (S.at_most (c k) (a (suc i)) (S.cross (a i) (a (suc i))))

clear_from : (S : Figure) (a : ℕ → S.Line) (m : ℕ) (c : ℕ → S.Line) (n i : ℕ)
    → i < m
    → (suc i < m → (k : ℕ) × (k < n) × T (S.at_most (c k) (a (suc i)) (S.cross (a i) (a (suc i)))))
    → (i : ℕ) × LastClear S a m c n i
clear_from S a m c n zero b h = (zero, record { inside = b; clear = tt; blocked = h })
clear_from S a m c n (suc i) b h =
    elim (scan (λ k. S.at_most (c k) (a (suc i)) (S.cross (a i) (a (suc i)))) n) [
      | inl s ↦ clear_from S a m c n i (omega arith) (λ q. s)
      | inr s ↦ (suc i, record { inside = b; clear = s; blocked = h })
    ]

last_clear : (S : Figure) (a : ℕ → S.Line) (m : ℕ) (c : ℕ → S.Line) (n : ℕ) → 0 < m → (i : ℕ) × LastClear S a m c n i
last_clear S a m c n h = clear_from S a m c n (m - 1) (omega arith) (λ q. absurd (omega arith))

-- A clear line's outer end lies strictly outside of its crossing with any line of the other side.
clear_outer : (S : Figure)
    → PseudoLines S
    → (a : ℕ → S.Line)
    (m : ℕ)
    (c : ℕ → S.Line)
    (n : ℕ)
    → Facing S a m c n
    → (i j : ℕ)
    → i < m
    → j < n
    → Clear S a c n i
    → PastOuter S a i (S.cross (a i) (c j))
clear_outer S L a m c n F zero j b g h = tt
clear_outer S L a m c n F (suc i) j b g h =
    below_left_of_cross S L (a (suc i)) (c j) (S.cross (a i) (a (suc i))) (F.apart (suc i) j b g) (h j g)

-- Right of its outer end a clear right line is on or below every left line.
clear_beyond : (S : Figure)
    → PseudoLines S
    → (a : ℕ → S.Line)
    (m : ℕ)
    (c : ℕ → S.Line)
    (n : ℕ)
    → Facing S a m c n
    → (i j : ℕ)
    → i < m
    → j < n
    → Clear (mirror S) c a m j
    → (x : S.Point)
    → (PastOuter (mirror S) c j x → T (S.at_most (c j) (a i) x))
    → T (S.at_most (c j) (a i) x)
clear_beyond S L a m c n F i zero b g h x f = f tt
clear_beyond S L a m c n F i (suc j) b g h x f =
    let Y : S.Point = S.cross (c (suc j)) (c j) in
    elim (decide_true (S.up_to Y x)) [
      | yes t ↦ L.rise (a i) (c (suc j)) Y x (F.apart i (suc j) b g) (below_le S L (c (suc j)) (a i) Y (h i b)) t
      | no t ↦ f t
    ]

-- At the inner end of the last clear left line the last clear right line is not above it.
clear_inner : (S : Figure)
    → PseudoLines S
    → (a : ℕ → S.Line)
    (m : ℕ)
    (c : ℕ → S.Line)
    (n : ℕ)
    → Facing S a m c n
    → (i j : ℕ)
    → LastClear S a m c n i
    → LastClear (mirror S) c n a m j
    → suc i < m
    → T (S.up_to (S.cross (a i) (c j)) (S.cross (a i) (a (suc i))))
clear_inner S L a m c n F i j P Q b =
    let X : S.Point = S.cross (a i) (a (suc i)) in
    let Y : S.Point = S.cross (c (suc j)) (c j) in
    let M : PseudoLines (mirror S) = mirror_laws S L in
    let (k, g, low) = P.blocked b in
    -- at X line c k is on or below every left line
    let under : (t : ℕ) → t < m → T (S.at_most (c k) (a t) X) =
    λ t h. L.price_trans (c k) (a (suc i)) (a t) X low (turn_lowest_suc S L a m F.left i t b h)
    in
    -- so the inner end of the last clear right line is at or left of X: some left line is on or below c k there
    let inner_end : suc j < n → T (S.up_to Y X) =
    λ r.
    let (t, h, s) = Q.blocked r in
    not_refused (S.up_to Y X) (λ l.
    L.rise_strict (a t) (c k) X Y (F.apart t k h g) (under t h) l
    (L.price_trans (a t) (c (suc j)) (c k) Y s (turn_lowest_suc (mirror S) M c n F.right j k r g)))
    in
    ge_cross_upto S L (a i) (c j) X (F.apart i j P.inside Q.inside)
    (clear_beyond S L a m c n F i j P.inside Q.inside Q.clear X (λ o.
    L.price_trans (c j) (c k) (a i) X
    (piece_lowest (mirror S) M c n F.right X j k (record { inside = Q.inside; outer = o; inner = inner_end }) g)
    (under i P.inside)))

module _ (S : Figure) (L : PseudoLines S) (a : ℕ → S.Line) (m : ℕ) (c : ℕ → S.Line) (n : ℕ) (F : Facing S a m c n) where
  -- the last clear lines of both sides make up the bridge
  pub bridge : 0 < m → 0 < n → (i : ℕ) × (j : ℕ) × Bridge S a m c n i j
  bridge hm hn =
      let (i, P) = last_clear S a m c n hm in
      let (j, Q) = last_clear (mirror S) c n a m hn in
      let M : PseudoLines (mirror S) = mirror_laws S L in
      let G : Facing (mirror S) c n a m = facing_mirror S a m c n F in (
        i,
        j,
        record {
          on_left = record {
            inside = P.inside;
            outer = clear_outer S L a m c n F i j P.inside Q.inside P.clear;
            inner =
                clear_inner S L a m c n F i j P Q;
          };
          on_right = record {
            inside = Q.inside;
            outer = clear_outer (mirror S) M c n a m G j i Q.inside P.inside Q.clear;
            inner = clear_inner (mirror S) M c n a m G j i Q P;
          };
        },
      )

-- No bridge lies further in than another: at the first crossing c j is on or below a i', and at a crossing right of it a i' on or below c j.
not_further : (S : Figure)
    → PseudoLines S
    → (a : ℕ → S.Line)
    (m : ℕ)
    (c : ℕ → S.Line)
    (n : ℕ)
    → Facing S a m c n
    → (i j i' j' : ℕ)
    → Bridge S a m c n i j
    → Bridge S a m c n i' j'
    → i < i'
    → ⊥
not_further S L a m c n F i j i' j' B B' h =
    let q : S.Point = S.cross (a i) (c j) in
    let q' : S.Point = S.cross (a i') (c j') in
    let X : S.Point = S.cross (a i) (a (suc i)) in
    let bi' : i' < m = B'.on_left.inside in
    let bj : j < n = B.on_right.inside in
    L.rise_strict (a i') (c j) q q' (F.apart i' j bi' bj)
    (bridge_lowest_right (mirror S) (mirror_laws S L) c n a m (facing_mirror S a m c n F) j i (bridge_mirror S a m c n i j B) i' bi')
    (upto_left_trans S L q X q' (ends_right S L a m c n F i j B i (omega arith) (omega arith)) (ends_left S L a m c n F i' j' B' i h))
    (bridge_lowest_right S L a m c n F i' j' B' j bj)

bridge_unique_left : (S : Figure)
    → PseudoLines S
    → (a : ℕ → S.Line)
    (m : ℕ)
    (c : ℕ → S.Line)
    (n : ℕ)
    → Facing S a m c n
    → (i j i' j' : ℕ)
    → Bridge S a m c n i j
    → Bridge S a m c n i' j'
    → i ≡ i'
bridge_unique_left S L a m c n F i j i' j' B B' =
    let p : ¬ (i < i') = not_further S L a m c n F i j i' j' B B' in
    let p' : ¬ (i' < i) = not_further S L a m c n F i' j' i j B' B in
    omega arith

pub bridge_unique : (S : Figure)
    → PseudoLines S
    → (a : ℕ → S.Line)
    (m : ℕ)
    (c : ℕ → S.Line)
    (n : ℕ)
    → Facing S a m c n
    → (i j i' j' : ℕ)
    → Bridge S a m c n i j
    → Bridge S a m c n i' j'
    → (i ≡ i') × (j ≡ j')
bridge_unique S L a m c n F i j i' j' B B' = (
  bridge_unique_left S L a m c n F i j i' j' B B',
  bridge_unique_left (mirror S) (mirror_laws S L) c n a m (facing_mirror S a m c n F) j i j' i' (bridge_mirror S a m c n i j B)
      (bridge_mirror S a m c n i' j' B'),
)
