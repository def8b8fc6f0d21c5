-- The four tests of a bridge say that the envelope of both sides is made of the left pieces up to u and the right ones from v.
use Rattle.std.specs.Prelude.{◌≡◌, ◌↔◌, List, ◌∷◌, ◌++◌, reverse, ℕ, zero, suc, ◌+◌, ◌-◌, ◌≤◌, ◌<◌, T, length, get_or}
use Rattle.std.proofs.Math.Path.{refl}
use Rattle.std.proofs.Common.{sym, ◌∙◌, ap, subst, subst₂}
use Rattle.std.proofs.lemmas.List.{map-append}
use native.Mathlib.Omega.{arith}
use Rattle.std.proofs.Math.ListN.{get_or-map}
use Rattle.lists.specs.Places.{get_d_reverse}
use Rattle.lists.specs.Bools.{refuted, said, to_true, to_false}
use Rattle.envelopes.specs.PseudoLines.{Figure, LeftOf, mirror}
use Rattle.envelopes.specs.Bridge.{InPiece, Bridge, Facing}
use Rattle.envelopes.specs.SameLines.{bridge_same}
use Rattle.envelopes.specs.Envelope.{Ordered, Env}
use Rattle.envelopes.proofs.Merge.{env_facing, merge_split}
use Rattle.table.specs.Words.{Words}
use Rattle.table.specs.Items.{Item}
use Rattle.pieces.specs.Pieces.{items, item_laws_lem}
use Rattle.check_trees.specs.Stretches.{span, span_mem, span_length, span_at, span_cut, span_cons}
use Rattle.check_trees.specs.Laid.{item_at, items_at, items_length}
use Rattle.check_bridges.specs.Gaps.{InRange, cross_at, cross_is}
use Rattle.check_bridges.specs.StoredBridges.{Bridges}
use Rattle.check_merge.specs.PieceTrees.{AllKnown}

-- ---- the piece of a line, by its neighbours

module _ (S : Figure) (a : ℕ → S.Line) (n : ℕ) (x : S.Point) where
  pub piece_by : (i : ℕ) → i < n → ((k : ℕ) → suc k ≡ i → LeftOf S (S.cross (a k) (a i)) x) → (suc i < n → T (S.up_to x (S.cross (a i) (a (suc i))))) →
      InPiece S a n i x
  piece_by zero h f g = record { inside = h; outer = tt; inner = g }
  piece_by (suc i) h f g = record { inside = h; outer = f i refl; inner = g }

  pub piece_outer : (i : ℕ) → InPiece S a n i x → (k : ℕ) → suc k ≡ i → LeftOf S (S.cross (a k) (a i)) x
  piece_outer zero p k e = absurd (omega arith)
  piece_outer (suc i) p k e = let q : k ≡ i = omega arith in rw q p.outer

-- ---- the lines of two stretches

-- a stretch about one of its places
pub items_about : (w : Words) (xs : List ℕ) (a b i : ℕ) → a ≤ i → i < b →
    items_at w (span xs a b) ≡ items_at w (span xs a i) ++ item_at w (get_or xs i 0) ∷ items_at w (span xs (suc i) b)
items_about w xs a b i h k =
    ap (items_at w) (span_cut xs a i b h (omega arith) ∙ ap (λ (zs : List ℕ). span xs a i ++ zs) (span_cons xs i b k))
    ∙ map-append (item_at w) (span xs a i) (get_or xs i 0 ∷ span xs (suc i) b)

-- from place a on, and back from place b
abbrev ahead : Words → List ℕ → ℕ → ℕ → Item
ahead w xs a k = item_at w (get_or xs (a + k) 0)

abbrev behind : Words → List ℕ → ℕ → ℕ → Item
behind w xs b k = item_at w (get_or xs (b - suc k) 0)

module _ (w : Words) (xs : List ℕ) (a b : ℕ) where
  ahead_is : (k : ℕ) → k < length (items_at w (span xs a b)) → get_or (items_at w (span xs a b)) k (item_at w 0) ≡ ahead w xs a k
  ahead_is k h = get_or-map (item_at w) (span xs a b) k 0
      ∙ ap (item_at w) (span_at xs a b k 0 (omega (arith, items_length w (span xs a b), span_length xs a b)))

  behind_is : (k : ℕ) → k < length (items_at w (span xs a b)) → get_or (reverse (items_at w (span xs a b))) k (item_at w 0) ≡ behind w xs b k
  behind_is k h =
      let n : length (items_at w (span xs a b)) ≡ b - a = items_length w (span xs a b) ∙ span_length xs a b in
      let p : a + (length (items_at w (span xs a b)) - suc k) ≡ b - suc k = omega arith in
      get_d_reverse (items_at w (span xs a b)) k (item_at w 0) h
      ∙ ahead_is (length (items_at w (span xs a b)) - suc k) (omega arith)
      ∙ ap (λ (i : ℕ). item_at w (get_or xs i 0)) p

-- ---- tests that say what a comparison of points says

-- ---- two envelopes that face each other

module _
    (w : Words)
    (xs : List ℕ)
    (at mid to : ℕ)
    (ls rs : List Item)
    (o : Ordered items (ls ++ rs))
    (E : Env items ls (items_at w (span xs at mid)))
    (F : Env items rs (items_at w (span xs mid to)))
    (known : AllKnown w (span xs at to))
    (upper : at ≤ mid)
    (lower : mid ≤ to)
  where
    abbrev us : List Item
    us = items_at w (span xs at mid)

    abbrev vs : List Item
    vs = items_at w (span xs mid to)

    abbrev A : ℕ → Item
    A = ahead w xs at

    abbrev C : ℕ → Item
    C = behind w xs to

    us_length : length us ≡ mid - at
    us_length = items_length w (span xs at mid) ∙ span_length xs at mid

    vs_length : length vs ≡ to - mid
    vs_length = items_length w (span xs mid to) ∙ span_length xs mid to

    facing : Facing items (λ k. get_or us k (item_at w 0)) (length us) (λ k. get_or (reverse vs) k (item_at w 0)) (length vs)
    facing = env_facing items item_laws_lem ls rs us vs (item_at w 0) o E F

    before_left : (k : ℕ) → suc k < length us → T (items.before (A k) (A (suc k)))
    before_left k h = subst₂ (λ (x y : Item). T (items.before x y)) (ahead_is w xs at mid k (omega arith)) (ahead_is w xs at mid (suc k) h)
        (facing.left.ordered k h)

    before_right_lem : (k : ℕ) → suc k < length vs → T (items.before (C (suc k)) (C k))
    before_right_lem k h = subst₂ (λ (x y : Item). T (items.before y x)) (behind_is w xs mid to k (omega arith)) (behind_is w xs mid to (suc k) h)
        (facing.right.ordered k h)

    before_across : (k l : ℕ) → k < length us → l < length vs → T (items.before (A k) (C l))
    before_across k l h m = subst₂ (λ (x y : Item). T (items.before x y)) (ahead_is w xs at mid k h) (behind_is w xs mid to l m) (facing.apart k l h m)

    range_at : (i : ℕ) → at ≤ i → i < to → InRange w (get_or xs i 0)
    range_at i h m = (known (get_or xs i 0) (span_mem xs at to i h m)).in_range

    -- crossings of neighbours against that of both ends
    module _ (p q : ℕ) (hp : p < length us) (hq : q < length vs) where
      abbrev u : ℕ
      u = get_or xs (at + p) 0

      abbrev v : ℕ
      v = get_or xs (to - suc q) 0

      abbrev meeting : items.Point
      meeting = items.cross (A p) (C q)

      range_u : InRange w u
      range_u = range_at (at + p) (omega arith) (omega (arith, us_length))

      range_v : InRange w v
      range_v = range_at (to - suc q) (omega (arith, vs_length)) (omega (arith, vs_length))

      left_outer_is : (k : ℕ) → suc k ≡ p → cross_at w u v (get_or xs (at + k) 0) u ≡ items.up_to meeting (items.cross (A k) (A p))
      left_outer_is k e =
          cross_is range_u range_v (range_at (at + k) (omega arith) (omega (arith, us_length))) range_u (before_across p q hp hq)
          (subst (λ (n : ℕ). T (items.before (A k) (A n))) e (before_left k (omega arith)))

      left_inner_is : suc p < length us → cross_at w u v u (get_or xs (at + suc p) 0) ≡ items.up_to meeting (items.cross (A p) (A (suc p)))
      left_inner_is h =
          cross_is range_u range_v range_u (range_at (at + suc p) (omega arith) (omega (arith, us_length))) (before_across p q hp hq) (before_left p h)

      right_inner_is : suc q < length vs → cross_at w (get_or xs (to - suc (suc q)) 0) v u v ≡ items.up_to (items.cross (C (suc q)) (C q)) meeting
      right_inner_is h =
          cross_is (range_at (to - suc (suc q)) (omega (arith, vs_length)) (omega (arith, vs_length))) range_v range_u range_v (before_right_lem q h)
          (before_across p q hp hq)

      right_outer_is : (k : ℕ) → suc k ≡ q → cross_at w v (get_or xs (to - suc k) 0) u v ≡ items.up_to (items.cross (C q) (C k)) meeting
      right_outer_is k e =
          cross_is range_v (range_at (to - suc k) (omega (arith, vs_length)) (omega (arith, vs_length))) range_u range_v
          (subst (λ (n : ℕ). T (items.before (C n) (C k))) e (before_right_lem k (omega arith))) (before_across p q hp hq)

      tests_bridge : Bridges w xs at mid to (at + p) (to - suc q) → Bridge items A (length us) C (length vs) p q
      tests_bridge B =
          record {
            on_left =
                piece_by items A (length us) meeting p hp
                (λ k e. let i : at + p - 1 ≡ at + k = omega arith in refuted (left_outer_is k e) (rw i at (B.left_outer (omega arith))))
                (λ h. let i : at + p + 1 ≡ at + suc p = omega arith in said (left_inner_is h) (rw i at (B.left_inner (omega (arith, us_length)))));
            on_right =
                piece_by (mirror items) C (length vs) meeting q hq
                (λ k e. let i : to - suc q + 1 ≡ to - suc k = omega (arith, vs_length) in
                refuted (right_outer_is k e) (rw i at (B.right_outer (omega (arith, vs_length)))))
                (λ h. let i : to - suc q - 1 ≡ to - suc (suc q) = omega (arith, vs_length) in
                said (right_inner_is h) (rw i at (B.right_inner (omega (arith, vs_length)))));
          }

      bridge_tests : Bridge items A (length us) C (length vs) p q → Bridges w xs at mid to (at + p) (to - suc q)
      bridge_tests B =
          record {
            left_outer = λ h.
                let k : ℕ = p - 1 in
                let e : suc k ≡ p = omega arith in
                let i : at + p - 1 ≡ at + k = omega arith in
                rw i (to_false (left_outer_is k e) (piece_outer items A (length us) meeting p B.on_left k e));
            left_inner = λ h.
                let i : at + p + 1 ≡ at + suc p = omega arith in
                let g : suc p < length us = omega (arith, us_length) in
                rw i (to_true (left_inner_is g) (B.on_left.inner g));
            right_inner = λ h.
                let i : to - suc q - 1 ≡ to - suc (suc q) = omega (arith, vs_length) in
                let g : suc q < length vs = omega (arith, vs_length) in
                rw i (to_true (right_inner_is g) (B.on_right.inner g));
            right_outer = λ h.
                let k : ℕ = q - 1 in
                let e : suc k ≡ q = omega arith in
                let i : to - suc q + 1 ≡ to - suc k = omega (arith, vs_length) in
                rw i (to_false (right_outer_is k e) (piece_outer (mirror items) C (length vs) meeting q B.on_right k e));
          }

    module _ (i j : ℕ) (hi : at ≤ i) (ki : i < mid) (hj : mid ≤ j) (kj : j < to) where
      -- the left pieces up to u and the right ones from v
      abbrev pub merged : List Item
      merged = items_at w (span xs at i) ++ item_at w (get_or xs i 0) ∷ item_at w (get_or xs j 0) ∷ items_at w (span xs (suc j) to)

      p : ℕ
      p = i - at

      q : ℕ
      q = to - suc j

      p_is : at + p ≡ i
      unfolding p
      p_is = omega arith

      q_is : to - suc q ≡ j
      unfolding q
      q_is = omega arith

      p_in : p < length us
      unfolding p
      p_in = omega (arith, us_length)

      q_in : q < length vs
      unfolding q
      q_in = omega (arith, vs_length)

      about : Bridge items (λ k. get_or us k (item_at w 0)) (length us) (λ k. get_or (reverse vs) k (item_at w 0)) (length vs) p q ↔ Env items (ls ++ rs) merged
      unfolding p q
      about =
          merge_split items item_laws_lem ls rs us vs merged (items_at w (span xs at i)) (items_at w (span xs (suc i) mid)) (items_at w (span xs mid j))
          (items_at w (span xs (suc j) to))
          (item_at w (get_or xs i 0)) (item_at w (get_or xs j 0)) (item_at w 0) p q (items_about w xs at mid i hi ki) (items_about w xs mid to j hj kj) refl
          (items_length w (span xs at i) ∙ span_length xs at i) (items_length w (span xs (suc j) to) ∙ span_length xs (suc j) to) o E F

      -- the tests pass exactly where these are the envelope of both
      pub bridges_merge : Bridges w xs at mid to i j → Env items (ls ++ rs) merged
      bridges_merge B =
          about.0
          (bridge_same items (λ k h. sym (ahead_is w xs at mid k h)) (λ k h. sym (behind_is w xs mid to k h))
          (tests_bridge p q p_in q_in (rw (p_is, q_is) B)))

      pub merge_bridges : Env items (ls ++ rs) merged → Bridges w xs at mid to i j
      merge_bridges G =
          rw (p_is, q_is) at (bridge_tests p q p_in q_in (bridge_same items (λ k h. ahead_is w xs at mid k h) (λ k h. behind_is w xs mid to k h) (about.1 G)))
