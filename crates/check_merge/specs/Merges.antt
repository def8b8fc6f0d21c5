-- The merge of two stretches at a node: what it promises, and the ways through its code.
use Rattle.std.specs.Prelude.{◌≡◌, refl, Bool, true, false, Option, None, Some, IfSome, IsSome, ◌≢◌, ℕ, suc, ◌+◌, ◌-◌, ◌≤◌, ◌<◌, length, get_or}
use Rattle.std.proofs.Common.{sym, ◌∙◌, ap, ap₂, subst, arith}
use mathlib.Core.List.Memᴰ
use mathlib.Core.List.{List, ◌++◌, Memᴰ}
use Rattle.std.proofs.Math.Decide.{dec_lt}
use Rattle.lists.specs.Bools.{never}
use Rattle.table.specs.Fields.{bridge_left_field, bridge_right_field, most_slots, offer_tree}
use Rattle.table.specs.Words.{Words}
use Rattle.table.specs.Layout.{link_at}
use Rattle.table.specs.Rep.{child_at}
use Rattle.check_trees.specs.Scratch.{second_half}
use Rattle.check_trees.specs.Stretches.{span, stretch_same, span_same, span_cut}
use Rattle.check_trees.specs.Deciding.{Decides, Every}
use Rattle.check_trees.specs.Loops.{FirstOf, Moved}
use Rattle.check_bridges.specs.StoredBridges.{Bridges, Ends}
use Rattle.check_merge.specs.PieceTrees.{AllKnown}
use Rattle.check_merge.specs.Rests.{RestTree, Stays}
use Rattle.check_merge.specs.Joints.{Joins}

-- the node joins both stretches, and their pieces are left from place `at` up to n
pub record Merged (w : Words) (x : ℕ) (xs xs' : List ℕ) (at mid to n : ℕ) : Type 0 where
  pub inside : (at < n) × (n ≤ second_half)
  pub joined : AllKnown w (span xs at to) → (i : ℕ) × (j : ℕ) × Joins w x xs at mid to i j × (span xs' at n ≡ span xs at (suc i) ++ span xs j to)

pub record Merges (w : Words) (x : ℕ) (xs xs' : List ℕ) (at mid to : ℕ) (r : Option ℕ) : Type 0 where
  pub long : length xs' ≡ length xs
  pub same : (i : ℕ) → i < at → get_or xs' i 0 ≡ get_or xs i 0
  pub sound : IfSome r (Merged w x xs xs' at mid to)
  pub complete : AllKnown w (span xs at to) → (i j : ℕ) → Joins w x xs at mid to i j → IsSome r

-- the words below 4,096 are as they were
pub record Upper (xs xs' : List ℕ) : Type 0 where
  pub long : length xs' ≡ length xs
  pub same : (i : ℕ) → i < second_half → get_or xs' i 0 ≡ get_or xs i 0

pub upper_refl : {xs : List ℕ} → Upper xs xs
upper_refl = record { long = refl; same = λ i h. refl }

pub merges_not : {w : Words} {x at mid to : ℕ} {xs xs' : List ℕ} → Upper xs xs' → at ≤ second_half →
    (AllKnown w (span xs at to) → (i j : ℕ) → Joins w x xs at mid to i j → ⊥) → Merges w x xs xs' at mid to None
merges_not u m n =
    record {
      long = u.long;
      same = λ i h. u.same i (omega arith);
      sound = tt;
      complete = λ known i j J. absurd (n known i j J);
    }

-- a first place is the only one
first_is : {xs : List ℕ} {a b s i k : ℕ} → FirstOf xs a b s k → a ≤ i → i < b → s ≡ get_or xs i 0 → Every (λ n. get_or xs n 0 ≢ get_or xs i 0) a i → k ≡ i
first_is {xs} {a} {b} {s} {i} {k} P l h e f = go (dec_lt i k) (dec_lt k i)
  where
    go : Dec (i < k) → Dec (k < i) → k ≡ i
    go (yes d) q = absurd (P.first.at i l d (sym e))
    go (no d) (yes q) = absurd (f.at k P.low q (P.found ∙ e))
    go (no d) (no q) = omega arith

-- ---- what is known on the way

-- the two stretches
pub record Two (at mid to : ℕ) : Type 0 where
  pub upper : at ≤ mid
  pub lower : mid ≤ to
  pub room : to ≤ second_half

-- the first places of u and v
pub record Left (w : Words) (x : ℕ) (xs : List ℕ) (at mid to i : ℕ) : Type 0 where
  pub two : Two at mid to
  pub place : FirstOf xs at mid (link_at w bridge_left_field (x - most_slots)) i

pub record Right (w : Words) (x : ℕ) (xs : List ℕ) (at mid to i j : ℕ) : Type 0 where
  pub left : Left w x xs at mid to i
  pub place : FirstOf xs mid to (link_at w bridge_right_field (x - most_slots)) j

-- .. and they bridge the stretches
pub record Middle (w : Words) (x : ℕ) (xs : List ℕ) (at mid to i j : ℕ) : Type 0 where
  pub right : Right w x xs at mid to i j
  pub bridges : Bridges w xs at mid to i j

module _ {w : Words} {x at mid to g s : ℕ} {xs : List ℕ} (two : Two at mid to) (eg : g ≡ x - most_slots) (es : s ≡ link_at w bridge_left_field g) where
  pub left_place : {i : ℕ} → FirstOf xs at mid s i → Left w x xs at mid to i
  left_place {i} P = record { two = two; place = subst (λ (n : ℕ). FirstOf xs at mid n i) (es ∙ ap (link_at w bridge_left_field) eg) P }

  -- u is not there
  pub merges_no_u : Every (λ k. get_or xs k 0 ≢ s) at mid → Merges w x xs xs at mid to None
  merges_no_u f = merges_not upper_refl (omega (arith, two))
      (λ known a b j. f.at a j.left_low j.left_high (sym (es ∙ ap (link_at w bridge_left_field) eg ∙ j.u_at)))

module _ {w : Words} {x at mid to i g t : ℕ} {xs : List ℕ} (L : Left w x xs at mid to i) (eg : g ≡ x - most_slots)
    (et : t ≡ link_at w bridge_right_field g) where
  pub right_place : {j : ℕ} → FirstOf xs mid to t j → Right w x xs at mid to i j
  right_place {j} Q = record { left = L; place = subst (λ (n : ℕ). FirstOf xs mid to n j) (et ∙ ap (link_at w bridge_right_field) eg) Q }

  -- v is not there
  pub merges_no_v : Every (λ k. get_or xs k 0 ≢ t) mid to → Merges w x xs xs at mid to None
  merges_no_v f = merges_not upper_refl (omega (arith, L.two))
      (λ known a b j. f.at b j.right_low j.right_high (sym (et ∙ ap (link_at w bridge_right_field) eg ∙ j.v_at)))

module _ {w : Words} {x at mid to i j : ℕ} {xs : List ℕ} (R : Right w x xs at mid to i j) where
  joins_here : (a b : ℕ) → Joins w x xs at mid to a b → Joins w x xs at mid to i j
  joins_here a b k =
      let p : i ≡ a = first_is R.left.place k.left_low k.left_high k.u_at k.u_first in
      let q : j ≡ b = first_is R.place k.right_low k.right_high k.v_at k.v_first in
      rw (p, q) k

  pub merge_ends : Ends at mid to i j
  merge_ends =
      record {
        left_low = R.left.place.low;
        left_high = R.left.place.high;
        right_low = R.place.low;
        right_high = R.place.high;
        room = omega (arith, R.left.two);
      }

  pub merges_no_bridge : {b : Bool} → Decides b (Bridges w xs at mid to i j) → b ≡ false → Merges w x xs xs at mid to None
  merges_no_bridge B e = merges_not upper_refl (omega (arith, R.left.two)) (λ known a c k. never (B.complete (joins_here a c k).bridges) e)

  pub middle : {b : Bool} → Decides b (Bridges w xs at mid to i j) → b ≡ true → Middle w x xs at mid to i j
  middle B e = record { right = R; bridges = B.sound e }

-- ---- what stays with the children

-- what stays with the left child, over the array as it was then
pub record RestLeft (w : Words) (x : ℕ) (xs xs₁ : List ℕ) (mid i : ℕ) (m : Bool) : Type 0 where
  pub upper : Upper xs xs₁
  pub told : AllKnown w (span xs (suc i) mid) → Decides m (RestTree w (child_at w offer_tree false x) (span xs (suc i) mid))

pub record RestRight (w : Words) (x : ℕ) (xs xs₂ : List ℕ) (mid j : ℕ) (m : Bool) : Type 0 where
  pub upper : Upper xs xs₂
  pub told : AllKnown w (span xs mid j) → Decides m (RestTree w (child_at w offer_tree true x) (span xs mid j))

pub rest_left : {w : Words} {x mid i l : ℕ} {xs xs₁ : List ℕ} {m : Bool} → l ≡ child_at w offer_tree false x → Stays w l xs xs₁ (i + 1) mid m →
    RestLeft w x xs xs₁ mid i m
rest_left {w} {x} {mid} {i} {l} {xs} {m} el S =
    record {
      upper = record { long = S.long; same = S.same };
      told =
          let e : i + 1 ≡ suc i = omega arith in
          subst (λ (n : ℕ). AllKnown w (span xs (suc i) mid) → Decides m (RestTree w n (span xs (suc i) mid))) el
          (subst (λ (n : ℕ). AllKnown w (span xs n mid) → Decides m (RestTree w l (span xs n mid))) e S.told);
    }

pub rest_right : {w : Words} {x mid j r : ℕ} {xs xs₁ xs₂ : List ℕ} {m : Bool} → Upper xs xs₁ → j ≤ second_half → r ≡ child_at w offer_tree true x →
    Stays w r xs₁ xs₂ mid j m → RestRight w x xs xs₂ mid j m
rest_right {w} {x} {mid} {j} {r} {xs} {xs₁} {xs₂} {m} u h er S =
    record {
      upper = record { long = S.long ∙ u.long; same = λ i k. S.same i k ∙ u.same i k };
      told =
          subst (λ (n : ℕ). AllKnown w (span xs mid j) → Decides m (RestTree w n (span xs mid j))) er
          (subst (λ (zs : List ℕ). AllKnown w zs → Decides m (RestTree w r zs)) (span_same xs₁ xs mid j (λ i a b. u.same i (omega arith))) S.told);
    }

module _ {w : Words} {x at mid to i j : ℕ} {xs : List ℕ} (K : Middle w x xs at mid to i j) where
  abbrev two : Two at mid to
  two = K.right.left.two

  abbrev low_i : at ≤ i
  low_i = K.right.left.place.low

  abbrev high_i : i < mid
  high_i = K.right.left.place.high

  abbrev high_j : j < to
  high_j = K.right.place.high

  abbrev low_j : mid ≤ j
  low_j = K.right.place.low

  left_known : AllKnown w (span xs at to) → AllKnown w (span xs (suc i) mid)
  left_known known n k =
      known n
      (subst (Memᴰ n) (sym (span_cut xs at (suc i) to (omega (arith, low_i)) (omega (arith, two))))
      (Memᴰ.append_right (span xs at (suc i)) (subst (Memᴰ n) (sym (span_cut xs (suc i) mid to high_i two.lower))
      (Memᴰ.append_left (span xs mid to) k))))

  right_known : AllKnown w (span xs at to) → AllKnown w (span xs mid j)
  right_known known n k =
      known n
      (subst (Memᴰ n) (sym (span_cut xs at mid to two.upper two.lower))
      (Memᴰ.append_right (span xs at mid) (subst (Memᴰ n) (sym (span_cut xs mid j to low_j (omega (arith, high_j))))
      (Memᴰ.append_left (span xs j to) k))))

  pub merges_no_left : {xs₁ : List ℕ} {m : Bool} → RestLeft w x xs xs₁ mid i m → m ≡ false → Merges w x xs xs₁ at mid to None
  merges_no_left L e = merges_not L.upper (omega (arith, two))
      (λ known a b k. never ((L.told (left_known known)).complete (joins_here K.right a b k).left_rest) e)

  pub merges_no_right : {xs₂ : List ℕ} {m : Bool} → RestRight w x xs xs₂ mid j m → m ≡ false → Merges w x xs xs₂ at mid to None
  merges_no_right R e = merges_not R.upper (omega (arith, two))
      (λ known a b k. never ((R.told (right_known known)).complete (joins_here K.right a b k).right_rest) e)

  pub merges_all : {xs₁ xs₂ xs₃ : List ℕ} {m n : Bool} → RestLeft w x xs xs₁ mid i m → m ≡ true → RestRight w x xs xs₂ mid j n → n ≡ true →
      Moved xs₂ xs₃ (i + 1) j (to - j) → Merges w x xs xs₃ at mid to (Some (i + 1 + (to - j)))
  merges_all {xs₁} {xs₂} {xs₃} L el R er M =
      record {
        long = M.long ∙ R.upper.long;
        same = λ k h. M.front k (omega (arith, low_i)) ∙ R.upper.same k (omega (arith, two));
        sound = record { inside = omega (arith, low_i, high_i, low_j, high_j, two); joined = λ known. (i, j, joins known, whole) };
        complete = λ known a b k. refl;
      }
    where
      joins : AllKnown w (span xs at to) → Joins w x xs at mid to i j
      joins known =
          record {
            left_low = low_i;
            left_high = high_i;
            right_low = low_j;
            right_high = high_j;
            u_at = sym K.right.left.place.found;
            v_at = sym K.right.place.found;
            u_first = record { at = λ k l h e. K.right.left.place.first.at k l h (e ∙ K.right.left.place.found) };
            v_first = record { at = λ k l h e. K.right.place.first.at k l h (e ∙ K.right.place.found) };
            bridges = K.bridges;
            left_rest = (L.told (left_known known)).sound el;
            right_rest = (R.told (right_known known)).sound er;
          }

      front : span xs₃ at (i + 1) ≡ span xs at (suc i)
      front =
          let e : i + 1 ≡ suc i = omega arith in
          rw (← e) (span_same xs₃ xs at (i + 1) (λ k a b. M.front k b ∙ R.upper.same k (omega (arith, high_i, two))))

      back : span xs₃ (i + 1) (i + 1 + (to - j)) ≡ span xs j to
      back =
          let e : i + 1 + (to - j) - (i + 1) ≡ to - j = omega arith in
          rw e (stretch_same xs₃ xs (i + 1) j (to - j) (λ k h. M.moved k h ∙ R.upper.same (j + k) (omega (arith, two, high_j))))

      whole : span xs₃ at (i + 1 + (to - j)) ≡ span xs at (suc i) ++ span xs j to
      whole = span_cut xs₃ at (i + 1) (i + 1 + (to - j)) (omega (arith, low_i)) (omega arith) ∙ ap₂ ◌++◌ front back
