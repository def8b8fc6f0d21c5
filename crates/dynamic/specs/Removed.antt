-- A line removed, with or without a stand-in: the row and the log stay right, the subtree gets at most one lower, and each level costs at most three searches.
use Rattle.std.specs.Prelude.{ℕ, suc, ◌+◌, ◌*◌, ◌≤◌, max, ◌≡◌, not, T, length}
use native.Mathlib.Omega.{arith}
use Rattle.std.proofs.Math.Decide.{dec_le}
use Rattle.std.proofs.Math.Path.{refl, ap}
use Rattle.std.proofs.Common.{sym, ◌∙◌, ⊎_elim, T_not, length-append}
use mathlib.Core.List.Memᴰ
use mathlib.Core.List.{List, [], ◌∷◌, ◌++◌, Memᴰ}
use Rattle.std.proofs.Math.Option.{Option, none, some}
use Rattle.std.proofs.Math.Seq.{append_snoc}
use Rattle.lists.specs.Bools.{cond_both, or_left, or_right}
use Rattle.envelopes.specs.PseudoLines.{Figure, PseudoLines}
use Rattle.envelopes.specs.Envelope.{Ordered}
use Rattle.envelopes.specs.EnvelopeLaws.{ordered_left, ordered_apart}
use Rattle.trees.specs.Tree.{height, leaves, last}
use Rattle.trees.specs.Operations.{Part}
use Rattle.trees.specs.Leaves.{last_leaf}
use Rattle.meeting.specs.Machine.{left}
use Rattle.dynamic.specs.OfferTree.{OfferTree, single, fork, shape, Held, hold, alone, Pair, Made, lower, lower_tree}
use Rattle.dynamic.specs.Updates.{Removed, rebalance, beside_left, beside_right, standing, remove}
use Rattle.dynamic.specs.Valid.{stand_in, instead}
use Rattle.dynamic.specs.Work.{Inner}
use Rattle.dynamic.specs.Floors.{added_between}
use Rattle.dynamic.specs.Forests.{row_of, lines_of, lines_append, lines_left, lines_right, merged_here, merged_behind}
use Rattle.dynamic.specs.Kept.{Kept, held_height, Above, above_turned, line_leaves, line_changes}
use Rattle.dynamic.specs.Rebalanced.{Balances, balances_turned}
use Rattle.dynamic.specs.Inserted.{alone_whole}
use Rattle.dynamic.specs.Placed.{instead_append, instead_all, instead_one, all_before}

-- ---- heights: below h stand f and g, and f falls to k

pub record Falls (h f g k : ℕ) : Type 0 where
  pub near : k ≤ suc (suc g)
  pub far : g ≤ suc (suc k)
  pub fits : (n : ℕ) → Balances k g n → (n ≤ h) × (h ≤ suc n)
  pub few : (m n : ℕ) → m ≤ 3 * f → n ≤ 3 → m + n ≤ 3 * h

pub falls : {h f g k : ℕ} → h ≡ suc (max f g) → f ≤ suc g → g ≤ suc f → k ≤ f → f ≤ suc k → Falls h f g k
falls {h} {f} {g} {k} e p q low high = record { near = omega arith; far = omega arith; fits = λ n b. go n b (dec_le g (suc k)); few = omega arith }
  where
    go : (n : ℕ) → Balances k g n → Dec (g ≤ suc k) → (n ≤ h) × (h ≤ suc n)
    go n b (yes d) = let l : n ≡ suc (max k g) = b.level (omega arith) d in omega arith
    go n b (no d) = omega arith

-- ---- what a removal leaves of a subtree of height h

-- nothing only of a single line
abbrev pub Shorter : {A : Type 0} → ℕ → Option (Held A) → Type 0
Shorter h none = h ≡ 0
Shorter h (some r) = (held_height r ≤ h) × (h ≤ suc (held_height r))

pub record Shrunk (S : Figure) (before : List (Inner S.Line)) (live : List S.Line) (row : List (Held S.Line)) (h : ℕ) (m : Removed S.Line) :
    Type 0 where
  pub kept : Kept S before live row m.log
  pub heights : Shorter h m.rest
  pub few : length m.log ≤ 3 * h

module _ (S : Figure) (L : PseudoLines S) {before : List (Inner S.Line)} {live : List S.Line} where
  -- f shrank, and was rebalanced beside its sibling g
  pub reshrunk :
      {h f g : ℕ} (l : Held S.Line) (log : List (Pair S.Line)) (n : Made S.Line) {more : List (Held S.Line)} →
      Falls h f g (held_height l) →
      length log ≤ 3 * f →
      Kept S before live more (log ++ n.log) →
      Balances (held_height l) g (held_height n.held) →
      length n.log ≤ 3 →
      Shrunk S before live more h (record { rest = some n.held; log = log ++ n.log })
  reshrunk l log n C few k b more =
      record { kept = k; heights = C.fits _ b; few = rw length-append (C.few (length log) (length n.log) few more) }

-- ---- the removal

module _ (S : Figure) (L : PseudoLines S) (before : List (Inner S.Line)) (live : List S.Line) (o : Ordered S live) (s : S.Line)
    (by : Option S.Line) where
  -- in any row
  abbrev pub Removes : OfferTree S.Line → Type 0
  Removes t =
      (e : Part S.Line) (xs ys : List (Held S.Line)) (old : List S.Line) →
      Kept S before old (xs ++ hold t e ∷ ys) [] →
      Memᴰ s (leaves (shape t)) →
      lines_of xs ++ (instead S s by (leaves (shape t)) ++ lines_of ys) ≡ live →
      Shrunk S before live (xs ++ (row_of (remove S s by t e).rest ++ ys)) (height (shape t)) (remove S s by t e)

  pub removed_single : (a : S.Line) → Removes (single a)
  unfolding remove
  removed_single a e xs ys old k m d = go by (sym (instead_one S L s by (Memᴰ.eq_of_singleton m)))
    where
      go :
          (c : Option S.Line) → stand_in c ≡ instead S s by (a ∷ []) →
          Shrunk S before live (xs ++ (row_of (standing S c) ++ ys)) 0 (record { rest = standing S c; log = [] })
      go none q =
          let l : lines_of (xs ++ ys) ≡ live = lines_append xs ys ∙ ap (λ ls. lines_of xs ++ (ls ++ lines_of ys)) q ∙ d in
          record { kept = line_leaves S k (added_between xs ys) refl o l; heights = refl; few = omega arith }
      go (some b) q =
          let l : lines_of (xs ++ alone b ∷ ys) ≡ live = lines_append xs (alone b ∷ ys) ∙ ap (λ ls. lines_of xs ++ (ls ++ lines_of ys)) q ∙ d in
          record {
            kept = line_changes S (hold (single a) e) (alone b) xs ys k refl (alone_whole S b) refl o l;
            heights = omega arith;
            few = omega arith;
          }

  module _ (l r : OfferTree S.Line) (ord : Ordered S (leaves (shape l) ++ leaves (shape r))) (m : Memᴰ s (leaves (shape l) ++ leaves (shape r))) where
    -- the side where s stands, and that the other side stays
    pub in_right : T (S.before (last (shape l)) s) → Memᴰ s (leaves (shape r))
    in_right t =
        ⊎_elim
        (λ i. absurd (L.before_irrefl s (all_before S L s (shape l) (ordered_left S (leaves (shape l)) (leaves (shape r)) ord) t s i)))
        (λ i. i)
        (Memᴰ.append_cases (leaves (shape l)) m)

    pub left_stays :
        T (S.before (last (shape l)) s) →
        instead S s by (leaves (shape l) ++ leaves (shape r)) ≡ leaves (shape l) ++ instead S s by (leaves (shape r))
    left_stays t =
        instead_append S s by (leaves (shape l)) (leaves (shape r))
        ∙ ap (λ ls. ls ++ instead S s by (leaves (shape r)))
        (instead_all S s by (leaves (shape l))
        (λ x i. or_right (S.before s x) (S.before x s) (all_before S L s (shape l) (ordered_left S (leaves (shape l)) (leaves (shape r)) ord) t x i)))

    pub in_left : T (not (S.before (last (shape l)) s)) → Memᴰ s (leaves (shape l))
    in_left t =
        ⊎_elim
        (λ i. i)
        (λ i. absurd (T_not (S.before (last (shape l)) s) t (ordered_apart S (leaves (shape l)) (leaves (shape r)) ord (last (shape l)) s
        (last_leaf (shape l)) i)))
        (Memᴰ.append_cases (leaves (shape l)) m)

    pub right_stays :
        T (not (S.before (last (shape l)) s)) →
        instead S s by (leaves (shape l) ++ leaves (shape r)) ≡ instead S s by (leaves (shape l)) ++ leaves (shape r)
    right_stays t =
        instead_append S s by (leaves (shape l)) (leaves (shape r))
        ∙ ap (λ ls. instead S s by (leaves (shape l)) ++ ls)
        (instead_all S s by (leaves (shape r))
        (λ x i. or_left (S.before s x) (S.before x s) (ordered_apart S (leaves (shape l)) (leaves (shape r)) ord s x (in_left t) i)))
