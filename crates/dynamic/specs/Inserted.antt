-- A line posted: the row and the log stay right, the subtree gets at most one higher, and each level costs at most three searches.
use Rattle.std.specs.Prelude.{ℕ, suc, ◌+◌, ◌*◌, ◌≤◌, max, ◌≡◌, length}
use Rattle.std.proofs.Common.{arith, ◌∙◌, length-append}
use Rattle.std.proofs.Math.Decide.{dec_le}
use Rattle.std.proofs.Math.Path.{refl}
use mathlib.Core.List.Memᴰ
use mathlib.Core.List.{List, [], ◌∷◌, ◌++◌}
use Rattle.std.proofs.Math.Seq.{append_snoc}
use Rattle.lists.specs.Bools.{cond_both, cond_yes, cond_no}
use Rattle.envelopes.specs.PseudoLines.{Figure, PseudoLines}
use Rattle.envelopes.specs.Envelope.{Ordered, ordered_nil, ordered_cons}
use Rattle.envelopes.specs.EnvelopeLaws.{ordered_left}
use Rattle.trees.specs.Tree.{height, leaves, last, avl_leaf}
use Rattle.trees.specs.Operations.{Part}
use Rattle.trees.specs.Leaves.{last_leaf}
use Rattle.meeting.specs.Machine.{left}
use Rattle.dynamic.specs.OfferTree.{OfferTree, single, fork, shape, Held, hold, alone, Made, made, and_then, lower, lower_tree, raise}
use Rattle.dynamic.specs.Updates.{rebalance, insert}
use Rattle.dynamic.specs.Valid.{Whole, valid_single, placed}
use Rattle.dynamic.specs.Work.{Inner}
use Rattle.dynamic.specs.Floors.{added_here, added_there, added_between, added_behind}
use Rattle.dynamic.specs.Forests.{lines_of, lines_append, lines_left, lines_right, Merged, merged_here, merged_behind}
use Rattle.dynamic.specs.Kept.{Kept, held_height, Above, above_turned, line_joins}
use Rattle.dynamic.specs.Rebalanced.{Balances, balances_turned}
use Rattle.dynamic.specs.Placed.{placed_left, placed_right, none_behind}

-- ---- heights: below h stand f and g, and f grows to k

pub record Climbs (h f g k : ℕ) : Type 0 where
  pub near : k ≤ suc (suc g)
  pub far : g ≤ suc (suc k)
  pub fits : (n : ℕ) → Balances k g n → (h ≤ n) × (n ≤ suc h)
  pub few : (m n : ℕ) → m ≤ 3 * f + 1 → n ≤ 3 → m + n ≤ 3 * h + 1

pub climbs : {h f g k : ℕ} → h ≡ suc (max f g) → f ≤ suc g → g ≤ suc f → f ≤ k → k ≤ suc f → Climbs h f g k
climbs {h} {f} {g} {k} e p q low high = record { near = omega arith; far = omega arith; fits = λ n b. go n b (dec_le k (suc g)); few = omega arith }
  where
    go : (n : ℕ) → Balances k g n → Dec (k ≤ suc g) → (h ≤ n) × (n ≤ suc h)
    go n b (yes d) = let l : n ≡ suc (max k g) = b.level d (omega arith) in omega arith
    go n b (no d) = omega arith

-- ---- what an insertion makes of a subtree of height h

pub record Grown (S : Figure) (before : List (Inner S.Line)) (live : List S.Line) (row : List (Held S.Line)) (h : ℕ) (m : Made S.Line) :
    Type 0 where
  pub kept : Kept S before live row m.log
  pub low : h ≤ held_height m.held
  pub high : held_height m.held ≤ suc h
  pub few : length m.log ≤ 3 * h + 1

pub alone_whole : (S : Figure) (s : S.Line) → Whole S (alone s)
alone_whole S s =
    record { ordered = ordered_cons (λ b m. absurd (Memᴰ.not-nil m)) ordered_nil; valid = valid_single; balanced = avl_leaf; balanced_whole = avl_leaf }

module _ (S : Figure) (L : PseudoLines S) {before : List (Inner S.Line)} {live : List S.Line} where
  -- f grew, and was rebalanced beside its sibling g
  pub regrown :
      {h f g : ℕ} (m n : Made S.Line) {row more : List (Held S.Line)} →
      Climbs h f g (held_height m.held) →
      Grown S before live row f m →
      Kept S before live more (m.log ++ n.log) →
      Balances (held_height m.held) g (held_height n.held) →
      length n.log ≤ 3 →
      Grown S before live more h (made n.held (m.log ++ n.log))
  regrown m n C G k b few =
      let (low, high) = C.fits _ b in
      record { kept = k; low = low; high = high; few = rw length-append (C.few (length m.log) (length n.log) G.few few) }

-- ---- the insertion

module _ (S : Figure) (L : PseudoLines S) (before : List (Inner S.Line)) (live : List S.Line) (o : Ordered S live) (s : S.Line) where
  -- in any row
  abbrev pub Inserts : OfferTree S.Line → Type 0
  Inserts t =
      (e : Part S.Line) (xs ys : List (Held S.Line)) (old : List S.Line) →
      Kept S before old (xs ++ hold t e ∷ ys) [] →
      lines_of xs ++ (placed S s (leaves (shape t)) ++ lines_of ys) ≡ live →
      Grown S before live (xs ++ (insert S s t e).held ∷ ys) (height (shape t)) (insert S s t e)
