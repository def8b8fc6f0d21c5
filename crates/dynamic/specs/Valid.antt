-- When a tree of offers is right: every stored part is the rest of its node's lower envelope, and the whole in hand is the root's.
use Rattle.std.specs.Prelude.{◌≡◌, ◌||◌, cond, List, [], ◌∷◌, ◌++◌, T}
use Rattle.std.proofs.Math.Option.{Option, none, some}
use Rattle.lists.specs.Filter.{keep}
use Rattle.envelopes.specs.PseudoLines.{Figure}
use Rattle.envelopes.specs.Envelope.{Env, Ordered}
use Rattle.trees.specs.Tree.{leaves, Avl}
use Rattle.trees.specs.Operations.{Part, part_leaves}
use Rattle.trees.specs.Balanced.{AvlP}
use Rattle.dynamic.specs.OfferTree.{OfferTree, single, fork, shape, Held}

-- `es` is the whole envelope of the tree. A fork's is the pieces of its left child up to u and those of its right child from v;
-- each child's whole envelope is its part of that and what stays with it.
pub data Valid (S : Figure) : OfferTree S.Line → List S.Line → Type 0 where
  valid_single : {a : S.Line} → Valid S (single a) (a ∷ [])
  valid_fork :
      {u v : S.Line} {l r : OfferTree S.Line} {ql qr : Part S.Line} {es : List S.Line} (up_to from : List S.Line) →
      es ≡ (up_to ++ u ∷ []) ++ v ∷ from →
      Valid S l ((up_to ++ u ∷ []) ++ part_leaves ql) →
      Valid S r (part_leaves qr ++ v ∷ from) →
      AvlP ql →
      AvlP qr →
      Env S (leaves (shape l) ++ leaves (shape r)) es →
      Valid S (fork u v l ql qr r) es

-- A subtree with its whole envelope in hand, all of it right: its lines in order, its envelopes, and every tree balanced.
pub record Whole (S : Figure) (h : Held S.Line) : Type 0 where
  pub ordered : Ordered S (leaves (shape h.tree))
  pub valid : Valid S h.tree (part_leaves h.whole)
  pub balanced : Avl (shape h.tree)
  pub balanced_whole : AvlP h.whole

-- ---- a book: no offers, or a tree with its envelope

abbrev pub book_lines : {A : Type 0} → Option (Held A) → List A
book_lines none = []
book_lines (some h) = leaves (shape h.tree)

-- the root's envelope
abbrev pub book_envelope : {A : Type 0} → Option (Held A) → List A
book_envelope none = []
book_envelope (some h) = part_leaves h.whole

abbrev pub WholeBook : (S : Figure) → Option (Held S.Line) → Type 0
WholeBook S none = Unit {0}
WholeBook S (some h) = Whole S h

-- ---- a line joins or leaves a list in order

abbrev pub placed : (S : Figure) → S.Line → List S.Line → List S.Line
placed S s [] = s ∷ []
placed S s (p ∷ ps) = cond (S.before s p) (s ∷ p ∷ ps) (p ∷ placed S s ps)

-- every line but the one that stands where s stands
abbrev pub without : (S : Figure) → S.Line → List S.Line → List S.Line
without S s ls = keep (λ x. S.before s x || S.before x s) ls

-- ---- another line comes in its place, or none

-- a stand-in, as a list
abbrev pub stand_in : {A : Type 0} → Option A → List A
stand_in none = []
stand_in (some b) = b ∷ []

-- the list with the stand-in, or nothing, for the line that stands where s stands
abbrev pub instead : (S : Figure) → S.Line → Option S.Line → List S.Line → List S.Line
instead S s by [] = []
instead S s by (x ∷ xs) = cond (S.before s x || S.before x s) (x ∷ instead S s by xs) (stand_in by ++ instead S s by xs)

-- b may stand where s stands: what is behind s is behind b, and what is before s is before b
pub record SamePlace (S : Figure) (s b : S.Line) : Type 0 where
  pub ahead : (x : S.Line) → T (S.before s x) → T (S.before b x)
  pub behind : (x : S.Line) → T (S.before x s) → T (S.before x b)

abbrev pub Fits : (S : Figure) → S.Line → Option S.Line → Type 0
Fits S s none = Unit {0}
Fits S s (some b) = SamePlace S s b
