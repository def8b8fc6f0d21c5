-- The tree of offers (docs/REQUIREMENTS.md, 5.1; its source [1], section 3): leaves are lines in order; a fork keeps for each child the part of its
-- envelope that is not on the fork's.
-- A node is never handled without its whole envelope in hand, as one piece tree; below it only the rests are stored.
use Rattle.std.specs.Prelude.{not, List, [], ◌∷◌, ◌++◌}
use Rattle.std.proofs.Math.Option.{none, some}
use Rattle.envelopes.specs.PseudoLines.{Figure}
use Rattle.trees.specs.Tree.{Tree, leaf, node, first, last}
use Rattle.trees.specs.Operations.{Part, Cut, split, split_p, join_p}
use Rattle.meeting.specs.Machine.{Side, left, right, meet}

pub data OfferTree (A : Type 0) : Type 0 where
  single : A → OfferTree A
  -- the bridge u, v; the left child and what stays with it; what stays with the right child, and that child
  fork : (u v : A) (l : OfferTree A) (ql qr : Part A) (r : OfferTree A) → OfferTree A

-- the tree alone
abbrev pub shape : {A : Type 0} → OfferTree A → Tree A
shape (single a) = leaf a
shape (fork u v l ql qr r) = node (shape l) (shape r)

-- A subtree with its whole envelope in hand.
pub record Held (A : Type 0) : Type 0 where
  pub tree : OfferTree A
  pub whole : Part A

-- Two trees that a search was run on.
pub record Pair (A : Type 0) : Type 0 where
  pub front : Tree A
  pub back : Tree A

-- What an operation made, and the pairs that it searched, in order.
pub record Made (A : Type 0) : Type 0 where
  pub held : Held A
  pub log : List (Pair A)

module _ {A : Type 0} where
  abbrev pub hold : OfferTree A → Part A → Held A
  hold t e = record { tree = t; whole = e }

  abbrev pub alone : A → Held A
  alone a = hold (single a) (some (leaf a))

  abbrev pub made : Held A → List (Pair A) → Made A
  made h log = record { held = h; log = log }

  -- one operation after another
  abbrev pub and_then : Made A → (Held A → Made A) → Made A
  and_then m f = let n = f m.held in made n.held (m.log ++ n.log)

  -- the tree alone of what is held
  abbrev pub held_shape : Held A → Tree A
  held_shape h = shape h.tree

-- A node's children, each with its whole envelope.
pub record Lowered (A : Type 0) : Type 0 where
  pub front : Held A
  pub back : Held A

module _ {A : Type 0} where
  -- the child on a side, and the other
  abbrev pub outer : Side → Lowered A → Held A
  outer left c = c.front
  outer right c = c.back

  abbrev pub inner : Side → Lowered A → Held A
  inner left c = c.back
  inner right c = c.front

module _ (S : Figure) where
  -- Lower: cut the whole envelope behind the last line of the left child, and give each child its rest back.
  abbrev pub cut_behind : S.Line → Part S.Line → Cut S.Line
  cut_behind s e = split_p (λ x. not (S.before s x)) e

  unfoldable pub lower_tree : OfferTree S.Line → Part S.Line → Lowered S.Line
  lower_tree (single a) e = record { front = hold (single a) e; back = hold (single a) e }  -- idle
  lower_tree (fork u v l ql qr r) e =
      let c = cut_behind (last (shape l)) e in
      record { front = hold l (join_p c.front ql); back = hold r (join_p qr c.back) }

  abbrev pub lower : Held S.Line → Lowered S.Line
  lower h = lower_tree h.tree h.whole

  -- Raise: search the bridge of the children's envelopes, keep the left pieces up to u and the right ones from v, store the two rests.
  abbrev pub bridged : (u v : S.Line) → Held S.Line → Held S.Line → Cut S.Line → Cut S.Line → Held S.Line
  bridged u v l r cl cr = hold (fork u v l.tree cl.back cr.front r.tree) (join_p cl.front cr.back)

  unfoldable pub raise_by : Part S.Line → Part S.Line → Held S.Line → Held S.Line → Made S.Line
  raise_by none e l r = made r []  -- idle
  raise_by (some a) none l r = made l []  -- idle
  raise_by (some a) (some b) l r =
      let found = meet S a b in
      let u = first found.u.tree in
      let v = first found.v.tree in
      made (bridged u v l r (split (λ x. not (S.before u x)) a) (split (λ x. S.before x v) b)) (record { front = a; back = b } ∷ [])

  abbrev pub raise : Held S.Line → Held S.Line → Made S.Line
  raise l r = raise_by l.whole r.whole l r

  -- with the outer one on the given side
  abbrev pub raise_on : Side → Held S.Line → Held S.Line → Made S.Line
  raise_on left o i = raise o i
  raise_on right o i = raise i o
