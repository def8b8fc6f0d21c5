-- Post, withdraw and replace on the tree of offers: lower on the way down, rebalance on the way up. Only nodes on the path and those that a rotation
-- touches are lowered and raised, so each update searches a number of pairs that is logarithmic in the leaves.
use Rattle.std.specs.Prelude.{cond, List, [], ◌++◌, leb}
use Rattle.std.proofs.Math.Option.{Option, none, some}
use Rattle.envelopes.specs.PseudoLines.{Figure}
use Rattle.trees.specs.Tree.{height, last}
use Rattle.trees.specs.Operations.{Part, towers}
use Rattle.meeting.specs.Machine.{Side, left, right}
use Rattle.dynamic.specs.OfferTree.{OfferTree, single, fork, shape, Held, hold, alone, held_shape, Pair, Made, made, and_then, Lowered, outer}
use Rattle.dynamic.specs.OfferTree.{inner, lower, raise, raise_on}

-- What a removal leaves: nothing, or a tree with its envelope; and the pairs searched.
pub record Removed (A : Type 0) : Type 0 where
  pub rest : Option (Held A)
  pub log : List (Pair A)

module _ (S : Figure) where
  -- the child on this side towers over the other: a single rotation, or a double one where its inner child is the higher
  abbrev pub rotate_once : Side → Lowered S.Line → Held S.Line → Made S.Line
  rotate_once side c short = and_then (raise_on S side (inner side c) short) (λ y. raise_on S side (outer side c) y)

  abbrev pub rotate_twice : Side → Lowered S.Line → Lowered S.Line → Held S.Line → Made S.Line
  rotate_twice side c d short =
      and_then (raise_on S side (outer side c) (outer side d)) (λ x. and_then (raise_on S side (inner side d) short) (λ y. raise_on S side x y))

  unfoldable pub rotate : Side → Held S.Line → Held S.Line → Made S.Line
  rotate side tall short =
      let c = lower S tall in
      cond (leb (height (held_shape (inner side c))) (height (held_shape (outer side c)))) (rotate_once side c short)
      (rotate_twice side c (lower S (inner side c)) short)

  -- two siblings whose heights differ by at most 2
  unfoldable pub rebalance : Held S.Line → Held S.Line → Made S.Line
  rebalance l r =
      cond (towers (held_shape l) (held_shape r)) (rotate left l r) (cond (towers (held_shape r) (held_shape l)) (rotate right r l) (raise S l r))

  unfoldable pub insert : S.Line → OfferTree S.Line → Part S.Line → Made S.Line
  insert s (single a) e = cond (S.before s a) (raise S (alone s) (hold (single a) e)) (raise S (hold (single a) e) (alone s))
  insert s (fork u v l ql qr r) e =
      let c = lower S (hold (fork u v l ql qr r) e) in
      cond
      (S.before s (last (shape l)))
      (and_then (insert s l c.front.whole) (λ l'. rebalance l' c.back))
      (and_then (insert s r c.back.whole) (λ r'. rebalance c.front r'))

  -- a child that is left, beside its sibling
  abbrev pub beside_right : Removed S.Line → Held S.Line → Removed S.Line
  beside_right m r = elim m.rest [
    | none ↦ record { rest = some r; log = m.log }
    | some l ↦ let n = rebalance l r in
        record { rest = some n.held; log = m.log ++ n.log }
  ]

  abbrev pub beside_left : Held S.Line → Removed S.Line → Removed S.Line
  beside_left l m = elim m.rest [
    | none ↦ record { rest = some l; log = m.log }
    | some r ↦ let n = rebalance l r in
        record { rest = some n.held; log = m.log ++ n.log }
  ]

  -- a stand-in as a subtree
  abbrev pub standing : Option S.Line → Option (Held S.Line)
  standing none = none
  standing (some b) = some (alone b)

  -- s leaves, and its stand-in, where there is one, comes in its place
  unfoldable pub remove : S.Line → Option S.Line → OfferTree S.Line → Part S.Line → Removed S.Line
  remove s by (single a) e = record { rest = standing by; log = [] }
  remove s by (fork u v l ql qr r) e =
      let c = lower S (hold (fork u v l ql qr r) e) in
      cond
      (S.before (last (shape l)) s)
      (beside_left c.front (remove s by r c.back.whole))
      (beside_right (remove s by l c.front.whole) c.back)

  -- ---- the whole book: no offers, or a tree with its envelope

  abbrev pub posted : S.Line → Option (Held S.Line) → Made S.Line
  posted s none = made (alone s) []
  posted s (some h) = insert s h.tree h.whole

  -- s leaves its place, to a stand-in or to nobody
  abbrev pub vacated : S.Line → Option S.Line → Option (Held S.Line) → Removed S.Line
  vacated s by none = record { rest = none; log = [] }  -- idle
  vacated s by (some h) = remove s by h.tree h.whole

  abbrev pub withdrawn : S.Line → Option (Held S.Line) → Removed S.Line
  withdrawn s st = vacated s none st

  -- b comes in the place of s
  abbrev pub replaced : (s b : S.Line) → Option (Held S.Line) → Removed S.Line
  replaced s b st = vacated s (some b) st
