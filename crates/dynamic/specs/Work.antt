-- What an update's log of searched pairs is held to (docs/REQUIREMENTS.md, 7): k, s and H are its length, its steps and its heights.
use Rattle.std.specs.Prelude.{ℕ, ◌+◌, ◌*◌, ◌≤◌, max, ◌≡◌, true, length}
use mathlib.Core.List.{List, [], ◌∷◌, ◌++◌, Memᴰ, Sublistᴰ}
use Rattle.std.proofs.Math.Option.{Option, none, some}
use Rattle.integers.specs.Log.{log_up}
use Rattle.envelopes.specs.PseudoLines.{Figure}
use Rattle.envelopes.specs.Envelope.{Env}
use Rattle.trees.specs.Tree.{Tree, leaf, node, height, leaves, Avl}
use Rattle.meeting.specs.Machine.{meet}
use Rattle.dynamic.specs.OfferTree.{shape, Held, Pair}
use Rattle.dynamic.specs.Valid.{book_lines}

-- ---- the counts

abbrev pub steps_of : (S : Figure) → List (Pair S.Line) → ℕ
steps_of S [] = 0
steps_of S (p ∷ ps) = (meet S p.front p.back).steps + steps_of S ps

abbrev pub heights_of : {A : Type 0} → List (Pair A) → ℕ
heights_of [] = 0
heights_of (p ∷ ps) = height p.front + height p.back + heights_of ps

-- ---- each pair: the envelopes of two sets of lines that are live after the update, the first set before the second, in balanced trees

pub record Searched (S : Figure) (live : List S.Line) (p : Pair S.Line) : Type 0 where
  pub left_set : List S.Line
  pub right_set : List S.Line
  pub sets : Sublistᴰ (left_set ++ right_set) live
  pub left_envelope : Env S left_set (leaves p.front)
  pub right_envelope : Env S right_set (leaves p.back)
  -- the search ran to its end
  pub ended : (meet S p.front p.back).finished ≡ true
  pub left_balanced : Avl p.front
  pub right_balanced : Avl p.back

-- ---- the floor

-- An inner node, by the lines below its two children.
pub record Inner (A : Type 0) : Type 0 where
  pub front : List A
  pub back : List A

-- the inner nodes of a tree, from left to right
abbrev pub inners : {A : Type 0} → Tree A → List (Inner A)
inners (leaf a) = []
inners (node l r) = inners l ++ record { front = leaves l; back = leaves r } ∷ inners r

abbrev pub book_inners : {A : Type 0} → Option (Held A) → List (Inner A)
book_inners none = []
book_inners (some h) = inners (shape h.tree)

-- Some inner node before had the same lines below it.
abbrev pub Had : {A : Type 0} → List (Inner A) → Inner A → Type 0
Had {A} before n = (m : Inner A) × Memᴰ m before × (m.front ++ m.back ≡ n.front ++ n.back)

-- The pair holds the envelopes of the node's two children.
pub record Holds (S : Figure) (n : Inner S.Line) (p : Pair S.Line) : Type 0 where
  pub front : Env S n.front (leaves p.front)
  pub back : Env S n.back (leaves p.back)

-- Each inner node either was there before, or has a pair of its own in the log: that pair is taken out for the nodes that follow.
pub data Floor (S : Figure) (before : List (Inner S.Line)) : List (Inner S.Line) → List (Pair S.Line) → Type 0 where
  floor_none : {log : List (Pair S.Line)} → Floor S before [] log
  floor_had : {n : Inner S.Line} {ns : List (Inner S.Line)} {log : List (Pair S.Line)} → Had before n → Floor S before ns log →
      Floor S before (n ∷ ns) log
  floor_own :
      {n : Inner S.Line} {ns : List (Inner S.Line)} {log : List (Pair S.Line)} (xs : List (Pair S.Line)) (p : Pair S.Line)
      (ys : List (Pair S.Line)) →
      log ≡ xs ++ p ∷ ys →
      Holds S n p →
      Floor S before ns (xs ++ ys) →
      Floor S before (n ∷ ns) log

-- ---- all that is promised of an update's log

pub record Work (S : Figure) (before after : Option (Held S.Line)) (log : List (Pair S.Line)) : Type 0 where
  pub searched : (p : Pair S.Line) → Memᴰ p log → Searched S (book_lines after) p
  pub few_steps : steps_of S log ≤ 3 * heights_of log + length log
  -- by the tree's leaves, which are at most the live offers
  pub few_searches : length log ≤ 8 * log_up (max (length (book_lines before)) (length (book_lines after))) + 4
  pub floor : Floor S (book_inners before) (book_inners after) log
