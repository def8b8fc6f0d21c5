-- Two envelopes that meet. The left one is given by its lines counted from its first, a 0, a 1, .., and the right one by its
-- lines counted from its last, c 0, c 1, ..: each from its outer end, so that the mirror image changes the two about.
use Rattle.std.specs.Prelude.{ℕ, zero, suc, ◌<◌, ◌≤◌, ◌≡◌, ◌⊎◌, T}
use Rattle.envelopes.specs.PseudoLines.{Figure, LeftOf, mirror}

-- A chain of n lines: each before the next, crossings of neighbours strictly increasing.
pub record Chain (S : Figure) (a : ℕ → S.Line) (n : ℕ) : Type 0 where
  pub ordered : (i : ℕ) → suc i < n → T (S.before (a i) (a (suc i)))
  pub turning : (i : ℕ) → suc (suc i) < n → LeftOf S (S.cross (a i) (a (suc i))) (S.cross (a (suc i)) (a (suc (suc i))))

-- The outer end of the piece of line i is strictly outside of the point; a missing end always is.
abbrev pub PastOuter : (S : Figure) → (ℕ → S.Line) → ℕ → S.Point → Type 0
PastOuter S a zero x = Unit {0}
PastOuter S a (suc i) x = LeftOf S (S.cross (a i) (a (suc i))) x

-- The point lies in the piece of line i of n: outer end out, inner end in, missing ends no bound.
pub record InPiece (S : Figure) (a : ℕ → S.Line) (n i : ℕ) (x : S.Point) : Type 0 where
  pub inside : i < n
  pub outer : PastOuter S a i x
  pub inner : suc i < n → T (S.up_to x (S.cross (a i) (a (suc i))))

-- Two envelopes to be merged: a chain, a chain in the mirror image, all of the first before all of the second.
pub record Facing (S : Figure) (a : ℕ → S.Line) (m : ℕ) (c : ℕ → S.Line) (n : ℕ) : Type 0 where
  pub left : Chain S a m
  pub right : Chain (mirror S) c n
  pub apart : (i j : ℕ) → i < m → j < n → T (S.before (a i) (c j))

-- The bridge: the crossing of u = a i and v = c j lies in u's piece (right end in, left end out) and in v's piece (left end in, right end out).
pub record Bridge (S : Figure) (a : ℕ → S.Line) (m : ℕ) (c : ℕ → S.Line) (n i j : ℕ) : Type 0 where
  pub on_left : InPiece S a m i (S.cross (a i) (c j))
  pub on_right : InPiece (mirror S) c n j (S.cross (a i) (c j))

-- ---- what the search compares

pub data Kind : Type 0 where
  leafy inner : Kind

-- The lines of a node's local envelope: at an inner node with i lines on its outer side the last of those and the next; at a leaf its line.
abbrev pub Local : {L : Type 0} → (ℕ → L) → ℕ → Kind → L → Type 0
Local a i leafy l = l ≡ a i
Local a zero inner l = l ≡ a zero
Local a (suc i) inner l = (l ≡ a i) ⊎ (l ≡ a (suc i))

-- The point of a node with i lines on its outer side is on or above some line of another's local envelope. A missing end (i = 0) lies below everything.
abbrev pub OnOrAbove : (S : Figure) → (ℕ → S.Line) → ℕ → (S.Line → Type 0) → Type 0
OnOrAbove S a zero local = ⊥
OnOrAbove S a (suc i) local = (l : S.Line) × local l × T (S.at_most l (a i) (S.cross (a i) (a (suc i))))

-- The comparison of docs/REQUIREMENTS.md, 6.3, of u (i lines on its outer side) with v (j lines on its outer side).
abbrev pub One : (S : Figure) → (ℕ → S.Line) → ℕ → Kind → (ℕ → S.Line) → ℕ → Kind → Type 0
One S a i k c j h = OnOrAbove S a i (Local c j h)

abbrev pub Two : (S : Figure) → (ℕ → S.Line) → ℕ → Kind → (ℕ → S.Line) → ℕ → Kind → Type 0
Two S a i k c j h = OnOrAbove (mirror S) c j (Local a i k)

-- The five facts that the search rests on, with (i*, j*) the bridge. The last is the fourth in the mirror, and the second the first.
pub record Facts (m n istar jstar : ℕ) (one two : ℕ → Kind → ℕ → Kind → Type 0) : Type 0 where
  pub f1 : (i j : ℕ) (k h : Kind) → i < m → j < n → one i k j h → istar < i
  pub f2 : (i j : ℕ) (k h : Kind) → i < m → j < n → two i k j h → jstar < j
  pub f3 : (i j : ℕ) (k h : Kind) → i < m → j < n → ¬ one i k j h → ¬ two i k j h → (i ≤ istar) ⊎ (j ≤ jstar)
  pub f4 : (i j : ℕ) (h : Kind) → i < m → j < n → ¬ one i leafy j h → ¬ two i leafy j h → i ≡ istar → j ≤ jstar
  pub f5 : (i j : ℕ) (k : Kind) → i < m → j < n → ¬ one i k j leafy → ¬ two i k j leafy → j ≡ jstar → i ≤ istar
