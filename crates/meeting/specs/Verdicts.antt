-- What a comparison tells the search: the five facts, for either side, at located places.
use Rattle.std.specs.Prelude.{ℕ, ◌≤◌, ◌<◌, ◌≡◌, Bool, true, false, ◌↔◌, ◌⊎◌, T}
use Rattle.std.proofs.Math.Logic.{⊎_swap}
use Rattle.envelopes.specs.PseudoLines.{Figure}
use Rattle.envelopes.specs.Bridge.{Kind, leafy, Local, One, Two, Facts}
use Rattle.meeting.specs.Machine.{Side, left, right, opposite, Place, on_or_above, Case, mine, theirs, neither, case_of, compare}
use Rattle.meeting.specs.Located.{kind, rank, Located, Aim}
use Rattle.meeting.specs.Comparisons.{Above, above_left, above_right}

-- The five facts, of the left lines a and the right lines c, each from its outer end, and their bridge (i, j).
abbrev pub FactsOf : (S : Figure) (a : ℕ → S.Line) (m : ℕ) (c : ℕ → S.Line) (n i j : ℕ) → Type 0
FactsOf S a m c n i j = Facts m n i j (λ i k j h. One S a i k c j h) (λ i k j h. Two S a i k c j h)

-- Both sides of a search, and the five facts.
pub record Meeting (S : Figure) : Type 0 where
  pub left_aim : Aim S.Line
  pub right_aim : Aim S.Line
  pub facts : FactsOf S left_aim.line left_aim.count right_aim.line right_aim.count left_aim.star right_aim.star

module _ {S : Figure} (M : Meeting S) where
  abbrev pub aim : Side → Aim S.Line
  aim left = M.left_aim
  aim right = M.right_aim

  -- our point, with i lines outside of it, is on or above the other's local envelope
  abbrev pub Ours : Side → ℕ → ℕ → Kind → Type 0
  Ours side i j h = Above S side (aim side).line i (Local (aim (opposite side)).line j h)

  abbrev pub Other : Side → ℕ → Kind → ℕ → Type 0
  Other side i k j = Above S (opposite side) (aim (opposite side)).line j (Local (aim side).line i k)

  pub ours_above : (side : Side) (i j : ℕ) (k h : Kind) → i < (aim side).count → j < (aim (opposite side)).count → Ours side i j h → (aim side).star < i
  ours_above left i j k h p q w = M.facts.f1 i j k h p q (rw above_left at w)
  ours_above right i j k h p q w = M.facts.f2 j i h k q p (rw above_right at w)

  pub other_above : (side : Side) (i j : ℕ) (k h : Kind) → i < (aim side).count → j < (aim (opposite side)).count → Other side i k j → (aim (opposite side)).star < j
  other_above left i j k h p q w = ours_above right j i h k q p w
  other_above right i j k h p q w = ours_above left j i h k q p w

  pub neither_above : (side : Side) (i j : ℕ) (k h : Kind) → i < (aim side).count → j < (aim (opposite side)).count → ¬ Ours side i j h → ¬ Other side i k j →
      (i ≤ (aim side).star) ⊎ (j ≤ (aim (opposite side)).star)
  neither_above left i j k h p q w z = M.facts.f3 i j k h p q (rw above_left at w) (rw above_right at z)
  neither_above right i j k h p q w z = ⊎_swap (M.facts.f3 j i h k q p (rw above_left at z) (rw above_right at w))

  pub ours_found : (side : Side) (i j : ℕ) (h : Kind) → i < (aim side).count → j < (aim (opposite side)).count → ¬ Ours side i j h → ¬ Other side i leafy j →
      i ≡ (aim side).star → j ≤ (aim (opposite side)).star
  ours_found left i j h p q w z e = M.facts.f4 i j h p q (rw above_left at w) (rw above_right at z) e
  ours_found right i j h p q w z e = M.facts.f5 j i h q p (rw above_left at z) (rw above_right at w) e

  pub other_found : (side : Side) (i j : ℕ) (k : Kind) → i < (aim side).count → j < (aim (opposite side)).count → ¬ Ours side i j leafy → ¬ Other side i k j →
      j ≡ (aim (opposite side)).star → i ≤ (aim side).star
  other_found left i j k p q w z e = ours_found right j i k q p z w e
  other_found right i j k p q w z e = ours_found left j i k q p z w e

  -- neither is on or above: one of the points is short of its line, and where one is its line's leaf, the other is
  pub record Apart (side : Side) (i : ℕ) (k : Kind) (j : ℕ) (h : Kind) : Type 0 where
    pub short : (i ≤ (aim side).star) ⊎ (j ≤ (aim (opposite side)).star)
    pub found : k ≡ leafy → i ≡ (aim side).star → j ≤ (aim (opposite side)).star
    pub other : h ≡ leafy → j ≡ (aim (opposite side)).star → i ≤ (aim side).star

  -- what each outcome tells of our place, with i lines outside of its point, and the other's, with j
  abbrev pub Verdict : Side → ℕ → Kind → ℕ → Kind → Case → Type 0
  Verdict side i k j h mine = (aim side).star < i
  Verdict side i k j h theirs = (aim (opposite side)).star < j
  Verdict side i k j h neither = Apart side i k j h

  pub verdict_by : (side : Side) (i : ℕ) (k : Kind) (j : ℕ) (h : Kind) → i < (aim side).count → j < (aim (opposite side)).count → (b c : Bool) →
      T b ↔ Ours side i j h → T c ↔ Other side i k j → Verdict side i k j h (case_of b c)
  verdict_by side i k j h p q true c w z = ours_above side i j k h p q (w.0 tt)
  verdict_by side i k j h p q false true w z = other_above side i j k h p q (z.0 tt)
  verdict_by side i k j h p q false false w z =
      record {
        short = neither_above side i j k h p q w.1 z.1;
        found = λ e. ours_found side i j h p q w.1 (rw e at z.1);
        other = λ e. other_found side i j k p q (rw e at w.1) z.1;
      }
