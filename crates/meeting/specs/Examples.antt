-- Six searches among lines with whole rates and bases, computed. Between them they take every line of the rules (docs/REQUIREMENTS.md, 6.5), on either side:
-- moves that are undone by a pop, the three outcomes of the second comparison, and ties between cases 1 and 2 that change the number of steps.
-- "1 → 3" is a step in which case 1 held and then, in the second comparison, case 3.
use Rattle.std.specs.Prelude.{ℕ, zero, suc, ◌≡◌, refl, Bool, true, List, [], ◌∷◌, pos, length}
use Rattle.std.proofs.Math.Option.{none, some}
use Rattle.envelopes.specs.PseudoLines.{Figure}
use Rattle.lines.specs.Lines.{line_figure}
use Rattle.trees.specs.Tree.{Tree, leaf, node}
use Rattle.meeting.specs.Machine.{State, step, start, run, meet, on_or_above, compare, advance, retreat, pop, recede, ended, counted}

-- rate and base
abbrev Line : Type 0
Line = ℕ × ℕ

abbrev F : Figure
F = line_figure Line (λ l. pos l.0) (λ l. pos l.1)

abbrev line : ℕ → ℕ → Tree Line
line rate base = leaf (rate, base)

-- the depths of the two stacks before each step
trail : ℕ → State Line → List (ℕ × ℕ)
trail zero s = []
trail (suc n) s = (length s.u.stack, length s.v.stack) ∷ elim (step F s) [ none ↦ [] | some s' ↦ trail n s' ]

record Outcome : Type 0 where
  finished : Bool
  u : Tree Line
  v : Tree Line
  steps : ℕ
  depths : List (ℕ × ℕ)

abbrev found : Tree Line → Tree Line → ℕ → List (ℕ × ℕ) → Outcome
found u v k ds = record { finished = true; u = u; v = v; steps = k; depths = ds }

search_of : Tree Line → Tree Line → Outcome
search_of l r =
    let m = meet F l r in
    record {
      finished = m.finished;
      u = m.u.tree;
      v = m.v.tree;
      steps = m.steps;
      depths = trail m.steps (start l r);
    }

-- Cases 3, 1, 3, end: u goes right to a leaf, and that is undone by the pop
leaf_popped : search_of (node (line 10 23) (line 7 14)) (node (node (line 4 0) (line 3 4)) (line 0 25)) ≡ found (line 10 23) (line 4 0) 4
    ((0, 0) ∷ (1, 1) ∷ (0, 1) ∷ (0, 2) ∷ [])
unfolding search_of trail meet run step compare on_or_above recede advance retreat pop ended counted
leaf_popped = refl

-- Cases 1, 2, 3, 2, 3, end: both stacks empty, then a leaf of the right tree is popped
stacks_empty : search_of (node (node (line 13 0) (node (line 10 3) (line 9 8))) (line 6 26)) (node (line 4 40) (node (line 3 44) (line 0 62))) ≡ found
    (line 9 8) (line 0 62) 6 ((0, 0) ∷ (0, 0) ∷ (0, 0) ∷ (1, 1) ∷ (1, 0) ∷ (2, 0) ∷ [])
unfolding search_of trail meet run step compare on_or_above recede advance retreat pop ended counted
stacks_empty = refl

-- Cases 3, 1 → 2, 2 → 2, 3, end
two_counts : search_of (node (node (line 18 12) (line 16 6)) (node (node (line 13 0) (line 12 0)) (line 10 8)))
    (node (node (line 6 37) (node (line 3 31) (line 2 32))) (line 0 38)) ≡ found (line 12 0) (line 0 38) 5 ((0, 0) ∷ (1, 1) ∷ (1, 1) ∷ (1, 0) ∷ (2, 0) ∷ [])
unfolding search_of trail meet run step compare on_or_above recede advance retreat pop ended counted
two_counts = refl

-- Cases 1, 3, 2 → 1, 2 → 3, end
one_counts : search_of (node (node (line 11 1) (node (line 10 0) (line 9 1))) (line 7 11))
    (node (node (line 4 15) (node (line 2 9) (line 1 8))) (line 0 11)) ≡ found (line 10 0) (line 1 8) 5 ((0, 0) ∷ (0, 0) ∷ (1, 1) ∷ (1, 1) ∷ (1, 1) ∷ [])
unfolding search_of trail meet run step compare on_or_above recede advance retreat pop ended counted
one_counts = refl

-- Cases 3, 1 → 3, 1 → 1, 2 → 3, 3, end. In the third, 1 and 2 both hold, in the second comparison too: if 2 counted in either, it would be 7 steps
tie_of_one : search_of (node (node (line 20 2) (node (line 18 0) (line 16 0))) (node (node (line 15 3) (line 12 24)) (line 11 35)))
    (node (node (node (line 9 22) (node (line 7 26) (line 6 32))) (line 4 48)) (node (line 1 81) (line 0 94))) ≡ found (line 16 0) (line 7 26) 6
    ((0, 0) ∷ (1, 1) ∷ (1, 2) ∷ (0, 2) ∷ (1, 2) ∷ (2, 3) ∷ [])
unfolding search_of trail meet run step compare on_or_above recede advance retreat pop ended counted
tie_of_one = refl

-- Cases 3, 2 → 2, 1 → 3, 3, end. In the second comparison of the second, 1 and 2 both hold: if 1 counted, it would be 6 steps
tie_of_two : search_of (node (node (line 16 5) (line 14 1)) (node (node (line 13 0) (line 10 0)) (line 9 4)))
    (node (node (line 7 19) (line 4 25)) (node (node (line 2 31) (line 1 36)) (line 0 42))) ≡ found (line 10 0) (line 2 31) 5
    ((0, 0) ∷ (1, 1) ∷ (1, 0) ∷ (1, 1) ∷ (2, 2) ∷ [])
unfolding search_of trail meet run step compare on_or_above recede advance retreat pop ended counted
tie_of_two = refl
