-- Counts of one operation after another. They go round at 2 ^ 32, which no log of a book reaches.
use Rattle.std.specs.Prelude.{◌≡◌, ℕ, ◌+◌, ◌%◌, ◌^◌, List, ◌++◌}
use Rattle.std.proofs.Common.{arith, subst, append_assoc, length-append}
use Rattle.dynamic.specs.OfferTree.{Pair}
use Rattle.dynamic.specs.Kept.{steps_append, heights_append}
use Rattle.table.specs.Items.{Item}
use Rattle.pieces.specs.Pieces.{items}
use Rattle.levels.specs.Levels.{Counted, Summed}
use Rattle.levels.specs.declared.Counts.{Counts}

sum_two : (k k₁ k₂ a b : ℕ) → k ≡ (k₁ + k₂) % 2 ^ 32 → k₁ ≡ a % 2 ^ 32 → k₂ ≡ b % 2 ^ 32 → k ≡ (a + b) % 2 ^ 32
sum_two k k₁ k₂ a b d e f = omega arith

pub counted_two : {xs ys : List (Pair Item)} {n₁ n₂ n : Counts} → Counted xs n₁ → Counted ys n₂ → Summed n₁ n₂ n → Counted (xs ++ ys) n
counted_two {xs} {ys} a b c =
    record {
      searches = rw length-append (sum_two _ _ _ _ _ c.searches a.searches b.searches);
      steps = rw (steps_append items xs ys) (sum_two _ _ _ _ _ c.steps a.steps b.steps);
      heights = rw (heights_append xs ys) (sum_two _ _ _ _ _ c.heights a.heights b.heights);
    }

pub counted_three :
    {xs ys zs : List (Pair Item)} {n₁ n₂ n₃ m n : Counts} →
    Counted xs n₁ → Counted ys n₂ → Counted zs n₃ → Summed n₁ n₂ m → Summed m n₃ n →
    Counted (xs ++ (ys ++ zs)) n
counted_three {xs} {ys} {zs} {n} a b c d e = subst (λ l. Counted l n) (append_assoc xs ys zs) (counted_two (counted_two a b d) c e)
