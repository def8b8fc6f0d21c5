-- Theorems on specs/Marking.
use Rattle.std.specs.Prelude.{◌≡◌, Bool, false, ℕ, ◌-◌, length, take, drop, ℤ, Result}
use Rattle.std.proofs.Common.{subst}
use mathlib.Core.List.{List}
use Rattle.lists.specs.Bools.{denied}
use Rattle.plain.specs.Book.{no_book_at}
use Rattle.table.specs.Fields.{capacity_word}
use Rattle.table.specs.Words.{Words, word}
use Rattle.form.specs.Live.{book_sound}
use Rattle.promises.specs.Promises.{part_of}
use Rattle.promises.specs.LentPart.{whole_part}
use Rattle.promises.specs.OneCause.{not_clear}
use Rattle.causes.specs.declared.Declined.{Declined}
use Rattle.marks.specs.declared.Mark.{Mark}
use Rattle.chart.specs.Promises.{Marks}
use Rattle.chart.proofs.Rounded.{sound_exact}
use Rattle.chart.specs.Marking.{PartMark}

module _ (start : ℕ) (t : List ℤ) (index : ℤ) {no : Bool} (e : no ≡ no_book_at (length t) start (word (part_of t start) capacity_word)) where
  pub mark_there : {r : Result Mark Declined} → no ≡ false → PartMark (take (length t - start) (drop start t)) index r → Marks start t index r
  mark_there {r} d k =
      let here : PartMark (part_of t start) index r = subst (λ (w : Words). PartMark w index r) (whole_part t start) k in
      record {
        declined = λ z f. absurd (not_clear f (denied e d, tt));
        answers = here.answers;
        rounded = λ s held b. sound_exact s (book_sound b);
      }
