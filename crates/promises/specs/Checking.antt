-- The check, on the part of a table.
use Rattle.std.specs.Prelude.{◌≡◌, Bool, true, false, List, ℕ, ◌-◌, length, take, drop, ℤ}
use Rattle.std.proofs.Common.{sym, subst, true≢false, T_not}
use Rattle.lists.specs.Bools.{said}
use Rattle.plain.specs.Book.{no_book_at}
use Rattle.table.specs.Fields.{capacity_word}
use Rattle.table.specs.Words.{Words, word}
use Rattle.form.specs.Form.{FormStands}
use Rattle.check_trees.specs.Deciding.{Decides}
use Rattle.promises.specs.Promises.{part_of, Checks}
use Rattle.promises.specs.Plainly.{book_there}
use Rattle.promises.specs.LentPart.{whole_part}

module _ (t : List ℤ) (start : ℕ) where
  -- where there is no book for any call, none passes
  pub checks_none : {b : Bool} → b ≡ no_book_at (length t) start (word (part_of t start) capacity_word) → b ≡ true → Checks start t false
  checks_none e h =
      record {
        sound = λ k. absurd (true≢false (sym k));
        complete =
            λ p. absurd (T_not (no_book_at (length t) start (word (part_of t start) capacity_word)) (book_there start t p.2.book) (said e h));
      }

  pub checks_part : {r : Bool} → Decides r (FormStands (take (length t - start) (drop start t))) → Checks start t r
  checks_part {r} d = go (subst (λ (w : Words). Decides r (FormStands w)) (whole_part t start) d)
    where
      go : Decides r (FormStands (part_of t start)) → Checks start t r
      go k = record { sound = k.sound; complete = k.complete }
