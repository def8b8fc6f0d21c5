-- The meeting on two tables: cause 3, and then the two parts.
use Rattle.std.specs.Prelude.{◌≡◌, ◌⊎◌, Bool, false, List, ℕ, ◌-◌, length, take, drop, T, ℤ, pos, Result, Err}
use Rattle.std.proofs.Common.{sym, ap, subst, ⊎_elim, T_not}
use Rattle.lists.specs.Bools.{or_exactly, not_either, denied}
use Rattle.plain.specs.Causes.{at_once}
use Rattle.plain.specs.Book.{no_book_at}
use Rattle.table.specs.Fields.{capacity_word}
use Rattle.table.specs.Words.{Words, word}
use Rattle.promises.specs.Promises.{part_of}
use Rattle.promises.specs.Plainly.{book_there}
use Rattle.promises.specs.LentPart.{whole_part}
use Rattle.promises.specs.OneCause.{one_cause, not_clear}
use Rattle.causes.specs.declared.Declined.{Declined}
use Rattle.causes.specs.declared.Declined.TheVariants.{NoBook}
use Rattle.meet_books.specs.declared.Meeting.{Meeting}
use Rattle.meet_books.specs.Promises.{refused, MeetsBooks}
use Rattle.meet_books.specs.Searching.{MeetsParts}

-- there is no book at `start`
abbrev missing : List ℤ → ℕ → Bool
missing t start = no_book_at (length t) start (word (part_of t start) capacity_word)

module _ (t : List ℤ) (start : ℕ) (t' : List ℤ) (start' : ℕ) where
  pub one_missing : T (missing t start) ⊎ T (missing t' start') → MeetsBooks t start t' start' (Err NoBook)
  one_missing k =
      let none_there = at_once ((or_exactly (missing t start) (missing t' start')).1 k) in
      record {
        declined = λ z g. ap (λ (n : ℕ). refused (pos n)) (sym (one_cause none_there g));
        answers = λ s s' held held' b b'. absurd (⊎_elim (T_not (missing t start) (book_there start t b))
            (T_not (missing t' start') (book_there start' t' b')) k);
      }

  module _ {n n' : Bool} (e : n ≡ missing t start) (h : n ≡ false) (e' : n' ≡ missing t' start') (h' : n' ≡ false) where
    pub both_there : {r : Result Meeting Declined} → MeetsParts (take (length t - start) (drop start t)) (take (length t' - start') (drop start' t')) r →
        MeetsBooks t start t' start' r
    both_there {r} m =
        record {
          declined = λ z g. absurd (not_clear g (not_either (missing t start) (missing t' start') (denied e h) (denied e' h'), tt));
          answers = parts.answers;
        }
      where
        parts : MeetsParts (part_of t start) (part_of t' start') r
        parts =
            subst (λ (w : Words). MeetsParts w (part_of t' start') r) (whole_part t start)
            (subst (λ (w : Words). MeetsParts (take (length t - start) (drop start t)) w r) (whole_part t' start') m)
