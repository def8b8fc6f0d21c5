-- A part that has the form is there for every call, and the trials on words of any content decide for the plain book that it stands for.
use Rattle.std.specs.Prelude.{◌≡◌, not, ◌||◌, List, ℕ, ◌-◌, ◌≤◌, length, T, ltb, ℤ, pos}
use Rattle.std.proofs.Common.{sym, subst, arith, length-drop, T_not, ltb→lt}
use Rattle.std.proofs.Math.Option.{Option}
use Rattle.std.proofs.Math.Dec.{not_T}
use Rattle.std.specs.Int.Signed.{le_z}
use Rattle.lists.specs.Bools.{and_both, or_no}
use Rattle.integers.specs.Parts.{int_rules}
use Rattle.offers.specs.Offers.{between}
use Rattle.plain.specs.Causes.{Cause, cause_number, FirstOf, at_once, further}
use Rattle.plain.specs.Book.{State, Call, book_trials, no_book_at, part_length, step}
use Rattle.plain.proofs.Rules.{step_declined}
use Rattle.dynamic.specs.OfferTree.{Held}
use Rattle.table.specs.Fields.{capacity_word, most_slots}
use Rattle.table.specs.Words.{word}
use Rattle.table.specs.Layout.{cap, cap_most}
use Rattle.table.specs.Items.{Item}
use Rattle.form.specs.Form.{Book}
use Rattle.form.specs.There.{There, cap_there}
use Rattle.plain.specs.Trials.{first_append}
use Rattle.plain.specs.Rules.{refusing}
use Rattle.promises.specs.Promises.{part_of, table_trials}

-- ---- a part that has the form is there

-- cause 3 does not apply
pub cap_book : (start : ℕ) (t : List ℤ) {c : ℕ} → cap (part_of t start) ≡ c → 1 ≤ c → T (not (no_book_at (length t) start (word (part_of t start) capacity_word)))
cap_book start t {c} e low = subst (λ (z : ℤ). T (not (no_book_at (length t) start z))) (sym there.first) (not_T (no_book_at (length t) start (pos c)) no_cause)
  where
    there : There (part_of t start) c
    there = cap_there (part_of t start) e low

    high : c ≤ most_slots
    high = omega (arith, e, cap_most (part_of t start))

    long : part_length c ≤ length t - start
    long = omega (arith, there.room, length-drop start t)

    no_cause : T (no_book_at (length t) start (pos c)) → ⊥
    no_cause =
        or_no (ltb (length t) start || ltb (length t - start) 1_152 || not (between (pos 1) (pos most_slots) (pos c))) _
        (or_no (ltb (length t) start || ltb (length t - start) 1_152) _
        (or_no (ltb (length t) start) _ (λ q. omega (arith, long, ltb→lt (length t) start q))
        (λ q. omega (arith, low, long, ltb→lt (length t - start) 1_152 q)))
        (λ q. T_not (between (pos 1) (pos most_slots) (pos c)) q (and_both (le_z (pos 1) (pos c)) (le_z (pos c) (pos most_slots)) (omega (arith, int_rules, low))
        (omega (arith, int_rules, high)))))
        (λ q. omega (arith, long, ltb→lt (length t - start) (part_length c) q))

pub book_there : (start : ℕ) (t : List ℤ) {plain : State} {held : Option (Held Item)} → Book (part_of t start) plain held →
    T (not (no_book_at (length t) start (word (part_of t start) capacity_word)))
book_there start t b = cap_book start t b.capacity b.some_slot

-- so the trials on words of any content decide for the plain book
pub table_declined : (start : ℕ) (t : List ℤ) (k : Call) {plain : State} {held : Option (Held Item)} {z : Cause} → Book (part_of t start) plain held →
    FirstOf (table_trials t start k) z → step plain k ≡ refusing plain (cause_number z)
table_declined start t k {plain} {held} {z} b (at_once h) =
    absurd (T_not (no_book_at (length t) start (word (part_of t start) capacity_word)) (book_there start t b) h)
table_declined start t k {plain} {held} {z} b (further h f) = step_declined plain k z (first_append (book_trials plain k) f)
