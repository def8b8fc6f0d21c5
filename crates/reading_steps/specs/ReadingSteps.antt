-- A reading, step by step: begun, moved on, and what it hands out after n steps.
use Rattle.std.specs.Prelude.{ℕ, suc, ◌≡◌, List, [], ◌∷◌, ℤ}
use Rattle.std.proofs.Common.{add-one, ◌∙◌, subst}
use Rattle.std.proofs.Math.Option.{Option}
use Rattle.std.specs.Borrow.{Bor}
use Rattle.plain.specs.Causes.{Cause, FirstOf}
use Rattle.plain.specs.Book.{State}
use Rattle.dynamic.specs.OfferTree.{Held}
use Rattle.table.specs.Items.{Item}
use Rattle.form.specs.Form.{Book}
use Rattle.promises.specs.Promises.{part_of, no_book_trial}
use Rattle.reading_steps.specs.declared.Reading.{Reading}
use Rattle.reading.specs.Promises.{Handed, told, refusal, listed_at, Before, Nowhere, Starts, Moves, Hands}

-- a reading of that table and `start`, before the first piece
pub record Begins (table : Bor (List ℤ)) (start : ℕ) (r : Reading) : Type 0 where
  pub same_table : r.table ≡ table
  pub same_start : r.start ≡ start
  pub place : Starts start table.now r.place

-- the same reading, one step on
pub record Advances (r q : Reading) : Type 0 where
  pub same_table : q.table ≡ r.table
  pub same_start : q.start ≡ r.start
  pub moves : Moves r.start r.table.now r.place q.place

-- what is handed out after n steps
pub record HandsAt (start : ℕ) (t : List ℤ) (n : ℕ) (s : Handed) : Type 0 where
  pub declined : (z : Cause) → FirstOf (no_book_trial t start ∷ []) z → told s ≡ refusal z
  pub answers : (plain : State) (held : Option (Held Item)) → Book (part_of t start) plain held → told s ≡ listed_at plain.offers n

pub hands_at : {start : ℕ} {t : List ℤ} {n place : ℕ} {s : Handed} → Before (part_of t start) n place → Hands start t place s → HandsAt start t n s
hands_at {n} b h = record { declined = h.declined; answers = h.answers n b }

-- ---- any number of steps

-- r is the reading of that table and `start` that has been moved on n times
pub data Moved (table : Bor (List ℤ)) (start : ℕ) : ℕ → Reading → Type 0 where
  begun : {r : Reading} → Begins table start r → Moved table start 0 r
  onward : {n : ℕ} {r q : Reading} → Moved table start n r → Advances r q → Moved table start (suc n) q

-- it is of the same table, and stands before piece n
record Stands (table : Bor (List ℤ)) (start n : ℕ) (r : Reading) : Type 0 where
  same_table : r.table ≡ table
  same_start : r.start ≡ start
  nowhere : Nowhere start table.now r.place
  before : Before (part_of table.now start) n r.place

stands : {table : Bor (List ℤ)} {start n : ℕ} {r : Reading} → Moved table start n r → Stands table start n r
stands (begun b) = record { same_table = b.same_table; same_start = b.same_start; nowhere = b.place.nowhere; before = b.place.before }
stands {table} {start} (onward {n} {r} {q} m a) =
    let k = stands m in
    record {
      same_table = a.same_table ∙ k.same_table;
      same_start = a.same_start ∙ k.same_start;
      nowhere = rw (← k.same_table, ← k.same_start) a.moves.nowhere;
      before = subst (λ (i : ℕ). Before (part_of table.now start) i q.place) (add-one n)
          (rw (← k.same_table, ← k.same_start) (a.moves.on n (rw (k.same_table, k.same_start) k.before)));
    }

-- After n steps it hands out the n-th piece as listed, or the end; and it is declined where there is no book.
pub every_step : {table : Bor (List ℤ)} {start n : ℕ} {r : Reading} {s : Handed} → Moved table start n r → Hands r.start r.table.now r.place s →
    HandsAt start table.now n s
every_step {table} {start} {n} {r} {s} m h =
    let k = stands m in
    hands_at k.before (subst (λ (i : ℕ). Hands i table.now r.place s) k.same_start
    (subst (λ (x : Bor (List ℤ)). Hands r.start x.now r.place s) k.same_table h))

-- where there is no book it stands at place 0
pub every_place : {table : Bor (List ℤ)} {start n : ℕ} {r : Reading} → Moved table start n r → Nowhere start table.now r.place
every_place m = (stands m).nowhere
