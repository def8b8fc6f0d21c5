-- An offer taken out and an offer brought back, on the flags: exactly where the book's own trials pass.
use Rattle.std.specs.Prelude.{◌≡◌, Bool, true, false, Option, None, Some, is_some, IfSome, List, [], ℕ, ◌+◌, ◌-◌, ◌≤◌, ◌<◌, pos, length, get_or, set}
use Rattle.std.proofs.Common.{sym, ◌∙◌, arith}
use Rattle.std.proofs.Math.Dec.{nleb→lt}
use Rattle.std.proofs.Math.Arith.{lt→nleb}
use Rattle.lists.specs.Bools.{passed, failed, is_true, is_false, never, not_not, twice}
use Rattle.lists.specs.Tests.{any}
use Rattle.offers.specs.Offers.{Offer}
use Rattle.plain.specs.Causes.{Clear}
use Rattle.plain.specs.Book.{State, Undo, unpost, restore, has_number, book_trials, undone, undoing}
use Rattle.table.specs.Fields.{most_nodes}
use Rattle.check_trees.specs.Deciding.{Decides, decides_no, decides_yes}
use Rattle.check_memory.specs.Flags.{flag_count, Tracks, tracks_leave, tracks_join}

-- an offer's number, and a room that can grow
pub record Ready (m room : ℕ) : Type 0 where
  pub low : 1 ≤ m
  pub high : m < flag_count
  pub small : room ≤ most_nodes

-- what is remembered does not count
abbrev pub bare : ℕ → List Offer → State
bare c os = record { capacity = c; offers = os; memory = [] }

-- the entry's values are in range: whether it can be undone then, the flags after it, and how many more offers there is room for
pub record Undoing (flags flags' : List Bool) (room : ℕ) (u : Undo) (r : Option ℕ) : Type 0 where
  pub told : (c : ℕ) (os : List Offer) → Tracks c flags room os → Decides (is_some r) (Clear (book_trials (bare c os) (undoing u)))
  pub after : (c : ℕ) (os : List Offer) → Tracks c flags room os → IfSome r (λ n. Tracks c flags' n (undone u os))
  pub few : IfSome r (λ n. n ≤ room + 1)

undoing_not : {flags : List Bool} {room : ℕ} {u : Undo} →
    ((c : ℕ) (os : List Offer) → Tracks c flags room os → ¬ Clear (book_trials (bare c os) (undoing u))) → Undoing flags flags room u None
undoing_not none = record { told = λ c os G. decides_no (none c os G); after = λ c os G. tt; few = tt }

module _ {flags : List Bool} {m room : ℕ} (p : Ready m room) where
  flag_is : {c : ℕ} {os : List Offer} {b : Bool} → Tracks c flags room os → get_or flags m false ≡ b → any (has_number (pos m)) os ≡ b
  flag_is G e = sym (G.marked.told m p.low p.high) ∙ e

  pub out_not : get_or flags m false ≡ false → Undoing flags flags room (unpost (pos m)) None
  out_not e = undoing_not (λ c os G k. never (is_true _ (not_not (any (has_number (pos m)) os) k.0)) (flag_is G e))

  pub out_live : get_or flags m false ≡ true → Undoing flags (set flags m false) room (unpost (pos m)) (Some (room + 1))
  out_live e =
      record {
        told = λ c os G. decides_yes (twice (any (has_number (pos m)) os) (passed (flag_is G e)), tt);
        after = λ c os G. tracks_leave G p.low p.high e;
        few = omega arith;
      }

  module _ (o : Offer) (n : o.number ≡ pos m) where
    live_is : {c : ℕ} {os : List Offer} {b : Bool} → Tracks c flags room os → get_or flags m false ≡ b → any (has_number o.number) os ≡ b
    live_is G e = rw n (flag_is G e)

    pub back_full : room < 1 → Undoing flags flags room (restore o) None
    back_full h = undoing_not (λ c os G k. omega (arith, G.full, nleb→lt c (length os) k.1.0))

    pub back_live : get_or flags m false ≡ true → Undoing flags flags room (restore o) None
    back_live e = undoing_not (λ c os G k. never (live_is G e) (is_false _ k.0))

    pub back_in : get_or flags m false ≡ false → 1 ≤ room → Undoing flags (set flags m true) room (restore o) (Some (room - 1))
    back_in e h =
        record {
          told = λ c os G. decides_yes (failed (live_is G e), (lt→nleb c (length os) (omega (arith, G.full)), tt));
          after = λ c os G. tracks_join G p.low p.high o n e h;
          few = omega arith;
        }
