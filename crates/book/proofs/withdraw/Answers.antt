-- `book::withdraw` meets its contract: by its guards, and then what a withdrawal does to the part.
use mathlib.Core.Path.{refl}
use mir.Facts.{to_z-of_z}
use Rattle.recording.specs.Ranges.{withdraw_out, withdraw_in}
use Rattle.book.specs.TableUpdates.{updates_none, updates_range, withdraw_refused, withdraw_accepted}
use Rattle.book.proofs.withdraw.Goals as goal

pub returns-then-no_book : goal.returns-then-no_book
returns-then-no_book c = updates_none _ _ _ _ c.no_book.ensures c.if-no_book.true refl

pub returns-then-outside : goal.returns-then-outside
returns-then-outside c = updates_range _ _ _ _ c.no_book.ensures c.if-no_book.false
    (withdraw_out _ (simp (to_z-of_z, c.ranges.number) at c.outside.ensures) c.if-outside.true) refl refl refl

pub returns-then-s-lt1 : goal.returns-then-s-lt1
returns-then-s-lt1 c = withdraw_refused _ _ _ c.no_book.ensures c.if-no_book.false _
    (withdraw_in _ (simp (to_z-of_z, c.ranges.number) at c.outside.ensures) c.if-outside.false) refl
    (simp (to_z-of_z, c.ranges.number) at c.live_slot-s.ensures) c.if-s-lt1.true refl

pub returns : goal.returns
returns c = let f = c.ranges in
    withdraw_accepted _ _ _ c.no_book.ensures c.if-no_book.false _
    (withdraw_in _ (simp (to_z-of_z, f.number) at c.outside.ensures) c.if-outside.false) refl
    (simp (to_z-of_z, f.number) at c.live_slot-s.ensures) c.if-s-lt1.false _
    (simp (to_z-of_z, f.number) at c.withdraw_kept.ensures) refl
