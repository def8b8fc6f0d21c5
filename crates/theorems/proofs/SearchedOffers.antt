-- Theorems on specs/SearchedOffers.
use Rattle.std.specs.Prelude.{ℕ, ℤ, Result}
use mathlib.Core.List.{List, Memᴰ}
use Rattle.std.proofs.Math.Option.{Option}
use Rattle.plain.specs.Book.{State, Call}
use Rattle.dynamic.specs.OfferTree.{Held, Pair}
use Rattle.dynamic.specs.Valid.{book_lines}
use Rattle.table.specs.Items.{Item}
use Rattle.causes.specs.declared.Declined.{Declined}
use Rattle.promises.specs.declared.Update.{Update}
use Rattle.promises.specs.Promises.{Follows}
use Rattle.form.specs.Live.{lines_ordered}
use Rattle.theorems.specs.SearchedOffers.{PairLists, searched_lists}

module _ {k : Call} {s : State} {held : Option (Held Item)} {start : ℕ} {t t' : List ℤ} {r : Result Update Declined}
    (f : Follows k s held start t t' r) where
  -- every pair of an update's log
  pub follows_lists : (p : Pair Item) → Memᴰ p f.log → PairLists (book_lines f.after) p
  follows_lists p m = searched_lists (lines_ordered f.stands.book) (f.work.searched p m)
