-- The tree of offers of a part, told by words 1 and 2 of the header: how the code finds it.
use Rattle.std.specs.Prelude.{◌≡◌, Option, is_some, IfSome, List, ℕ, ◌≤◌, length}
use Rattle.std.proofs.Math.Option as math
use Rattle.trees.specs.Tree.{Tree, leaves}
use Rattle.dynamic.specs.OfferTree.{Held}
use Rattle.dynamic.specs.Valid.{book_lines}
use Rattle.table.specs.Words.{Words}
use Rattle.table.specs.Items.{Item}
use Rattle.form.specs.Form.{OffersStand}
use Rattle.check_trees.specs.Scratch.{second_half}
use Rattle.check_trees.specs.Stretches.{span}
use Rattle.check_trees.specs.Deciding.{Decides}
use Rattle.check_trees.specs.Laid.{items_at}
use Rattle.check_merge.specs.Stands.{Stands}
use Rattle.check_offers.specs.Headers.{Header}
use Rattle.check_offers.specs.Envelops.{Enveloped}

-- the header tells a tree of offers, and it stands there
pub record OffersFound (w : Words) : Type 0 where
  pub held : math.Option (Held Item)
  pub offers : OffersStand w held

-- where it is: the tree at node x with its envelopes, the whole one's pieces at node e
pub record OffersAt (w : Words) (x e : ℕ) (lines : List Item) : Type 0 where
  pub header : Header w x e
  pub tree : Tree Item
  pub stands : Stands w x tree
  pub lines_are : leaves tree ≡ lines
  pub enveloped : Enveloped w e tree

pub record Offers (w : Words) (xs xs' : List ℕ) (r : Option ℕ) : Type 0 where
  pub long : length xs' ≡ length xs
  pub told : Decides (is_some r) (OffersFound w)
  pub inside : IfSome r (λ n. n ≤ second_half)
  -- the slots of its leaves stand from place 0 on
  pub listed : IfSome r (λ n. (s : OffersFound w) → items_at w (span xs' 0 n) ≡ book_lines s.held)
