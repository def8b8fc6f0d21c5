-- The order of a part, told by words 3 and 6 of the header: how the code finds it.
use Rattle.std.specs.Prelude.{◌≡◌, Bool, true, List, ℕ, pos, length}
use Rattle.lists.specs.Firsts.{firsts}
use Rattle.trees.specs.Operations.{Part, part_leaves}
use Rattle.table.specs.Fields.{live_count_word, order_root_word}
use Rattle.table.specs.Words.{Words, word}
use Rattle.table.specs.Items.{Item}
use Rattle.pieces.specs.Pieces.{items}
use Rattle.form.specs.Form.{InOrder}
use Rattle.check_trees.specs.Stretches.{span}
use Rattle.check_trees.specs.Deciding.{Decides, decides_as}
use Rattle.check_trees.specs.Laid.{items_at}

-- the words of the header that tell of it: its root, and how many are live
pub record Header (w : Words) (root n : ℕ) : Type 0 where
  pub order_root : word w order_root_word ≡ pos root
  pub live_count : word w live_count_word ≡ pos n

pub header_by : {w : Words} {root n : ℕ} {r : Bool} → Decides r (word w order_root_word ≡ pos root × word w live_count_word ≡ pos n) →
    Decides r (Header w root n)
header_by = decides_as (λ p. record { order_root = p.0; live_count = p.1 }) (λ h. (h.order_root, h.live_count))

-- n items stand in order, and these lines are the first of each rate
pub record OrderFound (w : Words) (lines : List Item) (n : ℕ) : Type 0 where
  pub order : Part Item
  pub in_order : InOrder w order
  pub count : length (part_leaves order) ≡ n
  pub firsts_are : lines ≡ firsts items.before (part_leaves order)

pub record Order (w : Words) (xs xs' : List ℕ) (m n : ℕ) (r : Bool) : Type 0 where
  pub long : length xs' ≡ length xs
  pub told : Decides r (OrderFound w (items_at w (span xs 0 m)) n)
  -- the slots of the order stand from place 0 on
  pub listed : r ≡ true → (s : OrderFound w (items_at w (span xs 0 m)) n) → items_at w (span xs' 0 n) ≡ part_leaves s.order
