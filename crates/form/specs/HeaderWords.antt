-- The header's words of a book, read as numbers: the live count and the four roots.
use Rattle.std.specs.Prelude.{◌≡◌, refl, ℕ, ◌≤◌, length, ℤ, pos}
use Rattle.std.proofs.Common.{◌∙◌, ap, arith}
use mathlib.Core.List.Memᴰ
use mathlib.Core.List.{Memᴰ}
use Rattle.std.proofs.Math.Option.{Option, none, some}
use Rattle.plain.specs.Book.{State}
use Rattle.trees.specs.Tree.{Tree, leaf, node, leaves, last}
use Rattle.trees.specs.Leaves.{last_leaf}
use Rattle.trees.specs.Operations.{Part, part_leaves}
use Rattle.dynamic.specs.OfferTree.{Held, held_shape}
use Rattle.dynamic.specs.Rearranged.{stored}
use Rattle.table.specs.Fields.{envelope_root_word, live_count_word, most_nodes, most_slots, numbers_root_word, offers_root_word, order_root_word}
use Rattle.table.specs.Words.{Words, word, up_to, up_to_in}
use Rattle.table.specs.Layout.{cap_most}
use Rattle.table.specs.Items.{Item}
use Rattle.table.specs.Rep.{ref_of}
use Rattle.table.specs.PartTrees.{part_ref}
use Rattle.form.specs.Frames.{held_slots}
use Rattle.form.specs.Form.{Book, OffersIn, offers_ref, envelope_ref}

refs_high : {c : ℕ} (t : Tree Item) → ((a : Item) → Memᴰ a (leaves t) → a.slot ≤ c) → c ≤ most_slots → ref_of t ≤ most_nodes
refs_high (leaf a) h k = omega (arith, h a (Memᴰ.head refl))
refs_high (node l r) h k = omega (arith, h (last l) (Memᴰ.append_left (leaves r) (last_leaf l)))

pub part_high : {c : ℕ} (p : Part Item) → ((a : Item) → Memᴰ a (part_leaves p) → a.slot ≤ c) → c ≤ most_slots → part_ref p ≤ most_nodes
part_high none h k = omega arith
part_high (some t) h k = refs_high t h k

pub read_word : {z : ℤ} {n : ℕ} → z ≡ pos n → n ≤ most_nodes → up_to most_nodes z ≡ n
read_word {n} e h = ap (up_to most_nodes) e ∙ up_to_in most_nodes n h

module _ {w : Words} {plain : State} {held : Option (Held Item)} (b : Book w plain held) where
  pub live_most : length (part_leaves b.order) ≤ plain.capacity
  live_most = omega (arith, b.free.slots_used, b.capacity)

  pub capacity_most : plain.capacity ≤ most_slots
  capacity_most = omega (arith, b.capacity, cap_most w)

  -- the live count
  pub count_read : up_to most_nodes (word w live_count_word) ≡ length (part_leaves b.order)
  count_read = read_word b.in_order.live_count (omega (arith, live_most, capacity_most))

  -- the root of the offers
  pub offers_read : up_to most_nodes (word w offers_root_word) ≡ offers_ref held
  offers_read = read_word b.offers.offers_root (high held b.offers.offers_in)
    where
      high : (h : Option (Held Item)) → OffersIn w h → offers_ref h ≤ most_nodes
      high none o = omega arith
      high (some h) o = refs_high (held_shape h) (λ a m. o.slots.high m) (cap_most w)

  -- the root's envelope
  pub envelope_read : up_to most_nodes (word w envelope_root_word) ≡ envelope_ref held
  envelope_read = read_word b.offers.envelope_root (high held b.offers.offers_in)
    where
      high : (h : Option (Held Item)) → OffersIn w h → envelope_ref h ≤ most_nodes
      high none o = omega arith
      high (some h) o = part_high h.whole (λ a m. (held_slots o).high (Memᴰ.append_left (stored h.tree) m)) (cap_most w)

  -- the roots of the indexes
  pub numbers_read : up_to most_nodes (word w numbers_root_word) ≡ part_ref b.numbers.numbers
  numbers_read =
      read_word b.numbers.numbers_root
      (part_high b.numbers.numbers (λ a m. b.in_order.slots.high (b.numbers.numbers_in.all_live a m)) (cap_most w))

  pub order_read : up_to most_nodes (word w order_root_word) ≡ part_ref b.order
  order_read = read_word b.in_order.order_root (part_high b.order (λ a m. b.in_order.slots.high m) (cap_most w))
