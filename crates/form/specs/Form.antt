-- The form of a book's part, and the plain book that it stands for. The words are those from `start` on; the part is their first 64 × (c + 1) + 1,024.
--     word 0   the capacity c            word 5   the first free slot
--     word 1   the root of the offers    word 6   the root of the order
--     word 2   the root's envelope       word 7   the place of the memory's last entry
--     word 3   the live count            word 8   how many entries it has
--     word 4   the root of the numbers
use Rattle.std.specs.Prelude.{◌≡◌, ◌≢◌, ℕ, ◌+◌, ◌≤◌, length, ℤ, pos}
use mathlib.Core.List.{List, map, Pairwise}
use Rattle.std.proofs.Math.Option.{Option, none, some}
use Rattle.lists.specs.Members.{Among}
use Rattle.lists.specs.Firsts.{firsts}
use Rattle.offers.specs.Offers.{Offer}
use Rattle.offers.specs.Ranks.{rank}
use Rattle.plain.specs.Book.{State}
use Rattle.trees.specs.Operations.{Part, part_leaves}
use Rattle.trees.specs.Balanced.{AvlP}
use Rattle.trees.specs.Order.{Falling}
use Rattle.dynamic.specs.OfferTree.{Held, held_shape}
use Rattle.dynamic.specs.Valid.{book_lines}
use Rattle.table.specs.Fields.{envelope_root_word, first_free_word, live_count_word, number_tree, numbers_root_word, offers_root_word, order_root_word, order_tree, rank_field}
use Rattle.table.specs.Words.{Words, word}
use Rattle.table.specs.Layout.{cap}
pub use Rattle.table.specs.Free.{head0, FreeChain, free_none, free_more}
use Rattle.table.specs.Items.{Item, Slots, offer_of}
use Rattle.table.specs.Rep.{ref_of}
use Rattle.table.specs.Threads.{Holds}
use Rattle.table.specs.Keys.{Keyed}
use Rattle.table.specs.PartTrees.{part_ref, TiedPart}
use Rattle.pieces.specs.Pieces.{items}
use Rattle.form.specs.Stored.{HeldIn}
use Rattle.form.specs.Memory.{Remembers}

-- ---- the offers

abbrev pub offers_ref : Option (Held Item) → ℕ
offers_ref none = 0
offers_ref (some h) = ref_of (held_shape h)

abbrev pub envelope_ref : Option (Held Item) → ℕ
envelope_ref none = 0
envelope_ref (some h) = part_ref h.whole

abbrev pub OffersIn : Words → Option (Held Item) → Type 0
OffersIn w none = Unit {0}
OffersIn w (some h) = HeldIn w (ref_of (held_shape h)) (part_ref h.whole) h

-- the header tells the tree of offers, and that tree stands there with its envelopes
pub record OffersStand (w : Words) (held : Option (Held Item)) : Type 0 where
  pub offers_root : word w offers_root_word ≡ pos (offers_ref held)
  pub envelope_root : word w envelope_root_word ≡ pos (envelope_ref held)
  pub offers_in : OffersIn w held

-- ---- the indexes: balanced trees of the live items by a falling key

pub record IndexIn (w : Words) (tree : ℕ) (key : Item → ℤ) (live : List Item) (index : Part Item) : Type 0 where
  pub tied : TiedPart w tree index
  pub balanced : AvlP index
  pub falling : Falling key (part_leaves index)
  pub all_live : Among (part_leaves index) live
  pub all_there : Among live (part_leaves index)

-- by number

abbrev pub number_of : Item → ℤ
number_of a = a.offer.number

pub record Numbered (w : Words) (live : List Item) : Type 0 where
  pub numbers : Part Item
  pub numbers_root : word w numbers_root_word ≡ pos (part_ref numbers)
  pub numbers_in : IndexIn w number_tree number_of live numbers

-- by rank, which falls along the order of offers: the leaves are the live items in order

abbrev pub rank_of : Item → ℤ
rank_of a = rank a.offer

-- the header tells the tree and its count, and every live slot holds its offer and its rank
pub record InOrder (w : Words) (order : Part Item) : Type 0 where
  pub order_root : word w order_root_word ≡ pos (part_ref order)
  pub live_count : word w live_count_word ≡ pos (length (part_leaves order))
  pub order_in : IndexIn w order_tree rank_of (part_leaves order) order
  pub slots : Slots (cap w) (part_leaves order)
  pub holds : Holds w (part_leaves order)
  pub ranked : Keyed w rank_field rank_of (part_leaves order)

-- ---- the free slots: a chain that repeats none, told beside n live ones

pub record Freely (w : Words) (n : ℕ) : Type 0 where
  pub free : List ℕ
  pub first_free : word w first_free_word ≡ pos (head0 free)
  pub free_chain : FreeChain w free
  pub free_apart : Pairwise (λ (a b : ℕ). a ≢ b) free
  pub slots_used : length free + n ≡ cap w

-- ---- the form

-- the plain list: the order's leaves hold exactly those offers, in order
abbrev pub plain_offers : Part Item → List Offer
plain_offers order = map offer_of (part_leaves order)

-- the tree of offers has a leaf per rate: the first of those that have it
abbrev pub LeafPerRate : Option (Held Item) → Part Item → Type 0
LeafPerRate held order = book_lines held ≡ firsts items.before (part_leaves order)

-- The part stands for this plain book's capacity and offers, with this tree of offers. Who only reads needs no more.
pub record Book (w : Words) (s : State) (held : Option (Held Item)) : Type 0 where
  pub capacity : cap w ≡ s.capacity
  pub some_slot : 1 ≤ s.capacity
  pub offers : OffersStand w held
  pub order : Part Item
  pub in_order : InOrder w order
  pub leaf_per_rate : LeafPerRate held order
  pub numbers : Numbered w (part_leaves order)
  pub free : Freely w (length (part_leaves order))
  pub stands_for : plain_offers order ≡ s.offers

-- The part has the form, and stands for this plain book: its offers, and what it remembers.
pub record Form (w : Words) (s : State) (held : Option (Held Item)) : Type 0 where
  pub book : Book w s held
  pub memory : Remembers w s

-- it stands for some plain book: what the check decides
abbrev pub FormStands : Words → Type 0
FormStands w = (s : State) × (held : Option (Held Item)) × Form w s held
