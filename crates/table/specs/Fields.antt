-- The words of a part by name: the header's words, the fields of a slot, the trees, and the limits. The code's constants are these.
use Rattle.std.specs.Prelude.{ℕ}

-- ---- the header

abbrev pub capacity_word : ℕ
capacity_word = 0

abbrev pub offers_root_word : ℕ
offers_root_word = 1

abbrev pub envelope_root_word : ℕ
envelope_root_word = 2

abbrev pub live_count_word : ℕ
live_count_word = 3

abbrev pub numbers_root_word : ℕ
numbers_root_word = 4

abbrev pub first_free_word : ℕ
first_free_word = 5

abbrev pub order_root_word : ℕ
order_root_word = 6

-- the place in the memory of the last entry, and how many entries there are
abbrev pub last_entry_word : ℕ
last_entry_word = 7

abbrev pub remembered_word : ℕ
remembered_word = 8

-- ---- a slot's fields; a tree's children and heights are `childField` and `heightField` (Rep)

-- the offer; a free slot has the number 0
abbrev pub number_field : ℕ
number_field = 0

abbrev pub rate_field : ℕ
rate_field = 1

abbrev pub base_field : ℕ
base_field = 2

-- of a free slot
abbrev pub next_free_field : ℕ
next_free_field = 3

-- of a live slot, in the same place: the rank of its offer
abbrev pub rank_field : ℕ
rank_field = 3

-- the first of a piece's node: its two children, and then its crossing
abbrev pub piece_node_field : ℕ
piece_node_field = 4

-- the crossing with the next piece
abbrev pub numerator_field : ℕ
numerator_field = 6

abbrev pub denominator_field : ℕ
denominator_field = 7

-- of an inner node of the offers
abbrev pub bridge_left_field : ℕ
bridge_left_field = 10

abbrev pub bridge_right_field : ℕ
bridge_right_field = 11

abbrev pub next_piece_field : ℕ
next_piece_field = 19

-- the pieces that stay with an inner node, and with a leaf
abbrev pub inner_rest_field : ℕ
inner_rest_field = 20

abbrev pub leaf_rest_field : ℕ
leaf_rest_field = 21

-- ---- the trees

abbrev pub piece_tree : ℕ
piece_tree = 0

abbrev pub offer_tree : ℕ
offer_tree = 1

abbrev pub number_tree : ℕ
number_tree = 2

-- all live offers in order; the last of the trees
abbrev pub order_tree : ℕ
order_tree = 3

-- ---- limits

-- the most slots of a part: a node up to here is the leaf of that slot, one above it an inner node
abbrev pub most_slots : ℕ
most_slots = 4096

-- the highest number of a node; any link, height or count is read up to here
abbrev pub most_nodes : ℕ
most_nodes = 8192

-- no balanced tree of so many leaves is higher
abbrev pub most_levels : ℕ
most_levels = 24
