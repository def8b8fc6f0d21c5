-- The trees' operations seen from a side, so that each serves its mirror image: with the side false they are those of crate `trees`,
-- with the side true their mirror images.
use Rattle.std.specs.Prelude.{◌≡◌, refl, Bool, true, false, not, cond, ◌++◌, leb}
use Rattle.std.proofs.Common.{sym, ◌∙◌, ap, append_assoc}
use Rattle.lists.specs.Bools.{cond_swap}
use Rattle.trees.specs.Tree.{Tree, leaf, node, height, leaves}
use Rattle.trees.specs.Operations.{towers, double_right, double_left, rotate_right, rotate_left, balance, join_r, join_l}
use Rattle.trees.specs.Leaves.{same_last}
use Rattle.trees.proofs.Leaves.{leaves_balance, leaves_join_r, leaves_join_l}
use Rattle.trees.specs.Mirror.{towers_apart}
use Rattle.table.specs.Items.{Item}
use Rattle.table.specs.Rep.{node_on, seam}

-- three trees in a row
abbrev pub row_on : Bool → Tree Item → Tree Item → Tree Item → Tree Item
row_on side p m q = node_on side p (node_on side m q)

abbrev pub double_on : Bool → Tree Item → Tree Item → Tree Item → Tree Item
double_on false p m q = double_right p m q
double_on true p m q = double_left q m p

abbrev pub rotate_on : Bool → Tree Item → Tree Item → Tree Item
rotate_on false p q = rotate_right p q
rotate_on true p q = rotate_left q p

abbrev pub balance_on : Bool → Tree Item → Tree Item → Tree Item
balance_on false p q = balance p q
balance_on true p q = balance q p

abbrev pub join_on : Bool → Tree Item → Tree Item → Tree Item
join_on false p q = join_r p q
join_on true p q = join_l q p

-- ---- the same trees

pub row_leaves : (side : Bool) (p m q : Tree Item) → leaves (node_on side (node_on side p m) q) ≡ leaves (row_on side p m q)
row_leaves false p m q = append_assoc (leaves p) (leaves m) (leaves q)
row_leaves true p m q = sym (append_assoc (leaves q) (leaves m) (leaves p))

pub four_leaves : (side : Bool) (p m n q : Tree Item) → leaves (row_on side p (node_on side m n) q) ≡ leaves (row_on side (node_on side p m) n q)
four_leaves false p m n q = simp append_assoc
four_leaves true p m n q = simp append_assoc

-- only leaves count
pub on_leaves : (side : Bool) (p s t : Tree Item) → leaves s ≡ leaves t → leaves (node_on side p s) ≡ leaves (node_on side p t)
on_leaves false p s t e = ap (λ l. leaves p ++ l) e
on_leaves true p s t e = ap (λ l. l ++ leaves p) e

pub other_way : (side : Bool) (p q : Tree Item) → node_on (not side) q p ≡ node_on side p q
other_way false p q = refl
other_way true p q = refl

pub seam_other : (side : Bool) (p q : Tree Item) → seam (not side) q p ≡ seam side p q
seam_other false p q = refl
seam_other true p q = refl

-- the seam of three trees in a row, between the first and the others, and between the first two and the last
pub seam_first : (side : Bool) (p m q : Tree Item) → seam side p (node_on side m q) ≡ seam side p m
seam_first false p m q = refl
seam_first true p m q = refl

pub seam_last : (side : Bool) (p m q : Tree Item) → seam side (node_on side p m) q ≡ seam side m q
seam_last false p m q = refl
seam_last true p m q = refl

-- ---- the operations' clauses

pub double_leaf : (side : Bool) (p : Tree Item) (a : Item) (q : Tree Item) → double_on side p (leaf a) q ≡ row_on side p (leaf a) q
unfolding double_right double_left
double_leaf false p a q = refl
double_leaf true p a q = refl

pub double_node : (side : Bool) (p m n q : Tree Item) → double_on side p (node_on side m n) q ≡ row_on side (node_on side p m) n q
unfolding double_right double_left
double_node false p m n q = refl
double_node true p m n q = refl

pub rotate_leaf : (side : Bool) (a : Item) (q : Tree Item) → rotate_on side (leaf a) q ≡ node_on side (leaf a) q
unfolding rotate_right rotate_left
rotate_leaf false a q = refl
rotate_leaf true a q = refl

pub rotate_node : (side : Bool) (p m q : Tree Item) → rotate_on side (node_on side p m) q ≡ cond (leb (height m) (height p)) (row_on side p m q)
    (double_on side p m q)
unfolding rotate_right rotate_left
rotate_node false p m q = refl
rotate_node true p m q = refl

pub balance_on_lem : (side : Bool) (p q : Tree Item) → balance_on side p q ≡ cond (towers p q) (rotate_on side p q)
    (cond (towers q p) (rotate_on (not side) q p) (node_on side p q))
unfolding balance
balance_on_lem false p q = refl
balance_on_lem true p q = cond_swap (towers q p) (towers p q) (rotate_right q p) (rotate_left q p) (node q p) (towers_apart q p)

pub join_leaf : (side : Bool) (a : Item) (q : Tree Item) → join_on side (leaf a) q ≡ node_on side (leaf a) q
unfolding join_r join_l
join_leaf false a q = refl
join_leaf true a q = refl

pub join_node : (side : Bool) (p m q : Tree Item) → join_on side (node_on side p m) q ≡ cond (towers (node_on side p m) q) (balance_on side p (join_on side m q))
    (node_on side (node_on side p m) q)
unfolding join_r join_l
join_node false p m q = refl
join_node true p m q = refl

-- a tree that does not tower is joined at its root
pub join_low : (side : Bool) (p q : Tree Item) → towers p q ≡ false → join_on side p q ≡ node_on side p q
join_low side (leaf a) q e = join_leaf side a q
join_low false (node l r) q e = join_node false l r q ∙ rw e
join_low true (node l r) q e = join_node true r l q ∙ rw e

-- ---- leaves, and the last of them

pub balance_leaves : (side : Bool) (p q : Tree Item) → leaves (balance_on side p q) ≡ leaves (node_on side p q)
balance_leaves false p q = leaves_balance p q
balance_leaves true p q = leaves_balance q p

pub join_leaves : (side : Bool) (p q : Tree Item) → leaves (join_on side p q) ≡ leaves (node_on side p q)
join_leaves false p q = leaves_join_r p q
join_leaves true p q = leaves_join_l q p

pub seam_join : (side : Bool) (p m q : Tree Item) → seam side p (join_on side m q) ≡ seam side p m
seam_join false p m q = refl
seam_join true p m q = same_last (join_l q m) (node q m) (leaves_join_l q m)
