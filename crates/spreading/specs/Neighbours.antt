-- The leaf behind another one in a tree: the inner node kept in the slot of the one in front stands between the two, so it is the first on that node's right.
use Rattle.std.specs.Prelude.{◌≡◌, refl, ◌≢◌, true, false, ℕ, length}
use Rattle.std.proofs.Common.{sym, ◌∙◌, ap, arith, length-append}
use mathlib.Core.List.{List, [], ◌∷◌, ◌++◌, head-eq_of_cons-eq, tail-eq_of_cons-eq}
use Rattle.std.proofs.Math.Option.{none, some}
use Rattle.trees.specs.Tree.{Tree, leaf, node, leaves, first, last, Avl, avl_node}
use Rattle.trees.specs.Operations.{Part, part_leaves}
use Rattle.trees.specs.Balanced.{AvlP}
use Rattle.table.specs.Fields.{order_tree}
use Rattle.table.specs.Words.{Words}
use Rattle.table.specs.Layout.{link_at}
use Rattle.table.specs.Items.{Item, slot_of}
use Rattle.table.specs.Rep.{child_field, child_at, Rep, Inner, of_root, of_left, of_right, inner_last}
use Rattle.table.specs.Nodes.{parents}
use Rattle.table.specs.PartTrees.{RepP, rep_some}
use Rattle.descents.specs.Ends.{Ended, down}
use Rattle.levels.specs.RaisingModel.{last_of, first_of}

-- ---- two neighbours of a list that is put together

data Between (xs ys front : List Item) (a b : Item) (post : List Item) : Type 0 where
  both_left : (mid : List Item) → xs ≡ front ++ a ∷ b ∷ mid → Between xs ys front a b post
  across : xs ≡ front ++ a ∷ [] → ys ≡ b ∷ post → Between xs ys front a b post
  both_right : (front' : List Item) → ys ≡ front' ++ a ∷ b ∷ post → Between xs ys front a b post

between : (xs ys front : List Item) (a b : Item) (post : List Item) → xs ++ ys ≡ front ++ a ∷ b ∷ post → Between xs ys front a b post
between [] ys front a b post e = both_right front e
between (x ∷ []) ys [] a b post e = across (ap (λ (z : Item). z ∷ []) (head-eq_of_cons-eq e)) (tail-eq_of_cons-eq e)
between (x ∷ y ∷ xs) ys [] a b post e =
    both_left xs (ap (λ (z : Item). z ∷ y ∷ xs) (head-eq_of_cons-eq e) ∙ ap (λ (z : Item). a ∷ z ∷ xs) (head-eq_of_cons-eq (tail-eq_of_cons-eq e)))
between (x ∷ xs) ys (z ∷ front) a b post e = longer (head-eq_of_cons-eq e) (between xs ys front a b post (tail-eq_of_cons-eq e))
  where
    put : {us vs : List Item} → x ≡ z → us ≡ vs → x ∷ us ≡ z ∷ vs
    put {us} d k = ap (λ (i : Item). i ∷ us) d ∙ ap (λ (l : List Item). z ∷ l) k

    longer : x ≡ z → Between xs ys front a b post → Between (x ∷ xs) ys (z ∷ front) a b post
    longer d (both_left mid k) = both_left mid (put d k)
    longer d (across k h) = across (put d k) h
    longer d (both_right front' k) = both_right front' k

-- ---- two neighbours of a tree

-- the node kept in the slot of a has b first on its right
pub record Neighbour (w : Words) (k : ℕ) (t : Tree Item) (a b : Item) : Type 0 where
  pub right : Tree Item
  pub rep : Rep w k (link_at w (child_field k true) a.slot) right
  pub balanced : Avl right
  pub begins : first right ≡ b
  pub kept : Inner a.slot t

pub neighbour :
    {w : Words} {k x : ℕ} (t : Tree Item) → Rep w k x t → Avl t → (front : List Item) (a b : Item) (post : List Item) → leaves t ≡ front ++ a ∷ b ∷ post →
    Neighbour w k t a b
neighbour (leaf c) h v front a b post e = absurd (omega (arith, ap length e, length-append front (a ∷ b ∷ post)))
neighbour {w} {k} {x} (node l r) h (avl_node vl vr g d) front a b post e =
    go (between (leaves l) (leaves r) front a b post e) (neighbour {x = child_at w k false x} l (down false h refl) vl front a b)
    (λ f. neighbour {x = child_at w k true x} r (down true h refl) vr f a b post)
  where
    on_left : Neighbour w k l a b → Neighbour w k (node l r) a b
    on_left n = record { right = n.right; rep = n.rep; balanced = n.balanced; begins = n.begins; kept = of_left n.kept }

    on_right : Neighbour w k r a b → Neighbour w k (node l r) a b
    on_right n = record { right = n.right; rep = n.rep; balanced = n.balanced; begins = n.begins; kept = of_right n.kept }

    here : leaves l ≡ front ++ a ∷ [] → leaves r ≡ b ∷ post → Neighbour w k (node l r) a b
    here el er =
        let s : a.slot ≡ (last l).slot = ap slot_of (sym (last_of l front a el)) in
        record {
          right = r;
          rep = down true h (ap (link_at w (child_field k true)) (s ∙ sym (parents h).seam_at));
          balanced = vr;
          begins = first_of r b post er;
          kept = of_root s;
        }

    go : Between (leaves l) (leaves r) front a b post → ((mid : List Item) → leaves l ≡ front ++ a ∷ b ∷ mid → Neighbour w k l a b) →
        ((f : List Item) → leaves r ≡ f ++ a ∷ b ∷ post → Neighbour w k r a b) → Neighbour w k (node l r) a b
    go (both_left mid el) left right = on_left (left mid el)
    go (across el er) left right = here el er
    go (both_right f er) left right = on_right (right f er)

-- ---- as the code finds it

-- behind the leaf in slot s of the order, whose last one is in slot `last`, there is none, or y is the slot of the first one on the right of that node
pub data Behind (w : Words) (s last y : ℕ) : Type 0 where
  at_last : s ≡ last → y ≡ 0 → Behind w s last y
  on_its_right : {f z : ℕ} → s ≢ last → f ≡ child_field order_tree true → z ≡ link_at w f s → Ended w order_tree false z y → Behind w s last y

-- c is the slot of the head, and 0 where there is none
abbrev pub HeadSlot : ℕ → List Item → Type 0
HeadSlot c [] = c ≡ 0
HeadSlot c (x ∷ xs) = c ≡ x.slot

pub head_is :
    {w : Words} {root s end y : ℕ} (p : Part Item) → RepP w order_tree root p → AvlP p → Ended w order_tree true root end →
    (front : List Item) (a : Item) (post : List Item) → part_leaves p ≡ front ++ a ∷ post → s ≡ a.slot → Behind w s end y → HeadSlot y post
head_is none h v n front a post e es d = absurd (omega (arith, ap length e, length-append front (a ∷ post)))
head_is (some t) h v n front a [] e es (at_last k d) = d
head_is (some t) h v n front a [] e es (on_its_right k ef ez d) =
    absurd (k (es ∙ ap slot_of (sym (last_of t front a e)) ∙ sym (n.is t (rep_some h) v)))
head_is (some t) h v n front a (b ∷ post) e es (at_last k d) =
    absurd (inner_last h.slots (neighbour t (rep_some h) v front a b post e).kept (sym es ∙ k ∙ n.is t (rep_some h) v))
head_is {w} {s = s} (some t) h v n front a (b ∷ post) e es (on_its_right k ef ez d) =
    let m = neighbour t (rep_some h) v front a b post e in
    let z = ez ∙ ap (λ (f : ℕ). link_at w f s) ef ∙ ap (link_at w (child_field order_tree true)) es in
    d.is m.right (record { kind = m.rep.kind; root = z ∙ m.rep.root; slots = m.rep.slots; tied = m.rep.tied }) m.balanced
    ∙ ap slot_of m.begins
