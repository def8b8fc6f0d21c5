-- A leaf added on the way to a key: the way goes right of every leaf whose key is `least` or more, and no node above changes its seam.
use Rattle.std.specs.Prelude.{◌≡◌, Bool, true, false, not, [], ◌∷◌, ◌++◌, ℕ, ◌-◌, ◌≤◌, ◌<◌, T, ℤ}
use Rattle.std.proofs.Common.{sym, ◌∙◌, ap, subst, arith}
use Rattle.std.proofs.Math.Option.{some}
use Rattle.std.specs.Int.Signed.{le_z}
use Rattle.trees.specs.Tree.{Tree, leaf, node, height, leaves, last, Avl, avl_leaf, avl_node}
use Rattle.trees.specs.Operations.{join, add}
use Rattle.trees.specs.TreeSteps.{add_behind, add_before, add_right, add_left}
use Rattle.trees.proofs.Leaves.{leaves_join}
use Rattle.trees.proofs.Add.{add_avl, add_last}
use Rattle.table.specs.Fields.{most_slots}
use Rattle.table.specs.Words.{Words}
use Rattle.table.specs.Layout.{cap, cell}
use Rattle.table.specs.Items.{Item, In, Slots, in_left, in_right, slots_left, slots_right, slots_across}
use Rattle.table.specs.Rep.{child_at, Within, within_cap, within_refl, within_trans, only_trans, only_more}
use Rattle.table.specs.Nodes.{parents, leaf_low, node_high}
use Rattle.table.specs.PartTrees.{RepP, rep_p_leaf, rep_some, MadeP, left_child, right_child, rep_p_still}
use Rattle.table.specs.Keys.{Keyed, keyed_left, keyed_right}
use Rattle.shape.specs.JoinSteps.{Merged}
use Rattle.descents.specs.Cuts.{from, leaf_test, seam_test}
use Rattle.index.specs.Trees.{joined}

-- a tree with root x gets the leaf of slot s, and then has root y
abbrev Grows : (tree field : ℕ) (least : ℤ) (s x limit : ℕ) (w w' : Words) (y : ℕ) → Tree Item → Type 0
Grows tree field least s x limit w w' y t =
    (key : Item → ℤ) (a : Item) → RepP w tree x (some t) → s ≡ a.slot → Slots (cap w) (leaves (add (from key least) a t)) → Avl t → height t ≤ limit →
    Keyed w field key (leaves t) → MadeP tree w w' y (some (add (from key least) a t))

pub record Grown (tree field : ℕ) (least : ℤ) (s x limit : ℕ) (w w' : Words) (y : ℕ) : Type 0 where
  pub within : Within w w'
  pub made : (t : Tree Item) → Grows tree field least s x limit w w' y t

-- of a tree that is what a join makes
made_is : {tree y : ℕ} {w w' : Words} {t u : Tree Item} → u ≡ t → MadeP tree w w' y (some t) → MadeP tree w w' y (some u)
made_is {tree} {y} {w} {w'} e = subst (λ (v : Tree Item). MadeP tree w w' y (some v)) (sym e)

both_slots : {c : ℕ} {u : Tree Item} (s t : Tree Item) → u ≡ join s t → Slots c (leaves u) → Slots c (leaves s ++ leaves t)
both_slots {c} s t e = subst (Slots c) (ap leaves e ∙ leaves_join s t)

-- ---- at a leaf

module _ {tree field s x limit y : ℕ} {b : Bool} {w w' : Words} (least : ℤ) (low : x ≤ most_slots) (eb : b ≡ le_z least (cell w field x)) where
  at_leaf : Within w w' → ((i : Item) → Grows tree field least s x limit w w' y (leaf i)) → Grown tree field least s x limit w w' y
  at_leaf g step = record { within = g; made = made }
    where
      made : (t : Tree Item) → Grows tree field least s x limit w w' y t
      made (leaf i) = step i
      made (node l t) = λ key a r es k v n q. absurd (omega (arith, low, node_high (rep_some r)))

  -- behind it
  pub grown_behind : b ≡ true → Merged tree x x s w w' y → Grown tree field least s x limit w w' y
  grown_behind e j = at_leaf j.within step
    where
      step : (i : Item) → Grows tree field least s x limit w w' y (leaf i)
      step i key a r es k v n q =
          made_is is (joined j r.root (record {
            left = r;
            right = rep_p_leaf r.kind es (slots_right (i ∷ []) two);
            slots = two;
            balanced_left = avl_leaf;
            balanced_right = avl_leaf;
          }))
        where
          is : add (from key least) a (leaf i) ≡ join (leaf i) (leaf a)
          is = add_behind (from key least) a i (subst T (sym e ∙ leaf_test least eb r q) tt)

          two : Slots (cap w) (i ∷ a ∷ [])
          two = both_slots (leaf i) (leaf a) is k

  -- in front of it
  pub grown_before : b ≡ false → Merged tree s s x w w' y → Grown tree field least s x limit w w' y
  grown_before e j = at_leaf j.within step
    where
      step : (i : Item) → Grows tree field least s x limit w w' y (leaf i)
      step i key a r es k v n q =
          made_is is (joined j es (record {
            left = rep_p_leaf r.kind es (slots_left (i ∷ []) two);
            right = r;
            slots = two;
            balanced_left = avl_leaf;
            balanced_right = avl_leaf;
          }))
        where
          is : add (from key least) a (leaf i) ≡ join (leaf a) (leaf i)
          is = add_before (from key least) a i (subst (λ d. T (not d)) (sym e ∙ leaf_test least eb r q) tt)

          two : Slots (cap w) (a ∷ i ∷ [])
          two = both_slots (leaf a) (leaf i) is k

-- ---- at an inner node

at_node : {tree field s x limit y : ℕ} {w w' : Words} (least : ℤ) → most_slots < x → Within w w' →
    ((l t : Tree Item) → Grows tree field least s x limit w w' y (node l t)) → Grown tree field least s x limit w w' y
at_node {tree} {field} {s} {x} {limit} {y} {w} {w'} least h g step = record { within = g; made = made }
  where
    made : (t : Tree Item) → Grows tree field least s x limit w w' y t
    made (leaf i) = λ key a r es k v n q. absurd (omega (arith, h, leaf_low (rep_some r)))
    made (node l t) = step l t

-- the limit is used up
pub grown_over : {tree field s x limit y : ℕ} {w : Words} (least : ℤ) → most_slots < x → limit ≡ 0 → Grown tree field least s x limit w w y
grown_over {w} least h e = at_node least h (within_refl w) (λ l t key a r i k v n q. absurd (omega (arith, n, e)))

module _ {tree field s x limit g l r y z : ℕ} {b : Bool} {w w₁ w₂ : Words} (least : ℤ) (inner : most_slots < x) (eg : g ≡ x - most_slots)
    (eb : b ≡ le_z least (cell w field g)) (el : l ≡ child_at w tree false x) (er : r ≡ child_at w tree true x) where
  pub grown_right : b ≡ true → Grown tree field least s r (limit - 1) w w₁ y → Merged tree g l y w₁ w₂ z → Grown tree field least s x limit w w₂ z
  grown_right e rec j = at_node least inner (within_trans rec.within j.within) step
    where
      step : (p t : Tree Item) → Grows tree field least s x limit w w₂ z (node p t)
      step p t key a rep es k (avl_node a₁ a₂ h₁ h₂) n q =
          made_is is (record {
            rep = m.rep;
            only = only_trans (only_more (λ i v. subst (In i) (sym (leaves_join p u)) (in_right (leaves p) v)) c.only) m.only;
          })
        where
          u : Tree Item
          u = add (from key least) a t

          is : add (from key least) a (node p t) ≡ join p u
          is = add_right (from key least) a p t (subst T (sym e ∙ seam_test least eg eb rep q) tt)

          both : Slots (cap w) (leaves p ++ leaves u)
          both = both_slots p u is k

          c : MadeP tree w w₁ y (some u)
          c = rec.made t key a (right_child er rep) es (slots_right (leaves p) both) a₂ (omega (arith, n)) (keyed_right (leaves p) q)

          m : MadeP tree w₁ w₂ z (some (join p u))
          m = joined j (eg ∙ (parents (rep_some rep)).seam_at) (record {
            left = rep_p_still (some p) (left_child el rep) rec.within c.only (λ i v f. slots_across (leaves p) both f v);
            right = c.rep;
            slots = rw (within_cap rec.within) both;
            balanced_left = a₁;
            balanced_right = add_avl (from key least) a a₂;
          })

  pub grown_left : b ≡ false → Grown tree field least s l (limit - 1) w w₁ y → Merged tree g y r w₁ w₂ z → Grown tree field least s x limit w w₂ z
  grown_left e rec j = at_node least inner (within_trans rec.within j.within) step
    where
      step : (p t : Tree Item) → Grows tree field least s x limit w w₂ z (node p t)
      step p t key a rep es k (avl_node a₁ a₂ h₁ h₂) n q =
          made_is is (record {
            rep = m.rep;
            only = only_trans (only_more (λ i v. subst (In i) (sym (leaves_join u t)) (in_left (leaves t) v)) c.only) m.only;
          })
        where
          u : Tree Item
          u = add (from key least) a p

          fails : T (not (from key least (last p)))
          fails = subst (λ d. T (not d)) (sym e ∙ seam_test least eg eb rep q) tt

          is : add (from key least) a (node p t) ≡ join u t
          is = add_left (from key least) a p t fails

          both : Slots (cap w) (leaves u ++ leaves t)
          both = both_slots u t is k

          c : MadeP tree w w₁ y (some u)
          c = rec.made p key a (left_child el rep) es (slots_left (leaves t) both) a₁ (omega (arith, n)) (keyed_left (leaves t) q)

          -- the seam is the last leaf on the left, as before
          seam : g ≡ (last u).slot
          seam = eg ∙ (parents (rep_some rep)).seam_at ∙ ap (λ (i : Item). i.slot) (sym (add_last (from key least) a p fails))

          m : MadeP tree w₁ w₂ z (some (join u t))
          m = joined j seam (record {
            left = c.rep;
            right = rep_p_still (some t) (right_child er rep) rec.within c.only (λ i v f. slots_across (leaves u) both v f);
            slots = rw (within_cap rec.within) both;
            balanced_left = add_avl (from key least) a a₁;
            balanced_right = a₂;
          })
