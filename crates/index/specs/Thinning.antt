-- A leaf dropped on the way to a key: the way goes right of every leaf whose key is `least` or more.
use Rattle.std.specs.Prelude.{◌≡◌, ◌≢◌, Bool, true, false, not, ℕ, ◌-◌, ◌≤◌, ◌<◌, T, ℤ, pos, ◌+ℤ◌}
use Rattle.std.proofs.Common.{sym, ◌∙◌, subst, ⊎_elim, arith}
use mathlib.Core.List.Memᴰ
use mathlib.Core.List.{List, [], ◌∷◌, ◌++◌, Memᴰ}
use mathlib.Core.List.Sublistᴰ
use mathlib.Core.List.{Sublistᴰ}
use Rattle.std.proofs.Math.Option.{none, some}
use Rattle.std.specs.Int.Signed.{le_z}
use Rattle.lists.specs.Places.{sublist_mem}
use Rattle.integers.specs.Parts.{int_rules, add_parts}
use Rattle.trees.specs.Tree.{Tree, leaf, node, height, leaves, last, Avl, avl_node}
use Rattle.trees.specs.Leaves.{last_leaf}
use Rattle.trees.proofs.Leaves.{leaves_join_p}
use Rattle.trees.specs.Operations.{Part, part_leaves, part_height, join_p}
use Rattle.trees.specs.Balanced.{AvlP}
use Rattle.trees.proofs.Balanced.{near_join_p}
use Rattle.trees.specs.Order.{Falling, parted, last_lowest}
use Rattle.table.specs.Fields.{most_slots}
use Rattle.table.specs.Words.{Words}
use Rattle.table.specs.Layout.{cell}
use Rattle.table.specs.Items.{Item, In, in_left, in_right, slots_across, slots_sublist}
use Rattle.table.specs.Rep.{child_at, Within, within_cap, within_refl, within_trans, Only, only_refl, only_trans, only_more}
use Rattle.table.specs.Nodes.{parents, leaf_low, node_high}
use Rattle.table.specs.PartTrees.{RepP, rep_p_none, rep_some, MadeP, left_child, right_child, rep_p_still, seam_left}
use Rattle.table.specs.Keys.{Keyed, keyed_left, keyed_right}
use Rattle.shape.specs.JoinSteps.{Merged}
use Rattle.descents.specs.Cuts.{seam_test}
use Rattle.descents.specs.Ends.{Ended}
use Rattle.index.specs.Trees.{among_in, seam_end, joined}

-- what is left of p, with root y: fewer leaves in the same order; of an item just below `least`, none but it is gone
pub record Thin (tree : ℕ) (key : Item → ℤ) (least : ℤ) (w w' : Words) (y : ℕ) (p : Part Item) : Type 0 where
  pub left : Part Item
  pub rep : RepP w' tree y left
  pub balanced : AvlP left
  pub only : Only tree (part_leaves p) w w'
  pub fewer : Sublistᴰ (part_leaves left) (part_leaves p)
  pub gone : Falling key (part_leaves p) → (a : Item) → Memᴰ a (part_leaves p) → key a +ℤ pos 1 ≡ least → (b : Item) →
      Memᴰ b (part_leaves left) → b ≢ a
  pub kept : Falling key (part_leaves p) → (a : Item) → Memᴰ a (part_leaves p) → key a +ℤ pos 1 ≡ least → (b : Item) →
      Memᴰ b (part_leaves p) → b ≢ a → Memᴰ b (part_leaves left)

pub record Thinned (tree field : ℕ) (least : ℤ) (x limit : ℕ) (w w' : Words) (y : ℕ) : Type 0 where
  pub within : Within w w'
  pub made : (p : Part Item) (key : Item → ℤ) → RepP w tree x p → AvlP p → part_height p ≤ limit → Keyed w field key (part_leaves p) →
      Thin tree key least w w' y p

-- ---- a leaf, or nothing

pub thinned_leaf : {tree field x limit : ℕ} {w : Words} (least : ℤ) → x ≤ most_slots → Thinned tree field least x limit w w 0
thinned_leaf {tree} {field} {x} {limit} {w} least h = record { within = within_refl w; made = made }
  where
    made : (p : Part Item) (key : Item → ℤ) → RepP w tree x p → AvlP p → part_height p ≤ limit → Keyed w field key (part_leaves p) →
        Thin tree key least w w 0 p
    made none key r a n k = record {
      left = none;
      rep = rep_p_none r.kind;
      balanced = tt;
      only = only_refl tree [] w;
      fewer = Sublistᴰ.refl [];
      gone = λ f a m. elim m [ ];
      kept = λ f a m. elim m [ ];
    }
    made (some (leaf i)) key r a n k =
        record {
          left = none;
          rep = rep_p_none r.kind;
          balanced = tt;
          only = only_refl tree (i ∷ []) w;
          fewer = Sublistᴰ.nil-sublist (i ∷ []);
          gone =
              λ f a m e b z. elim z [ ];
          kept = λ f a m e b z d. absurd (d (Memᴰ.eq_of_singleton z ∙ sym (Memᴰ.eq_of_singleton m)));
        }
    made (some (node s t)) key r a n k = absurd (omega (arith, h, node_high (rep_some r)))

-- only an inner node has such a number
at_node : {tree field x limit y : ℕ} {w w' : Words} (least : ℤ) → most_slots < x → Within w w'
    → ((s t : Tree Item) (key : Item → ℤ) → RepP w tree x (some (node s t)) → Avl (node s t) → height (node s t) ≤ limit →
    Keyed w field key (leaves s ++ leaves t) → Thin tree key least w w' y (some (node s t)))
    → Thinned tree field least x limit w w' y
at_node {tree} {field} {x} {limit} {y} {w} {w'} least h g step = record { within = g; made = made }
  where
    made : (p : Part Item) (key : Item → ℤ) → RepP w tree x p → AvlP p → part_height p ≤ limit → Keyed w field key (part_leaves p) →
        Thin tree key least w w' y p
    made none key r a n k = absurd (omega (arith, h, r.root))
    made (some (leaf i)) key r a n k = absurd (omega (arith, h, leaf_low (rep_some r)))
    made (some (node s t)) key r a n k = step s t key r a n k

pub thinned_over : {tree field x limit : ℕ} {w : Words} (least : ℤ) → most_slots < x → limit ≡ 0 → Thinned tree field least x limit w w 0
thinned_over {w} least h e = at_node least h (within_refl w) (λ s t key r a n k. absurd (omega (arith, n, e)))

-- ---- a child is thinned

fewer_in : {xs ys : List Item} → Sublistᴰ xs ys → (s : ℕ) → In s xs → In s ys
fewer_in l = among_in (λ a m. sublist_mem l m)

module _ {tree field x limit g l r y z : ℕ} {b : Bool} {w w₁ w₂ : Words} (least : ℤ) (inner : most_slots < x) (eg : g ≡ x - most_slots)
    (eb : b ≡ le_z least (cell w field g)) (el : l ≡ child_at w tree false x) (er : r ≡ child_at w tree true x) where
  pub thinned_right : b ≡ true → Thinned tree field least r (limit - 1) w w₁ y → Merged tree g l y w₁ w₂ z → Thinned tree field least x limit w w₂ z
  thinned_right e rec j = at_node least inner (within_trans rec.within j.within) step
    where
      step : (s t : Tree Item) (key : Item → ℤ) → RepP w tree x (some (node s t)) → Avl (node s t) → height (node s t) ≤ limit →
          Keyed w field key (leaves s ++ leaves t) → Thin tree key least w w₂ z (some (node s t))
      step s t key rep (avl_node a₁ a₂ h₁ h₂) n q =
          record {
            left = join_p (some s) c.left;
            rep = m.rep;
            balanced = (near_join_p (some s) c.left a₁ c.balanced).avl;
            only = only_trans (only_more (λ i v. in_right (leaves s) v) c.only) (only_more (λ i v. fewer_in fewer i v) m.only);
            fewer = fewer;
            gone = λ f a i d v k. gone f a i d v (rw (← same) k);
            kept = λ f a i d v k h. rw same (kept f a i d v k h);
          }
        where
          c : Thin tree key least w w₁ y (some t)
          c = rec.made (some t) key (right_child er rep) a₂ (omega (arith, n)) (keyed_right (leaves s) q)

          same : part_leaves (join_p (some s) c.left) ≡ leaves s ++ part_leaves c.left
          same = leaves_join_p (some s) c.left

          fewer_both : Sublistᴰ (leaves s ++ part_leaves c.left) (leaves s ++ leaves t)
          fewer_both = Sublistᴰ.append (Sublistᴰ.refl (leaves s)) c.fewer

          fewer : Sublistᴰ (part_leaves (join_p (some s) c.left)) (leaves s ++ leaves t)
          fewer = rw same fewer_both

          m : MadeP tree w₁ w₂ z (join_p (some s) c.left)
          m =
              joined j (seam_left g s c.left (eg ∙ (parents (rep_some rep)).seam_at))
              (record {
                left = rep_p_still (some s) (left_child el rep) rec.within c.only (λ i u v. slots_across (leaves s) rep.slots v u);
                right = c.rep;
                slots = rw (within_cap rec.within) (slots_sublist fewer_both rep.slots);
                balanced_left = a₁;
                balanced_right = c.balanced;
              })

          passes : T (le_z least (key (last s)))
          passes = subst T (sym e ∙ seam_test least eg eb rep q) tt

          -- the item is not in front of the seam
          behind : Falling key (leaves s ++ leaves t) → (a : Item) → key a +ℤ pos 1 ≡ least → Memᴰ a (leaves s) → ⊥
          behind f a d i =
              let low = last_lowest key s (parted (leaves s) f).left i in
              let z = passes in
              omega (arith, int_rules, add_parts (key a) (pos 1))

          there : Falling key (leaves s ++ leaves t) → (a : Item) → key a +ℤ pos 1 ≡ least → Memᴰ a (leaves s ++ leaves t) →
              Memᴰ a (leaves t)
          there f a d i = ⊎_elim (λ j. absurd (behind f a d j)) (λ j. j) (Memᴰ.append_cases (leaves s) i)

          gone : Falling key (leaves s ++ leaves t) → (a : Item) → Memᴰ a (leaves s ++ leaves t) → key a +ℤ pos 1 ≡ least → (v : Item) →
              Memᴰ v (leaves s ++ part_leaves c.left) → v ≢ a
          gone f a i d v k h =
              ⊎_elim (λ j. behind f a d (subst (λ (u : Item). Memᴰ u (leaves s)) h j)) (λ j. c.gone (parted (leaves s) f).right a (there f a d i) d v
              j h) (Memᴰ.append_cases (leaves s) k)

          kept : Falling key (leaves s ++ leaves t) → (a : Item) → Memᴰ a (leaves s ++ leaves t) → key a +ℤ pos 1 ≡ least → (v : Item) →
              Memᴰ v (leaves s ++ leaves t) → v ≢ a → Memᴰ v (leaves s ++ part_leaves c.left)
          kept f a i d v k h =
              ⊎_elim (λ j. Memᴰ.append_left (part_leaves c.left) j)
              (λ j. Memᴰ.append_right (leaves s) (c.kept (parted (leaves s) f).right a (there f a d i) d v j h)) (Memᴰ.append_cases (leaves s) k)

  pub thinned_left : {p : ℕ} → b ≡ false → Thinned tree field least l (limit - 1) w w₁ y → Ended w₁ tree true y p → Merged tree p y r w₁ w₂ z →
      Thinned tree field least x limit w w₂ z
  thinned_left {p} e rec end j = at_node least inner (within_trans rec.within j.within) step
    where
      step : (s t : Tree Item) (key : Item → ℤ) → RepP w tree x (some (node s t)) → Avl (node s t) → height (node s t) ≤ limit →
          Keyed w field key (leaves s ++ leaves t) → Thin tree key least w w₂ z (some (node s t))
      step s t key rep (avl_node a₁ a₂ h₁ h₂) n q =
          record {
            left = join_p c.left (some t);
            rep = m.rep;
            balanced = (near_join_p c.left (some t) c.balanced a₂).avl;
            only = only_trans (only_more (λ i v. in_left (leaves t) v) c.only) (only_more (λ i v. fewer_in fewer i v) m.only);
            fewer = fewer;
            gone = λ f a i d v k. gone f a i d v (rw (← same) k);
            kept = λ f a i d v k h. rw same (kept f a i d v k h);
          }
        where
          c : Thin tree key least w w₁ y (some s)
          c = rec.made (some s) key (left_child el rep) a₁ (omega (arith, n)) (keyed_left (leaves t) q)

          same : part_leaves (join_p c.left (some t)) ≡ part_leaves c.left ++ leaves t
          same = leaves_join_p c.left (some t)

          fewer_both : Sublistᴰ (part_leaves c.left ++ leaves t) (leaves s ++ leaves t)
          fewer_both = Sublistᴰ.append c.fewer (Sublistᴰ.refl (leaves t))

          fewer : Sublistᴰ (part_leaves (join_p c.left (some t))) (leaves s ++ leaves t)
          fewer = rw same fewer_both

          m : MadeP tree w₁ w₂ z (join_p c.left (some t))
          m =
              joined j (seam_end c.left (some t) end c.rep c.balanced)
              (record {
                left = c.rep;
                right = rep_p_still (some t) (right_child er rep) rec.within c.only (λ i u v. slots_across (leaves s) rep.slots u v);
                slots = rw (within_cap rec.within) (slots_sublist fewer_both rep.slots);
                balanced_left = c.balanced;
                balanced_right = a₂;
              })

          fails : T (not (le_z least (key (last s))))
          fails = subst (λ d. T (not d)) (sym e ∙ seam_test least eg eb rep q) tt

          -- the item is not behind the seam
          before : Falling key (leaves s ++ leaves t) → (a : Item) → key a +ℤ pos 1 ≡ least → Memᴰ a (leaves t) → ⊥
          before f a d i =
              let low = (parted (leaves s) f).across (last_leaf s) i in
              let z = fails in
              omega (arith, int_rules, add_parts (key a) (pos 1))

          there : Falling key (leaves s ++ leaves t) → (a : Item) → key a +ℤ pos 1 ≡ least → Memᴰ a (leaves s ++ leaves t) →
              Memᴰ a (leaves s)
          there f a d i = ⊎_elim (λ j. j) (λ j. absurd (before f a d j)) (Memᴰ.append_cases (leaves s) i)

          gone : Falling key (leaves s ++ leaves t) → (a : Item) → Memᴰ a (leaves s ++ leaves t) → key a +ℤ pos 1 ≡ least → (v : Item) →
              Memᴰ v (part_leaves c.left ++ leaves t) → v ≢ a
          gone f a i d v k h =
              ⊎_elim (λ j. c.gone (parted (leaves s) f).left a (there f a d i) d v j h)
              (λ j. before f a d (subst (λ (u : Item). Memᴰ u (leaves t)) h j)) (Memᴰ.append_cases (part_leaves c.left) k)

          kept : Falling key (leaves s ++ leaves t) → (a : Item) → Memᴰ a (leaves s ++ leaves t) → key a +ℤ pos 1 ≡ least → (v : Item) →
              Memᴰ v (leaves s ++ leaves t) → v ≢ a → Memᴰ v (part_leaves c.left ++ leaves t)
          kept f a i d v k h =
              ⊎_elim (λ j. Memᴰ.append_left (leaves t) (c.kept (parted (leaves s) f).left a (there f a d i) d v j h))
              (λ j. Memᴰ.append_right (part_leaves c.left) j) (Memᴰ.append_cases (leaves s) k)
