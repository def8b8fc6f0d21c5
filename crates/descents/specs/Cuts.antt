-- A cut, as steps on words.
use Rattle.std.specs.Prelude.{◌≡◌, refl, ◌≢◌, true, false, cond, not, List, [], ◌∷◌, ◌++◌, ℕ, ◌-◌, ◌≤◌, ◌<◌, T, ℤ}
use Rattle.std.proofs.Common.{sym, ◌∙◌, ap, subst₂, append_assoc, arith}
use Rattle.std.proofs.Math.Path.{subst}
use Rattle.std.proofs.Math.Bool.{Bool}
use Rattle.std.proofs.Math.Option.{none, some}
use mathlib.Core.List.Memᴰ
use Rattle.std.specs.Int.Signed.{le_z}
use Rattle.trees.specs.Tree.{Tree, leaf, node, height, leaves, last, Avl, avl_node}
use Rattle.trees.specs.Operations.{Part, Cut, part_leaves, part_height, join_p, split, split_p, all_front, all_back, after_left, before_right}
use Rattle.trees.specs.Leaves.{last_leaf, same_last}
use Rattle.trees.proofs.Leaves.{leaves_join_p}
use Rattle.trees.specs.Balanced.{AvlP}
use Rattle.trees.proofs.Split.{split_leaves, split_low}
use Rattle.trees.specs.TreeSteps.{split_right, split_left}
use Rattle.table.specs.Fields.{most_nodes, most_slots}
use Rattle.table.specs.Words.{Words, up_to}
use Rattle.table.specs.Layout.{cap, cell}
use Rattle.table.specs.Items.{Item, In, at, in_left, in_right, Slots, slots_left, slots_right, slots_across}
use Rattle.table.specs.Rep.{child_field, child_at, Within, within_cap, within_refl, within_trans, Only, only_refl, only_trans, only_more, tied_still, inner_in}
use Rattle.table.specs.Nodes.{Parents, parents, leaf_low, node_high, ref_low}
use Rattle.table.specs.PartTrees.{RepP, rep_p_none, rep_some, MadeP, left_child, right_child, rep_p_still, PairP, Seam, seam_left}
use Rattle.table.specs.Keys.{Keyed, keyed_left, keyed_right}
use Rattle.shape.specs.JoinSteps.{Merged}
use Rattle.descents.specs.Whole.{Whole, split_whole, not_left, not_right}

-- the parts of a cut of xs, with roots x and y; nothing but nodes of xs was written, and nothing at all where a part is empty
pub record Halved (k : ℕ) (w w' : Words) (x y : ℕ) (xs : List Item) (c : Cut Item) : Type 0 where
  pub front : RepP w' k x c.front
  pub back : RepP w' k y c.back
  pub only : Only k xs w w'
  pub all_front : c.back ≡ none → w' ≡ w
  pub all_back : c.front ≡ none → w' ≡ w

-- the leaves whose key is at least a number
abbrev pub from : (Item → ℤ) → ℤ → Item → Bool
from key least a = le_z least (key a)

pub record Halving (k f : ℕ) (least : ℤ) (x limit : ℕ) (w w' : Words) (y z : ℕ) : Type 0 where
  pub within : Within w w'
  pub made : (p : Part Item) (key : Item → ℤ) → RepP w k x p → AvlP p → part_height p ≤ limit → Keyed w f key (part_leaves p)
      → Halved k w w' y z (part_leaves p) (split_p (from key least) p)

-- a capacity that is known stays known
pub still_known : {c : ℕ} {w w' : Words} → c ≡ cap w → Within w w' → c ≡ cap w'
still_known e h = e ∙ sym (within_cap h)

-- ---- what the test tells of a leaf, and of the seam

pub leaf_test : {w : Words} {k f x : ℕ} {b : Bool} {i : Item} {key : Item → ℤ} (least : ℤ) → b ≡ le_z least (cell w f x) →
    RepP w k x (some (leaf i)) → Keyed w f key (i ∷ []) → b ≡ from key least i
leaf_test {w} {f} least eb r q = eb ∙ ap (le_z least) (ap (cell w f) r.root ∙ q.read (Memᴰ.head refl))

pub seam_test : {w : Words} {k f x g : ℕ} {b : Bool} {s t : Tree Item} {key : Item → ℤ} (least : ℤ) → g ≡ x - most_slots → b ≡ le_z least (cell w f g) →
    RepP w k x (some (node s t)) → Keyed w f key (leaves s ++ leaves t) → b ≡ from key least (last s)
seam_test {w} {f} {s} {t} least eg eb rep q =
    eb ∙ ap (le_z least) (ap (cell w f) (eg ∙ (parents (rep_some rep)).seam_at) ∙ q.read (Memᴰ.append_left (leaves t) (last_leaf s)))

-- ---- a leaf, or nothing

pub halved_leaf : {k f x limit : ℕ} {b : Bool} {w : Words} (least : ℤ) (d : Bool) → x ≤ most_slots → b ≡ le_z least (cell w f x) → b ≡ d →
    Halving k f least x limit w w (cond d x 0) (cond d 0 x)
unfolding split split_p
halved_leaf {k} {f} {x} {limit} {b} {w} least d h e g = record { within = within_refl w; made = made }
  where
    nothing : (d : Bool) → RepP w k x none → Halved k w w (cond d x 0) (cond d 0 x) [] (record { front = none; back = none })
    nothing true r = record { front = r; back = rep_p_none r.kind; only = only_refl k [] w; all_front = λ e. refl; all_back = λ e. refl }
    nothing false r = record { front = rep_p_none r.kind; back = r; only = only_refl k [] w; all_front = λ e. refl; all_back = λ e. refl }

    one : (d : Bool) (i : Item) → RepP w k x (some (leaf i)) → Halved k w w (cond d x 0) (cond d 0 x) (i ∷ []) (cond d (all_front (leaf i)) (all_back (leaf i)))
    one true i r = record { front = r; back = rep_p_none r.kind; only = only_refl k (i ∷ []) w; all_front = λ e. refl; all_back = λ e. refl }
    one false i r = record { front = rep_p_none r.kind; back = r; only = only_refl k (i ∷ []) w; all_front = λ e. refl; all_back = λ e. refl }

    made : (p : Part Item) (key : Item → ℤ) → RepP w k x p → AvlP p → part_height p ≤ limit → Keyed w f key (part_leaves p) →
        Halved k w w (cond d x 0) (cond d 0 x) (part_leaves p) (split_p (from key least) p)
    made none key r a n q = nothing d r
    made (some (leaf i)) key r a n q = subst (λ c. Halved k w w (cond d x 0) (cond d 0 x) (i ∷ []) (cond c (all_front (leaf i)) (all_back (leaf i)))) told
        (one d i r)
      where
        told : d ≡ from key least i
        told = sym g ∙ leaf_test least e r q
    made (some (node s t)) key r a n q = absurd (omega (arith, h, node_high (rep_some r)))

-- ---- an inner node

-- a joined part and the rest of a cut: xs are all leaves, ys those of the child that was cut
settled : {k u v : ℕ} {w w₁ w₂ : Words} {xs ys : List Item} {p q : Part Item} → Within w₁ w₂ → Only k ys w w₁ → RepP w₁ k u q → MadeP k w₁ w₂ v p
    → ((s : ℕ) → In s ys → In s xs) → ((s : ℕ) → In s (part_leaves p) → In s xs) → ((s : ℕ) → In s (part_leaves p) → In s (part_leaves q) → ⊥)
    → RepP w₂ k u q × Only k xs w w₂
settled {q} g o r m a b d = (rep_p_still q r g m.only d, only_trans (only_more a o) (only_more b m.only))

-- the last leaf of what is behind a cut is the tree's
seam_right : (g : ℕ) (p q : Part Item) (s t : Tree Item) → part_leaves p ++ part_leaves q ≡ leaves s → g ≡ (last s).slot → Seam g q (some t)
seam_right g p none s t e d = tt
seam_right g none (some u) s t e d = d ∙ ap (λ (i : Item). i.slot) (sym (same_last u s e))
seam_right g (some v) (some u) s t e d = d ∙ ap (λ (i : Item). i.slot) (sym (same_last (node v u) s e))

-- only an inner node has such a number
at_node : {k f x limit y z : ℕ} {w w' : Words} (least : ℤ) → most_slots < x → Within w w'
    → ((s t : Tree Item) (key : Item → ℤ) → RepP w k x (some (node s t)) → Avl (node s t) → height (node s t) ≤ limit → Keyed w f key (leaves s ++ leaves t)
    → Halved k w w' y z (leaves s ++ leaves t) (split (from key least) (node s t)))
    → Halving k f least x limit w w' y z
unfolding split_p
at_node {k} {f} {x} {limit} {y} {z} {w} {w'} least h g step = record { within = g; made = made }
  where
    made : (p : Part Item) (key : Item → ℤ) → RepP w k x p → AvlP p → part_height p ≤ limit → Keyed w f key (part_leaves p) →
        Halved k w w' y z (part_leaves p) (split_p (from key least) p)
    made none key r a n q = absurd (omega (arith, h, r.root))
    made (some (leaf i)) key r a n q = absurd (omega (arith, h, leaf_low (rep_some r)))
    made (some (node s t)) key r a n q = step s t key r a n q

-- the limit is used up
pub halved_over : {k f x limit y z : ℕ} {w : Words} (least : ℤ) → most_slots < x → limit ≡ 0 → Halving k f least x limit w w y z
halved_over {w} least h e = at_node least h (within_refl w) (λ s t key r a n q. absurd (omega (arith, n, e)))

-- what the recursion says of a child
cut_right : {k f x limit r y z : ℕ} {w w₁ : Words} {s t : Tree Item} {key : Item → ℤ} (least : ℤ) → r ≡ child_at w k true x →
    Halving k f least r (limit - 1) w w₁ y z
    → RepP w k x (some (node s t)) → Avl t → height (node s t) ≤ limit → Keyed w f key (leaves s ++ leaves t) →
    Halved k w w₁ y z (leaves t) (split (from key least) t)
unfolding split_p
cut_right {s} {t} {key} least er rec rep a n q =
    rec.made (some t) key (right_child er rep) a (omega (arith, n)) (keyed_right (leaves s) q)

cut_left : {k f x limit l y z : ℕ} {w w₁ : Words} {s t : Tree Item} {key : Item → ℤ} (least : ℤ) → l ≡ child_at w k false x →
    Halving k f least l (limit - 1) w w₁ y z
    → RepP w k x (some (node s t)) → Avl s → height (node s t) ≤ limit → Keyed w f key (leaves s ++ leaves t) →
    Halved k w w₁ y z (leaves s) (split (from key least) s)
unfolding split_p
cut_left {s} {t} {key} least el rec rep a n q =
    rec.made (some s) key (left_child el rep) a (omega (arith, n)) (keyed_left (leaves t) q)

-- ---- nothing is cut off

part_none : {w : Words} {k z : ℕ} {p : Part Item} → RepP w k z p → z ≡ 0 → p ≡ none
part_none {p = none} r e = refl
part_none {p = some t} r e = absurd (omega (arith, e, r.root, ref_low t r.slots))

none_part : {w : Words} {k z : ℕ} {p : Part Item} → RepP w k z p → p ≡ none → z ≡ 0
none_part {p = none} r e = r.root
none_part {p = some t} r e = let n : ◌≡◌ {A = ℕ} 0 1 = cc in absurd (omega arith)

whole_front : {w : Words} {k x : ℕ} {c : Cut Item} {t : Tree Item} → Whole t c → c.back ≡ none → RepP w k x (some t) → Halved k w w x 0 (leaves t) c
whole_front {w} {k} {x} {c} {t} h e r =
    record {
      front = subst (RepP w k x) (sym (h.front e)) r;
      back = subst (RepP w k 0) (sym e) (rep_p_none r.kind);
      only = only_refl k (leaves t) w;
      all_front = λ d. refl;
      all_back = λ d. refl;
    }

whole_back : {w : Words} {k x : ℕ} {c : Cut Item} {t : Tree Item} → Whole t c → c.front ≡ none → RepP w k x (some t) → Halved k w w 0 x (leaves t) c
whole_back {w} {k} {x} {c} {t} h e r =
    record {
      front = subst (RepP w k 0) (sym e) (rep_p_none r.kind);
      back = subst (RepP w k x) (sym (h.back e)) r;
      only = only_refl k (leaves t) w;
      all_front = λ d. refl;
      all_back = λ d. refl;
    }

module _ {k f x limit g r y z : ℕ} {b : Bool} {w w₁ : Words} (least : ℤ) (inner : most_slots < x) (eg : g ≡ x - most_slots) (eb : b ≡ le_z least (cell w f g))
  where
    pub whole_right : b ≡ true → r ≡ child_at w k true x → Halving k f least r (limit - 1) w w₁ y z → z ≡ 0 → Halving k f least x limit w w₁ x 0
    whole_right e er rec ez = at_node least inner rec.within step
      where
        step : (s t : Tree Item) (key : Item → ℤ) → RepP w k x (some (node s t)) → Avl (node s t) → height (node s t) ≤ limit →
            Keyed w f key (leaves s ++ leaves t) → Halved k w w₁ x 0 (leaves s ++ leaves t) (split (from key least) (node s t))
        step s t key rep (avl_node a₁ a₂ h₁ h₂) n q =
            subst (λ u. Halved k w u x 0 (leaves s ++ leaves t) (split test (node s t))) (sym (cut.all_front empty_back))
            (whole_front (split_whole test (avl_node a₁ a₂ h₁ h₂)) (ap (λ (c : Cut Item). c.back) (split_right test s t passes) ∙ empty_back) rep)
          where
            test : Item → Bool
            test = from key least

            passes : T (test (last s))
            passes = subst T (sym e ∙ seam_test least eg eb rep q) tt

            o : Parents w k x s t
            o = parents (rep_some rep)

            cut : Halved k w w₁ y z (leaves t) (split test t)
            cut = cut_right least er rec rep a₂ n q

            empty_back : (split test t).back ≡ none
            empty_back = part_none cut.back ez

    pub whole_left : b ≡ false → r ≡ child_at w k false x → Halving k f least r (limit - 1) w w₁ y z → y ≡ 0 → Halving k f least x limit w w₁ 0 x
    whole_left e er rec ey = at_node least inner rec.within step
      where
        step : (s t : Tree Item) (key : Item → ℤ) → RepP w k x (some (node s t)) → Avl (node s t) → height (node s t) ≤ limit →
            Keyed w f key (leaves s ++ leaves t) → Halved k w w₁ 0 x (leaves s ++ leaves t) (split (from key least) (node s t))
        step s t key rep (avl_node a₁ a₂ h₁ h₂) n q =
            subst (λ u. Halved k w u 0 x (leaves s ++ leaves t) (split test (node s t))) (sym (cut.all_back empty_front))
            (whole_back (split_whole test (avl_node a₁ a₂ h₁ h₂)) (ap (λ (c : Cut Item). c.front) (split_left test s t fails) ∙ empty_front) rep)
          where
            test : Item → Bool
            test = from key least

            fails : T (not (test (last s)))
            fails = subst (λ d. T (not d)) (sym e ∙ seam_test least eg eb rep q) tt

            cut : Halved k w w₁ y z (leaves s) (split test s)
            cut = cut_left least er rec rep a₁ n q

            empty_front : (split test s).front ≡ none
            empty_front = part_none cut.front ey

-- ---- a node is cut through

module _ {k f x limit g l r y z v : ℕ} {b : Bool} {w w₁ w₂ : Words} (least : ℤ) (inner : most_slots < x) (eg : g ≡ x - most_slots)
    (eb : b ≡ le_z least (cell w f g)) where
  pub halved_right : b ≡ true → r ≡ child_at w k true x → Halving k f least r (limit - 1) w w₁ y z → z ≢ 0 → l ≡ child_at w₁ k false x →
      Merged k g l y w₁ w₂ v → Halving k f least x limit w w₂ v z
  unfolding split split_p
  halved_right e er rec nz el j = at_node least inner (within_trans rec.within j.within) step
    where
      step : (s t : Tree Item) (key : Item → ℤ) → RepP w k x (some (node s t)) → Avl (node s t) → height (node s t) ≤ limit →
          Keyed w f key (leaves s ++ leaves t) → Halved k w w₂ v z (leaves s ++ leaves t) (split (from key least) (node s t))
      step s t key rep (avl_node a₁ a₂ h₁ h₂) n q =
          subst (λ d. Halved k w w₂ v z (leaves s ++ leaves t) (cond d (after_left s c) (before_right (split test s) t))) (sym e ∙ seam_test least eg eb rep q)
          (record {
            front = m.rep;
            back = done.0;
            only = done.1;
            all_front = λ d. absurd (nz (none_part cut.back d));
            all_back =
                λ d. absurd (not_left s c.front d);
          })
        where
          test : Item → Bool
          test = from key least

          c : Cut Item
          c = split test t

          o : Parents w k x s t
          o = parents (rep_some rep)

          cut : Halved k w w₁ y z (leaves t) c
          cut = cut_right least er rec rep a₂ n q

          order : part_leaves (join_p (some s) c.front) ++ part_leaves c.back ≡ leaves s ++ leaves t
          order = simp (leaves_join_p, append_assoc, split_leaves test t)

          slots : Slots (cap w) (part_leaves (join_p (some s) c.front) ++ part_leaves c.back)
          slots = rw order rep.slots

          -- the node itself was not touched
          same : child_at w₁ k false x ≡ child_at w k false x
          same = ap (up_to most_nodes) (cut.only.cells (child_field k false) (x - most_slots)
              (λ h. slots_across (leaves s) rep.slots (at (last_leaf s) o.seam_at) h.1))

          pair : PairP w₁ k l y (some s) c.front
          pair =
              record {
                kind = rep.kind;
                left = el ∙ same ∙ o.left_at;
                right = cut.front.root;
                slots = subst₂ Slots (sym (within_cap rec.within)) (leaves_join_p (some s) c.front) (slots_left (part_leaves c.back) slots);
                tied_left = tied_still o.tied_left cut.only (λ i x y. slots_across (leaves s) rep.slots (inner_in x) y);
                tied_right = cut.front.tied;
              }

          m : MadeP k w₁ w₂ v (join_p (some s) c.front)
          m = j.made (some s) c.front pair (seam_left g s c.front (eg ∙ o.seam_at)) a₁ (split_low test a₂).front_avl

          done : RepP w₂ k z c.back × Only k (leaves s ++ leaves t) w w₂
          done =
              settled j.within cut.only cut.back m (λ i x. in_right (leaves s) x)
              (λ i x. rw (← order) (in_left (part_leaves c.back) x))
              (λ i x y. slots_across (part_leaves (join_p (some s) c.front)) slots x y)

  pub halved_left : b ≡ false → l ≡ child_at w k false x → r ≡ child_at w k true x → Halving k f least l (limit - 1) w w₁ y z → y ≢ 0 →
      Merged k g z r w₁ w₂ v → Halving k f least x limit w w₂ y v
  unfolding split split_p
  halved_left e el er rec ny j = at_node least inner (within_trans rec.within j.within) step
    where
      step : (s t : Tree Item) (key : Item → ℤ) → RepP w k x (some (node s t)) → Avl (node s t) → height (node s t) ≤ limit →
          Keyed w f key (leaves s ++ leaves t) → Halved k w w₂ y v (leaves s ++ leaves t) (split (from key least) (node s t))
      step s t key rep (avl_node a₁ a₂ h₁ h₂) n q =
          subst (λ d. Halved k w w₂ y v (leaves s ++ leaves t) (cond d (after_left s (split test t)) (before_right c t))) (sym e ∙ seam_test least eg eb rep q)
          (record {
            front = done.0;
            back = m.rep;
            only = done.1;
            all_front = λ d. absurd (not_right c.back t d);
            all_back =
                λ d. absurd (ny (none_part cut.front d));
          })
        where
          test : Item → Bool
          test = from key least

          c : Cut Item
          c = split test s

          o : Parents w k x s t
          o = parents (rep_some rep)

          cut : Halved k w w₁ y z (leaves s) c
          cut = cut_left least el rec rep a₁ n q

          order : part_leaves c.front ++ part_leaves (join_p c.back (some t)) ≡ leaves s ++ leaves t
          order = simp (leaves_join_p, ← append_assoc, split_leaves test s)

          slots : Slots (cap w) (part_leaves c.front ++ part_leaves (join_p c.back (some t)))
          slots = rw order rep.slots

          pair : PairP w₁ k z r c.back (some t)
          pair =
              record {
                kind = rep.kind;
                left = cut.back.root;
                right = er ∙ o.right_at;
                slots = subst₂ Slots (sym (within_cap rec.within)) (leaves_join_p c.back (some t)) (slots_right (part_leaves c.front) slots);
                tied_left = cut.back.tied;
                tied_right = tied_still o.tied_right cut.only (λ i x y. slots_across (leaves s) rep.slots y (inner_in x));
              }

          m : MadeP k w₁ w₂ v (join_p c.back (some t))
          m = j.made c.back (some t) pair (seam_right g c.front c.back s t (split_leaves test s) (eg ∙ o.seam_at)) (split_low test a₁).back_avl a₂

          done : RepP w₂ k y c.front × Only k (leaves s ++ leaves t) w w₂
          done =
              settled j.within cut.only cut.front m (λ i x. in_left (leaves t) x)
              (λ i x. rw (← order) (in_right (part_leaves c.front) x))
              (λ i x y. slots_across (part_leaves c.front) slots y x)
