-- An item added to an index: its leaf stands where its key belongs.
use Rattle.std.specs.Prelude.{◌≡◌, refl, ◌≢◌, ℕ, ℤ}
use Rattle.std.proofs.Common.{sym, ◌∙◌, ap, subst, ⊎_elim, arith}
use mathlib.Core.List.Memᴰ
use mathlib.Core.List.{List, [], ◌∷◌, ◌++◌, Memᴰ}
use mathlib.Core.List.Pairwise
use mathlib.Core.List.{rel_of_Pairwise-cons}
use Rattle.std.proofs.Math.Option.{none, some}
use Rattle.std.proofs.Math.Dec.{T, T_prop}
use Rattle.std.specs.Int.Signed.{le_z, lt_z}
use Rattle.lists.specs.Members.{pairs_cons, Among}
use Rattle.integers.specs.Parts.{int_rules, ne_parts}
use Rattle.trees.specs.Tree.{Avl}
use Rattle.trees.specs.Operations.{Part, part_leaves, split_p, add_p}
use Rattle.trees.specs.Order.{Falling, falling_turning}
use Rattle.trees.specs.Split.{Clean}
use Rattle.trees.proofs.Split.{split_p_leaves, split_p_clean}
use Rattle.trees.proofs.Add.{add_p_leaves, add_p_avl}
use Rattle.table.specs.Fields.{most_levels}
use Rattle.table.specs.Words.{Words}
use Rattle.table.specs.Layout.{cap, cell}
use Rattle.table.specs.Items.{Item, Slots}
use Rattle.table.specs.Rep.{Within, within_refl, Only, only_refl, only_more}
use Rattle.table.specs.Nodes.{ref_low}
use Rattle.table.specs.PartTrees.{RepP, rep_p_leaf, MadeP, low}
use Rattle.descents.specs.Cuts.{from}
use Rattle.index.specs.Index.{IndexAt, Comes, Added}
use Rattle.index.specs.Trees.{among_in, among_keyed, falling_slots, leaves_keyed, index_rep, index_made}
use Rattle.index.specs.Growing.{Grown}

-- ---- lists

-- an item that falls in between
falling_between : (key : Item → ℤ) (a : Item) (xs ys : List Item) → Falling key (xs ++ ys) → ((b : Item) → Memᴰ b xs → T (lt_z (key a) (key b))) →
    ((b : Item) → Memᴰ b ys → T (lt_z (key b) (key a)))
    → Falling key (xs ++ (a ∷ ys))
falling_between key a [] ys p above below = pairs_cons (λ x y. T_prop (lt_z (key y) (key x))) below p
falling_between key a (x ∷ xs) ys p above below =
    pairs_cons (λ x y. T_prop (lt_z (key y) (key x))) first (falling_between key a xs ys (Pairwise.of_cons p) (λ b m. above b (Memᴰ.tail m)) below)
  where
    first : (b : Item) → Memᴰ b (xs ++ (a ∷ ys)) → T (lt_z (key b) (key x))
    first b m =
        ⊎_elim (λ i. rel_of_Pairwise-cons p ∣ Memᴰ.append_left ys i ∣₁)
        (λ i. ⊎_elim (λ (e : b ≡ a). subst (λ (c : Item). T (lt_z (key c) (key x))) (sym e) (above x (Memᴰ.head refl)))
        (λ j. rel_of_Pairwise-cons p ∣ Memᴰ.append_right xs j ∣₁) (Memᴰ.cases_cons i))
        (Memᴰ.append_cases xs m)

among_between : {a : Item} {live : List Item} (xs ys : List Item) → Among (xs ++ ys) live → Among (xs ++ (a ∷ ys)) (a ∷ live)
among_between {a} {live} xs ys f b m =
    ⊎_elim (λ i. Memᴰ.tail (f b (Memᴰ.append_left ys i)))
    (λ i. ⊎_elim (λ (e : b ≡ a). Memᴰ.head e) (λ j. Memᴰ.tail (f b (Memᴰ.append_right xs j))) (Memᴰ.cases_cons i))
    (Memᴰ.append_cases xs m)

between_among : {a : Item} {live : List Item} (xs ys : List Item) → Among live (xs ++ ys) → Among (a ∷ live) (xs ++ (a ∷ ys))
between_among {a} {live} xs ys f b m =
    ⊎_elim (λ (e : b ≡ a). Memᴰ.append_right xs (Memᴰ.head e))
    (λ i. ⊎_elim (λ j. Memᴰ.append_left (a ∷ ys) j) (λ j. Memᴰ.append_right xs (Memᴰ.tail j)) (Memᴰ.append_cases xs (f b i)))
    (Memᴰ.cases_cons m)

-- ---- an item that is not there yet

module _ {tree field s root : ℕ} {w : Words} {key : Item → ℤ} {a : Item} {live : List Item} {p : Part Item}
    (n : IndexAt w tree field key root live p) (h : Comes w field s key a live) where
  front : List Item
  front = part_leaves (split_p (from key (key a)) p).front

  back : List Item
  back = part_leaves (split_p (from key (key a)) p).back

  order : front ++ back ≡ part_leaves p
  unfolding front back
  order = split_p_leaves (from key (key a)) p

  live_parts : Among (front ++ back) live
  live_parts c m = n.index_in.all_live c (rw (← order) m)

  parts_live : Among live (front ++ back)
  parts_live c m = rw order (n.index_in.all_there c m)

  clean : Clean (from key (key a)) (split_p (from key (key a)) p)
  clean = split_p_clean (from key (key a)) p (falling_turning key (key a) n.index_in.falling)

  above : (c : Item) → Memᴰ c front → T (lt_z (key a) (key c))
  unfolding front
  above c m =
      let t : T (le_z (key a) (key c)) = clean.passing c m in
      omega (arith, int_rules, ne_parts (key c) (key a) (h.new c (live_parts c (Memᴰ.append_left back m))))

  below : (c : Item) → Memᴰ c back → T (lt_z (key c) (key a))
  unfolding back
  below c m =
      let t = clean.failing c m in
      omega (arith, int_rules)

  falls : Falling key (front ++ (a ∷ back))
  falls = falling_between key a front back (rw order n.index_in.falling) above below

  inside : Among (front ++ (a ∷ back)) (a ∷ live)
  inside = among_between front back live_parts

  -- ---- its tree

  abbrev grown : Part Item
  grown = add_p (from key (key a)) a p

  grown_leaves : part_leaves grown ≡ front ++ (a ∷ back)
  unfolding front back
  grown_leaves = add_p_leaves (from key (key a)) a p

  grown_slots : Slots (cap w) (part_leaves grown)
  grown_slots = rw grown_leaves (falling_slots inside h.slots (among_keyed inside h.keyed) falls)

  module _ {x : ℕ} {w' : Words} (g : Within w w') (m : MadeP tree w w' x grown) where
    add_only : Only tree (a ∷ live) w w'
    add_only = only_more (among_in (λ c i. inside c (rw (← grown_leaves) i))) m.only

    add_made : IndexAt w' tree field key x (a ∷ live) grown
    add_made =
        index_made n.index m.rep g add_only h.slots h.holds h.keyed (add_p_avl (from key (key a)) a p n.index_in.balanced)
        (rw grown_leaves falls) (λ c i. inside c (rw (← grown_leaves) i)) (λ c i. rw grown_leaves (between_among front back parts_live c i))

-- who makes that tree has added the item
added_by :
    {tree field s root x : ℕ} {w w' : Words} →
    Within w w' →
    ((key : Item → ℤ) (a : Item) (live : List Item) (p : Part Item) → IndexAt w tree field key root live p → Comes w field s key a live →
    MadeP tree w w' x (add_p (from key (key a)) a p)) →
    Added tree field s root w w' x
added_by g make =
    record {
      within = g;
      made = λ key a live p n h. (add_p (from key (key a)) a p, add_made n h g (make key a live p n h));
      only = λ key a live p n h. add_only n h g (make key a live p n h);
    }

-- ---- the two ways

-- the first item
pub added_first : {tree field s root : ℕ} {w : Words} → root ≡ 0 → Added tree field s root w w s
added_first {tree} {field} {s} {root} {w} e = added_by (within_refl w) make
  where
    make : (key : Item → ℤ) (a : Item) (live : List Item) (p : Part Item) → IndexAt w tree field key root live p → Comes w field s key a live →
        MadeP tree w w s (add_p (from key (key a)) a p)
    make key a live none n h = record { rep = rep_p_leaf n.index.kind h.slot (grown_slots n h); only = only_refl tree (a ∷ []) w }
    make key a live (some t) n h = absurd (omega (arith, e, n.root_is, ref_low t (index_rep (some t) n).slots))

-- another one, from the root down
pub added_below : {tree field s root x : ℕ} {least : ℤ} {w w' : Words} → root ≢ 0 → least ≡ cell w field s →
    Grown tree field least s root most_levels w w' x → Added tree field s root w w' x
added_below {tree} {field} {s} {root} {x} {least} {w} {w'} d r k = added_by k.within make
  where
    make : (key : Item → ℤ) (a : Item) (live : List Item) (p : Part Item) → IndexAt w tree field key root live p → Comes w field s key a live →
        MadeP tree w w' x (add_p (from key (key a)) a p)
    make key a live none n h = absurd (d n.root_is)
    make key a live (some t) n h = at_key.made t key a rep h.slot (grown_slots n h) balanced (low w rep.slots balanced) (leaves_keyed (some t) n)
      where
        rep : RepP w tree root (some t)
        rep = index_rep (some t) n

        balanced : Avl t
        balanced = n.index_in.balanced

        at_key : Grown tree field (key a) s root most_levels w w' x
        at_key =
            subst (λ (z : ℤ). Grown tree field z s root most_levels w w' x) (r ∙ ap (cell w field) h.slot ∙ h.keyed.read (Memᴰ.head refl)) k
