-- The words of a node that join the pieces of its two children, and the same told of the tree of offers.
use Rattle.std.specs.Prelude.{◌≡◌, refl, true, false, ◌≢◌, ℕ, suc, ◌+◌, ◌-◌, ◌≤◌, ◌<◌, T, length, get_or, pos}
use Rattle.std.proofs.Math.Path.{sym, ap, ap₂, subst}
use Rattle.std.proofs.Common.{◌∙◌, ⊎_elim, arith, length-append}
use mathlib.Core.List.Memᴰ
use mathlib.Core.List.{List, [], ◌∷◌, ◌++◌, map-append, Memᴰ}
use mathlib.Core.List.{head-eq_of_cons-eq, tail-eq_of_cons-eq}
use Rattle.std.proofs.Math.ListN.{get_or-map}
use Rattle.std.proofs.Math.Seq.{append_snoc}
use Rattle.lists.specs.Places.{sublist_mem}
use Rattle.envelopes.specs.Envelope.{Ordered, Env}
use Rattle.envelopes.specs.EnvelopeLaws.{ordered_sublist, ordered_at}
use Rattle.envelopes.proofs.Query.{env_unique}
use Rattle.trees.specs.Tree.{Tree, leaf, node, leaves, last}
use Rattle.trees.specs.Operations.{Part, part_leaves}
use Rattle.trees.specs.Balanced.{AvlP}
use Rattle.dynamic.specs.OfferTree.{OfferTree, single, fork, shape}
use Rattle.dynamic.specs.Valid.{Valid, valid_fork}
use Rattle.dynamic.specs.Lower.{valid_env}
use Rattle.table.specs.Fields.{bridge_left_field, bridge_right_field, most_slots, offer_tree}
use Rattle.table.specs.Words.{Words}
use Rattle.table.specs.Layout.{link_at}
use Rattle.table.specs.Items.{Item}
use Rattle.table.specs.Rep.{child_at}
use Rattle.pieces.specs.Pieces.{items, item_laws_lem}
use Rattle.form.specs.Stored.{RestIn, Stored, stored_fork}
use Rattle.table.specs.PartTrees.{part_ref}
use Rattle.check_trees.specs.Stretches.{span, span_length, span_at, span_cut, span_cons, span_none}
use Rattle.check_trees.specs.Laid.{item_at, items_at, items_length, Laid, Children, laid_children}
use Rattle.check_trees.specs.Deciding.{Every}
use Rattle.check_bridges.specs.StoredBridges.{Bridges}
use Rattle.check_merge.specs.PieceTrees.{AllKnown}
use Rattle.check_merge.specs.Rests.{RestTree}
use Rattle.check_merge.specs.BridgeTests.{items_about, merged, bridges_merge, merge_bridges}
use Rattle.check_merge.specs.Stands.{Stands, stands_left, stands_right, stands_known, Decorated, decorated_env, rest_is}

-- Node x of the offers joins the pieces between `at` and `mid` with those between `mid` and `to`: its bridge stands at places i and j, and
-- the pieces behind the one and before the other stay with the children.
pub record Joins (w : Words) (x : ℕ) (xs : List ℕ) (at mid to i j : ℕ) : Type 0 where
  pub left_low : at ≤ i
  pub left_high : i < mid
  pub right_low : mid ≤ j
  pub right_high : j < to
  pub u_at : link_at w bridge_left_field (x - most_slots) ≡ get_or xs i 0
  pub v_at : link_at w bridge_right_field (x - most_slots) ≡ get_or xs j 0
  pub u_first : Every (λ k. get_or xs k 0 ≢ get_or xs i 0) at i
  pub v_first : Every (λ k. get_or xs k 0 ≢ get_or xs j 0) mid j
  pub bridges : Bridges w xs at mid to i j
  pub left_rest : RestTree w (child_at w offer_tree false x) (span xs (suc i) mid)
  pub right_rest : RestTree w (child_at w offer_tree true x) (span xs mid j)

-- ---- a list is cut in one way about a place

same_cut : {A : Type 0} (xs ys : List A) {a b : A} {zs ws : List A} → length xs ≡ length ys → xs ++ a ∷ zs ≡ ys ++ b ∷ ws → (xs ≡ ys) × (a ≡ b) × (zs ≡ ws)
same_cut [] [] n e = (refl, head-eq_of_cons-eq e, tail-eq_of_cons-eq e)
same_cut [] (y ∷ ys) n e = absurd (omega arith)
same_cut (x ∷ xs) [] n e = absurd (omega arith)
same_cut (x ∷ xs) (y ∷ ys) n e =
    let c = same_cut xs ys (omega arith) (tail-eq_of_cons-eq e) in
    (ap₂ ◌∷◌ (head-eq_of_cons-eq e) c.0, c.1, c.2)

-- a stretch whose items are B, u and A has u at the place behind B
record CutAt (w : Words) (xs : List ℕ) (a b : ℕ) (B : List Item) (u : Item) (A : List Item) : Type 0 where
  inside : a + length B < b
  here : item_at w (get_or xs (a + length B) 0) ≡ u
  front : items_at w (span xs a (a + length B)) ≡ B
  back : items_at w (span xs (suc (a + length B)) b) ≡ A

cut_at : (w : Words) (xs : List ℕ) (a b : ℕ) (B : List Item) (u : Item) (A : List Item) → items_at w (span xs a b) ≡ B ++ u ∷ A → CutAt w xs a b B u A
cut_at w xs a b B u A e =
    let n : b - a ≡ length B + suc (length A) = sym (items_length w (span xs a b) ∙ span_length xs a b) ∙ ap length e ∙ length-append B (u ∷ A) in
    let h : a + length B < b = omega arith in
    let i : length (items_at w (span xs a (a + length B))) ≡ length B = items_length w (span xs a (a + length B)) ∙ span_length xs a (a + length B)
    ∙ omega arith in
    let c = same_cut (items_at w (span xs a (a + length B))) B i (sym (items_about w xs a b (a + length B) (omega arith) h) ∙ e) in
    record { inside = h; here = c.1; front = c.0; back = c.2 }

-- ---- no slot twice in a stretch in order

first_place : (w : Words) (xs : List ℕ) (a b i : ℕ) → Ordered items (items_at w (span xs a b)) → a ≤ i → i < b → Every (λ k. get_or xs k 0 ≢ get_or xs i 0) a i
first_place w xs a b i o h k = record {
  at = λ n l m e. item_laws_lem.before_irrefl (item_at w (get_or xs i 0))
      (subst (λ (s : ℕ). T (items.before (item_at w s) (item_at w (get_or xs i 0)))) e (before n l m));
}
  where
    count : length (items_at w (span xs a b)) ≡ b - a
    count = items_length w (span xs a b) ∙ span_length xs a b

    line : (n : ℕ) → a ≤ n → n < b → get_or (items_at w (span xs a b)) (n - a) (item_at w 0) ≡ item_at w (get_or xs n 0)
    line n l m =
        let e : a + (n - a) ≡ n = omega arith in
        get_or-map (item_at w) (span xs a b) (n - a) 0 ∙ ap (item_at w) (span_at xs a b (n - a) 0 (omega arith) ∙ ap (λ (z : ℕ). get_or xs z 0) e)

    before : (n : ℕ) → a ≤ n → n < i → T (items.before (item_at w (get_or xs n 0)) (item_at w (get_or xs i 0)))
    before n l m =
        subst (λ (c : Item). T (items.before c (item_at w (get_or xs i 0)))) (line n l (omega arith))
        (subst (λ (c : Item). T (items.before (get_or (items_at w (span xs a b)) (n - a) (item_at w 0)) c)) (line i h k)
        (ordered_at items (items_at w (span xs a b)) o (item_at w 0) (n - a) (i - a) (omega arith) (omega (arith, count))))

-- ---- parts of a node

-- the left and the right part of a node, and itself of a leaf
unfoldable pub half_left : Tree Item → Tree Item
half_left (leaf a) = leaf a
half_left (node s t) = s

unfoldable pub half_right : Tree Item → Tree Item
half_right (leaf a) = leaf a
half_right (node s t) = t

pub no_leaf : {a : Item} {s t : Tree Item} → leaf a ≡ node s t → ⊥
no_leaf e = let z : ◌≡◌ {A = ℕ} 0 1 = cc in omega arith

-- ---- both children with their pieces

module _
    {w : Words}
    {x : ℕ}
    {l r : Tree Item}
    (xs : List ℕ)
    {at mid to : ℕ}
    (stands : Stands w x (node l r))
    (DL : Decorated w l (items_at w (span xs at mid)))
    (DR : Decorated w r (items_at w (span xs mid to)))
    (upper : at ≤ mid)
    (lower : mid ≤ to)
  where
    kids : Children w offer_tree x l r
    kids = laid_children stands.laid

    -- all pieces of both hold offers
    pub joint_known : AllKnown w (span xs at to)
    joint_known =
        stands_known stands (span xs at to)
        (λ a m.
        ⊎_elim (λ i. Memᴰ.append_left (leaves r) (sublist_mem (decorated_env DL).sub i))
        (λ i. Memᴰ.append_right (leaves l) (sublist_mem (decorated_env DR).sub i))
        (Memᴰ.append_cases (items_at w (span xs at mid)) (subst (Memᴰ a) (ap (items_at w) (span_cut xs at mid to upper lower)
        ∙ map-append (item_at w) (span xs at mid) (span xs mid to)) m)))

    module _ {i j : ℕ} (J : Joins w x xs at mid to i j) where
      u : Item
      u = item_at w (get_or xs i 0)

      v : Item
      v = item_at w (get_or xs j 0)

      left_rest_in : RestIn w DL.offers J.left_rest.tree.whole
      left_rest_in =
          record {
            root = sym (rest_is DL.offers (subst (Laid w offer_tree (child_at w offer_tree false x)) (sym DL.shape_is) kids.left))
                ∙ J.left_rest.word ∙ ap pos J.left_rest.tree.root;
            pieces = J.left_rest.tree.pieces;
          }

      right_rest_in : RestIn w DR.offers J.right_rest.tree.whole
      right_rest_in =
          record {
            root = sym (rest_is DR.offers (subst (Laid w offer_tree (child_at w offer_tree true x)) (sym DR.shape_is) kids.right))
                ∙ J.right_rest.word ∙ ap pos J.right_rest.tree.root;
            pieces = J.right_rest.tree.pieces;
          }

      seam_at_lem : (last (shape DL.offers)).slot ≡ x - most_slots
      seam_at_lem = ap (λ (t : Tree Item). (last t).slot) DL.shape_is ∙ sym kids.seam

      joint : OfferTree Item
      joint = fork u v DL.offers J.left_rest.tree.whole J.right_rest.tree.whole DR.offers

      joint_stored : Stored w joint
      unfolding joint u v
      joint_stored =
          stored_fork DL.stored DR.stored (ap (link_at w bridge_left_field) seam_at_lem ∙ J.u_at) (ap (link_at w bridge_right_field) seam_at_lem ∙ J.v_at)
          left_rest_in right_rest_in

      abbrev pieces : List Item
      pieces = merged w xs at mid to (leaves l) (leaves r) stands.ordered (decorated_env DL) (decorated_env DR) joint_known upper lower i j J.left_low
          J.left_high J.right_low J.right_high

      joint_valid : Valid items joint pieces
      unfolding joint u v
      joint_valid =
          valid_fork (items_at w (span xs at i)) (items_at w (span xs (suc j) to))
          (sym (append_snoc (items_at w (span xs at i)) (item_at w (get_or xs i 0)) (item_at w (get_or xs j 0) ∷ items_at w (span xs (suc j) to))))
          (subst (Valid items DL.offers)
          (items_about w xs at mid i J.left_low J.left_high ∙ ap (λ (zs : List Item). items_at w (span xs at i) ++ item_at w (get_or xs i 0) ∷ zs)
          (sym J.left_rest.tree.over)
          ∙ sym (append_snoc (items_at w (span xs at i)) (item_at w (get_or xs i 0)) (part_leaves J.left_rest.tree.whole)))
          DL.valid)
          (subst (Valid items DR.offers)
          (items_about w xs mid to j J.right_low J.right_high ∙ ap (λ (zs : List Item). zs ++ item_at w (get_or xs j 0) ∷ items_at w (span xs (suc j) to))
          (sym J.right_rest.tree.over))
          DR.valid)
          J.left_rest.tree.balanced
          J.right_rest.tree.balanced
          (subst (λ (t : Tree Item). Env items (leaves t) pieces) (ap₂ node (sym DL.shape_is) (sym DR.shape_is))
          (bridges_merge w xs at mid to (leaves l) (leaves r) stands.ordered (decorated_env DL) (decorated_env DR) joint_known upper lower i j
          J.left_low J.left_high J.right_low J.right_high J.bridges))

      -- the pieces of both, in a row
      pieces_are : items_at w (span xs at (suc i) ++ span xs j to) ≡ pieces
      pieces_are =
          map-append (item_at w) (span xs at (suc i)) (span xs j to)
          ∙ ap₂ ◌++◌ (items_about w xs at (suc i) i J.left_low (omega arith)) (ap (items_at w) (span_cons xs j to J.right_high))
          ∙ ap (λ (zs : List ℕ). (items_at w (span xs at i) ++ item_at w (get_or xs i 0) ∷ items_at w zs) ++ items_at w (get_or xs j 0 ∷ span xs (suc j) to))
          (span_none xs (suc i) (suc i) (omega arith))
          ∙ append_snoc (items_at w (span xs at i)) (item_at w (get_or xs i 0)) (items_at w (get_or xs j 0 ∷ span xs (suc j) to))

      pub joins_fork : Decorated w (node l r) (items_at w (span xs at (suc i) ++ span xs j to))
      unfolding joint
      joins_fork = record {
        offers = joint;
        shape_is = ap₂ node DL.shape_is DR.shape_is;
        stored = joint_stored;
        valid =
            subst (Valid items joint) (sym pieces_are) joint_valid;
      }

    -- ---- conversely: a tree of offers that is right has such words

    -- places of the bridge
    pub record Joined : Type 0 where
      pub i : ℕ
      pub j : ℕ
      pub joins : Joins w x xs at mid to i j

    module _
        (u v : Item)
        (ol or : OfferTree Item)
        (ql qr : Part Item)
        (es : List Item)
        (el : shape ol ≡ l)
        (er : shape or ≡ r)
        (eu : link_at w bridge_left_field (last (shape ol)).slot ≡ u.slot)
        (ev : link_at w bridge_right_field (last (shape ol)).slot ≡ v.slot)
        (rl : RestIn w ol ql)
        (rr : RestIn w or qr)
        (up_to from : List Item)
        (ee : es ≡ (up_to ++ u ∷ []) ++ v ∷ from)
        (vl : Valid items ol ((up_to ++ u ∷ []) ++ part_leaves ql))
        (vr : Valid items or (part_leaves qr ++ v ∷ from))
        (al : AvlP ql)
        (ar : AvlP qr)
        (E : Env items (leaves (shape ol) ++ leaves (shape or)) es)
      where
        left_pieces : items_at w (span xs at mid) ≡ up_to ++ u ∷ part_leaves ql
        left_pieces =
            env_unique items item_laws_lem (leaves l) (items_at w (span xs at mid)) ((up_to ++ u ∷ []) ++ part_leaves ql) (stands_left stands).ordered
            (decorated_env DL)
            (subst (λ (t : Tree Item). Env items (leaves t) ((up_to ++ u ∷ []) ++ part_leaves ql)) el (valid_env items item_laws_lem vl))
            ∙ append_snoc up_to u (part_leaves ql)

        right_pieces : items_at w (span xs mid to) ≡ part_leaves qr ++ v ∷ from
        right_pieces =
            env_unique items item_laws_lem (leaves r) (items_at w (span xs mid to)) (part_leaves qr ++ v ∷ from) (stands_right stands).ordered (decorated_env DR)
            (subst (λ (t : Tree Item). Env items (leaves t) (part_leaves qr ++ v ∷ from)) er (valid_env items item_laws_lem vr))

        cl : CutAt w xs at mid up_to u (part_leaves ql)
        cl = cut_at w xs at mid up_to u (part_leaves ql) left_pieces

        cr : CutAt w xs mid to (part_leaves qr) v from
        cr = cut_at w xs mid to (part_leaves qr) v from right_pieces

        abbrev i : ℕ
        i = at + length up_to

        abbrev j : ℕ
        j = mid + length (part_leaves qr)

        seam_slot : x - most_slots ≡ (last (shape ol)).slot
        seam_slot = kids.seam ∙ ap (λ (t : Tree Item). (last t).slot) (sym el)

        low_i : at ≤ i
        low_i = omega arith

        low_j : mid ≤ j
        low_j = omega arith

        -- the whole envelope, by places
        whole_is : es ≡ items_at w (span xs at i) ++ item_at w (get_or xs i 0) ∷ item_at w (get_or xs j 0) ∷ items_at w (span xs (suc j) to)
        whole_is =
            ee ∙ append_snoc up_to u (v ∷ from)
            ∙ ap₂ ◌++◌ (sym cl.front) (ap₂ ◌∷◌ (sym cl.here) (ap₂ ◌∷◌ (sym cr.here) (sym cr.back)))

        pub fork_joins : Joined
        fork_joins =
            record {
              i = i;
              j = j;
              joins = record {
                left_low = low_i;
                left_high = cl.inside;
                right_low = low_j;
                right_high = cr.inside;
                u_at = ap (link_at w bridge_left_field) seam_slot ∙ eu ∙ ap (λ (a : Item). a.slot) (sym cl.here);
                v_at = ap (link_at w bridge_right_field) seam_slot ∙ ev ∙ ap (λ (a : Item). a.slot) (sym cr.here);
                u_first = first_place w xs at mid i (ordered_sublist items (decorated_env DL).sub (stands_left stands).ordered) low_i cl.inside;
                v_first = first_place w xs mid to j (ordered_sublist items (decorated_env DR).sub (stands_right stands).ordered) low_j cr.inside;
                bridges =
                    merge_bridges w xs at mid to (leaves l) (leaves r) stands.ordered (decorated_env DL) (decorated_env DR) joint_known upper lower i j
                    low_i cl.inside low_j cr.inside
                    (subst (Env items (leaves l ++ leaves r)) whole_is (subst (λ (t : Tree Item). Env items (leaves t) es) (ap₂ node el er) E));
                left_rest =
                    record {
                      root = part_ref ql;
                      word = rest_is ol (subst (Laid w offer_tree (child_at w offer_tree false x)) (sym el) kids.left) ∙ rl.root;
                      tree = record { whole = ql; root = refl; over = sym cl.back; pieces = rl.pieces; balanced = al };
                    };
                right_rest =
                    record {
                      root = part_ref qr;
                      word = rest_is or (subst (Laid w offer_tree (child_at w offer_tree true x)) (sym er) kids.right) ∙ rr.root;
                      tree = record { whole = qr; root = refl; over = sym cr.front; pieces = rr.pieces; balanced = ar };
                    };
              };
            }

    pub decorated_joins : {es : List Item} → Decorated w (node l r) es → Joined
    unfolding half_left half_right
    decorated_joins {es} d = go d.offers d.shape_is d.stored d.valid
      where
        go : (o : OfferTree Item) → shape o ≡ node l r → Stored w o → Valid items o es → Joined
        go (single a) e st va = absurd (no_leaf e)
        go (fork u v ol ql qr or) e (stored_fork sl sr eu ev rl rr) (valid_fork up_to from ee vl vr al ar E) =
            fork_joins u v ol or ql qr es (ap half_left e) (ap half_right e) eu ev rl rr up_to from ee vl vr al ar E
