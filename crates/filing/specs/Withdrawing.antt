-- A withdrawal on a part that stands for a plain book: the code's steps leave a part that stands for the plain book after the withdrawal.
use Rattle.std.specs.Prelude.{◌≡◌, refl, ◌≢◌, ◌⊎◌, ℕ, suc, ◌≤◌, ◌<◌, length, T, ℤ, pos}
use Rattle.std.proofs.Math.Path.{sym, ap}
use Rattle.std.proofs.Common.{◌∙◌, subst, inl, inr, ⊎_elim, arith}
use mathlib.Core.HLevel.{¬_prop}
use Rattle.std.proofs.Math.Bool.{not}
use mathlib.Core.List.Memᴰ
use mathlib.Core.List.{List, ◌∷◌, map, Memᴰ, Sublistᴰ}
use Rattle.std.proofs.Math.Option.{Option}
use Rattle.std.proofs.lemmas.List.{length-map}
use Rattle.std.proofs.Math.Dec.{not_T}
use Rattle.lists.specs.Filter.{keep, keep_map, keep_sublist, keep_passes, keep_in}
use Rattle.lists.specs.Firsts.{firsts_sub}
use Rattle.lists.specs.Members.{decide_true, pairs_cons}
use Rattle.lists.specs.Places.{sublist_mem}
use Rattle.integers.specs.Equal.{equal}
use Rattle.integers.specs.Parts.{int_rules, equal_eq, unequal}
use Rattle.offers.specs.Offers.{Offer}
use Rattle.offers.specs.Order.{Ahead, compare_offers}
use Rattle.trees.specs.Operations.{Part, part_leaves}
use Rattle.plain.specs.Book.{State, join, leave, has_number, holding}
use Rattle.plain.specs.Sound.{length_join}
use Rattle.plain.proofs.LiveAfter.{post_adds}
use Rattle.plain.specs.FirstLaws.{self, pairs_standing, standing_map, standing_sub, standing_same}
use Rattle.plain.proofs.FirstLaws.{join_standing}
use Rattle.dynamic.specs.OfferTree.{Held}
use Rattle.dynamic.specs.Valid.{book_lines}
use Rattle.firsts.specs.Joins.{Leaves}
use Rattle.table.specs.Fields.{envelope_root_word, first_free_word, live_count_word, most_nodes, number_field, number_tree, numbers_root_word, offer_tree}
use Rattle.table.specs.Fields.{offers_root_word, order_root_word, order_tree, rank_field, rate_field}
use Rattle.table.specs.Words.{Words, word, up_to, up_to_in}
use Rattle.table.specs.Layout.{cap, cap_most, cell}
use Rattle.table.specs.Items.{Item, In, at, slots_sublist, offer_of}
use Rattle.table.specs.Rep.{header_kept}
use Rattle.descents.specs.Finds.{Found}
use Rattle.form.specs.Stored.{EnvelopeField}
use Rattle.form.specs.Form.{Book, FreeChain, free_none, free_more, head0, number_of, rank_of}
use Rattle.form.specs.Live.{number_tells, slot_tells, ranks_ahead}
use Rattle.form.specs.Roots.{offers_root}
use Rattle.levels.specs.declared.Made.{Made as Outcome}
use Rattle.declining.specs.Sought.{Sought, sought_item, rate_sought}
use Rattle.pieces.specs.Pieces.{items, rate_of}
use Rattle.index.specs.Trees.{among_holds}
use Rattle.index.specs.Index.{Goes}
use Rattle.settling.specs.Agree.{Agree, IndexHere, FreeHere, agree_trans, agree_less, numbers_envelope, order_envelope, numbers_order, order_numbers}
use Rattle.settling.specs.Agree.{tree_index, free_index, free_envelope, offers_agree, free_agree}
use Rattle.settling.specs.Writing.{roots_of, Headed, Freed, free_not_live}
use Rattle.settling.specs.Indexes.{Stands, stands_agree, numbers_stand, order_stand, OffTree, Struck, struck, struck_agree, struck_header}
use Rattle.settling.specs.Settling.{Left, Settled, Before}
use Rattle.settling.specs.Going.{leaves}
use Rattle.settling.specs.Following.{FollowedAt, followed}
use Rattle.filing.specs.Updating.{Updated, book_standing, before_at, Rebuilt, rebuilt}

-- The steps of a withdrawal: the item struck out of both indexes and taken out of the tree of offers, the roots and the count set, its slot given back.
pub record WithdrawSteps (number : ℤ) (w w₁ w₂ w₃ w₄ w' : Words) (s f y n : ℕ) (m : Outcome) : Type 0 where
  pub first : Found w offer_tree rate_field (cell w rate_field s) (offers_root w) f
  pub behind : FollowedAt s w y
  pub numbers : Struck number_tree number_field numbers_root_word number w w₁
  pub order : Struck order_tree rank_field order_root_word (cell w rank_field s) w₁ w₂
  pub left : Left s f y (roots_of w) w₂ w₃ m
  pub headed : Headed m.held n w₃ w₄
  pub freed : Freed s w₄ w'

-- the live item with the number, in slot s
pub record LiveAt (number : ℤ) (s : ℕ) (live : List Item) (a : Item) : Type 0 where
  pub member : Memᴰ a live
  pub number_is : number_of a ≡ number
  pub slot : s ≡ a.slot

pub live_at : {number : ℤ} {s : ℕ} {live : List Item} → Sought number_of number live s → s ≢ 0 → (a : Item) × LiveAt number s live a
live_at f h = let (a, m, e, d) = sought_item f h in (a, record { member = m; number_is = e; slot = d })

-- a chain begins at 0 or at a slot
chain_head : {w : Words} {ss : List ℕ} → FreeChain w ss → head0 ss ≤ cap w
chain_head free_none = omega arith
chain_head (free_more low high zero next more) = high

module _
    {w w₁ w₂ w₃ w₄ w' : Words} {number : ℤ} {plain : State} {s f y n : ℕ} {m : Outcome} {held : Option (Held Item)}
    (a : Item)
    (b : Book w plain held)
    (live : LiveAt number s (part_leaves b.order) a)
    (steps : WithdrawSteps number w w₁ w₂ w₃ w₄ w' s f y n m)
    (count : suc n ≡ length (part_leaves b.order)) where
  abbrev all : List Item
  all = part_leaves b.order

  rest : List Item
  rest = keep (λ x. not (has_number number (offer_of x))) all

  stay : Sublistᴰ rest all
  unfolding rest
  stay = keep_sublist (λ x. not (has_number number (offer_of x))) all

  one_less : Leaves Item offer_of a all rest
  unfolding rest
  one_less =
      record {
        standing = book_standing b;
        standing' = standing_sub Item offer_of stay (book_standing b);
        live = live.member;
        there = λ x i. (
          sublist_mem stay i,
          λ e. unequal (number_of x) number (keep_passes (λ z. not (has_number number (offer_of z))) all x i) (ap number_of e ∙ live.number_is),
        );
        others = λ x i d. keep_in (λ z. not (has_number number (offer_of z))) all x i
            (not_T (equal (number_of x) number) (λ t. d (number_tells b i live.member (equal_eq (number_of x) number t ∙ sym live.number_is))));
      }

  -- what is left has other slots
  not_there : (t : ℕ) → In t rest → t ≢ s
  not_there t (at i d) q =
      (one_less.there _ i).1 (slot_tells b.in_order.slots (one_less.there _ i).0 live.member (sym d ∙ q ∙ live.slot))

  -- the free slots are others
  not_free : (t : ℕ) → Memᴰ t b.free.free → t ≢ s
  not_free t i d = free_not_live b.free.free_chain b.in_order.holds i (at live.member (d ∙ live.slot))

  slot_low : 1 ≤ s
  slot_low = omega (arith, live.slot, b.in_order.slots.low live.member)

  slot_high : s ≤ cap w
  slot_high = omega (arith, live.slot, b.in_order.slots.high live.member)

  -- ---- w to w₂: both indexes

  goes : {v : Words} {key : Item → ℤ} {z : ℤ} → cap v ≡ cap w → key a ≡ z → Goes v key z a all rest
  goes e k =
      record {
        member = live.member;
        keyed = k;
        within = λ x i. (one_less.there x i).0;
        other = λ x i. (one_less.there x i).1;
        kept = one_less.others;
        slots = rw e (slots_sublist stay b.in_order.slots);
      }

  agree₁ : Agree (OffTree number_tree) w w₁
  agree₁ = struck_agree (omega arith) (omega arith) steps.numbers (numbers_stand b) (goes refl live.number_is)

  numbers₁ : (q : Part Item) × Stands w₁ number_tree number_field numbers_root_word number_of rest q
  numbers₁ = struck (omega arith) (omega arith) steps.numbers (numbers_stand b) (goes refl live.number_is)

  order₁ : Stands w₁ order_tree rank_field order_root_word rank_of all b.order
  order₁ = stands_agree (order_stand b) (agree_less (λ g t d. order_numbers all g t d) agree₁)
      (struck_header (omega arith) (omega arith) steps.numbers order_root_word (omega arith) (omega arith))

  rank_is : rank_of a ≡ cell w rank_field s
  rank_is = sym (ap (cell w rank_field) live.slot ∙ b.in_order.ranked.read live.member)

  agree₂ : Agree (OffTree order_tree) w₁ w₂
  agree₂ = struck_agree (omega arith) (omega arith) steps.order order₁ (goes agree₁.room rank_is)

  order₂ : (q : Part Item) × Stands w₂ order_tree rank_field order_root_word rank_of rest q
  order₂ = struck (omega arith) (omega arith) steps.order order₁ (goes agree₁.room rank_is)

  numbers₂ : Stands w₂ number_tree number_field numbers_root_word number_of rest numbers₁.0
  numbers₂ = stands_agree numbers₁.1 (agree_less (λ g t d. numbers_order rest g t d) agree₂)
      (struck_header (omega arith) (omega arith) steps.order numbers_root_word (omega arith) (omega arith))

  -- the leaves stand in order, as the items that are left do
  leaves_are : part_leaves order₂.0 ≡ rest
  leaves_are =
      let i = order₂.1.index in
      standing_same Item offer_of (pairs_standing Item offer_of (ranks_ahead (among_holds i.index_in.all_live i.holds) i.index_in.falling))
      one_less.standing' i.index_in.all_live i.index_in.all_there

  -- ---- w₂ to w₃: the tree of offers

  before₂ : Before w₂ (roots_of w) held all
  before₂ =
      before_at b
      (agree_trans (agree_less (λ g t d k. tree_index all g t d (inl k)) agree₁)
      (agree_less (λ g t d k. tree_index all g t d (inr k)) agree₂))

  rate_is : cell w rate_field s ≡ rate_of a
  rate_is = ap (cell w rate_field) live.slot ∙ (b.in_order.holds.held live.member).rate

  settled : Settled held rest w₂ w₃ m
  settled =
      leaves before₂ a one_less live.slot
      (rate_sought b (subst (λ (z : ℤ). Found w offer_tree rate_field z (offers_root w) f) rate_is steps.first) refl)
      (followed b live.slot one_less steps.behind) steps.left

  -- ---- w₃ to w': the header, and the slot given back

  later : {k : ℕ} → ((g t : ℕ) → IndexHere k rest g t → EnvelopeField g → ⊥) → Agree (IndexHere k rest) w₂ w'
  later off =
      agree_trans (agree_less off settled.agree)
      (agree_trans (agree_less (λ g t d. tt) steps.headed.agree) (agree_less (λ g t d. not_there t d.1) steps.freed.agree))

  header₄ : (i : ℕ) → live_count_word < i → i < 64 → i ≢ first_free_word → word w' i ≡ word w₂ i
  header₄ i l h d = steps.freed.header i h d ∙ steps.headed.header i l h ∙ header_kept settled.within i h

  free_kept : Agree (FreeHere b.free.free) w w'
  free_kept =
      agree_trans (agree_less (λ g t d k. free_index b.free.free g t d (inl k)) agree₁)
      (agree_trans (agree_less (λ g t d k. free_index b.free.free g t d (inr k)) agree₂)
      (agree_trans (agree_less (λ g t d. free_envelope b.free.free g t d) settled.agree)
      (agree_trans (agree_less (λ g t d. tt) steps.headed.agree) (agree_less (λ g t d. not_free t d.1) steps.freed.agree))))

  -- what the first free slot was
  first_before : word w₄ first_free_word ≡ word w first_free_word
  first_before =
      steps.headed.header first_free_word (omega arith) (omega arith)
      ∙ header_kept settled.within first_free_word (omega arith)
      ∙ struck_header (omega arith) (omega arith) steps.order first_free_word (omega arith) (omega arith)
      ∙ struck_header (omega arith) (omega arith) steps.numbers first_free_word (omega arith) (omega arith)

  free_chain' : FreeChain w' (s ∷ b.free.free)
  free_chain' =
      free_more slot_low (omega (arith, free_kept.room, slot_high)) steps.freed.number
      (steps.freed.next
      ∙ ap pos (ap (up_to most_nodes) (first_before ∙ b.free.first_free)
      ∙ up_to_in most_nodes (head0 b.free.free) (omega (arith, chain_head b.free.free_chain, cap_most w))))
      (free_agree free_kept b.free.free_chain)

  -- ---- the plain book

  plain_is : map offer_of rest ≡ leave number plain.offers
  unfolding rest
  plain_is = sym (keep_map (λ o. not (has_number number o)) offer_of all) ∙ ap (leave number) b.stands_for

  -- with the offer back it would be as before
  back : map offer_of all ≡ join a.offer (map offer_of rest)
  back =
      standing_same Offer self ((standing_map offer_of).0 one_less.standing) (join_standing a.offer ((standing_map offer_of).0 one_less.standing') apart)
      (λ x i. let (z, k, e) = Memᴰ.of_map offer_of all i in
      (post_adds a.offer (map offer_of rest)).1
      (⊎_elim (λ q. inl (sym e ∙ ap offer_of q)) (λ j. inr (subst (λ (o : Offer). Memᴰ o (map offer_of rest)) e (Memᴰ.map offer_of j))) (itself_or z k)))
      (λ x i. ⊎_elim (λ q. subst (λ (o : Offer). Memᴰ o (map offer_of all)) (sym q) (Memᴰ.map offer_of live.member))
      (λ j. let (z, k, e) = Memᴰ.of_map offer_of rest j in
      subst (λ (o : Offer). Memᴰ o (map offer_of all)) e (Memᴰ.map offer_of (one_less.there z k).0))
      ((post_adds a.offer (map offer_of rest)).0 i))
    where
      itself_or : (z : Item) → Memᴰ z all → (z ≡ a) ⊎ Memᴰ z rest
      itself_or z k =
          elim (decide_true (has_number number (offer_of z))) [
            | yes t ↦ inl (number_tells b k live.member (equal_eq (number_of z) number t ∙ sym live.number_is))
            | no t ↦ inr (one_less.others z k (λ e. t (number_of_it e)))
          ]
        where
          number_of_it : z ≡ a → T (equal (number_of z) number)
          number_of_it e = let q : number_of z ≡ number = ap number_of e ∙ live.number_is in omega (arith, int_rules)

      apart : (x : Offer) → Memᴰ x (map offer_of rest) → Ahead a.offer x ⊎ Ahead x a.offer
      apart x i =
          let (z, k, e) = Memᴰ.of_map offer_of rest i in
          let (j, d) = one_less.there z k in
          ⊎_elim (λ q. absurd (d (number_tells b j live.member (ap (λ (o : Offer). o.number) (e ∙ sym q))))) (λ h. h) (compare_offers a.offer x)

  fewer : length all ≡ suc (length rest)
  fewer =
      sym (length-map all offer_of) ∙ ap length back ∙ length_join a.offer (map offer_of rest) ∙ ap suc (length-map rest offer_of)

  -- the lines are some of what is left
  line_left : (t : ℕ) → In t (book_lines settled.after) → In t rest
  line_left t (at i e) = at (sublist_mem (firsts_sub items.before rest) (subst (Memᴰ _) settled.filed.lines i)) e

  withdrawn : Rebuilt held w' (holding plain (leave number plain.offers)) m
  withdrawn =
      record {
        live = rest;
        before = w₂;
        after_tree = w₃;
        settled = settled;
        capacity = free_kept.room ∙ b.capacity;
        some_slot = b.some_slot;
        root = steps.freed.header offers_root_word (omega arith) (omega arith) ∙ steps.headed.root;
        envelope = steps.freed.header envelope_root_word (omega arith) (omega arith) ∙ steps.headed.envelope;
        count = steps.freed.header live_count_word (omega arith) (omega arith) ∙ steps.headed.count ∙ ap pos (omega (arith, fewer, count));
        offers = offers_agree settled.after
            (agree_trans (agree_less (λ g t d. tt) steps.headed.agree) (agree_less (λ g t d. not_there t (line_left t d.1)) steps.freed.agree))
            settled.left.offers;
        numbers = numbers₁.0;
        by_number = stands_agree numbers₂ (later (numbers_envelope rest)) (header₄ numbers_root_word (omega arith) (omega arith) (omega arith));
        order = order₂.0;
        by_rank = stands_agree order₂.1 (later (order_envelope rest)) (header₄ order_root_word (omega arith) (omega arith) (omega arith));
        leaves = leaves_are;
        free =
            record {
              free = s ∷ b.free.free;
              first_free = steps.freed.first;
              free_chain = free_chain';
              free_apart = pairs_cons (λ p q. ¬_prop) (λ t i d. not_free t i (sym d)) b.free.free_apart;
              slots_used = omega (arith, fewer, b.free.slots_used, free_kept.room);
            };
        plain_is = plain_is;
      }

  -- the count written is the plain book's
  pub withdrawn_count : n ≡ length (leave number plain.offers)
  withdrawn_count = omega (arith, fewer, count, length-map rest offer_of, ap length plain_is)

  -- the part stands for the plain book after the withdrawal
  pub withdrawn_plain : Updated w' (holding plain (leave number plain.offers)) held m.counts
  withdrawn_plain = rebuilt withdrawn b
