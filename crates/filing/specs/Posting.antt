-- A post on a part that stands for a plain book: the code's steps, one after the other, leave a part that stands for the plain book after the post.
use Rattle.std.specs.Prelude.{◌≡◌, refl, ◌≢◌, ◌⊎◌, ℕ, suc, ◌≤◌, ◌<◌, length, pos}
use Rattle.std.proofs.Common.{sym, ◌∙◌, ap, subst, inl, inr, ⊎_elim, arith}
use mathlib.Core.HLevel.{¬_prop}
use mathlib.Core.List.Memᴰ
use mathlib.Core.List.{List, ◌∷◌, map, Memᴰ}
use Rattle.std.proofs.Math.Option.{Option}
use Rattle.std.proofs.lemmas.List.{length-map}
use Rattle.lists.specs.Members.{pairs_cons}
use Rattle.offers.specs.Offers.{Offer}
use Rattle.offers.specs.Order.{Ahead, compare_offers}
use Rattle.offers.proofs.Ranks.{rank_tells}
use Rattle.trees.specs.Operations.{Part, part_leaves}
use Rattle.plain.specs.Book.{State, join, holding}
use Rattle.plain.specs.Sound.{length_join}
use Rattle.plain.proofs.LiveAfter.{post_adds}
use Rattle.plain.specs.FirstLaws.{self, Standing, pairs_standing, standing_map, standing_same}
use Rattle.plain.proofs.FirstLaws.{join_standing}
use Rattle.dynamic.specs.OfferTree.{Held}
use Rattle.firsts.specs.Joins.{Joins}
use Rattle.table.specs.Fields.{first_free_word, live_count_word, most_nodes, number_field, number_tree, numbers_root_word, offer_tree, order_root_word, order_tree}
use Rattle.table.specs.Fields.{rank_field, rate_field}
use Rattle.table.specs.Words.{Words, word, up_to}
use Rattle.table.specs.Layout.{cap, cell}
use Rattle.table.specs.Items.{Item, In, at, Slots, offer_of}
use Rattle.table.specs.Rep.{header_kept}
use Rattle.table.specs.Threads.{Held as HeldAt, Holds}
use Rattle.table.specs.Keys.{Keyed, keyed_numbers}
use Rattle.descents.specs.Finds.{Found}
use Rattle.form.specs.Stored.{EnvelopeField}
use Rattle.form.specs.Form.{Book, head0, number_of, rank_of}
use Rattle.form.specs.Live.{ranks_ahead}
use Rattle.form.specs.Roots.{offers_root}
use Rattle.levels.specs.declared.Made.{Made as Outcome}
use Rattle.declining.specs.Sought.{rate_sought}
use Rattle.declining.specs.PartCauses.{Postable}
use Rattle.index.specs.Index.{Comes}
use Rattle.settling.specs.Agree.{Agree, IndexHere, FreeHere, agree_trans, agree_less, numbers_envelope, order_envelope, numbers_order, order_numbers}
use Rattle.settling.specs.Agree.{rank_apart, tree_index, free_index, free_envelope, offers_agree, free_agree}
use Rattle.settling.specs.Writing.{roots_of, Filled, Headed, FirstFree, first_free_lem}
use Rattle.settling.specs.Indexes.{Stands, stands_agree, stands_among, stands_leaves, numbers_stand, order_stand, OffTree, Entered, entered}
use Rattle.settling.specs.Indexes.{entered_agree, entered_header}
use Rattle.settling.specs.Settling.{Joined, Settled, Before}
use Rattle.settling.specs.Coming.{joins}
use Rattle.filing.specs.Updating.{Updated, book_standing, before_at, Rebuilt, rebuilt}

-- The steps of a post: a slot filled, the item entered in both indexes and joined to the tree of offers, the roots and the count set.
pub record PostSteps (o : Offer) (w w₁ w₂ w₃ w₄ w' : Words) (s f n : ℕ) (m : Outcome) : Type 0 where
  pub slot : s ≡ up_to most_nodes (word w first_free_word)
  pub filled : Filled s o w w₁
  pub numbers : Entered number_tree number_field numbers_root_word s w₁ w₂
  pub order : Entered order_tree rank_field order_root_word s w₂ w₃
  pub first : Found w offer_tree rate_field o.rate (offers_root w) f
  pub joined : Joined s f (roots_of w) w₃ w₄ m
  pub headed : Headed m.held n w₄ w'

-- the offer in that slot
abbrev pub item_at : ℕ → Offer → Item
item_at s o = record { slot = s; offer = o }

module _
    {w w₁ w₂ w₃ w₄ w' : Words} {plain : State} {s f n : ℕ} {m : Outcome} {held : Option (Held Item)}
    (o : Offer)
    (b : Book w plain held)
    (new : Postable o plain.capacity (part_leaves b.order))
    (steps : PostSteps o w w₁ w₂ w₃ w₄ w' s f n m)
    (count : n ≡ suc (length (part_leaves b.order))) where
  abbrev live : List Item
  live = part_leaves b.order

  abbrev item : Item
  item = item_at s o

  others : List ℕ
  others = (first_free_lem b new.room steps.slot).0

  free : FirstFree w live s others
  unfolding others
  free = (first_free_lem b new.room steps.slot).1

  -- ---- w to w₁: a slot is filled

  not_there : (t : ℕ) → In t live → t ≢ s
  not_there t i d = free.not_live (subst (λ (u : ℕ). In u live) d i)

  numbers₁ : Stands w₁ number_tree number_field numbers_root_word number_of live b.numbers.numbers
  numbers₁ = stands_agree (numbers_stand b) (agree_less (λ g t d. not_there t d.1) steps.filled.agree)
      (steps.filled.header numbers_root_word (omega arith) (omega arith))

  order₁ : Stands w₁ order_tree rank_field order_root_word rank_of live b.order
  order₁ = stands_agree (order_stand b) (agree_less (λ g t d. not_there t d.1) steps.filled.agree)
      (steps.filled.header order_root_word (omega arith) (omega arith))

  slots₁ : Slots (cap w₁) (item ∷ live)
  slots₁ =
      record {
        low = λ {a = y} i. ⊎_elim {C = 1 ≤ y.slot} (λ (q : y ≡ item). omega (arith, ap (λ (z : Item). z.slot) q, free.low))
            numbers₁.index.slots.low (Memᴰ.cases_cons i);
        high = λ {a = y} i. ⊎_elim {C = y.slot ≤ cap w₁}
            (λ (q : y ≡ item). omega (arith, ap (λ (z : Item). z.slot) q, free.high, steps.filled.agree.room))
            numbers₁.index.slots.high (Memᴰ.cases_cons i);
        apart = pairs_cons (λ y z. ¬_prop) (λ y i d. free.not_live (at i d)) numbers₁.index.slots.apart;
      }

  holds₁ : Holds w₁ (item ∷ live)
  holds₁ = record {
    held = λ {a = y} i. ⊎_elim {C = HeldAt w₁ y} (λ (q : y ≡ item). subst (HeldAt w₁) (sym q) here) numbers₁.index.holds.held
        (Memᴰ.cases_cons i);
  }
    where
      here : HeldAt w₁ item
      here = record { number = steps.filled.number; rate = steps.filled.rate; base = steps.filled.base; ranged = new.ranged }

  ranked₁ : Keyed w₁ rank_field rank_of (item ∷ live)
  ranked₁ = record {
    read = λ {a = y} i. ⊎_elim {C = cell w₁ rank_field y.slot ≡ rank_of y}
        (λ (q : y ≡ item). subst (λ (z : Item). cell w₁ rank_field z.slot ≡ rank_of z) (sym q) steps.filled.ranked) order₁.index.keyed.read
        (Memᴰ.cases_cons i);
  }

  -- a number that is new has a rank that is new
  rank_new : (y : Item) → Memᴰ y live → rank_of y ≢ rank_of item
  rank_new y i e =
      new.number_new y i (ap (λ (p : Offer). p.number) (rank_tells y.offer o (b.in_order.holds.held i).ranged new.ranged e))

  -- ---- w₁ to w₃: both indexes

  comes₁ : Comes w₁ number_field s number_of item live
  comes₁ = record { slot = refl; slots = slots₁; holds = holds₁; keyed = keyed_numbers holds₁; new = new.number_new }

  agree₂ : Agree (OffTree number_tree) w₁ w₂
  agree₂ = entered_agree (omega arith) (omega arith) steps.numbers numbers₁ comes₁

  numbers₂ : (q : Part Item) × Stands w₂ number_tree number_field numbers_root_word number_of (item ∷ live) q
  numbers₂ = entered (omega arith) (omega arith) steps.numbers numbers₁ comes₁

  order₂ : Stands w₂ order_tree rank_field order_root_word rank_of live b.order
  order₂ = stands_agree order₁ (agree_less (λ g t d. order_numbers live g t d) agree₂)
      (entered_header (omega arith) (omega arith) steps.numbers order_root_word (omega arith) (omega arith))

  comes₂ : Comes w₂ rank_field s rank_of item live
  comes₂ =
      record {
        slot = refl;
        slots = numbers₂.1.index.slots;
        holds = numbers₂.1.index.holds;
        keyed = record { read = λ {a = y} i. agree₂.cells rank_field y.slot (λ n. rank_apart (inl n)) ∙ ranked₁.read i };
        new = rank_new;
      }

  agree₃ : Agree (OffTree order_tree) w₂ w₃
  agree₃ = entered_agree (omega arith) (omega arith) steps.order order₂ comes₂

  order₃ : (q : Part Item) × Stands w₃ order_tree rank_field order_root_word rank_of (item ∷ live) q
  order₃ = entered (omega arith) (omega arith) steps.order order₂ comes₂

  numbers₃ : Stands w₃ number_tree number_field numbers_root_word number_of (item ∷ live) numbers₂.0
  numbers₃ = stands_agree numbers₂.1 (agree_less (λ g t d. numbers_order (item ∷ live) g t d) agree₃)
      (entered_header (omega arith) (omega arith) steps.order numbers_root_word (omega arith) (omega arith))

  -- ---- w₃ to w₄: the tree of offers

  before₃ : Before w₃ (roots_of w) held live
  before₃ =
      before_at b
      (agree_trans (agree_less (λ g t d. not_there t d.1) steps.filled.agree)
      (agree_trans (agree_less (λ g t d k. tree_index live g t d (inl k)) agree₂)
      (agree_less (λ g t d k. tree_index live g t d (inr k)) agree₃)))

  -- the live items afterwards, in order
  abbrev live' : List Item
  live' = part_leaves order₃.0

  order' : Stands w₃ order_tree rank_field order_root_word rank_of live' order₃.0
  order' = stands_leaves order₃.1

  one_more : Joins Item offer_of item live live'
  one_more =
      record {
        standing = book_standing b;
        standing' = pairs_standing Item offer_of (ranks_ahead order'.index.holds order'.index.index_in.falling);
        there = λ x i. Memᴰ.cases_cons (order₃.1.index.index_in.all_live x i);
        new = order₃.1.index.index_in.all_there item (Memᴰ.head refl);
        old = λ x i. order₃.1.index.index_in.all_there x (Memᴰ.tail i);
      }

  settled : Settled held live' w₃ w₄ m
  settled =
      let i = order₃.1.index in
      joins before₃ item i.slots i.holds (i.keyed.read (Memᴰ.head refl)) rank_new one_more refl (rate_sought b steps.first refl)
      steps.joined

  -- ---- the plain book

  plain_is : map offer_of live' ≡ join o plain.offers
  plain_is =
      standing_same Offer self ((standing_map offer_of).0 one_more.standing') (join_standing o in_order apart)
      (λ x i. let (y, k, e) = Memᴰ.of_map offer_of live' i in
      (post_adds o plain.offers).1
      (⊎_elim (λ q. inl (sym e ∙ ap offer_of q)) (λ j. inr (subst (λ p. Memᴰ p plain.offers) e (was_live j))) (one_more.there y k)))
      (λ x i. ⊎_elim (λ q. subst (λ p. Memᴰ p (map offer_of live')) (sym q) (Memᴰ.map offer_of one_more.new))
      (λ j. let (y, k, e) = Memᴰ.of_map offer_of live (subst (Memᴰ x) (sym b.stands_for) j) in
      subst (λ p. Memᴰ p (map offer_of live')) e (Memᴰ.map offer_of (one_more.old y k))) ((post_adds o plain.offers).0 i))
    where
      was_live : {y : Item} → Memᴰ y live → Memᴰ y.offer plain.offers
      was_live {y} j = subst (Memᴰ y.offer) b.stands_for (Memᴰ.map offer_of j)

      in_order : Standing Offer self plain.offers
      in_order = subst (Standing Offer self) b.stands_for ((standing_map offer_of).0 (book_standing b))

      apart : (x : Offer) → Memᴰ x plain.offers → Ahead o x ⊎ Ahead x o
      apart x i =
          let (y, k, e) = Memᴰ.of_map offer_of live (subst (Memᴰ x) (sym b.stands_for) i) in
          ⊎_elim (λ q. absurd (new.number_new y k (ap (λ (p : Offer). p.number) (e ∙ sym q)))) (λ k. k) (compare_offers o x)

  more : length live' ≡ suc (length live)
  more =
      sym (length-map live' offer_of) ∙ ap length plain_is ∙ length_join o plain.offers
      ∙ ap suc (ap length (sym b.stands_for) ∙ length-map live offer_of)

  -- ---- w₄ to w': the header

  later : {k : ℕ} {xs : List Item} → ((g t : ℕ) → IndexHere k xs g t → EnvelopeField g → ⊥) → Agree (IndexHere k xs) w₃ w'
  later off = agree_trans (agree_less off settled.agree) (agree_less (λ g t d. tt) steps.headed.agree)

  header₄ : (i : ℕ) → live_count_word < i → i < 64 → word w' i ≡ word w₃ i
  header₄ i l h = steps.headed.header i l h ∙ header_kept settled.within i h

  free_kept : Agree (FreeHere others) w w'
  free_kept =
      agree_trans (agree_less (λ g t d. free.other t d.1) steps.filled.agree)
      (agree_trans (agree_less (λ g t d k. free_index others g t d (inl k)) agree₂)
      (agree_trans (agree_less (λ g t d k. free_index others g t d (inr k)) agree₃)
      (agree_trans (agree_less (λ g t d. free_envelope others g t d) settled.agree) (agree_less (λ g t d. tt) steps.headed.agree))))

  first_free' : word w' first_free_word ≡ pos (head0 others)
  first_free' =
      header₄ first_free_word (omega arith) (omega arith)
      ∙ entered_header (omega arith) (omega arith) steps.order first_free_word (omega arith) (omega arith)
      ∙ entered_header (omega arith) (omega arith) steps.numbers first_free_word (omega arith) (omega arith)
      ∙ steps.filled.first
      ∙ ap pos free.next

  numbers' : Stands w₃ number_tree number_field numbers_root_word number_of live' numbers₂.0
  numbers' = stands_among numbers₃ order'.index.slots order₃.1.index.index_in.all_live order₃.1.index.index_in.all_there

  posted : Rebuilt held w' (holding plain (join o plain.offers)) m
  posted =
      record {
        live = live';
        before = w₃;
        after_tree = w₄;
        settled = settled;
        capacity = free_kept.room ∙ b.capacity;
        some_slot = b.some_slot;
        root = steps.headed.root;
        envelope = steps.headed.envelope;
        count = steps.headed.count ∙ ap pos (count ∙ sym more);
        offers = offers_agree settled.after (agree_less (λ g t d. tt) steps.headed.agree) settled.left.offers;
        numbers = numbers₂.0;
        by_number = stands_agree numbers' (later (numbers_envelope live')) (header₄ numbers_root_word (omega arith) (omega arith));
        order = order₃.0;
        by_rank = stands_agree order' (later (order_envelope live')) (header₄ order_root_word (omega arith) (omega arith));
        leaves = refl;
        free =
            record {
              free = others;
              first_free = first_free';
              free_chain = free_agree free_kept free.chain;
              free_apart = free.apart;
              slots_used = omega (arith, free.count, more, free_kept.room);
            };
        plain_is = plain_is;
      }

  -- the part stands for the plain book after the post
  pub posted_plain : Updated w' (holding plain (join o plain.offers)) held m.counts
  posted_plain = rebuilt posted b
