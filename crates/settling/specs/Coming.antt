-- An item comes to the tree of offers: it stands alone, is inserted, takes the place of its rate's first, or changes nothing.
use Rattle.std.specs.Prelude.{◌≡◌, refl, ◌≢◌, ◌⊎◌, not, ℕ, T, ℤ}
use Rattle.std.proofs.Common.{sym, ◌∙◌, ap, subst, inl, inr, arith}
use mathlib.Core.List.Memᴰ
use mathlib.Core.List.IsChain
use mathlib.Core.List.{List, [], ◌∷◌, Memᴰ, Sublistᴰ}
use Rattle.std.proofs.Math.Option.{Option, none, some}
use Rattle.std.specs.Int.Signed.{lt_z}
use Rattle.lists.specs.Firsts.{firsts_sub}
use Rattle.integers.specs.Parts.{int_rules, ne_parts}
use Rattle.offers.specs.Order.{Ahead}
use Rattle.offers.proofs.Ranks.{rank_ahead}
use Rattle.dynamic.specs.OfferTree.{Held, held_shape, alone}
use Rattle.dynamic.specs.Updates.{posted}
use Rattle.dynamic.specs.Valid.{book_lines}
use Rattle.dynamic.specs.Placed.{New}
use Rattle.dynamic.specs.Inserted.{alone_whole}
use Rattle.firsts.specs.Joins.{same_place, Joins}
use Rattle.firsts.specs.Filed.{Filed, new_line, filed_new, filed_ahead, filed_behind}
use Rattle.table.specs.Fields.{rank_field}
use Rattle.table.specs.Words.{Words}
use Rattle.table.specs.Layout.{cap, cell}
use Rattle.table.specs.Items.{Item, Slots, slots_sublist, offer_of}
use Rattle.table.specs.Rep.{tied_leaf, within_refl}
use Rattle.table.specs.Nodes.{ref_low}
use Rattle.table.specs.Threads.{Holds}
use Rattle.pieces.specs.Pieces.{items, rate_of}
use Rattle.form.specs.Stored.{HeldIn, stored_single}
use Rattle.form.specs.Form.{OffersIn, offers_ref, envelope_ref, rank_of}
use Rattle.levels.specs.declared.Held.{Held as InHand}
use Rattle.levels.specs.declared.Made.{Made as Outcome}
use Rattle.update.specs.Steps.{alone_at, Newcomer, InsertedIn, RemovedIn}
use Rattle.declining.specs.Sought.{Sought, sought_item, sought_none}
use Rattle.settling.specs.Agree.{agree_touched}
use Rattle.settling.specs.Settling.{idle, Joined, joins_alone, joins_among, joins_ahead, joins_behind, in_hand, left_book, Settled, Before}
use Rattle.settling.specs.Settling.{line_live, slots_lines, rate_none, unmoved, vacates}

-- a single item in hand
alone_in : {w : Words} {a : Item} → Slots (cap w) (a ∷ []) → Holds w (a ∷ []) → HeldIn w a.slot a.slot (alone a)
alone_in {a} s h =
    record {
      root = refl;
      envelope = refl;
      slots = s;
      kept = h;
      tied = tied_leaf;
      stored = stored_single;
      pieces = (tied_leaf, IsChain.singleton a);
      right = alone_whole items a;
    }

one_held : {w : Words} {a : Item} {xs : List Item} → Holds w (a ∷ xs) → Holds w (a ∷ [])
one_held h = record { held = λ m. h.held (Memᴰ.head (Memᴰ.eq_of_singleton m)) }

-- ---- an item comes

module _
    {w : Words} {x : InHand} {held : Option (Held Item)} {live live' : List Item}
    (b : Before w x held live)
    (a : Item)
    (slots : Slots (cap w) (a ∷ live))
    (holds : Holds w (a ∷ live))
    (rank-word : cell w rank_field a.slot ≡ rank_of a)
    (new : (y : Item) → Memᴰ y live → rank_of y ≢ rank_of a)
    (j : Joins Item offer_of a live live') where
  with_lines : Slots (cap w) (a ∷ book_lines held)
  with_lines = slots_sublist (Sublistᴰ.cons-cons refl (subst (λ l. Sublistᴰ l live) (sym b.lines) (firsts_sub items.before live))) slots

  -- its rate is new
  joins_rate : {w' : Words} {m : Outcome} {s : ℕ} → s ≡ a.slot → ((y : Item) → Memᴰ y (book_lines held) → rate_of y ≢ rate_of a) →
      ((x.tree ≡ 0) × (w' ≡ w) × (m ≡ alone_at s)) ⊎ ((x.tree ≢ 0) × InsertedIn s x w w' m) → Settled held live' w w' m
  joins_rate {w'} {m} {s} es none_there way =
      go held b.tree b.envelope b.offers with_lines (new_line Item offer_of held b.whole b.lines j none_there)
      (filed_new Item offer_of held b.whole b.lines j (rate_none b none_there)) way
    where
      go : (h : Option (Held Item)) → x.tree ≡ offers_ref h → x.envelope ≡ envelope_ref h → OffersIn w h → Slots (cap w) (a ∷ book_lines h) →
          New items a (book_lines h) → Filed Item offer_of h (some (posted items a h).held) live' (posted items a h).log →
          ((x.tree ≡ 0) × (w' ≡ w) × (m ≡ alone_at s)) ⊎ ((x.tree ≢ 0) × InsertedIn s x w w' m) → Settled h live' w w' m
      go none et ee o g n f (inl (ez, ew, em)) =
          rw (ew, em, es)
          (record {
            after = some (alone a);
            log = [];
            within = within_refl w;
            agree = record { room = refl; cells = λ g s d. refl };
            left = left_book (some (alone a)) (alone_in g (one_held holds));
            counted = record { searches = refl; steps = refl; heights = refl };
            filed = f;
          })
      go none et ee o g n f (inr (nz, i)) = absurd (nz et)
      go (some h) et ee o g n f (inl (ez, ew, em)) = absurd (omega (arith, ref_low (held_shape h) o.slots))
      go (some h) et ee o g n f (inr (nz, i)) =
          record {
            after = some (posted items a (some h)).held;
            log = (posted items a (some h)).log;
            within = i.within;
            agree = agree_touched i.within (i.touched a h there) (λ p s d. d);
            left = left_book (some (posted items a (some h)).held) (i.made a h there).held;
            counted = (i.made a h there).counted;
            filed = f;
          }
        where
          there : Newcomer w s x a h
          there =
              record {
                slot = es;
                kept = one_held holds;
                slots = g;
                new = n;
                held = in_hand et ee o;
              }

  -- its rate's first is there: ahead of it, or behind
  module _ (f : Item) (i : Memᴰ f (book_lines held)) (r : rate_of f ≡ rate_of a) where
    in_range_lem : T (lt_z (rank_of f) (rank_of a)) → Ahead a.offer f.offer
    in_range_lem t = rank_ahead a.offer f.offer (holds.held (Memᴰ.head refl)).ranged (b.holds.held (line_live b i)).ranged t

    out_of_range : T (not (lt_z (rank_of f) (rank_of a))) → Ahead f.offer a.offer
    out_of_range t =
        rank_ahead f.offer a.offer (b.holds.held (line_live b i)).ranged (holds.held (Memᴰ.head refl)).ranged
        (above (rank_of f) (rank_of a) (new f (line_live b i)) t)
      where
        above : (p q : ℤ) → p ≢ q → T (not (lt_z p q)) → T (lt_z q p)
        above p q d t = omega (arith, int_rules, ne_parts p q d)

    rank_of_first : {s : ℕ} → s ≡ f.slot → cell w rank_field s ≡ rank_of f
    rank_of_first e = ap (cell w rank_field) e ∙ b.ranked.read (line_live b i)

    joins_first : {w' : Words} {m : Outcome} {s t : ℕ} → s ≡ a.slot → t ≡ f.slot → T (lt_z (cell w rank_field t) (cell w rank_field s)) →
        RemovedIn t s x w w' m → Settled held live' w w' m
    joins_first {s = s} {t} es et c k =
        vacates b f (some a) et es i (same_place Item offer_of f a r) (one_held holds) with_lines k
        (filed_ahead Item offer_of held b.whole b.lines j f i r (in_range_lem (words c (rank_of_first et) (ap (cell w rank_field) es ∙ rank-word))))
      where
        words : {p q p' q' : ℤ} → T (lt_z p q) → p ≡ p' → q ≡ q' → T (lt_z p' q')
        words t e d = omega (arith, int_rules)

    joins_later : {w' : Words} {m : Outcome} {s t : ℕ} → s ≡ a.slot → t ≡ f.slot → T (not (lt_z (cell w rank_field t) (cell w rank_field s))) → w' ≡ w →
        m ≡ idle x → Settled held live' w w' m
    joins_later {s = s} {t} es et c ew em =
        unmoved b ew em
        (filed_behind Item offer_of held b.whole b.lines j f i r (out_of_range (words c (rank_of_first et) (ap (cell w rank_field) es ∙ rank-word))))
      where
        words : {p q p' q' : ℤ} → T (not (lt_z p q)) → p ≡ p' → q ≡ q' → T (not (lt_z p' q'))
        words t e d = omega (arith, int_rules)

  pub joins : {w' : Words} {m : Outcome} {s f : ℕ} → s ≡ a.slot → Sought rate_of (rate_of a) (book_lines held) f → Joined s f x w w' m →
      Settled held live' w w' m
  joins es h (joins_alone ef ex ew em) = joins_rate es (sought_none (slots_lines b) h ef) (inl (ex, ew, em))
  joins es h (joins_among ef nx i) = joins_rate es (sought_none (slots_lines b) h ef) (inr (nx, i))
  joins es h (joins_ahead nf c k) = let (g, i, e, d) = sought_item h nf in joins_first g i e es d c k
  joins es h (joins_behind nf c ew em) = let (g, i, e, d) = sought_item h nf in joins_later g i e es d c ew em
