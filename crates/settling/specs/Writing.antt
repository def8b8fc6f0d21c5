-- The few writes of an update outside its trees: a free slot taken and filled, a slot given back, the roots and the count set.
use Rattle.std.specs.Prelude.{◌≡◌, refl, ◌≢◌, ◌&&◌, ℕ, suc, ◌+◌, ◌≤◌, ◌<◌, length, T, ℤ, pos}
use Rattle.std.proofs.Common.{sym, ◌∙◌, ap, subst, arith}
use mathlib.Core.List.Pairwise
use mathlib.Core.List.{List, [], ◌∷◌, Memᴰ, Pairwise, rel_of_Pairwise-cons}
use Rattle.std.proofs.Math.Option.{Option}
use Rattle.lists.specs.Bools.{and_left}
use Rattle.integers.specs.Parts.{int_rules, range_low}
use Rattle.offers.specs.Offers.{Offer, number_in_range, rate_in_range, base_in_range}
use Rattle.offers.specs.Ranks.{rank}
use Rattle.trees.specs.Operations.{part_leaves}
use Rattle.dynamic.specs.OfferTree.{Held}
use Rattle.plain.specs.Book.{State}
use Rattle.table.specs.Fields.{base_field, envelope_root_word, first_free_word, live_count_word, most_nodes, next_free_field, number_field, offers_root_word}
use Rattle.table.specs.Fields.{rank_field, rate_field}
use Rattle.table.specs.Words.{Words, word, wset, wset_other, up_to, up_to_in}
use Rattle.table.specs.Layout.{cap, cap_most, cell, cset, link_at, Valid, cset_same, cset_rest, header_outside}
use Rattle.table.proofs.LayoutLaws.{cset_other}
use Rattle.table.specs.Free.{first_free, taken, given, free_link}
use Rattle.table.specs.Items.{Item, In, at}
use Rattle.table.specs.Threads.{Holds}
use Rattle.form.specs.Form.{Book, FreeChain, free_none, free_more, head0}
use Rattle.form.specs.Roots.{envelope_root, offers_root}
use Rattle.settling.specs.Agree.{Agree, Everywhere, Elsewhere, agree_trans, agree_less, agree_header, agree_cset, header_set}
use Rattle.levels.specs.declared.Held.{Held as InHand}

-- ---- what the code writes and reads

-- an offer's three fields and its rank in a slot that was taken
abbrev pub filling : Offer → ℕ → Words → Words
filling o s w = cset (cset (cset (cset (taken w) number_field s o.number) rate_field s o.rate) base_field s o.base) rank_field s (rank o)

-- the roots that the header tells
abbrev pub roots_of : Words → InHand
roots_of w = record { tree = offers_root w; envelope = envelope_root w }

pub roots_read : (w : Words) {x e : ℕ} → x ≡ offers_root w → e ≡ envelope_root w → record { tree = x; envelope = e } ≡ roots_of w
roots_read w p q = λ i. record { tree = p i; envelope = q i }

-- the roots and the live count
abbrev pub rooting : InHand → ℕ → Words → Words
rooting x n w = wset (wset (wset w offers_root_word (pos x.tree)) envelope_root_word (pos x.envelope)) live_count_word (pos n)

-- ---- .. write by write

pub filled_in : (o : Offer) (w : Words) (s : ℕ) {z : ℤ} {w₁ w₂ w₃ w₄ w₅ : Words} → w₁ ≡ taken w → w₂ ≡ cset w₁ number_field s o.number →
    w₃ ≡ cset w₂ rate_field s o.rate → w₄ ≡ cset w₃ base_field s o.base → z ≡ rank o → w₅ ≡ cset w₄ rank_field s z → w₅ ≡ filling o s w
filled_in o w s {w₄ = w₄} e₁ e₂ e₃ e₄ ez e₅ =
    e₅ ∙ ap (cset w₄ rank_field s) ez ∙ ap (λ (v : Words). cset v rank_field s (rank o)) (e₄ ∙ ap (λ (v : Words). cset v base_field s o.base)
    (e₃ ∙ ap (λ (v : Words). cset v rate_field s o.rate) (e₂ ∙ ap (λ (v : Words). cset v number_field s o.number) e₁)))

pub rooted_in :
    (w : Words) (x : InHand) (n : ℕ) {w₁ w₂ w₃ : Words} →
    w₁ ≡ wset w offers_root_word (pos x.tree) →
    w₂ ≡ wset w₁ envelope_root_word (pos x.envelope) →
    w₃ ≡ wset w₂ live_count_word (pos n) →
    w₃ ≡ rooting x n w
rooted_in w x n e₁ e₂ e₃ = e₃ ∙ ap (λ (v : Words). wset v live_count_word (pos n)) (e₂ ∙ ap (λ (v : Words). wset v envelope_root_word (pos x.envelope)) e₁)

-- ---- a slot is filled: the first free slot is then the next one

pub record Filled (s : ℕ) (o : Offer) (w w' : Words) : Type 0 where
  pub number : cell w' number_field s ≡ o.number
  pub rate : cell w' rate_field s ≡ o.rate
  pub base : cell w' base_field s ≡ o.base
  pub ranked : cell w' rank_field s ≡ rank o
  pub first : word w' first_free_word ≡ pos (link_at w next_free_field s)
  pub header : (i : ℕ) → i < 64 → i ≢ first_free_word → word w' i ≡ word w i
  pub agree : Agree (Elsewhere s) w w'

-- ---- a slot is given back: it is then the first free slot

pub record Freed (s : ℕ) (w w' : Words) : Type 0 where
  pub number : cell w' number_field s ≡ pos 0
  pub next : cell w' next_free_field s ≡ pos (first_free w)
  pub first : word w' first_free_word ≡ pos s
  pub header : (i : ℕ) → i < 64 → i ≢ first_free_word → word w' i ≡ word w i
  pub agree : Agree (Elsewhere s) w w'

-- ---- the root of the offers, its envelope and the live count are set

pub record Headed (x : InHand) (n : ℕ) (w w' : Words) : Type 0 where
  pub root : word w' offers_root_word ≡ pos x.tree
  pub envelope : word w' envelope_root_word ≡ pos x.envelope
  pub count : word w' live_count_word ≡ pos n
  pub header : (i : ℕ) → live_count_word < i → i < 64 → word w' i ≡ word w i
  pub agree : Agree Everywhere w w'

module _ (w : Words) (s : ℕ) (low : 1 ≤ s) (high : s ≤ cap w) where
  here : (v : Words) (f : ℕ) → f < 32 → cap v ≡ cap w → Valid v f s
  here v f h e = record { low = low; high = omega arith; field = h }

  pub filled : {w₁ w₂ w₃ w₄ w₅ : Words} (o : Offer) → w₁ ≡ wset w first_free_word (pos (link_at w next_free_field s)) → w₂ ≡ cset w₁ number_field s o.number →
      w₃ ≡ cset w₂ rate_field s o.rate → w₄ ≡ cset w₃ base_field s o.base → w₅ ≡ cset w₄ rank_field s (rank o) → Filled s o w w₅
  filled {w₁} {w₂} {w₃} {w₄} {w₅} o e₁ e₂ e₃ e₄ e₅ =
      record {
        number = at₅ number_field (omega arith) ∙ at₄ number_field (omega arith) ∙ at₃ number_field (omega arith) ∙ ap (at number_field) e₂
            ∙ cset_same o.number (here w₁ number_field (omega arith) g₁.room);
        rate = at₅ rate_field (omega arith) ∙ at₄ rate_field (omega arith) ∙ ap (at rate_field) e₃
            ∙ cset_same o.rate (here w₂ rate_field (omega arith) g₂.room);
        base = at₅ base_field (omega arith) ∙ ap (at base_field) e₄ ∙ cset_same o.base (here w₃ base_field (omega arith) g₃.room);
        ranked = ap (at rank_field) e₅ ∙ cset_same (rank o) (here w₄ rank_field (omega arith) g₄.room);
        first = head first_free_word (omega arith) ∙ ap (λ (v : Words). word v first_free_word) e₁
            ∙ header_set w first_free_word (pos (link_at w next_free_field s)) (omega arith) (omega arith);
        header = λ i h d. head i h ∙ ap (λ (v : Words). word v i) e₁ ∙ wset_other w first_free_word i (pos (link_at w next_free_field s)) d;
        agree = agree_trans g₄ (rw e₅ (agree_cset w₄ rank_field s (rank o)));
      }
    where
      at : ℕ → Words → ℤ
      at f v = cell v f s

      at₃ : (f : ℕ) → f ≢ rate_field → cell w₃ f s ≡ cell w₂ f s
      at₃ f d = ap (λ (v : Words). cell v f s) e₃ ∙ cset_other w₂ rate_field s o.rate (λ q. d q.0)

      at₄ : (f : ℕ) → f ≢ base_field → cell w₄ f s ≡ cell w₃ f s
      at₄ f d = ap (λ (v : Words). cell v f s) e₄ ∙ cset_other w₃ base_field s o.base (λ q. d q.0)

      at₅ : (f : ℕ) → f ≢ rank_field → cell w₅ f s ≡ cell w₄ f s
      at₅ f d = ap (λ (v : Words). cell v f s) e₅ ∙ cset_other w₄ rank_field s (rank o) (λ q. d q.0)

      g₁ : Agree (Elsewhere s) w w₁
      g₁ = rw e₁ (agree_less (λ f t d. tt) (agree_header w first_free_word (pos (link_at w next_free_field s)) (omega arith) (omega arith)))

      g₂ : Agree (Elsewhere s) w w₂
      g₂ = agree_trans g₁ (rw e₂ (agree_cset w₁ number_field s o.number))

      g₃ : Agree (Elsewhere s) w w₃
      g₃ = agree_trans g₂ (rw e₃ (agree_cset w₂ rate_field s o.rate))

      g₄ : Agree (Elsewhere s) w w₄
      g₄ = agree_trans g₃ (rw e₄ (agree_cset w₃ base_field s o.base))

      head : (i : ℕ) → i < 64 → word w₅ i ≡ word w₁ i
      head i h =
          ap (λ (v : Words). word v i) e₅ ∙ cset_rest w₄ rank_field s (rank o) (header_outside w₄ h)
          ∙ ap (λ (v : Words). word v i) e₄ ∙ cset_rest w₃ base_field s o.base (header_outside w₃ h)
          ∙ ap (λ (v : Words). word v i) e₃ ∙ cset_rest w₂ rate_field s o.rate (header_outside w₂ h)
          ∙ ap (λ (v : Words). word v i) e₂ ∙ cset_rest w₁ number_field s o.number (header_outside w₁ h)

  freed : {w₁ w₂ w₃ : Words} → w₁ ≡ cset w number_field s (pos 0) → w₂ ≡ cset w₁ next_free_field s (pos (first_free w)) → w₃ ≡ wset w₂ first_free_word (pos s) →
      Freed s w w₃
  freed {w₁} {w₂} {w₃} e₁ e₂ e₃ =
      record {
        number = last number_field ∙ ap (at number_field) e₂ ∙ cset_other w₁ next_free_field s z (λ q. omega (arith, q.0)) ∙ ap (at number_field) e₁
            ∙ cset_same (pos 0) (here w number_field (omega arith) refl);
        next = last next_free_field ∙ ap (at next_free_field) e₂ ∙ cset_same z (here w₁ next_free_field (omega arith) g₁.room);
        first = ap (λ (v : Words). word v first_free_word) e₃ ∙ header_set w₂ first_free_word (pos s) (omega (arith, g₂.room)) (omega arith);
        header = λ i h d.
            ap (λ (v : Words). word v i) e₃ ∙ wset_other w₂ first_free_word i (pos s) d
            ∙ ap (λ (v : Words). word v i) e₂ ∙ cset_rest w₁ next_free_field s z (header_outside w₁ h)
            ∙ ap (λ (v : Words). word v i) e₁ ∙ cset_rest w number_field s (pos 0) (header_outside w h);
        agree = agree_trans g₂ (agree_less (λ f t d. tt) g₃);
      }
    where
      at : ℕ → Words → ℤ
      at f v = cell v f s

      z : ℤ
      z = pos (first_free w)

      g₁ : Agree (Elsewhere s) w w₁
      g₁ = rw e₁ (agree_cset w number_field s (pos 0))

      g₂ : Agree (Elsewhere s) w w₂
      g₂ = agree_trans g₁ (rw e₂ (agree_cset w₁ next_free_field s z))

      g₃ : Agree Everywhere w₂ w₃
      g₃ = rw e₃ (agree_header w₂ first_free_word (pos s) (omega arith) (omega arith))

      last : (f : ℕ) → cell w₃ f s ≡ cell w₂ f s
      last f = g₃.cells f s tt

  -- as the code gives it back
  pub freed_given : {w' : Words} → w' ≡ given w s → Freed s w w'
  freed_given e = freed refl refl e

pub headed : (w : Words) → 1 ≤ cap w → {w' : Words} {x : InHand} {n : ℕ} → w' ≡ rooting x n w → Headed x n w w'
headed w low {w'} {x} {n} e =
    record {
      root = at₃ offers_root_word (omega arith) ∙ at₂ offers_root_word (omega arith) ∙ header_set w offers_root_word (pos x.tree) low (omega arith);
      envelope = at₃ envelope_root_word (omega arith) ∙ header_set w₁ envelope_root_word (pos x.envelope) (omega (arith, g₁.room)) (omega arith);
      count = ap (λ (v : Words). word v live_count_word) e ∙ header_set w₂ live_count_word (pos n) (omega (arith, g₂.room)) (omega arith);
      header = λ i h k. at₃ i (omega arith) ∙ at₂ i (omega arith) ∙ wset_other w offers_root_word i (pos x.tree) (omega arith);
      agree = agree_trans g₂ (rw e (agree_header w₂ live_count_word (pos n) (omega arith) (omega arith)));
    }
  where
    w₁ : Words
    w₁ = wset w offers_root_word (pos x.tree)

    w₂ : Words
    w₂ = wset w₁ envelope_root_word (pos x.envelope)

    at₂ : (i : ℕ) → i ≢ envelope_root_word → word w₂ i ≡ word w₁ i
    at₂ i d = wset_other w₁ envelope_root_word i (pos x.envelope) d

    at₃ : (i : ℕ) → i ≢ live_count_word → word w' i ≡ word w₂ i
    at₃ i d = ap (λ (v : Words). word v i) e ∙ wset_other w₂ live_count_word i (pos n) d

    g₁ : Agree Everywhere w w₁
    g₁ = agree_header w offers_root_word (pos x.tree) (omega arith) (omega arith)

    g₂ : Agree Everywhere w w₂
    g₂ = agree_trans g₁ (agree_header w₁ envelope_root_word (pos x.envelope) (omega arith) (omega arith))

-- ---- the free slots of a book

-- the first free slot, and those after it
pub record FirstFree (w : Words) (live : List Item) (s : ℕ) (others : List ℕ) : Type 0 where
  pub low : 1 ≤ s
  pub high : s ≤ cap w
  pub next : link_at w next_free_field s ≡ head0 others
  pub chain : FreeChain w others
  pub other : (t : ℕ) → Memᴰ t others → t ≢ s
  pub apart : Pairwise (λ (a b : ℕ). a ≢ b) others
  pub count : suc (length others) + length live ≡ cap w
  pub not_live : In s live → ⊥

-- a free slot has number 0, and no live item has
pub free_not_live : {w : Words} {ss : List ℕ} {live : List Item} {s : ℕ} → FreeChain w ss → Holds w live → Memᴰ s ss → In s live → ⊥
free_not_live {w} {live} {s} chain holds m (at {a} i e) = go chain m
  where
    never : cell w number_field a.slot ≡ pos 0 → ⊥
    never d = zero (holds.held i).number d (and_left (number_in_range a.offer.number) (rate_in_range a.offer.rate)
        (and_left (number_in_range a.offer.number && rate_in_range a.offer.rate) (base_in_range a.offer.base) (holds.held i).ranged))
      where
        zero : {z n : ℤ} → z ≡ n → z ≡ pos 0 → T (number_in_range n) → ⊥
        zero {n} p q t = omega (arith, int_rules, range_low (pos 1) n (pos 9_999) t)

    go : {ss : List ℕ} → FreeChain w ss → Memᴰ s ss → ⊥
    go free_none m = elim m [ ]
    go (free_more low high zero next more) (Memᴰ.head d) = never (ap (cell w number_field) (sym e ∙ d) ∙ zero)
    go (free_more low high zero next more) (Memᴰ.tail n) = go more n

pub first_free_lem :
    {w : Words} {plain : State} {s : ℕ} {held : Option (Held Item)} (b : Book w plain held) → length (part_leaves b.order) < plain.capacity →
    s ≡ up_to most_nodes (word w first_free_word) →
    (others : List ℕ) × FirstFree w (part_leaves b.order) s others
first_free_lem {w} {s = s} b room e =
    let f = b.free in
    go f.free f.first_free f.free_chain f.free_apart f.slots_used (omega (arith, room, b.capacity))
    (λ t. free_not_live f.free_chain b.in_order.holds)
  where
    live : List Item
    live = part_leaves b.order

    go :
        (free : List ℕ) → word w first_free_word ≡ pos (head0 free) → FreeChain w free → Pairwise (λ (a b : ℕ). a ≢ b) free →
        length free + length live ≡ cap w → length live < cap w → ((t : ℕ) → Memᴰ t free → In t live → ⊥) →
        (others : List ℕ) × FirstFree w live s others
    go [] f chain apart used room no_one = absurd (omega arith)
    go (t ∷ others) f (free_more low high zero next more) apart used room no_one = (
      others,
      record {
        low = omega (arith, same);
        high = omega (arith, same);
        next = ap (link_at w next_free_field) same ∙ free_link t more next;
        chain = more;
        other = λ u m d. rel_of_Pairwise-cons apart ∣ m ∣₁ (sym (d ∙ same));
        apart = Pairwise.of_cons apart;
        count = used;
        not_live = λ i. no_one t (Memᴰ.head refl) (subst (λ (n : ℕ). In n live) same i);
      },
    )
      where
        same : s ≡ t
        same = e ∙ ap (up_to most_nodes) f ∙ up_to_in most_nodes t (omega (arith, cap_most w))
