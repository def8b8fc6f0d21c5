-- A post and a withdrawal on the words lent from a book's start on: what the code's parts promise of them, and put together.
use Rattle.std.specs.Prelude.{◌≡◌, refl, ℕ, suc, ◌-◌, ◌≤◌, ◌<◌, length, ℤ, pos}
use Rattle.std.proofs.Common.{sym, ◌∙◌, ap, subst, arith}
use mathlib.Core.List.Memᴰ
use mathlib.Core.List.{List, [], ◌∷◌, Memᴰ}
use Rattle.std.proofs.Math.Option.{Option}
use Rattle.offers.specs.Offers.{Offer}
use Rattle.offers.specs.Ranks.{rank}
use Rattle.trees.specs.Operations.{part_leaves}
use Rattle.plain.specs.Book.{State, join, leave, holding}
use Rattle.dynamic.specs.OfferTree.{Held}
use Rattle.table.specs.Fields.{base_field, envelope_root_word, first_free_word, live_count_word, most_nodes, next_free_field, number_field, number_tree, numbers_root_word}
use Rattle.table.specs.Fields.{offer_tree, offers_root_word, order_root_word, order_tree, rank_field, rate_field}
use Rattle.table.specs.Words.{Words, word, wset, wset_length, wset_other, up_to, up_to_most}
use Rattle.table.specs.Layout.{cap, cell, cset, cset_length, cset_cap, cset_rest, header_cap, header_outside, beyond_outside, link_at, slots_end}
use Rattle.table.specs.Free.{first_free, taken, given}
use Rattle.table.specs.Items.{Item}
use Rattle.table.specs.Rep.{Within, within_cap}
use Rattle.descents.specs.Finds.{Found}
use Rattle.levels.specs.declared.Held.{Held as InHand}
use Rattle.levels.specs.declared.Made.{Made as Outcome}
use Rattle.filing.specs.declared.Told.{Told}
use Rattle.form.specs.Form.{Book}
use Rattle.form.specs.Live.{live_length}
use Rattle.form.specs.Roots.{offers_root}
use Rattle.form.specs.HeaderWords.{count_read}
use Rattle.form.specs.There.{cap_there}
use Rattle.index.specs.Index.{FoundKey}
use Rattle.declining.specs.Sought.{number_sought}
use Rattle.declining.specs.PartCauses.{Postable}
use Rattle.settling.specs.Writing.{filling, roots_of, rooting, filled, freed_given, headed, first_free_lem, FirstFree, Headed}
use Rattle.settling.specs.Indexes.{Entered, Struck}
use Rattle.settling.specs.Settling.{Joined, joins_alone, joins_among, joins_ahead, joins_behind, Left, leaves_place, leaves_behind}
use Rattle.settling.specs.Following.{FollowedAt}
use Rattle.filing.specs.Updating.{Updated}
use Rattle.filing.specs.Posting.{PostSteps, posted_plain}
use Rattle.filing.specs.Withdrawing.{WithdrawSteps, LiveAt, live_at, withdrawn_plain, withdrawn_count}

-- ---- the memory and the words past the part stay

pub record Kept (w w' : Words) : Type 0 where
  pub long : length w' ≡ length w
  pub room : cap w' ≡ cap w
  pub header : (i : ℕ) → order_root_word < i → i < 64 → word w' i ≡ word w i
  pub rest : (i : ℕ) → slots_end (cap w) ≤ i → word w' i ≡ word w i

then : {w w' w'' : Words} → Kept w w' → Kept w' w'' → Kept w w''
then f g =
    record {
      long = g.long ∙ f.long;
      room = g.room ∙ f.room;
      header = λ i l h. g.header i l h ∙ f.header i l h;
      rest = λ i h. g.rest i (omega (arith, h, f.room)) ∙ f.rest i h;
    }

kept_same : {w w' : Words} → w' ≡ w → Kept w w'
kept_same e =
    record { long = ap length e; room = ap cap e; header = λ i l h. ap (λ (v : Words). word v i) e; rest = λ i h. ap (λ (v : Words). word v i) e }

kept_header : (w : Words) (i : ℕ) (z : ℤ) → 1 ≤ i → i ≤ order_root_word → Kept w (wset w i z)
kept_header w i z low high =
    record {
      long = wset_length w i z;
      room = header_cap w i z low (omega (arith, high));
      header = λ j l h. wset_other w i j z (λ e. omega (arith, e, high, l));
      rest = λ j h. wset_other w i j z (λ e. omega (arith, e, high, h));
    }

kept_cell : (w : Words) (f s : ℕ) (z : ℤ) → Kept w (cset w f s z)
kept_cell w f s z =
    record {
      long = cset_length w f s z;
      room = cset_cap w f s z;
      header = λ i l h. cset_rest w f s z (header_outside w h);
      rest = λ i h. cset_rest w f s z (beyond_outside w h);
    }

kept_within : {w w' : Words} → Within w w' → Kept w w'
kept_within {w} g =
    record {
      long = g.long;
      room = within_cap g;
      header = λ i l h. g.rest i (header_outside w h);
      rest = λ i h. g.rest i (beyond_outside w h);
    }

kept_entered : {tree field at s : ℕ} {w w' : Words} → 1 ≤ at → at ≤ order_root_word → Entered tree field at s w w' → Kept w w'
kept_entered {at = at} low high e =
    then (kept_within e.added.within) (then (kept_header e.mid at (pos e.root') low high) (kept_same e.set))

kept_struck : {tree field at : ℕ} {z : ℤ} {w w' : Words} → 1 ≤ at → at ≤ order_root_word → Struck tree field at z w w' → Kept w w'
kept_struck {at = at} low high e =
    then (kept_within e.dropped.within) (then (kept_header e.mid at (pos e.root') low high) (kept_same e.set))

kept_joined : {s f : ℕ} {x : InHand} {m : Outcome} {w w' : Words} → Joined s f x w w' m → Kept w w'
kept_joined (joins_alone ef ex ew em) = kept_same ew
kept_joined (joins_among ef nz i) = kept_within i.within
kept_joined (joins_ahead nf c k) = kept_within k.within
kept_joined (joins_behind nf c ew em) = kept_same ew

kept_left_lem : {s f y : ℕ} {x : InHand} {m : Outcome} {w w' : Words} → Left s f y x w w' m → Kept w w'
kept_left_lem (leaves_place ef k) = kept_within k.within
kept_left_lem (leaves_behind nf ew em) = kept_same ew

-- ---- what the small steps write

kept_filling : (o : Offer) (s : ℕ) (w : Words) → Kept w (filling o s w)
kept_filling o s w =
    let w₁ = cset (taken w) number_field s o.number in
    let w₂ = cset w₁ rate_field s o.rate in
    let w₃ = cset w₂ base_field s o.base in
    then (kept_header w first_free_word _ (omega arith) (omega arith)) (then (kept_cell (taken w) number_field s o.number)
    (then (kept_cell w₁ rate_field s o.rate) (then (kept_cell w₂ base_field s o.base) (kept_cell w₃ rank_field s (rank o)))))

kept_rooting : (x : InHand) (n : ℕ) (w : Words) → Kept w (rooting x n w)
kept_rooting x n w =
    let w₁ = wset w offers_root_word (pos x.tree) in
    let w₂ = wset w₁ envelope_root_word (pos x.envelope) in
    then
    (then (kept_header w offers_root_word (pos x.tree) (omega arith) (omega arith))
    (kept_header w₁ envelope_root_word (pos x.envelope) (omega arith) (omega arith)))
    (kept_header w₂ live_count_word (pos n) (omega arith) (omega arith))

kept_given : (w : Words) (s : ℕ) → Kept w (given w s)
kept_given w s =
    then (then (kept_cell w number_field s (pos 0)) (kept_cell (cset w number_field s (pos 0)) next_free_field s (pos (first_free w))))
    (kept_header (cset (cset w number_field s (pos 0)) next_free_field s (pos (first_free w))) first_free_word (pos s) (omega arith) (omega arith))

pub read_most : (z : ℤ) {n : ℕ} → n ≡ up_to most_nodes z → n ≤ most_nodes
read_most z e = omega (arith, e, up_to_most most_nodes z)

-- ---- too few words for a part

too_short : {w : Words} {plain : State} {held : Option (Held Item)} → Book w plain held → length w < 1_152 → ⊥
too_short {w} b h = omega (arith, h, b.some_slot, (cap_there w b.capacity b.some_slot).room)

-- ---- post

-- a post that is not declined
pub record PostDone (o : Offer) (w w' : Words) (t : Told) : Type 0 where
  pub kept : Kept w w'
  pub done :
      (plain : State) (held : Option (Held Item)) (b : Book w plain held) → Postable o plain.capacity (part_leaves b.order) →
      Updated w' (holding plain (join o plain.offers)) held t.counts × (t.live ≡ suc (length plain.offers))

module _
    (o : Offer) {w w₁ w₂ w₃ w₄ w' : Words} {s f i live : ℕ} {x : InHand} {m : Outcome}
    (roots : x ≡ roots_of w)
    (counted : i ≡ up_to most_nodes (word w live_count_word))
    (first : Found w offer_tree rate_field o.rate x.tree f)
    (slot : s ≡ first_free w)
    (fills : w₁ ≡ filling o s w)
    (numbers : Entered number_tree number_field numbers_root_word s w₁ w₂)
    (order : Entered order_tree rank_field order_root_word s w₂ w₃)
    (joined : Joined s f x w₃ w₄ m)
    (more : live ≡ suc i)
    (heads : w' ≡ rooting m.held live w₄) where
  kept₄ : Kept w w₄
  kept₄ =
      then (then (kept_filling o s w) (kept_same fills))
      (then (kept_entered (omega arith) (omega arith) numbers) (then (kept_entered (omega arith) (omega arith) order) (kept_joined joined)))

  post_steps : {plain : State} {held : Option (Held Item)} (b : Book w plain held) → Postable o plain.capacity (part_leaves b.order) →
      PostSteps o w w₁ w₂ w₃ w₄ w' s f live m
  post_steps b new =
      record {
        slot = slot;
        filled = filled w s free.low free.high o (ap (λ (j : ℕ). wset w first_free_word (pos (link_at w next_free_field j))) (sym slot)) refl refl refl fills;
        numbers = numbers;
        order = order;
        first = subst (λ (r : InHand). Found w offer_tree rate_field o.rate r.tree f) roots first;
        joined = subst (λ (r : InHand). Joined s f r w₃ w₄ m) roots joined;
        headed = headed w₄ (omega (arith, b.some_slot, b.capacity, kept₄.room)) heads;
      }
    where
      free : FirstFree w (part_leaves b.order) s (first_free_lem b new.room slot).0
      free = (first_free_lem b new.room slot).1

  pub posted_part : PostDone o w w' (record { live = live; counts = m.counts })
  posted_part =
      record {
        kept = then kept₄ (then (kept_rooting m.held live w₄) (kept_same heads));
        done = λ plain held b new. (
          posted_plain o b new (post_steps b new) (omega (arith, more, counted, count_read b)),
          omega (arith, more, counted, count_read b, live_length b),
        );
      }

pub post_short : (o : Offer) {w : Words} {t : Told} → length w < 1_152 → PostDone o w w t
post_short o h = record { kept = kept_same refl; done = λ plain held b new. absurd (too_short b h) }

-- ---- withdraw

-- a withdrawal that is not declined, of the live offer in slot s
pub record WithdrawDone (n : ℤ) (s : ℕ) (w w' : Words) (t : Told) : Type 0 where
  pub kept : Kept w w'
  pub done :
      (plain : State) (held : Option (Held Item)) → Book w plain held → FoundKey number_tree number_field n (up_to most_nodes (word w numbers_root_word)) w s →
      1 ≤ s → Updated w' (holding plain (leave n plain.offers)) held t.counts × (t.live ≡ length (leave n plain.offers))

pub withdraw_short : (n : ℤ) (s : ℕ) {w : Words} {t : Told} → length w < 1_152 → WithdrawDone n s w w t
withdraw_short n s h = record { kept = kept_same refl; done = λ plain held b f l. absurd (too_short b h) }

some_live : (live : List Item) {a : Item} → Memᴰ a live → 1 ≤ length live
some_live [] m = absurd (Memᴰ.not-nil m)
some_live (x ∷ xs) m = omega arith

module _
    (n : ℤ) {w w₁ w₂ w₃ w₄ w' : Words} {s f y i live : ℕ} {x : InHand} {m : Outcome} {rate key : ℤ}
    (roots : x ≡ roots_of w)
    (counted : i ≡ up_to most_nodes (word w live_count_word))
    (ranked : key ≡ cell w rank_field s)
    (rated : rate ≡ cell w rate_field s)
    (first : Found w offer_tree rate_field rate x.tree f)
    (behind : FollowedAt s w y)
    (numbers : Struck number_tree number_field numbers_root_word n w w₁)
    (order : Struck order_tree rank_field order_root_word key w₁ w₂)
    (left : Left s f y x w₂ w₃ m)
    (fewer : live ≡ i - 1)
    (heads : w₄ ≡ rooting m.held live w₃)
    (gives : w' ≡ given w₄ s) where
  kept₃ : Kept w w₃
  kept₃ = then (kept_struck (omega arith) (omega arith) numbers) (then (kept_struck (omega arith) (omega arith) order) (kept_left_lem left))

  withdraw_steps : {plain : State} {held : Option (Held Item)} {a : Item} (b : Book w plain held) → LiveAt n s (part_leaves b.order) a →
      WithdrawSteps n w w₁ w₂ w₃ w₄ w' s f y live m
  withdraw_steps {a = a} b at =
      record {
        first =
            subst (λ (z : ℤ). Found w offer_tree rate_field z (offers_root w) f) rated
            (subst (λ (r : InHand). Found w offer_tree rate_field rate r.tree f) roots first);
        behind = behind;
        numbers = numbers;
        order = subst (λ (z : ℤ). Struck order_tree rank_field order_root_word z w₁ w₂) ranked order;
        left = subst (λ (r : InHand). Left s f y r w₂ w₃ m) roots left;
        headed = there;
        freed =
            freed_given w₄ s (omega (arith, at.slot, b.in_order.slots.low at.member))
            (omega (arith, at.slot, b.in_order.slots.high at.member, kept₃.room, there.agree.room)) gives;
      }
    where
      there : Headed m.held live w₃ w₄
      there = headed w₃ (omega (arith, b.some_slot, b.capacity, kept₃.room)) heads

  pub withdrawn_part : WithdrawDone n s w w' (record { live = live; counts = m.counts })
  withdrawn_part =
      record {
        kept = then kept₃ (then (kept_rooting m.held live w₃) (then (kept_same heads) (then (kept_given w₄ s) (kept_same gives))));
        done = finish;
      }
    where
      finish :
          (plain : State) (held : Option (Held Item)) → Book w plain held →
          FoundKey number_tree number_field n (up_to most_nodes (word w numbers_root_word)) w s → 1 ≤ s →
          Updated w' (holding plain (leave n plain.offers)) held m.counts × (live ≡ length (leave n plain.offers))
      finish plain held b g low =
          let (a, there) = live_at (number_sought b g refl) (λ q. omega (arith, q, low)) in
          let count : suc live ≡ length (part_leaves b.order) =
          omega (arith, fewer, counted, count_read b, some_live (part_leaves b.order) there.member) in
          (withdrawn_plain a b there (withdraw_steps b there) count, withdrawn_count a b there (withdraw_steps b there) count)
