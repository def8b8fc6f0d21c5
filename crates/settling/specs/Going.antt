-- An item goes from the tree of offers: it leaves its place to a follower of its rate or to nobody, or, where it is not its rate's first, changes nothing.
use Rattle.std.specs.Prelude.{◌≡◌, refl, ◌≢◌, ℕ}
use Rattle.std.proofs.Common.{sym, ◌∙◌, ap, subst, ⊎_elim}
use mathlib.Core.HLevel.{¬_prop}
use mathlib.Core.List.Memᴰ
use mathlib.Core.List.{List, ◌∷◌, Memᴰ}
use Rattle.std.proofs.Math.Option.{Option, none, some}
use Rattle.lists.specs.Members.{pairs_cons}
use Rattle.offers.specs.Order.{Ahead}
use Rattle.plain.specs.FirstLaws.{FirstOf, one_of_rate, first_said}
use Rattle.dynamic.specs.OfferTree.{Held}
use Rattle.dynamic.specs.Valid.{book_lines}
use Rattle.firsts.specs.Joins.{same_place, Leaves}
use Rattle.firsts.specs.Follower.{Follower, follower_first, follower_other, follower_none}
use Rattle.firsts.specs.Filed.{unfiled_behind, unfiled_to, unfiled_alone}
use Rattle.table.specs.Words.{Words}
use Rattle.table.specs.Layout.{cap}
use Rattle.table.specs.Items.{Item, Slots, offer_of}
use Rattle.pieces.specs.Pieces.{rate_of}
use Rattle.form.specs.Live.{slot_tells}
use Rattle.levels.specs.declared.Held.{Held as InHand}
use Rattle.levels.specs.declared.Made.{Made as Outcome}
use Rattle.update.specs.Steps.{RemovedIn}
use Rattle.declining.specs.Sought.{Sought, at_item, nowhere}
use Rattle.settling.specs.Settling.{Left, leaves_place, leaves_behind, Settled, Before, line_live, slots_lines, rate_none, unmoved, vacates}

-- ---- an item goes

-- the slot of the next item in order, where that is of its rate, and 0 otherwise
pub data Followed (a : Item) (rest : List Item) (y : ℕ) : Type 0 where
  by_its_rate : (c : Item) → y ≡ c.slot → Follower Item offer_of a rest c → rate_of a ≡ rate_of c → Followed a rest y
  by_another : (c : Item) → y ≡ 0 → Follower Item offer_of a rest c → rate_of a ≢ rate_of c → Followed a rest y
  by_nobody : y ≡ 0 → ((c : Item) → Memᴰ c rest → ¬ Ahead a.offer c.offer) → Followed a rest y

module _
    {w : Words} {x : InHand} {held : Option (Held Item)} {live rest : List Item}
    (b : Before w x held live)
    (a : Item)
    (l : Leaves Item offer_of a live rest) where
  module _ {w' : Words} {m : Outcome} {s y : ℕ} (es : s ≡ a.slot) (i : Memᴰ a (book_lines held)) (k : RemovedIn s y x w w' m) where
    first : FirstOf Item offer_of live a
    first = first_said Item offer_of b.standing a (subst (Memᴰ a) b.lines i)

    -- nobody of its rate is left
    leaves_alone : y ≡ 0 → ((c : Item) → Memᴰ c rest → rate_of a ≢ rate_of c) → Settled held rest w w' m
    leaves_alone ey n =
        vacates b a none es ey i tt (record { held = λ m. absurd (Memᴰ.not-nil m) }) (slots_lines b) k
        (unfiled_alone Item offer_of held b.whole b.lines l i n)

    -- its follower stands in
    leaves_to : (c : Item) → y ≡ c.slot → Follower Item offer_of a rest c → rate_of a ≡ rate_of c → Settled held rest w w' m
    leaves_to c ey n r =
        vacates b a (some c) es ey i (same_place Item offer_of a c r)
        (record { held = λ m. b.holds.held (subst (λ z. Memᴰ z live) (sym (Memᴰ.eq_of_singleton m)) there) }) beside k
        (unfiled_to Item offer_of held b.whole b.lines l i c (follower_first Item offer_of l first c n r) r)
      where
        there : Memᴰ c live
        there = (l.there c n.there).0

        -- no line has its slot
        apart : (z : Item) → Memᴰ z (book_lines held) → c.slot ≢ z.slot
        apart z j d =
            let e : c ≡ z = slot_tells b.slots there (line_live b j) d in
            (l.there c n.there).1
            (one_of_rate Item offer_of live (subst (Memᴰ c) b.lines (subst (λ (q : Item). Memᴰ q (book_lines held)) (sym e) j))
            (subst (Memᴰ a) b.lines i) (sym r))

        beside : Slots (cap w) (c ∷ book_lines held)
        beside =
            record {
              low = λ m. b.slots.low (either m);
              high = λ m. b.slots.high (either m);
              apart = pairs_cons (λ p q. ¬_prop) apart (slots_lines b).apart;
            }
          where
            either : {z : Item} → Memᴰ z (c ∷ book_lines held) → Memᴰ z live
            either m = ⊎_elim (λ e. subst (λ q. Memᴰ q live) (sym e) there) (line_live b) (Memᴰ.cases_cons m)

    leaves_first : Followed a rest y → Settled held rest w w' m
    leaves_first (by_its_rate c e n r) = leaves_to c e n r
    leaves_first (by_another c e n d) = leaves_alone e (follower_other Item offer_of l first c n d)
    leaves_first (by_nobody e n) = leaves_alone e (follower_none Item offer_of l first n)

  -- the first of its rate
  its_first : {f : ℕ} → Sought rate_of (rate_of a) (book_lines held) f → (g : Item) × Memᴰ g (book_lines held) × (rate_of g ≡ rate_of a) × (f ≡ g.slot)
  its_first (at_item {a = g} m e d) = (g, m, e, d)
  its_first (nowhere none_there d) = absurd (rate_none b none_there a l.live refl)

  pub leaves : {w' : Words} {m : Outcome} {s f y : ℕ} → s ≡ a.slot → Sought rate_of (rate_of a) (book_lines held) f → Followed a rest y →
      Left s f y x w w' m → Settled held rest w w' m
  leaves es h n (leaves_place ef k) =
      let (g, i, r, d) = its_first h in
      leaves_first es (subst (λ (z : Item). Memᴰ z (book_lines held)) (slot_tells b.slots (line_live b i) l.live (sym d ∙ ef ∙ es)) i) k n
  leaves es h n (leaves_behind nf ew em) =
      let (g, i, r, d) = its_first h in
      unmoved b ew em (unfiled_behind Item offer_of held b.whole b.lines l g i r (λ q. nf (d ∙ ap (λ (z : Item). z.slot) q ∙ sym es)))
