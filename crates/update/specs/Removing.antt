-- One level of a removal in words, given the promise of the call on the child: the line leaves a side, its stand-in, if any, comes there, and what is left
-- is rebalanced.
use Rattle.std.specs.Prelude.{◌≡◌, ℕ, suc, ◌-◌, ◌<◌, ◌≤◌, Bool, true, false, List, [], ◌∷◌, ◌++◌, ℤ, int_lt, refl}
use Rattle.std.proofs.Common.{sym, ◌∙◌, ap, ap₂, subst, ⊎_elim, arith}
use mathlib.Core.List.Memᴰ
use mathlib.Core.List.{Memᴰ}
use Rattle.std.proofs.Math.Option.{Option, none, some}
use Rattle.envelopes.specs.Envelope.{Ordered}
use Rattle.trees.specs.Tree.{Tree, leaves, Avl}
use Rattle.trees.specs.Leaves.{last_leaf}
use Rattle.trees.specs.Operations.{Part}
use Rattle.dynamic.specs.OfferTree.{OfferTree, single, fork, shape, Held, hold, held_shape, Pair, outer, inner, lower}
use Rattle.dynamic.specs.Updates.{Removed, standing, remove}
use Rattle.dynamic.specs.Valid.{stand_in, instead, Fits}
use Rattle.dynamic.specs.Placed.{instead_ordered}
use Rattle.dynamic.specs.Kept.{held_height}
use Rattle.dynamic.specs.UpdateSteps.{Loses}
use Rattle.dynamic.proofs.UpdateSteps.{remove_whole}
use Rattle.table.specs.Fields.{most_levels, most_slots, offer_tree, rate_field}
use Rattle.table.specs.Words.{Words}
use Rattle.table.specs.Layout.{cap, cell}
use Rattle.table.specs.Items.{Item, In, Slots, slots_left}
use Rattle.table.specs.Rep.{node_on, seam, Rep, Within, within_refl, within_trans}
use Rattle.table.specs.Nodes.{ref_low, on_across, in_one, in_other}
use Rattle.table.specs.PartTrees.{low}
use Rattle.table.specs.Threads.{Holds}
use Rattle.descents.specs.Ends.{Ended}
use Rattle.pieces.specs.Pieces.{items, item_laws_lem}
use Rattle.form.specs.Stored.{Touched}
use Rattle.levels.specs.Levels.{HandIn, line_at, Counted, MadeIn, Summed}
use Rattle.update.specs.Steps.{alone_at, Near, slot_by, Leaver, LeftIn, RemovedIn}
use Rattle.levels.specs.declared.Held.{Held as InHand}
use Rattle.levels.specs.declared.Counts.{Counts}
use Rattle.levels.specs.declared.Made.{Made as Outcome}
use Rattle.update.specs.declared.Opened.{Opened}
use Rattle.form.specs.Frames.{Inside, Disjoint, disjoint_across, holds_same, slots_within, touched_offers, touched_refl, touched_trans}
use Rattle.form.proofs.Frames.{held_still}
use Rattle.form.specs.Frames.{touched_more}
use Rattle.form.specs.Disjoint.{in_cases, inside_refl, inside_left, inside_right, inside_join, disjoint_both, slots_join}
use Rattle.update.specs.Neighbours.{side_of, held_rep, inner_high, seam_rate, Neighbours, LoweredOn, Opens, opens}
use Rattle.update.specs.Counting.{counted_two}
use Rattle.update.specs.Rebalancing.{rebalance_on, RebalancedOn}
use Rattle.update.specs.Inserting.{alone_held, mem_one}
use Rattle.update.specs.RemovingModel.{beside_on, remove_on, stands_on, left_row, slots_instead, inside_instead}

-- ---- what is promised

-- the words hold what a removal has left, and count its log
pub record LeavesIn (w : Words) (m : Outcome) (left : Removed Item) : Type 0 where
  pub rest : LeftIn w m.held left.rest
  pub counted : Counted left.log m.counts

-- of a subtree that is at most `limit` high
pub record RemovedBelow (limit slot y : ℕ) (x : InHand) (w w' : Words) (m : Outcome) : Type 0 where
  pub within : Within w w'
  pub made :
      (a : Item) (by : Option Item) (t : Held Item) → Leaver w slot y x a by t → held_height t ≤ limit →
      LeavesIn w' m (remove items a by t.tree t.whole)
  pub touched :
      (a : Item) (by : Option Item) (t : Held Item) → Leaver w slot y x a by t → held_height t ≤ limit → Touched (stand_in by ++ leaves (held_shape t)) w w'

-- no subtree in a table is higher than 24
pub removed :
    {limit slot y : ℕ} {x : InHand} {m : Outcome} {w w' : Words} → most_levels ≤ limit → RemovedBelow limit slot y x w w' m → RemovedIn slot y x w w' m
removed {limit} {slot} {y} {x} {w} enough c =
    record {
      within = c.within;
      rest = λ a by t f. (c.made a by t f (room a by t f)).rest;
      counted = λ a by t f. (c.made a by t f (room a by t f)).counted;
      touched = λ a by t f. c.touched a by t f (room a by t f);
    }
  where
    room : (a : Item) (by : Option Item) (t : Held Item) → Leaver w slot y x a by t → held_height t ≤ limit
    room a by t f = omega (arith, low w f.held.slots f.held.right.balanced)

-- where the limit is used up at an inner node, nothing is promised
pub removed_spent : {slot y : ℕ} {x : InHand} {m : Outcome} {w : Words} → most_slots < x.tree → RemovedBelow 0 slot y x w w m
removed_spent {w} inside =
    record {
      within = within_refl w;
      made = λ a by t f d. absurd (omega (arith, inner_high f.held inside));
      touched = λ a by t f d. absurd (omega (arith, inner_high f.held inside));
    }

record Removes (w w' : Words) (m : Outcome) (a : Item) (by : Option Item) (t : Held Item) : Type 0 where
  made : LeavesIn w' m (remove items a by t.tree t.whole)
  touched : Touched (stand_in by ++ leaves (held_shape t)) w w'

-- ---- a single line

-- the stand-in alone is left
pub removed_leaf : {w : Words} {limit slot y : ℕ} {x : InHand} → x.tree ≤ most_slots → RemovedBelow limit slot y x w w (alone_at y)
unfolding remove
removed_leaf {w} {limit} {slot} {y} {x} single-line =
    record {
      within = within_refl w;
      made = λ a by t f d. go a by t.tree t.whole f;
      touched = λ a by t f d. touched_refl (stand_in by ++ leaves (held_shape t)) w;
    }
  where
    stands : (by : Option Item) → y ≡ slot_by by → Slots (cap w) (stand_in by) → Holds w (stand_in by) → LeftIn w (line_at y) (standing items by)
    stands none e s k = (e, e)
    stands (some b) e s k = alone_held e s k

    go :
        (a : Item) (by : Option Item) (t : OfferTree Item) (p : Part Item) → Leaver w slot y x a by (hold t p) →
        LeavesIn w (alone_at y) (remove items a by t p)
    go a by (fork u v l ql qr r) p f = absurd (omega (arith, f.held.root, f.held.slots.low (Memᴰ.append_left (leaves (shape r)) (last_leaf (shape l)))))
    go a by (single b) p f =
        record {
          rest = stands by f.by_slot (slots_left (b ∷ []) f.slots) f.kept;
          counted = record { searches = refl; steps = refl; heights = refl };
        }

-- ---- from the child on a side

-- the slot of the seam after a removal: on the left the last line may have left, and x's last one is looked for again
pub record SeamFound (side : Bool) (w : Words) (x m gap : ℕ) : Type 0 where
  pub on_left : side ≡ false → Ended w offer_tree true x gap
  pub on_right : side ≡ true → gap ≡ m

found_seam :
    {w : Words} {x m gap : ℕ} (side : Bool) (O I G : Tree Item) →
    SeamFound side w x m gap →
    Rep w offer_tree x G →
    Avl G →
    m ≡ (seam side O I).slot →
    gap ≡ (seam side G I).slot
found_seam false O I G f r b d = (f.on_left refl).is G r b
found_seam true O I G f r b d = f.on_right refl ∙ d

-- nothing is left of the child: its sibling stays
beside_none : (side : Bool) (log : List (Pair Item)) (i : Held Item) → beside_on side (record { rest = none; log = log }) i ≡ record { rest = some i; log = log }
beside_none false log i = refl
beside_none true log i = refl

-- what is left is rebalanced with it
beside_some :
    (side : Bool) (g : Held Item) (log : List (Pair Item)) (i : Held Item) →
    beside_on side (record { rest = some g; log = log }) i ≡ record { rest = some (rebalance_on side g i).held; log = log ++ (rebalance_on side g i).log }
beside_some false g log i = refl
beside_some true g log i = refl

-- after the call on the child o of t; r is what the model leaves of it
record Below (side : Bool) (w w₁ w₂ : Words) (x : InHand) (c : Opened) (m₁ : Outcome) (a : Item) (by : Option Item) (t o i : Held Item) (r : Removed Item) :
    Type 0 where
  opened : Opens side w w₁ x c t o i
  way : remove items a by t.tree t.whole ≡ beside_on side r i
  left : LeavesIn w₂ m₁ r
  loses : Loses items a by o r
  there : Memᴰ a (leaves (held_shape o))
  fits : Fits items a by
  sibling : HandIn w₂ c.off i
  slots : Slots (cap w₂) (stand_in by ++ leaves (node_on side (held_shape o) (held_shape i)))
  ordered : Ordered items (leaves (node_on side (held_shape o) (held_shape i)))
  touched : Touched (stand_in by ++ leaves (held_shape t)) w w₂

module _
    {side : Bool} {θ : ℤ} {w w₁ w₂ : Words} {limit limit' slot y m : ℕ} {x : InHand} {c : Opened} {m₁ : Outcome}
    (inside : most_slots < x.tree)
    (m-is : m ≡ x.tree - most_slots)
    (rate : θ ≡ cell w rate_field slot)
    (test : side ≡ int_lt θ (cell w rate_field m))
    (low₁ : LoweredOn side x w w₁ c)
    (enough : limit ≤ suc limit')
    (rem : RemovedBelow limit' slot y c.on w₁ w₂ m₁) where
  below :
      (a : Item) (by : Option Item) (t : Held Item) →
      Leaver w slot y x a by t →
      held_height t ≤ limit →
      Below side w w₁ w₂ x c m₁ a by t (outer (side_of side) (lower items t)) (inner (side_of side) (lower items t))
      (remove items a by (outer (side_of side) (lower items t)).tree (outer (side_of side) (lower items t)).whole)
  below a by t f lim =
      record {
        opened = p;
        way = remove_on a by side t high way;
        left = rem.made a by o leaver room;
        loses = remove_whole items item_laws_lem a p.outer_held.right by f.fits there;
        there = there;
        fits = f.fits;
        sibling =
            held_still rem.within p.inner_held child_touched
            (λ n j q. ⊎_elim (λ b. apart n b (in_other side O I j)) (λ b. on_across O I side slots b j) (in_cases (stand_in by) q));
        slots = slots_within rem.within (slots_within low₁.within all_slots);
        ordered = ordered;
        touched =
            touched_trans (touched_more (inside_right (stand_in by)) p.touched)
            (touched_more (inside_join (stand_in by) (inside_left (leaves (held_shape t)))
            (λ n j. inside_right (stand_in by) n (subst (λ u. In n (leaves u)) (sym p.shaped) (in_one side O I j)))) child_touched);
      }
    where
      high : 1 ≤ held_height t
      high = inner_high f.held inside

      o : Held Item
      o = outer (side_of side) (lower items t)

      i : Held Item
      i = inner (side_of side) (lower items t)

      p : Opens side w w₁ x c t o i
      p = opens low₁ f.held high

      O : Tree Item
      O = held_shape o

      I : Tree Item
      I = held_shape i

      way : items.before (seam side O I) a ≡ side
      way = sym (test ∙ ap₂ int_lt (rate ∙ ap (cell w rate_field) f.slot ∙ (f.held.kept.held f.member).rate) (seam_rate f.held p m-is))

      slots : Slots (cap w) (leaves (node_on side O I))
      slots = subst (λ u. Slots (cap w) (leaves u)) p.shaped f.held.slots

      ordered : Ordered items (leaves (node_on side O I))
      ordered = subst (λ u. Ordered items (leaves u)) p.shaped f.held.right.ordered

      there : Memᴰ a (leaves O)
      there = stands_on a O I side ordered (subst (λ u. Memᴰ a (leaves u)) p.shaped f.member) way

      all_slots : Slots (cap w) (stand_in by ++ leaves (node_on side O I))
      all_slots = subst (λ u. Slots (cap w) (stand_in by ++ leaves u)) p.shaped f.slots

      apart : Disjoint (stand_in by) (leaves (node_on side O I))
      apart = disjoint_across (stand_in by) all_slots

      leaver : Leaver w₁ slot y c.on a by o
      leaver =
          record {
            slot = f.slot;
            member = there;
            held = p.outer_held;
            by_slot = f.by_slot;
            fits = f.fits;
            kept = holds_same f.kept (touched_offers p.touched (stand_in by));
            slots =
                slots_join (slots_within low₁.within (slots_left (leaves (node_on side O I)) all_slots)) p.outer_held.slots
                (disjoint_both (inside_refl (stand_in by)) (λ n j. in_one side O I j) apart);
          }

      room : held_height o ≤ limit'
      room = omega (arith, p.level.higher)

      child_touched : Touched (stand_in by ++ leaves O) w₁ w₂
      child_touched = rem.touched a by o leaver room

  -- nothing is left of the child
  pub removed_gone : m₁.held.tree ≡ 0 → RemovedBelow limit slot y x w w₂ (record { held = c.off; counts = m₁.counts })
  removed_gone none_left =
      record {
        within = within_trans low₁.within rem.within;
        made = λ a by t f d. go a by t _ _ (below a by t f d);
        touched = λ a by t f d. (below a by t f d).touched;
      }
    where
      out : Outcome
      out = record { held = c.off; counts = m₁.counts }

      go :
          (a : Item) (by : Option Item) (t o i : Held Item) {r : Removed Item} →
          Below side w w₁ w₂ x c m₁ a by t o i r →
          LeavesIn w₂ out (remove items a by t.tree t.whole)
      go a by t o i {r} b = subst (LeavesIn w₂ out) (sym b.way) (go_on r.rest r.log b.left.rest b.left.counted)
        where
          go_on :
              (left : Option (Held Item)) (log : List (Pair Item)) → LeftIn w₂ m₁.held left → Counted log m₁.counts →
              LeavesIn w₂ out (beside_on side (record { rest = left; log = log }) i)
          go_on none log l n = subst (LeavesIn w₂ out) (sym (beside_none side log i)) (record { rest = b.sibling; counted = n })
          go_on (some g) log l n = absurd (omega (arith, l.root, ref_low (held_shape g) l.slots))

  module _
      {w₃ : Words} {gap : ℕ} {m₂ : Outcome} {n : Counts}
      (some_left : 1 ≤ m₁.held.tree)
      (found : SeamFound side w₂ m₁.held.tree m gap)
      (reb : RebalancedOn side gap m₁.held c.off w₂ w₃ m₂)
      (counts : Summed m₁.counts m₂.counts n) where
    abbrev out : Outcome
    out = record { held = m₂.held; counts = n }

    removes_inner :
        (a : Item) (by : Option Item) (t o i : Held Item) (left : Option (Held Item)) (log : List (Pair Item)) →
        Below side w w₁ w₂ x c m₁ a by t o i (record { rest = left; log = log }) →
        Removes w w₃ out a by t
    removes_inner a by t o i none log b = absurd (omega (arith, b.left.rest.0))
    removes_inner a by t o i (some g) log b =
        record {
          made =
              subst (LeavesIn w₃ out) (sym (b.way ∙ beside_some side g log i))
              (record { rest = R.held; counted = counted_two b.left.counted R.counted counts });
          touched = touched_trans b.touched (touched_more inside_t (reb.touched g i next near));
        }
      where
        O : Tree Item
        O = held_shape o

        I : Tree Item
        I = held_shape i

        row : leaves (node_on side (held_shape g) I) ≡ instead items a by (leaves (node_on side O I))
        row = left_row a by O I (held_shape g) b.loses.lines b.there side b.ordered

        here : Memᴰ a (leaves (node_on side O I))
        here = mem_one side O I b.there

        next : Neighbours side w₂ gap m₁.held c.off g i
        next =
            record {
              outer_held = b.left.rest;
              inner_held = b.sibling;
              at_seam = found_seam side O I (held_shape g) found (held_rep b.left.rest) b.left.rest.right.balanced (m-is ∙ b.opened.at_seam);
              slots = subst (Slots (cap w₂)) (sym row) (slots_instead a by b.ordered here b.slots);
              ordered = subst (Ordered items) (sym row) (instead_ordered items item_laws_lem a by b.ordered here b.fits);
            }

        near : Near g i
        near = record {
          left = omega (arith, b.loses.heights.0, b.opened.level.left_level);
          right =
              omega (arith, b.loses.heights.1, b.opened.level.right_level);
        }

        R : MadeIn w₃ m₂ (rebalance_on side g i)
        R = reb.made g i next near

        inside_t : Inside (leaves (node_on side (held_shape g) I)) (stand_in by ++ leaves (held_shape t))
        inside_t n j =
            inside_join (stand_in by) (inside_left (leaves (held_shape t)))
            (λ d k. inside_right (stand_in by) d (subst (λ u. In d (leaves u)) (sym b.opened.shaped) k)) n
            (inside_instead a by b.ordered here n (subst (In n) row j))

    -- what is left of the child is rebalanced with its sibling
    pub removed_inner : RemovedBelow limit slot y x w w₃ (record { held = m₂.held; counts = n })
    removed_inner =
        record {
          within = within_trans low₁.within (within_trans rem.within reb.within);
          made = λ a by t f d. (removes_inner a by t _ _ _ _ (below a by t f d)).made;
          touched = λ a by t f d. (removes_inner a by t _ _ _ _ (below a by t f d)).touched;
        }
