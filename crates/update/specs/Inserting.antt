-- One level of an insertion in words, given the promise of the call on the child: the line goes to a side, and its subtree is rebalanced there.
use Rattle.std.specs.Prelude.{◌≡◌, ℕ, suc, ◌-◌, ◌<◌, ◌≤◌, Bool, true, false, cond, not, T, [], ◌∷◌, ℤ, int_le, int_lt, refl}
use Rattle.std.proofs.Common.{sym, ◌∙◌, ap, ap₂, subst, ⊎_elim, arith}
use mathlib.Core.List.Memᴰ
use mathlib.Core.List.IsChain
use mathlib.Core.List.{Memᴰ}
use Rattle.lists.specs.Bools.{same_test}
use Rattle.integers.specs.Parts.{int_rules}
use Rattle.envelopes.specs.Envelope.{Ordered, ordered_nil, ordered_cons}
use Rattle.trees.specs.Tree.{Tree, leaf, leaves}
use Rattle.trees.specs.Leaves.{last_leaf}
use Rattle.trees.specs.Operations.{Part}
use Rattle.dynamic.specs.OfferTree.{OfferTree, single, fork, shape, Held, hold, alone, held_shape, outer, inner, lower}
use Rattle.dynamic.specs.Updates.{insert}
use Rattle.dynamic.specs.Valid.{placed}
use Rattle.dynamic.specs.Kept.{held_height}
use Rattle.dynamic.specs.Placed.{New, placed_ordered}
use Rattle.dynamic.specs.Inserted.{alone_whole}
use Rattle.dynamic.specs.UpdateSteps.{Gains}
use Rattle.dynamic.proofs.UpdateSteps.{insert_whole}
use Rattle.table.specs.Fields.{most_levels, most_slots, rate_field}
use Rattle.table.specs.Words.{Words}
use Rattle.table.specs.Layout.{cap, cell}
use Rattle.table.specs.Items.{Item, In, Slots, slots_left}
use Rattle.table.specs.Rep.{node_on, seam, tied_leaf, Within, within_refl, within_trans}
use Rattle.table.specs.Nodes.{on_across, in_one, in_other}
use Rattle.table.specs.PartTrees.{low}
use Rattle.table.specs.Threads.{Holds}
use Rattle.pieces.specs.Pieces.{items, item_laws_lem, rate_of}
use Rattle.form.specs.Stored.{stored_single, HeldIn, Touched}
use Rattle.levels.specs.Levels.{line_at, MadeIn, Summed}
use Rattle.update.specs.Steps.{Near, Newcomer, InsertedIn}
use Rattle.levels.specs.declared.Held.{Held as InHand}
use Rattle.levels.specs.declared.Counts.{Counts}
use Rattle.levels.specs.declared.Made.{Made as Outcome}
use Rattle.update.specs.declared.Opened.{Opened}
use Rattle.form.specs.Frames.{Inside, Disjoint, disjoint_across, holds_same, slots_rearranged, inside_rearranged, slots_within, touched_offers}
use Rattle.form.specs.Frames.{touched_trans, touched_more}
use Rattle.form.proofs.Frames.{held_still}
use Rattle.form.specs.Disjoint.{in_cases, inside_refl, inside_left, inside_right, inside_join, disjoint_both, disjoint_turned, slots_join}
use Rattle.update.specs.Neighbours.{side_of, inner_high, seam_rate, Neighbours, LoweredOn, RaisedOn, Opens, opens, Raises, raises}
use Rattle.update.specs.Counting.{counted_two}
use Rattle.update.specs.Rebalancing.{rebalance_on, RebalancedOn}
use Rattle.update.specs.InsertingModel.{placed_rearranged, insert_single, insert_on, grown_row, grown_seam}

-- ---- what is promised

-- of a subtree that is at most `limit` high
pub record InsertedBelow (limit slot : ℕ) (x : InHand) (w w' : Words) (m : Outcome) : Type 0 where
  pub within : Within w w'
  pub made : (a : Item) (t : Held Item) → Newcomer w slot x a t → held_height t ≤ limit → MadeIn w' m (insert items a t.tree t.whole)
  pub touched : (a : Item) (t : Held Item) → Newcomer w slot x a t → held_height t ≤ limit → Touched (a ∷ leaves (held_shape t)) w w'

-- no subtree in a table is higher than 24
pub inserted : {limit slot : ℕ} {x : InHand} {m : Outcome} {w w' : Words} → most_levels ≤ limit → InsertedBelow limit slot x w w' m → InsertedIn slot x w w' m
inserted {w} enough c =
    record {
      within = c.within;
      made = λ a t f. c.made a t f (omega (arith, low w f.held.slots f.held.right.balanced));
      touched = λ a t f. c.touched a t f (omega (arith, low w f.held.slots f.held.right.balanced));
    }

-- where the limit is used up at an inner node, nothing is promised
pub inserted_spent : {slot : ℕ} {x : InHand} {m : Outcome} {w : Words} → most_slots < x.tree → InsertedBelow 0 slot x w w m
inserted_spent {w} inside =
    record {
      within = within_refl w;
      made = λ a t f d. absurd (omega (arith, inner_high f.held inside));
      touched =
          λ a t f d. absurd (omega (arith, inner_high f.held inside));
    }

record Inserts (w w' : Words) (m : Outcome) (a : Item) (t : Held Item) : Type 0 where
  made : MadeIn w' m (insert items a t.tree t.whole)
  touched : Touched (a ∷ leaves (held_shape t)) w w'

-- the newcomer's slot is none of the subtree's
module _ {w : Words} {slot : ℕ} {x : InHand} {a : Item} {t : Held Item} (f : Newcomer w slot x a t) where
  newcomer_own : Slots (cap w) (a ∷ [])
  newcomer_own = slots_left (leaves (held_shape t)) f.slots

  newcomer_apart : Disjoint (a ∷ []) (leaves (held_shape t))
  newcomer_apart = disjoint_across (a ∷ []) f.slots

  newcomer_rate : {θ : ℤ} → θ ≡ cell w rate_field slot → θ ≡ rate_of a
  newcomer_rate d = d ∙ ap (cell w rate_field) f.slot ∙ (f.kept.held (Memᴰ.head refl)).rate

-- the code asks whether the newcomer's rate is at most another's, the model whether the newcomer stands in front
in_front_lem : (side : Bool) (a b : ℤ) → side ≡ int_le a b → int_lt b a ≡ not side
in_front_lem side a b d = same_test (int_lt b a) (not (int_le a b)) (λ t. omega (arith, int_rules)) (λ t. omega (arith, int_rules)) ∙ ap not (sym d)

-- ---- a line alone

-- its slot is the root of its tree and of its envelope
pub alone_held : {w : Words} {slot : ℕ} {a : Item} → slot ≡ a.slot → Slots (cap w) (a ∷ []) → Holds w (a ∷ []) → HeldIn w slot slot (alone a)
alone_held {a} e s h =
    record {
      root = e;
      envelope = e;
      slots = s;
      kept = h;
      tied = tied_leaf;
      stored = stored_single;
      pieces = (tied_leaf, IsChain.singleton a);
      right =
          alone_whole items a;
    }

-- ---- beside a single line

two_ordered : {a b : Item} → T (items.before a b) → Ordered items (a ∷ b ∷ [])
two_ordered {a} {b} t =
    ordered_cons (λ c m. subst (λ d. T (items.before a d)) (sym (Memᴰ.eq_of_singleton m)) t)
    (ordered_cons (λ c m. absurd (Memᴰ.not-nil m)) ordered_nil)

-- on the side that the test tells
beside_ordered : (side : Bool) (a b : Item) → New items a (b ∷ []) → items.before a b ≡ not side → Ordered items (leaves (node_on side (leaf a) (leaf b)))
beside_ordered false a b n d = two_ordered (subst T (sym d) tt)
beside_ordered true a b n d = two_ordered (⊎_elim (λ t. absurd (subst T d t)) (λ t. t) (n b (Memᴰ.head refl)))

beside_slots : {c : ℕ} (side : Bool) (a b : Item) → Slots c (a ∷ []) → Slots c (b ∷ []) → Disjoint (a ∷ []) (b ∷ []) →
    Slots c (leaves (node_on side (leaf a) (leaf b)))
beside_slots false a b s t d = slots_join s t d
beside_slots true a b s t d = slots_join t s (disjoint_turned d)

beside_inside : (side : Bool) (a b : Item) → Inside (leaves (node_on side (leaf a) (leaf b))) (a ∷ b ∷ [])
beside_inside false a b = inside_refl (a ∷ b ∷ [])
beside_inside true a b = inside_join (b ∷ []) (inside_right (a ∷ [])) (inside_left (b ∷ []))

beside_seam : (side : Bool) (a b : Item) {gap x slot : ℕ} → gap ≡ cond side x slot → x ≡ b.slot → slot ≡ a.slot → gap ≡ (seam side (leaf a) (leaf b)).slot
beside_seam false a b e p q = e ∙ q
beside_seam true a b e p q = e ∙ p

pub inserted_leaf :
    {side : Bool} {θ : ℤ} {w w' : Words} {limit slot gap : ℕ} {x : InHand} {m : Outcome} →
    x.tree ≤ most_slots →
    θ ≡ cell w rate_field slot →
    side ≡ int_le θ (cell w rate_field x.tree) →
    gap ≡ cond side x.tree slot →
    RaisedOn side gap (line_at slot) x w w' m →
    InsertedBelow limit slot x w w' m
inserted_leaf {side} {θ} {w} {w'} {limit} {slot} {gap} {x} {m} single-line rate test gap_is c =
    record { within = c.within; made = λ a t f d. (go a t.tree t.whole f).made; touched = λ a t f d. (go a t.tree t.whole f).touched }
  where
    go : (a : Item) (t : OfferTree Item) (p : Part Item) → Newcomer w slot x a (hold t p) → Inserts w w' m a (hold t p)
    go a (fork u v l ql qr r) p f = absurd (omega (arith, f.held.root, f.held.slots.low (Memᴰ.append_left (leaves (shape r)) (last_leaf (shape l)))))
    go a (single b) p f =
        record { made = subst (MadeIn w' m) (sym (insert_single side a b p way)) R.made; touched = touched_more (beside_inside side a b) R.touched }
      where
        way : items.before a b ≡ not side
        way =
            in_front_lem side (rate_of a) (rate_of b) (test ∙ ap₂ int_le (newcomer_rate f rate) (ap (cell w rate_field) f.held.root
            ∙ (f.held.kept.held (Memᴰ.head refl)).rate))

        R : Raises side w w' m (alone a) (hold (single b) p)
        R =
            raises c
            (record {
              outer_held = alone_held f.slot (newcomer_own f) f.kept;
              inner_held = f.held;
              at_seam = beside_seam side a b gap_is f.held.root f.slot;
              slots = beside_slots side a b (newcomer_own f) f.held.slots (newcomer_apart f);
              ordered = beside_ordered side a b f.new way;
            })
            (omega arith)
            (omega arith)

-- ---- into the child on a side

pub mem_one : (side : Bool) (O I : Tree Item) {y : Item} → Memᴰ y (leaves O) → Memᴰ y (leaves (node_on side O I))
mem_one false O I m = Memᴰ.append_left (leaves I) m
mem_one true O I m = Memᴰ.append_right (leaves I) m

module _
    {side : Bool} {θ : ℤ} {w w₁ w₂ w₃ : Words} {limit limit' slot m : ℕ} {x : InHand} {c : Opened} {m₁ m₂ : Outcome} {n : Counts}
    (inside : most_slots < x.tree)
    (m-is : m ≡ x.tree - most_slots)
    (rate : θ ≡ cell w rate_field slot)
    (test : side ≡ int_le θ (cell w rate_field m))
    (low₁ : LoweredOn side x w w₁ c)
    (enough : limit ≤ suc limit')
    (ins : InsertedBelow limit' slot c.on w₁ w₂ m₁)
    (reb : RebalancedOn side m m₁.held c.off w₂ w₃ m₂)
    (counts : Summed m₁.counts m₂.counts n) where
  abbrev out : Outcome
  out = record { held = m₂.held; counts = n }

  inserts_inner : (a : Item) (t : Held Item) → Newcomer w slot x a t → held_height t ≤ limit → Inserts w w₃ out a t
  inserts_inner a t f lim =
      record {
        made = subst (MadeIn w₃ out) (sym (insert_on side a t high way)) (record { held = R.held; counted = counted_two M.counted R.counted counts });
        touched =
            touched_trans (touched_more (λ n j. inside_right (a ∷ []) n j) p.touched)
            (touched_trans (touched_more (inside_join (a ∷ []) (inside_left (leaves U)) (λ n j. inside_right (a ∷ []) n (back n (in_one side O I j))))
            ins_touched)
            (touched_more all_inside (reb.touched g i next near)));
      }
    where
      high : 1 ≤ held_height t
      high = inner_high f.held inside

      o : Held Item
      o = outer (side_of side) (lower items t)

      i : Held Item
      i = inner (side_of side) (lower items t)

      p : Opens side w w₁ x c t o i
      p = opens low₁ f.held high

      U : Tree Item
      U = held_shape t

      O : Tree Item
      O = held_shape o

      I : Tree Item
      I = held_shape i

      way : items.before a (seam side O I) ≡ not side
      way = in_front_lem side (rate_of a) (rate_of (seam side O I)) (test ∙ ap₂ int_le (newcomer_rate f rate) (seam_rate f.held p m-is))

      -- the leaves of the two children are the subtree's
      back : Inside (leaves (node_on side O I)) (leaves U)
      back n j = subst (λ u. In n (leaves u)) (sym p.shaped) j

      new : New items a (leaves (node_on side O I))
      new = subst (λ u. New items a (leaves u)) p.shaped f.new

      apart : Disjoint (a ∷ []) (leaves (node_on side O I))
      apart = disjoint_both (inside_refl (a ∷ [])) back (newcomer_apart f)

      slots : Slots (cap w) (leaves (node_on side O I))
      slots = subst (λ u. Slots (cap w) (leaves u)) p.shaped f.held.slots

      ordered : Ordered items (leaves (node_on side O I))
      ordered = subst (λ u. Ordered items (leaves u)) p.shaped f.held.right.ordered

      newcomer : Newcomer w₁ slot c.on a o
      newcomer =
          record {
            slot = f.slot;
            kept = holds_same f.kept (touched_offers p.touched (a ∷ []));
            slots = slots_join (slots_within low₁.within (newcomer_own f)) p.outer_held.slots
                (disjoint_both (inside_refl (a ∷ [])) (λ n j. in_one side O I j) apart);
            new = λ y j. new y (mem_one side O I j);
            held = p.outer_held;
          }

      room : held_height o ≤ limit'
      room = omega (arith, p.level.higher)

      M : MadeIn w₂ m₁ (insert items a o.tree o.whole)
      M = ins.made a o newcomer room

      g : Held Item
      g = (insert items a o.tree o.whole).held

      G : Gains items a o (insert items a o.tree o.whole)
      G = insert_whole items item_laws_lem a p.outer_held.right newcomer.new

      ins_touched : Touched (a ∷ leaves O) w₁ w₂
      ins_touched = ins.touched a o newcomer room

      row : leaves (node_on side (held_shape g) I) ≡ placed items a (leaves (node_on side O I))
      row = grown_row a O I (held_shape g) G.lines side ordered way

      next : Neighbours side w₂ m m₁.held c.off g i
      next =
          record {
            outer_held = M.held;
            inner_held = held_still ins.within p.inner_held ins_touched
                (λ n j q. ⊎_elim (λ b. apart n b (in_other side O I j)) (λ b. on_across O I side slots b j) (in_cases (a ∷ []) q));
            at_seam = m-is ∙ p.at_seam ∙ ap (λ (b : Item). b.slot)
                (sym (grown_seam a O I (held_shape g) G.lines side p.outer_held.right.ordered G.whole.ordered way));
            slots =
                subst (Slots (cap w₂)) (sym row)
                (slots_rearranged (placed_rearranged items a (leaves (node_on side O I)))
                (slots_within ins.within (slots_within low₁.within (slots_join (newcomer_own f) slots apart))));
            ordered = subst (Ordered items) (sym row) (placed_ordered items item_laws_lem a (leaves (node_on side O I)) ordered new);
          }

      near : Near g i
      near = record { left = omega (arith, G.high, p.level.left_level); right = omega (arith, G.low, p.level.right_level) }

      R : MadeIn w₃ m₂ (rebalance_on side g i)
      R = reb.made g i next near

      all_inside : Inside (leaves (node_on side (held_shape g) I)) (a ∷ leaves U)
      all_inside n j =
          inside_join (a ∷ []) (inside_left (leaves U)) (λ d b. inside_right (a ∷ []) d (back d b)) n
          (inside_rearranged (placed_rearranged items a (leaves (node_on side O I))) n (subst (In n) row j))

  pub inserted_inner : InsertedBelow limit slot x w w₃ (record { held = m₂.held; counts = n })
  inserted_inner =
      record {
        within = within_trans low₁.within (within_trans ins.within reb.within);
        made = λ a t f d. (inserts_inner a t f d).made;
        touched = λ a t f d. (inserts_inner a t f d).touched;
      }
