-- Rotations, as steps on words: each lemma is one way through the code.
use Rattle.std.specs.Prelude.{◌≡◌, refl, Bool, not, cond, ℕ, ◌-◌, ◌≤◌, ◌<◌, leb}
use Rattle.std.proofs.Common.{sym, ◌∙◌, ap, ap₂, subst, arith}
use Rattle.trees.specs.Tree.{Tree, leaf, node, height, leaves}
use Rattle.trees.specs.Leaves.{last_leaf}
use Rattle.table.specs.Fields.{most_slots}
use Rattle.table.specs.Words.{Words}
use Rattle.table.specs.Layout.{cap}
use Rattle.table.specs.Items.{Item, In, Slots, slots_left}
use Rattle.table.specs.Rep.{child_at, height_at, node_on, seam, Rep, within_cap, within_trans}
use Rattle.table.specs.Nodes.{Pair, pair_one, Made, Opened, opened, rep_height, on_one, on_across, in_one, in_other}
use Rattle.shape.specs.Sides.{row_on, double_on, rotate_on, row_leaves, four_leaves, other_way, seam_other, seam_first, seam_last, double_leaf}
use Rattle.shape.specs.Sides.{double_node, rotate_leaf, rotate_node}
use Rattle.nodes.specs.Joining.{Joined}
use Rattle.shape.specs.Rows.{tied_beside, made_then, made_as, Row, Rowed, row_one, row_middle}

-- a root's number tells a leaf
pub is_leaf : {w : Words} {k x : ℕ} {t : Tree Item} → Rep w k x t → x ≤ most_slots → (a : Item) × (t ≡ leaf a)
is_leaf {t = leaf a} r h = (a, refl)
is_leaf {t = node l s} r h = absurd (omega (arith, r.root, (slots_left (leaves s) r.slots).low (last_leaf l)))

pub slot_of : {a b : Item} → a ≡ b → a.slot ≡ b.slot
slot_of e = ap (λ (i : Item). i.slot) e

-- ---- a change of shape

pub reshaped : {f g : Tree Item → Tree Item → Tree Item} {k gap p q x : ℕ} {side : Bool} {w w' : Words} → Joined f k side gap p q w w' x →
    ((tp tq : Tree Item) → Pair w k side p q tp tq → f tp tq ≡ g tp tq) → Joined g k side gap p q w w' x
reshaped j e = record { within = j.within; made = λ tp tq pair d. made_as (e tp tq pair) (j.made tp tq pair d) }

pub pair_flip : {w : Words} {k p q : ℕ} {side : Bool} {tp tq : Tree Item} → Pair w k side p q tp tq → Pair w k (not side) q p tq tp
pair_flip {side} {tp} {tq} h =
    record { kind = h.kind; one = h.other; other = h.one; slots = rw (other_way side tp tq) h.slots; tied_one = h.tied_other; tied_other = h.tied_one }

pub flipped : {f : Tree Item → Tree Item → Tree Item} {k gap p q x : ℕ} {side : Bool} {w w' : Words} → Joined f k (not side) gap q p w w' x →
    Joined (λ tp tq. f tq tp) k side gap p q w w' x
flipped {side} j = record { within = j.within; made = λ tp tq pair d. j.made tq tp (pair_flip pair) (d ∙ slot_of (sym (seam_other side tp tq))) }

-- a pair whose one tree is an inner node, as three trees in a row
pub opened_row : {w : Words} {k p q a m : ℕ} {side : Bool} {tp tq : Tree Item} → Pair w k side p q tp tq → (o : Opened w k side p tp) →
    a ≡ child_at w k side p → m ≡ child_at w k (not side) p → Row w k side a m q o.one o.other tq
opened_row {w} {side} {tp} {tq} pair o ea em =
    record {
      kind = pair.kind;
      one = ea ∙ o.one_at;
      middle = em ∙ o.other_at;
      other = pair.other;
      slots = subst (Slots (cap w)) (ap (λ t. leaves (node_on side t tq)) o.shape ∙ row_leaves side o.one o.other tq) pair.slots;
      tied_one = o.tied_one;
      tied_middle = o.tied_other;
      tied_other = pair.tied_other;
    }

-- ---- the double rotation

pub doubled_leaf : {k near far p m q x : ℕ} {side : Bool} {w w' : Words} → m ≤ most_slots → Rowed (row_on side) k side near far p m q w w' x →
    Rowed (double_on side) k side near far p m q w w' x
doubled_leaf {side} h j =
    record {
      within = j.within;
      made = λ tp tm tq r d e. let (a, i) = is_leaf (row_middle r) h in
          made_as (ap (λ t. row_on side tp t tq) i ∙ sym (double_leaf side tp a tq) ∙ ap (λ t. double_on side tp t tq) (sym i)) (j.made tp tm tq r d e);
    }

pub doubled_node : {k near far p m q a b g y x : ℕ} {side : Bool} {w w₁ w₂ : Words} → most_slots < m → a ≡ child_at w k side m →
    b ≡ child_at w k (not side) m → g ≡ m - most_slots
    → Joined (node_on side) k side near p a w w₁ y → Rowed (row_on side) k side g far y b q w₁ w₂ x → Rowed (double_on side) k side near far p m q w w₂ x
doubled_node {k} {near} {far} {p} {m} {q} {a} {b} {g} {y} {x} {side} {w} {w₁} {w₂} h ea eb eg first second =
    record { within = within_trans first.within second.within; made = made }
  where
    made : (tp tm tq : Tree Item) → Row w k side p m q tp tm tq → near ≡ (seam side tp tm).slot → far ≡ (seam side tm tq).slot →
        Made k w w₂ x (double_on side tp tm tq)
    made tp tm tq r d e =
        made_as (sym (ap (λ t. double_on side tp t tq) o.shape ∙ double_node side tp tn to tq))
        (made_then one (second.made (node_on side tp tn) to tq row (eg ∙ o.seam_at ∙ slot_of (sym (seam_last side tp tn to)))
        (e ∙ slot_of (ap (λ t. seam side t tq) o.shape ∙ seam_last side tn to tq))) (λ s i. in_one side (node_on side tp tn) (node_on side to tq) i))
      where
        o : Opened w k side m tm
        o = opened side (row_middle r) h

        tn : Tree Item
        tn = o.one

        to : Tree Item
        to = o.other

        slots : Slots (cap w) (leaves (row_on side (node_on side tp tn) to tq))
        slots = subst (Slots (cap w)) (ap (λ t. leaves (row_on side tp t tq)) o.shape ∙ four_leaves side tp tn to tq) r.slots

        one : Made k w w₁ y (node_on side tp tn)
        one = first.made tp tn (record {
          kind = r.kind;
          one = r.one;
          other = ea ∙ o.one_at;
          slots =
              on_one (node_on side tp tn) (node_on side to tq) side slots;
          tied_one = r.tied_one;
          tied_other = o.tied_one;
        })
            (d ∙ slot_of (ap (seam side tp) o.shape ∙ seam_first side tp tn to))

        beside : (s : ℕ) → In s (leaves (node_on side tp tn)) → In s (leaves (node_on side to tq)) → ⊥
        beside s i j = on_across (node_on side tp tn) (node_on side to tq) side slots i j

        row : Row w₁ k side y b q (node_on side tp tn) to tq
        row = record {
          kind = r.kind;
          one = one.rep.root;
          middle = eb ∙ o.other_at;
          other = r.other;
          slots = rw (within_cap first.within) slots;
          tied_one = one.rep.tied;
          tied_middle = tied_beside one o.tied_other (λ s i j. beside s i (in_one side to tq j));
          tied_other =
              tied_beside one r.tied_other (λ s i j. beside s i (in_other side to tq j));
        }

-- ---- the rotation

pub rotated_leaf : {k gap p q x : ℕ} {side : Bool} {w w' : Words} → p ≤ most_slots → Joined (node_on side) k side gap p q w w' x →
    Joined (rotate_on side) k side gap p q w w' x
rotated_leaf {side} h j =
    reshaped j (λ tp tq pair. let (a, i) = is_leaf (pair_one pair) h in ap (λ t. node_on side t tq) i ∙ sym (rotate_leaf side a tq)
    ∙ ap (λ t. rotate_on side t tq) (sym i))

-- b tells which rotation
abbrev pub turn_on : Bool → Bool → Tree Item → Tree Item → Tree Item → Tree Item
turn_on side b p m q = cond b (row_on side p m q) (double_on side p m q)

pub rotated : {k gap p q a m g ha hm x : ℕ} {side : Bool} {w w' : Words} (b : Bool) → most_slots < p → a ≡ child_at w k side p →
    m ≡ child_at w k (not side) p → g ≡ p - most_slots
    → ha ≡ height_at w k a → hm ≡ height_at w k m → leb hm ha ≡ b → Rowed (turn_on side b) k side g gap a m q w w' x → Joined (rotate_on side) k side gap p q w w' x
rotated {k} {gap} {p} {q} {a} {m} {g} {ha} {hm} {x} {side} {w} {w'} b h ea em eg eha ehm eb j = record { within = j.within; made = made }
  where
    made : (tp tq : Tree Item) → Pair w k side p q tp tq → gap ≡ (seam side tp tq).slot → Made k w w' x (rotate_on side tp tq)
    made tp tq pair d = made_as (sym shape) (j.made ta tm tq row (eg ∙ o.seam_at)
        (d ∙ slot_of (ap (λ t. seam side t tq) o.shape ∙ seam_last side ta tm tq)))
      where
        o : Opened w k side p tp
        o = opened side (pair_one pair) h

        ta : Tree Item
        ta = o.one

        tm : Tree Item
        tm = o.other

        row : Row w k side a m q ta tm tq
        row = opened_row pair o ea em

        lower : leb (height tm) (height ta) ≡ b
        lower = ap₂ leb (sym (ehm ∙ rep_height (row_middle row))) (sym (eha ∙ rep_height (row_one row))) ∙ eb

        shape : rotate_on side tp tq ≡ turn_on side b ta tm tq
        shape = ap (λ t. rotate_on side t tq) o.shape ∙ rotate_node side ta tm tq ∙ ap (λ c. turn_on side c ta tm tq) lower
