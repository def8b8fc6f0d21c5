-- A rotation in words: its calls in a row make what the model's rotation makes, on either side.
use Rattle.std.specs.Prelude.{◌≡◌, ℕ, suc, ◌-◌, ◌<◌, ◌≤◌, max, Bool}
use Rattle.std.proofs.Common.{sym, ◌∙◌, ap, subst, arith, le-leb}
use Rattle.std.proofs.lemmas.Bool.{lt-leb}
use Rattle.meeting.specs.Machine.{Side}
use Rattle.envelopes.specs.Envelope.{Ordered}
use Rattle.trees.specs.Tree.{Tree, height, leaves}
use Rattle.dynamic.specs.OfferTree.{Held, held_shape, Made, outer, inner, lower, raise_on}
use Rattle.dynamic.specs.Updates.{rotate_once, rotate_twice, rotate}
use Rattle.dynamic.specs.Kept.{held_height}
use Rattle.table.specs.Fields.{most_slots, offer_tree}
use Rattle.table.specs.Words.{Words}
use Rattle.table.specs.Layout.{cap}
use Rattle.table.specs.Items.{Item, slot_of, In, Slots}
use Rattle.table.specs.Rep.{node_on, seam, height_at, Within, within_trans}
use Rattle.table.specs.Nodes.{on_one, on_other, on_across, in_one, in_other, height_on}
use Rattle.shape.specs.Sides.{row_on, row_leaves, four_leaves, seam_first, seam_last}
use Rattle.pieces.specs.Pieces.{items}
use Rattle.form.specs.Stored.{Touched}
use Rattle.levels.specs.Levels.{HandIn, Counted, MadeIn, Summed}
use Rattle.levels.specs.declared.Held.{Held as InHand}
use Rattle.levels.specs.declared.Counts.{Counts}
use Rattle.levels.specs.declared.Made.{Made as Outcome}
use Rattle.update.specs.declared.Opened.{Opened}
use Rattle.form.specs.Frames.{slots_within, touched_trans, touched_more}
use Rattle.form.proofs.Frames.{held_still}
use Rattle.update.specs.Neighbours.{side_of, ordered_one, ordered_other, held_height_lem, Neighbours, LoweredOn, RaisedOn, Opens, opens, Raises, raises}
use Rattle.update.specs.Counting.{counted_two, counted_three}

-- ---- three in a row

-- from a side: o, i, s; `m` is the slot of the seam between o and i, `gap` that between i and s
record Trio (side : Bool) (w : Words) (m gap : ℕ) (x y z : InHand) (o i s : Held Item) : Type 0 where
  outer_held : HandIn w x o
  middle_held : HandIn w y i
  short_held : HandIn w z s
  outer_seam : m ≡ (seam side (held_shape o) (held_shape i)).slot
  short_seam : gap ≡ (seam side (held_shape i) (held_shape s)).slot
  slots : Slots (cap w) (leaves (node_on side (held_shape o) (node_on side (held_shape i) (held_shape s))))
  ordered : Ordered items (leaves (node_on side (held_shape o) (node_on side (held_shape i) (held_shape s))))

-- made one: the inner two first, then the outer one with them
record Gathered (side : Bool) (w w' : Words) (n : Counts) (m : Outcome) (o i s : Held Item) (y z : Made Item) : Type 0 where
  held : HandIn w' m.held z.held
  counted_inner : Counted y.log n
  counted_outer : Counted z.log m.counts
  touched : Touched (leaves (node_on side (held_shape o) (node_on side (held_shape i) (held_shape s)))) w w'

gathered :
    {side : Bool} {w w₁ w₂ : Words} {m gap : ℕ} {x y z : InHand} {m₁ m₂ : Outcome} {o i s : Held Item} →
    Trio side w m gap x y z o i s →
    RaisedOn side gap y z w w₁ m₁ →
    RaisedOn side m x m₁.held w₁ w₂ m₂ →
    held_height i ≤ suc (held_height s) →
    held_height s ≤ suc (held_height i) →
    held_height o ≤ suc (suc (max (held_height i) (held_height s))) →
    max (held_height i) (held_height s) ≤ held_height o →
    Gathered side w w₂ m₁.counts m₂ o i s (raise_on items (side_of side) i s) (raise_on items (side_of side) o (raise_on items (side_of side) i s).held)
gathered {side} {w} {w₁} {w₂} {m} {gap} {x} {y} {z} {m₁} {m₂} {o} {i} {s} t c d hi hs ho hm =
    record {
      held = Z.made.held;
      counted_inner = Y.made.counted;
      counted_outer = Z.made.counted;
      touched = touched_trans (touched_more (λ n j. in_other side O (node_on side I S) j) Y.touched)
          (subst (λ a. Touched (leaves (node_on side O a)) w₁ w₂) Y.shaped Z.touched);
    }
  where
    O : Tree Item
    O = held_shape o

    I : Tree Item
    I = held_shape i

    S : Tree Item
    S = held_shape s

    k : Held Item
    k = (raise_on items (side_of side) i s).held

    Y : Raises side w w₁ m₁ i s
    Y =
        raises c
        (record {
          outer_held = t.middle_held;
          inner_held = t.short_held;
          at_seam = t.short_seam;
          slots = on_other O (node_on side I S) side t.slots;
          ordered = ordered_other O (node_on side I S) side t.ordered;
        })
        hi
        hs

    tall : held_height k ≡ suc (max (held_height i) (held_height s))
    tall = ap height Y.shaped ∙ height_on side I S

    next : Neighbours side w₁ m x m₁.held o k
    next =
        record {
          outer_held = held_still c.within t.outer_held Y.touched (λ n a b. on_across O (node_on side I S) side t.slots a b);
          inner_held = Y.made.held;
          at_seam = t.outer_seam ∙ ap slot_of (sym (seam_first side O I S) ∙ ap (seam side O) (sym Y.shaped));
          slots = subst (λ a. Slots (cap w₁) (leaves (node_on side O a))) (sym Y.shaped) (slots_within c.within t.slots);
          ordered = subst (λ a. Ordered items (leaves (node_on side O a))) (sym Y.shaped) t.ordered;
        }

    Z : Raises side w₁ w₂ m₂ o k
    Z = raises d next (omega (arith, tall)) (omega (arith, tall))

-- ---- the taller of two neighbours lowered

module _
    {side : Bool} {w w₁ : Words} {gap : ℕ} {x y : InHand} {c : Opened} {tall s o i : Held Item}
    (n : Neighbours side w gap x y tall s)
    (within : Within w w₁)
    (p : Opens side w w₁ x c tall o i) where
  row : leaves (node_on side (held_shape tall) (held_shape s)) ≡ leaves (node_on side (held_shape o) (node_on side (held_shape i) (held_shape s)))
  row = ap (λ t. leaves (node_on side t (held_shape s))) p.shaped ∙ row_leaves side (held_shape o) (held_shape i) (held_shape s)

  trio : Trio side w₁ (x.tree - most_slots) gap c.on c.off y o i s
  trio =
      record {
        outer_held = p.outer_held;
        middle_held = p.inner_held;
        short_held = held_still within n.inner_held p.touched (λ k a b. on_across (held_shape tall) (held_shape s) side n.slots b a);
        outer_seam = p.at_seam;
        short_seam = n.at_seam ∙ ap slot_of (ap (λ t. seam side t (held_shape s)) p.shaped
            ∙ seam_last side (held_shape o) (held_shape i) (held_shape s));
        slots = subst (Slots (cap w₁)) row (slots_within within n.slots);
        ordered = subst (Ordered items) row n.ordered;
      }

  lowered_touched : Touched (leaves (node_on side (held_shape tall) (held_shape s))) w w₁
  lowered_touched = touched_more (λ k a. in_one side (held_shape tall) (held_shape s) a) p.touched

-- ---- what a rotation promises

-- the subtree x on a side stands two higher than its neighbour y
pub record RotatedIn (side : Bool) (gap : ℕ) (x y : InHand) (w w' : Words) (m : Outcome) : Type 0 where
  pub within : Within w w'
  pub made :
      (tall short : Held Item) → Neighbours side w gap x y tall short → held_height tall ≡ suc (suc (held_height short)) →
      MadeIn w' m (rotate items (side_of side) tall short)
  pub touched :
      (tall short : Held Item) → Neighbours side w gap x y tall short → held_height tall ≡ suc (suc (held_height short)) →
      Touched (leaves (node_on side (held_shape tall) (held_shape short))) w w'

record Rotates (side : Bool) (w w' : Words) (m : Outcome) (tall short : Held Item) : Type 0 where
  made : MadeIn w' m (rotate items (side_of side) tall short)
  touched : Touched (leaves (node_on side (held_shape tall) (held_shape short))) w w'

rotated :
    {side : Bool} {gap : ℕ} {x y : InHand} {m : Outcome} {w w' : Words} →
    Within w w' →
    ((tall short : Held Item) → Neighbours side w gap x y tall short → held_height tall ≡ suc (suc (held_height short)) → Rotates side w w' m tall short) →
    RotatedIn side gap x y w w' m
rotated within f = record { within = within; made = λ t s n e. (f t s n e).made; touched = λ t s n e. (f t s n e).touched }

module _ (side : Side) (tall short : Held Item) where
  rotate_once_lem : held_height (inner side (lower items tall)) ≤ held_height (outer side (lower items tall)) →
      rotate items side tall short ≡ rotate_once items side (lower items tall) short
  unfolding rotate
  rotate_once_lem le = rw (le-leb (held_height (inner side (lower items tall))) (held_height (outer side (lower items tall))) le)

  rotate_twice_lem :
      held_height (outer side (lower items tall)) < held_height (inner side (lower items tall)) →
      rotate items side tall short ≡ rotate_twice items side (lower items tall) (lower items (inner side (lower items tall))) short
  unfolding rotate
  rotate_twice_lem lt = rw (lt-leb (held_height (inner side (lower items tall))) (held_height (outer side (lower items tall))) lt)

-- the inner child is no higher than the outer one
pub rotated_once :
    {side : Bool} {w w₁ w₂ w₃ : Words} {gap m : ℕ} {x y : InHand} {c : Opened} {m₁ m₂ : Outcome} {n : Counts} →
    LoweredOn side x w w₁ c →
    height_at w₁ offer_tree c.off.tree ≤ height_at w₁ offer_tree c.on.tree →
    RaisedOn side gap c.off y w₁ w₂ m₁ →
    m ≡ x.tree - most_slots →
    RaisedOn side m c.on m₁.held w₂ w₃ m₂ →
    Summed m₁.counts m₂.counts n →
    RotatedIn side gap x y w w₃ (record { held = m₂.held; counts = n })
rotated_once {side} {w} {w₁} {w₂} {w₃} {gap} {m} {x} {y} {c} {m₁} {m₂} {n} low test c₁ e₂ c₂ counts =
    rotated (within_trans low.within (within_trans c₁.within c₂.within)) go
  where
    out : Outcome
    out = record { held = m₂.held; counts = n }

    go : (tall short : Held Item) → Neighbours side w gap x y tall short → held_height tall ≡ suc (suc (held_height short)) → Rotates side w w₃ out tall short
    go tall short near two =
        record {
          made =
              subst (MadeIn w₃ out) (sym (rotate_once_lem (side_of side) tall short le))
              (record { held = G.held; counted = counted_two G.counted_inner G.counted_outer counts });
          touched = touched_trans (lowered_touched near low.within p) (subst (λ xs. Touched xs w₁ w₃) (sym (row near low.within p)) G.touched);
        }
      where
        o : Held Item
        o = outer (side_of side) (lower items tall)

        i : Held Item
        i = inner (side_of side) (lower items tall)

        p : Opens side w w₁ x c tall o i
        p = opens low near.outer_held (omega arith)

        le : held_height i ≤ held_height o
        le = omega (arith, test, held_height_lem p.inner_held, held_height_lem p.outer_held)

        higher : held_height tall ≡ suc (max (held_height o) (held_height i))
        higher = p.level.higher

        level : held_height o ≤ suc (held_height i)
        level = p.level.left_level

        s : Made Item
        s = raise_on items (side_of side) i short

        G : Gathered side w₁ w₃ m₁.counts m₂ o i short s (raise_on items (side_of side) o s.held)
        G =
            gathered (trio near low.within p) c₁ (subst (λ j. RaisedOn side j c.on m₁.held w₂ w₃ m₂) e₂ c₂)
            (omega (arith, le, higher, level)) (omega (arith, le, higher, level)) (omega (arith, le, higher, level)) (omega (arith, le, higher, level))

-- ---- the middle one of three lowered, and its outer child raised with the outer one

record Parts (side : Bool) (w w' : Words) (m gap : ℕ) (made : Outcome) (y z : InHand) (o p q i s : Held Item) : Type 0 where
  next : Trio side w' m gap made.held y z (raise_on items (side_of side) o p).held q s
  counted : Counted (raise_on items (side_of side) o p).log made.counts
  tall : held_height (raise_on items (side_of side) o p).held ≡ suc (max (held_height o) (held_height p))
  touched : Touched (leaves (node_on side (held_shape o) (node_on side (held_shape i) (held_shape s)))) w w'
  same_row :
      leaves (node_on side (held_shape o) (node_on side (held_shape i) (held_shape s)))
      ≡ leaves (node_on side (held_shape (raise_on items (side_of side) o p).held) (node_on side (held_shape q) (held_shape s)))

parted :
    {side : Bool} {w w₁ w₂ : Words} {m gap : ℕ} {x y z : InHand} {c : Opened} {m₁ : Outcome} {o i s p q : Held Item} →
    Trio side w m gap x y z o i s →
    Within w w₁ →
    Opens side w w₁ y c i p q →
    RaisedOn side m x c.on w₁ w₂ m₁ →
    held_height o ≤ suc (held_height p) →
    held_height p ≤ suc (held_height o) →
    Parts side w w₂ (y.tree - most_slots) gap m₁ c.off z o p q i s
parted {side} {w} {w₁} {w₂} {m} {gap} {x} {y} {z} {c} {m₁} {o} {i} {s} {p} {q} t within op up ho hp =
    record {
      next =
          record {
            outer_held = X.made.held;
            middle_held = held_still up.within op.inner_held X.touched (λ n a b. apart b (in_one side Q S a));
            short_held = held_still up.within short₁ X.touched (λ n a b. apart b (in_other side Q S a));
            outer_seam = op.at_seam ∙ ap slot_of (sym (seam_last side O P Q) ∙ ap (λ a. seam side a Q) (sym X.shaped));
            short_seam = t.short_seam ∙ ap slot_of (ap (λ a. seam side a S) op.shaped ∙ seam_last side P Q S);
            slots = subst (λ a. Slots (cap w₂) (leaves (node_on side a (node_on side Q S)))) (sym X.shaped) (slots_within up.within slots₁);
            ordered = subst (λ a. Ordered items (leaves (node_on side a (node_on side Q S)))) (sym X.shaped) ordered₁;
          };
      counted = X.made.counted;
      tall = ap height X.shaped ∙ height_on side O P;
      touched =
          touched_trans (touched_more (λ n a. in_other side O (node_on side I S) (in_one side I S a)) op.touched)
          (subst (λ xs. Touched xs w₁ w₂) (sym same) (touched_more (λ n a. in_one side (node_on side O P) (node_on side Q S) a) X.touched));
      same_row = same ∙ ap (λ a. leaves (node_on side a (node_on side Q S))) (sym X.shaped);
    }
  where
    O : Tree Item
    O = held_shape o

    I : Tree Item
    I = held_shape i

    S : Tree Item
    S = held_shape s

    P : Tree Item
    P = held_shape p

    Q : Tree Item
    Q = held_shape q

    same : leaves (node_on side O (node_on side I S)) ≡ leaves (node_on side (node_on side O P) (node_on side Q S))
    same = ap (λ a. leaves (row_on side O a S)) op.shaped ∙ four_leaves side O P Q S

    slots₁ : Slots (cap w₁) (leaves (node_on side (node_on side O P) (node_on side Q S)))
    slots₁ = subst (Slots (cap w₁)) same (slots_within within t.slots)

    apart : {n : ℕ} → In n (leaves (node_on side O P)) → In n (leaves (node_on side Q S)) → ⊥
    apart b a = on_across (node_on side O P) (node_on side Q S) side slots₁ b a

    ordered₁ : Ordered items (leaves (node_on side (node_on side O P) (node_on side Q S)))
    ordered₁ = subst (Ordered items) same t.ordered

    short₁ : HandIn w₁ z s
    short₁ = held_still within t.short_held op.touched (λ n a b. on_across I S side (on_other O (node_on side I S) side t.slots) b a)

    X : Raises side w₁ w₂ m₁ o p
    X =
        raises up
        (record {
          outer_held = held_still within t.outer_held op.touched (λ n a b. on_across O (node_on side I S) side t.slots a (in_one side I S b));
          inner_held = op.outer_held;
          at_seam = t.outer_seam ∙ ap slot_of (ap (seam side O) op.shaped ∙ seam_first side O P Q);
          slots = on_one (node_on side O P) (node_on side Q S) side slots₁;
          ordered = ordered_one (node_on side O P) (node_on side Q S) side ordered₁;
        })
        ho
        hp

-- heights at a double rotation: of the outer child, of the inner child's children, and of the short neighbour
record Levels (o p q s : ℕ) : Type 0 where
  o_p : o ≤ suc p
  p_o : p ≤ suc o
  q_s : q ≤ suc s
  s_q : s ≤ suc q
  low : max o p ≤ suc (max q s)
  high : max q s ≤ suc (max o p)

doubled : {t o i p q s : ℕ} → t ≡ suc (suc s) → t ≡ suc (max o i) → i ≤ suc o → i ≡ suc (max p q) → p ≤ suc q → q ≤ suc p → o < i → Levels o p q s
doubled e a ai b bp bq lt = omega arith

-- the inner child is the higher one
pub rotated_twice :
    {side : Bool} {w w₁ w₂ w₃ w₄ w₅ : Words} {gap m m' : ℕ} {x y : InHand} {c d : Opened} {m₁ m₂ m₃ : Outcome} {n₂ n : Counts} →
    LoweredOn side x w w₁ c →
    height_at w₁ offer_tree c.on.tree < height_at w₁ offer_tree c.off.tree →
    LoweredOn side c.off w₁ w₂ d →
    m ≡ x.tree - most_slots →
    RaisedOn side m c.on d.on w₂ w₃ m₁ →
    RaisedOn side gap d.off y w₃ w₄ m₂ →
    m' ≡ c.off.tree - most_slots →
    RaisedOn side m' m₁.held m₂.held w₄ w₅ m₃ →
    Summed m₁.counts m₂.counts n₂ →
    Summed n₂ m₃.counts n →
    RotatedIn side gap x y w w₅ (record { held = m₃.held; counts = n })
rotated_twice {side} {w} {w₁} {w₂} {w₃} {w₄} {w₅} {gap} {m} {m'} {x} {y} {c} {d} {m₁} {m₂} {m₃} {n} low test low₂ e₁ c₁ c₂ e₃ c₃ sum₂ sum₃ =
    rotated (within_trans low.within (within_trans low₂.within (within_trans c₁.within (within_trans c₂.within c₃.within)))) go
  where
    out : Outcome
    out = record { held = m₃.held; counts = n }

    go : (tall short : Held Item) → Neighbours side w gap x y tall short → held_height tall ≡ suc (suc (held_height short)) → Rotates side w w₅ out tall short
    go tall short near two =
        record {
          made =
              subst (MadeIn w₅ out) (sym (rotate_twice_lem (side_of side) tall short lt))
              (record { held = G.held; counted = counted_three D.counted G.counted_inner G.counted_outer sum₂ sum₃ });
          touched =
              touched_trans (lowered_touched near low.within a)
              (subst (λ xs. Touched xs w₁ w₅) (sym (row near low.within a))
              (touched_trans D.touched (subst (λ xs. Touched xs w₃ w₅) (sym D.same_row) G.touched)));
        }
      where
        o : Held Item
        o = outer (side_of side) (lower items tall)

        i : Held Item
        i = inner (side_of side) (lower items tall)

        p : Held Item
        p = outer (side_of side) (lower items i)

        q : Held Item
        q = inner (side_of side) (lower items i)

        a : Opens side w w₁ x c tall o i
        a = opens low near.outer_held (omega arith)

        lt : held_height o < held_height i
        lt = omega (arith, test, held_height_lem a.inner_held, held_height_lem a.outer_held)

        b : Opens side w₁ w₂ c.off d i p q
        b = opens low₂ a.inner_held (omega (arith, lt))

        levels : Levels (held_height o) (held_height p) (held_height q) (held_height short)
        levels = doubled two a.level.higher a.level.right_level b.level.higher b.level.left_level b.level.right_level lt

        D : Parts side w₁ w₃ (c.off.tree - most_slots) gap m₁ d.off y o p q i short
        D = parted (trio near low.within a) low₂.within b (subst (λ j. RaisedOn side j c.on d.on w₂ w₃ m₁) e₁ c₁) levels.o_p levels.p_o

        s : Made Item
        s = raise_on items (side_of side) q short

        z : Made Item
        z = raise_on items (side_of side) (raise_on items (side_of side) o p).held s.held

        G : Gathered side w₃ w₅ m₂.counts m₃ (raise_on items (side_of side) o p).held q short s z
        G =
            gathered D.next c₂ (subst (λ j. RaisedOn side j m₁.held m₂.held w₄ w₅ m₃) e₃ c₃) levels.q_s levels.s_q
            (omega (arith, D.tall, levels.low)) (omega (arith, D.tall, levels.high))
