-- The first and the last leaf of a tree, found by going down one side.
use Rattle.std.specs.Prelude.{◌≡◌, refl, Bool, true, false, ℕ, suc, ◌-◌, ◌≤◌, ◌<◌}
use Rattle.std.proofs.Common.{sym, ◌∙◌, ap, arith}
use native.Mathlib.Numerals.{unary_clauses}
use Rattle.trees.specs.Tree.{Tree, leaf, node, height, leaves, first, last, Avl}
use Rattle.table.specs.Fields.{most_levels, most_slots}
use Rattle.table.specs.Words.{Words}
use Rattle.table.specs.Items.{Item, slots_left, slots_right}
use Rattle.table.specs.Rep.{child_at, Rep}
use Rattle.table.specs.Nodes.{parents, leaf_low, not_spent}
use Rattle.table.specs.PartTrees.{low}
use Rattle.shape.specs.Splices.{inner_ref}
use Rattle.descents.specs.Downs.{Down, at_leaf, goes, over}

abbrev pub end_of : Bool → Tree Item → Item
end_of false t = first t
end_of true t = last t

-- r is the slot of that leaf
pub record Ended (w : Words) (k : ℕ) (side : Bool) (x r : ℕ) : Type 0 where
  pub is : (t : Tree Item) → Rep w k x t → Avl t → r ≡ (end_of side t).slot
  pub none : x ≡ 0 → r ≡ 0

-- ---- the way down

-- node y, at most `limit` high, has the same leaf at its end
pub record Nearer (w : Words) (k : ℕ) (side : Bool) (y limit : ℕ) (t : Tree Item) : Type 0 where
  pub here : Tree Item
  pub rep : Rep w k y here
  pub same : end_of side here ≡ end_of side t
  pub high : height here ≤ limit

pub record Going (w : Words) (k : ℕ) (side : Bool) (x y limit : ℕ) : Type 0 where
  pub is : (t : Tree Item) → Rep w k x t → Avl t → Nearer w k side y limit t
  pub none : x ≡ 0 → y ≡ 0

pub going_begins : (w : Words) (k : ℕ) (side : Bool) (x : ℕ) → Going w k side x x most_levels
going_begins w k side x = record { is = λ t r a. record { here = t; rep = r; same = refl; high = low w r.slots a }; none = λ e. e }

-- a child of an inner node
abbrev pub pick : Bool → Tree Item → Tree Item → Tree Item
pick false l r = l
pick true l r = r

pub down : {w : Words} {k y z : ℕ} {l r : Tree Item} (side : Bool) → Rep w k y (node l r) → z ≡ child_at w k side y → Rep w k z (pick side l r)
down {l} {r} false h e = record { kind = h.kind; root = e ∙ (parents h).left_at; slots = slots_left (leaves r) h.slots; tied = (parents h).tied_left }
down {l} {r} true h e = record { kind = h.kind; root = e ∙ (parents h).right_at; slots = slots_right (leaves l) h.slots; tied = (parents h).tied_right }

pub down_low : (side : Bool) (l r : Tree Item) → suc (height (pick side l r)) ≤ height (node l r)
down_low false l r = omega arith
down_low true l r = omega arith

down_end : (side : Bool) (l r : Tree Item) → end_of side (pick side l r) ≡ end_of side (node l r)
down_end false l r = refl
down_end true l r = refl

pub going_on : {w : Words} {k x y limit z : ℕ} {side : Bool} → Going w k side x y limit → most_slots < y → z ≡ child_at w k side y →
    Going w k side x z (limit - 1)
going_on {w} {k} {x} {y} {limit} {z} {side} g h e = record {
  is =
      λ t r a. step t (g.is t r a).here (g.is t r a).rep (g.is t r a).same (g.is t r a).high;
  none = λ d. absurd (omega (arith, h, g.none d));
}
  where
    step : (t u : Tree Item) → Rep w k y u → end_of side u ≡ end_of side t → height u ≤ limit → Nearer w k side z (limit - 1) t
    step t (leaf a) r d n = absurd (omega (arith, h, leaf_low r))
    step t (node l s) r d n =
        record { here = pick side l s; rep = down side r e; same = down_end side l s ∙ d; high = omega (arith, n, down_low side l s) }

-- the limit is used up, which no balanced tree comes to
pub going_over : {w : Words} {k x y limit r : ℕ} {side : Bool} → Going w k side x y limit → most_slots < y → limit ≡ 0 → Ended w k side x r
going_over g h e = record {
  is = λ t q a. absurd (not_spent (g.is t q a).here h e (g.is t q a).rep (g.is t q a).high);
  none = λ d. absurd (omega (arith, h, g.none d));
}

end_leaf : (side : Bool) (a : Item) → end_of side (leaf a) ≡ a
end_leaf false a = refl
end_leaf true a = refl

pub going_ends : {w : Words} {k x y limit : ℕ} {side : Bool} → Going w k side x y limit → y ≤ most_slots → Ended w k side x y
going_ends {w} {k} {x} {y} {limit} {side} g h = record { is = λ t q a. stop t (g.is t q a).here (g.is t q a).rep (g.is t q a).same; none = g.none }
  where
    stop : (t u : Tree Item) → Rep w k y u → end_of side u ≡ end_of side t → y ≡ (end_of side t).slot
    stop t (leaf a) q d = q.root ∙ ap (λ (i : Item). i.slot) (sym (end_leaf side a) ∙ d)
    stop t (node l s) q d = absurd (omega (arith, h, inner_ref q (omega arith)))

-- the way down to that end
pub going_down : {step : ℕ → ℕ → Type 0} {w : Words} {k x y limit r : ℕ} {side : Bool} → ((u z : ℕ) → step u z → z ≡ child_at w k side u) →
    Going w k side x y limit → Down step limit y r → Ended w k side x r
going_down f g (at_leaf s) = going_ends g s
going_down f g (goes s c d) = going_down f (simp unary_clauses at (going_on g s (f _ _ c))) d
going_down f g (over s) = going_over g s refl
