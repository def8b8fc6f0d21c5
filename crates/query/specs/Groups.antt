-- The four words of an inner node of the pieces' tree lie side by side: left, right, numerator, denominator.
use Rattle.std.specs.Prelude.{◌≡◌, refl, Bool, true, false, not, cond, ℕ, ◌+◌, ◌*◌, ◌/◌, ◌%◌, ◌-◌, ◌≤◌, ◌<◌, length, get_or, ℤ, pos, negsuc, neg_ℤ}
use Rattle.std.proofs.Common.{sym, ◌∙◌, ap, arith, le-leb, leb-false}
use Rattle.lists.specs.Bools.{is_false, failed, passed, not_not, is_true}
use Rattle.integers.specs.Ring.{var, nat, ◌:+◌, ◌:*◌, by_eq}
use Rattle.offers.specs.Offers.{between, within}
use Rattle.offers.specs.Bounded.{bounded_in}
use Rattle.table.specs.Fields.{base_field, denominator_field, most_nodes, most_slots, number_field, numerator_field, piece_node_field, piece_tree, rate_field}
use Rattle.table.specs.Words.{Words, up_to, up_to_in, up_to_over, up_to_below}
use Rattle.table.specs.Layout.{cap, place, Valid, cell, link_at}
use Rattle.table.specs.Cells.{cell_none, cell_inside, cell_there, place_small, placed}
use Rattle.table.specs.Rep.{child_field}
use Rattle.prices.specs.Positions.{on_or_above}
use Rattle.query.specs.declared.Turn.{Turn}
use Rattle.query.specs.Readings.{clamped, crossing_against, kept_at, Turns, seam_at, child_toward, price_in}

link_out : {w : Words} {f s : ℕ} → ¬ Valid w f s → link_at w f s ≡ 0
link_out v = ap (up_to most_nodes) (sym (cell_none v)) ∙ up_to_in most_nodes 0 (omega arith)

-- ---- no node

-- a slot that the part has not
pub off_slot : (w : Words) (c s : ℕ) (q : ℤ) → c ≡ cap w → ¬ ((1 ≤ s) × (s ≤ c)) → 0 ≡ child_toward w s q
unfolding child_toward
off_slot w c s q e h = go (within 200_000 (cell w denominator_field s)) (link_out (λ v. h (v.low, omega (arith, v.high))))
  where
    go : (b : Bool) {n : ℕ} → n ≡ 0 → 0 ≡ cond b n 0
    go true d = sym d
    go false d = refl

-- ---- a slot that it has

-- the fields of a plane stand side by side
pub beside : (c s p j : ℕ) → p % 4 ≡ 0 → j < 4 → place c p s + j ≡ place c (p + j) s
unfolding place
beside c s p j e h =
    let q : (p + j) / 4 ≡ p / 4 = omega arith in
    omega (arith, ap (λ (k : ℕ). k * (c + 1)) q)

-- where the group of inner node x begins, c being the capacity
abbrev pub group : ℕ → ℕ → ℕ
group c x = place c piece_node_field (x - most_slots)

-- no number of a node
no_link : (z : ℤ) → between (pos 0) (pos most_nodes) z ≡ false → up_to most_nodes z ≡ 0
no_link (pos n) e = up_to_over most_nodes n (leb-false n most_nodes (rw (le-leb 0 n (omega arith)) at e))
no_link (negsuc n) e = up_to_below most_nodes n

module _ (w : Words) (c x : ℕ) (e : c ≡ cap w) (low : most_slots < x) (high : x ≤ c + most_slots) {at : ℕ} (told : at ≡ group c x) where
  abbrev s : ℕ
  s = x - most_slots

  group_at : (f j : ℕ) → f ≡ piece_node_field + j → j < 4 → at + j ≡ place c f s
  group_at f j d h = ap (λ (k : ℕ). k + j) told ∙ beside c s piece_node_field j refl h ∙ ap (λ (k : ℕ). place c k s) (sym d)

  -- no sum that begins there wraps
  pub group_small : at ≤ 131_167
  group_small = omega (arith, told, place_small (placed w piece_node_field s c e (omega arith) (omega arith)))

  pub group_in : (j : ℕ) → j < 4 → at + j < length w
  group_in j h = cell_inside w (piece_node_field + j) s c e (omega arith) (omega arith) (omega arith) (group_at (piece_node_field + j) j refl h)

  group_cell : (f j : ℕ) → f ≡ piece_node_field + j → j < 4 → get_or w (at + j) (pos 0) ≡ cell w f s
  group_cell f j d h = cell_there w f s c e (omega arith) (omega arith) (omega arith) (group_at f j d h)

  -- the words of the group
  abbrev our_d : ℤ
  our_d = get_or w (at + 3) (pos 0)

  abbrev our_n : ℤ
  our_n = get_or w (at + 2) (pos 0)

  -- a denominator out of range
  pub off_steep : (q : ℤ) → not (within 200_000 our_d) ≡ true → 0 ≡ child_toward w s q
  unfolding child_toward
  off_steep q d = rw (← group_cell denominator_field 3 (omega arith) (omega arith), is_false (within 200_000 our_d) (passed d))

  module _ {q : ℤ} {before : ℕ} {way : Turn} (t : Turns q our_n our_d s before way) (d : not (within 200_000 our_d) ≡ false) where
    -- what is kept in mind
    pub mind_there : way.kept ≡ kept_at (seam_at w s q) s before
    mind_there = t.kept ∙ rw (← group_cell denominator_field 3 (omega arith) (omega arith), ← group_cell numerator_field 2 (omega arith) (omega arith))

    -- the child's word
    pub toward_there : up_to most_nodes (get_or w (at + way.side) (pos 0)) ≡ child_toward w s q
    unfolding child_toward
    toward_there =
        rw (
          ← group_cell denominator_field 3 (omega arith) (omega arith),
          ← group_cell numerator_field 2 (omega arith) (omega arith),
          is_true (within 200_000 our_d) (not_not (within 200_000 our_d) (failed d)),
        )
        (ap (up_to most_nodes)
        (group_cell (child_field piece_tree (on_or_above (crossing_against q our_n our_d))) way.side (omega (arith, t.side)) (omega (arith, t.low))))

    -- it is no number of a node
    pub off_wild : not (between (pos 0) (pos most_nodes) (get_or w (at + way.side) (pos 0))) ≡ true → 0 ≡ child_toward w s q
    off_wild g = sym (no_link _ (is_false _ (passed g))) ∙ toward_there

-- ---- a slot's number, rate and base lie side by side too

pub price_none : (w : Words) (c s : ℕ) (q : ℤ) → c ≡ cap w → ¬ ((1 ≤ s) × (s ≤ c)) → pos 0 ≡ price_in w s q
unfolding price_in
price_none w c s q e h =
    rw (
      ← cell_none {f = rate_field} gone,
      ← cell_none {f = base_field} gone,
      bounded_in (neg_ℤ (pos 1_000_000_000)) (pos 1_000_000_000) (pos 0) tt,
      bounded_in (neg_ℤ (pos 100_000)) (pos 100_000) (pos 0) tt,
    )
    (by_eq (nat 0) (nat 0 :+ nat 0 :* var (clamped 1_000_000 q)) (omega arith))
  where
    gone : {f : ℕ} → ¬ Valid w f s
    gone v = h (v.low, omega (arith, v.high))

module _ (w : Words) (c s : ℕ) (e : c ≡ cap w) (low : 1 ≤ s) (high : s ≤ c) {at : ℕ} (told : at ≡ place c number_field s) where
  data_at : (f : ℕ) → f < 4 → at + f ≡ place c f s
  data_at f h = ap (λ (k : ℕ). k + f) told ∙ beside c s number_field f refl h ∙ ap (λ (k : ℕ). place c k s) (omega arith)

  pub data_small : at ≤ 131_167
  data_small = omega (arith, told, place_small (placed w number_field s c e high (omega arith)))

  pub data_in : (f : ℕ) → f < 4 → at + f < length w
  data_in f h = cell_inside w f s c e high (omega arith) low (data_at f h)

  pub data_cell : (f : ℕ) → f < 4 → get_or w (at + f) (pos 0) ≡ cell w f s
  data_cell f h = cell_there w f s c e high (omega arith) low (data_at f h)
