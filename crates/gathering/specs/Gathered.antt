-- What is gathered from the root of a book's tree of offers: every leaf below the price, and no other.
use Rattle.std.specs.Prelude.{◌≡◌, refl, Bool, false, List, [], map, ℕ, ◌≤◌, T, ℤ, length}
use Rattle.std.proofs.Common.{sym, ◌∙◌, ap, subst, arith}
use Rattle.std.proofs.Math.Option.{none, some}
use Rattle.std.specs.Int.Signed.{lt_z}
use Rattle.std.proofs.lemmas.List.{length-map}
use Rattle.lists.specs.Filter.{keep, keep_sublist}
use Rattle.lists.specs.Members.{sub_length}
use Rattle.offers.specs.Offers.{load_in_range}
use Rattle.envelopes.specs.Envelope.{Env}
use Rattle.lines.specs.Lines.{whole}
use Rattle.trees.specs.Tree.{leaves}
use Rattle.trees.specs.Operations.{Part, part_leaves}
use Rattle.dynamic.specs.OfferTree.{Held, held_shape}
use Rattle.dynamic.specs.Valid.{Valid}
use Rattle.dynamic.specs.Lower.{valid_env}
use Rattle.dynamic.proofs.Raise.{some_piece}
use Rattle.below.specs.Least.{Least}
use Rattle.below.specs.Children.{own_env}
use Rattle.below.proofs.Below.{below_exact}
use Rattle.below.specs.Below.{none_below as nothing_below}
use Rattle.table.specs.Fields.{most_levels, most_slots}
use Rattle.table.specs.Words.{Words}
use Rattle.table.specs.Layout.{cap, cap_most}
use Rattle.table.specs.Items.{Item, slot_of, slots_most}
use Rattle.table.specs.PartTrees.{low}
use Rattle.pieces.specs.Pieces.{items, item_laws_lem, Standing}
use Rattle.form.specs.Stored.{HeldIn}
use Rattle.form.specs.Frames.{whole_standing}
use Rattle.query.specs.Readings.{price_in}
use Rattle.query.specs.Descent.{Descended}
use Rattle.check_trees.specs.Stretches.{span, span_length}
use Rattle.gathering.specs.Limits.{seek_at, cheap_at, seeks_at, limit_at}
use Rattle.gathering.specs.Nodes.{held_subtree}
use Rattle.gathering.specs.Cheapest.{found}
use Rattle.gathering.specs.Gathers.{Gathers, Asked, asked_cheap}

-- the piece that a query on the root's envelope ends at is one to begin with
record Begun (w : Words) (x slot : ℕ) (q : ℤ) (h : Held Item) : Type 0 where
  cheapest : Item
  asked : Asked w x slot q most_levels 0 h.tree (part_leaves h.whole) cheapest

module _
    {w : Words} {x root slot second probes : ℕ} {q : ℤ} (d : Descended w root q slot second probes) (h : Held Item) (k : HeldIn w x root h)
    (range : T (load_in_range q)) where
  begun : Begun w x slot q h
  begun = go h.whole refl
    where
      go : (e : Part Item) → h.whole ≡ e → Begun w x slot q h
      go none e = absurd (some_piece items item_laws_lem (subst (λ (e : Part Item). Valid items h.tree (part_leaves e)) e k.right.valid))
      go (some t) e =
          record {
            cheapest = seek_at q t;
            asked =
                record {
                  under = held_subtree k;
                  slot = (found d stand range).slot;
                  least = subst (λ (e : Part Item). Least items (part_leaves e) (seek_at q t) (whole q)) (sym e)
                      (seeks_at q t (own_env items item_laws_lem (leaves t) env.chain));
                  load = range;
                  low = low w k.slots k.right.balanced;
                  room = omega (arith, slots_most (cap w) (leaves (held_shape h)) k.slots, cap_most w);
                };
          }
        where
          stand : Standing w root (some t)
          stand = subst (Standing w root) e (whole_standing k)

          env : Env items (leaves (held_shape h)) (leaves t)
          env = subst (λ (e : Part Item). Env items (leaves (held_shape h)) (part_leaves e)) e (valid_env items item_laws_lem k.right.valid)

module _
    {w : Words} {x root slot second probes n : ℕ} {q p : ℤ} {xs₀ xs : List ℕ} (d : Descended w root q slot second probes)
    (g : Gathers w x slot q p most_levels xs₀ xs 0 n) (h : Held Item) (k : HeldIn w x root h) (range : T (load_in_range q)) where
  pub gathered : span xs 0 n ≡ map slot_of (keep (cheap_at q p) (leaves (held_shape h)))
  gathered =
      let b = begun d h k range in
      g.gathers h.tree (part_leaves h.whole) b.cheapest b.asked
      ∙ ap (map slot_of)
      (below_exact items item_laws_lem (whole q) (cheap_at q p) (limit_at q p) (seek_at q) (seeks_at q) k.right.valid k.right.ordered b.asked.least)

  -- so many, and they all have a place
  pub gathered_count : n ≡ length (keep (cheap_at q p) (leaves (held_shape h)))
  gathered_count = omega (arith, span_length xs 0 n, ap length gathered, length-map (keep (cheap_at q p) (leaves (held_shape h))) slot_of)

  pub gathered_few : n ≤ most_slots
  gathered_few =
      omega
      (arith, gathered_count, sub_length (keep_sublist (cheap_at q p) (leaves (held_shape h))), slots_most (cap w) (leaves (held_shape h)) k.slots, cap_most w)

-- where the cheapest of all is not below, none is
pub none_below :
    {w : Words} {x root slot second probes : ℕ} {q : ℤ} (p : ℤ) {b : Bool} → Descended w root q slot second probes → (h : Held Item) → HeldIn w x root h →
    T (load_in_range q) → b ≡ lt_z (price_in w slot q) p → b ≡ false → keep (cheap_at q p) (leaves (held_shape h)) ≡ []
none_below {q} p d h k range test y =
    let b = begun d h k range in
    nothing_below items item_laws_lem (whole q) (cheap_at q p) (limit_at q p) (valid_env items item_laws_lem k.right.valid) b.asked.least
    (asked_cheap p b.asked test ∙ y)
