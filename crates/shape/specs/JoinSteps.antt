-- Join of two trees, either of which may be empty, as steps on words.
use Rattle.std.specs.Prelude.{◌≡◌, ◌≢◌, Bool, true, false, [], ℕ, ◌≤◌}
use Rattle.std.proofs.Common.{sym, ◌∙◌, arith}
use Rattle.std.proofs.Math.Option.{none, some}
use Rattle.trees.specs.Tree.{Tree, last, Avl}
use Rattle.trees.specs.Operations.{Part, part_leaves, join, join_p}
use Rattle.trees.specs.Balanced.{AvlP}
use Rattle.table.specs.Fields.{most_levels}
use Rattle.table.specs.Words.{Words}
use Rattle.table.specs.Items.{Item, slots_left, slots_right}
use Rattle.table.specs.Rep.{node_on, Within, within_refl, only_refl}
use Rattle.table.specs.Nodes.{Pair, pair_one, pair_other, Made, ref_low}
use Rattle.table.specs.PartTrees.{MadeP, made_some, low, PairP, Seam}
use Rattle.nodes.specs.Joining.{Joined}
use Rattle.shape.specs.Rows.{made_as}
use Rattle.shape.specs.Rotations.{pair_flip}
use Rattle.shape.specs.Splices.{Spliced, towers_at, towers_read}

pub record Merged (k gap l r : ℕ) (w w' : Words) (x : ℕ) : Type 0 where
  pub within : Within w w'
  pub made : (pl pr : Part Item) → PairP w k l r pl pr → Seam gap pl pr → AvlP pl → AvlP pr → MadeP k w w' x (join_p pl pr)

pub merged_right : {k gap l r : ℕ} {w : Words} → l ≡ 0 → Merged k gap l r w w r
merged_right {k} {gap} {l} {r} {w} e = record { within = within_refl w; made = made }
  where
    made : (pl pr : Part Item) → PairP w k l r pl pr → Seam gap pl pr → AvlP pl → AvlP pr → MadeP k w w r (join_p pl pr)
    made none pr p d a b = record {
      rep = record { kind = p.kind; root = p.right; slots = p.slots; tied = p.tied_right };
      only =
          only_refl k (part_leaves pr) w;
    }
    made (some t) pr p d a b = absurd (omega (arith, e, p.left, ref_low t (slots_left (part_leaves pr) p.slots)))

pub merged_left : {k gap l r : ℕ} {w : Words} → r ≡ 0 → Merged k gap l r w w l
merged_left {k} {gap} {l} {r} {w} e = record { within = within_refl w; made = made }
  where
    made : (pl pr : Part Item) → PairP w k l r pl pr → Seam gap pl pr → AvlP pl → AvlP pr → MadeP k w w l (join_p pl pr)
    made pl (some t) p d a b = absurd (omega (arith, e, p.right, ref_low t (slots_right (part_leaves pl) p.slots)))
    made none none p d a b = record { rep = record { kind = p.kind; root = p.left; slots = p.slots; tied = tt }; only = only_refl k _ w }
    made (some t) none p d a b = record {
      rep = record { kind = p.kind; root = p.left; slots = slots_left [] p.slots; tied = p.tied_left };
      only =
          only_refl k _ w;
    }

-- both parts are there
both : {k gap l r x : ℕ} {w w' : Words} → l ≢ 0 → r ≢ 0 → Within w w'
    → ((tl tr : Tree Item) → Pair w k false l r tl tr → gap ≡ (last tl).slot → Avl tl → Avl tr → Made k w w' x (join tl tr)) → Merged k gap l r w w' x
both {k} {gap} {l} {r} {x} {w} {w'} nl nr g f = record { within = g; made = made }
  where
    made : (pl pr : Part Item) → PairP w k l r pl pr → Seam gap pl pr → AvlP pl → AvlP pr → MadeP k w w' x (join_p pl pr)
    made none pr p d a b = absurd (nl p.left)
    made (some t) none p d a b = absurd (nr p.right)
    made (some s) (some t) p d a b =
        made_some (f s t (record { kind = p.kind; one = p.left; other = p.right; slots = p.slots; tied_one = p.tied_left; tied_other = p.tied_right })
        d a b)

-- ---- the three ways of `join`

pub merged_one : {k gap l r limit x : ℕ} {b : Bool} {w w' : Words} → l ≢ 0 → r ≢ 0 → most_levels ≤ limit → b ≡ towers_at w k l r → b ≡ true →
    Spliced k false gap l r limit w w' x → Merged k gap l r w w' x
unfolding join
merged_one {w} nl nr n eb e j =
    both nl nr j.within
    (λ tl tr pair d a b. made_as (sym (rw (sym (towers_read (pair_one pair) (pair_other pair)) ∙ sym eb ∙ e)))
    (j.made tl tr pair d (omega (arith, n, low w (pair_one pair).slots a))))

pub merged_other : {k gap l r limit x : ℕ} {b c : Bool} {w w' : Words} → l ≢ 0 → r ≢ 0 → most_levels ≤ limit → b ≡ towers_at w k l r → b ≡ false →
    c ≡ towers_at w k r l → c ≡ true
    → Spliced k true gap r l limit w w' x → Merged k gap l r w w' x
unfolding join
merged_other {w} nl nr n eb e ec f j =
    both nl nr j.within
    (λ tl tr pair d a b. made_as (sym (rw (
      sym (towers_read (pair_one pair) (pair_other pair)) ∙ sym eb ∙ e,
      sym (towers_read (pair_other pair) (pair_one pair)) ∙ sym ec ∙ f,
    )))
    (j.made tr tl (pair_flip pair) d (omega (arith, n, low w (pair_other pair).slots b))))

pub merged_level : {k gap l r x : ℕ} {b c : Bool} {w w' : Words} → l ≢ 0 → r ≢ 0 → b ≡ towers_at w k l r → b ≡ false → c ≡ towers_at w k r l → c ≡ false
    → Joined (node_on false) k false gap l r w w' x → Merged k gap l r w w' x
unfolding join
merged_level nl nr eb e ec f j =
    both nl nr j.within
    (λ tl tr pair d a b. made_as (sym (rw (
      sym (towers_read (pair_one pair) (pair_other pair)) ∙ sym eb ∙ e,
      sym (towers_read (pair_other pair) (pair_one pair)) ∙ sym ec ∙ f,
    ))) (j.made tl tr pair d))
