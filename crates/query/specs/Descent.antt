-- A query's walk down the words of a tree of pieces is the walk down the tree.
use Rattle.std.specs.Prelude.{◌≡◌, refl, ℕ, ◌+◌, ◌≤◌, ◌<◌, T, ℤ}
use Rattle.std.proofs.Common.{sym, ◌∙◌, ap, subst, arith, le-ltb}
use Rattle.std.proofs.Math.Option.{Option, none, some}
use Rattle.offers.specs.Offers.{load_in_range}
use Rattle.trees.specs.Tree.{Tree, leaf, node, height, first, last}
use Rattle.trees.specs.Leaves.{first_leaf}
use Rattle.table.specs.Fields.{most_levels, most_slots}
use Rattle.table.specs.Words.{Words}
use Rattle.table.specs.Layout.{cap}
use Rattle.table.specs.Items.{Item}
use Rattle.prices.specs.Positions.{Position, Below as LiesBelow, On, Above, on_or_above}
use Rattle.query.specs.Lookup.{Reached, against, deeper, kept_or, walk, lookup, walk_turned}
use Rattle.query.specs.Readings.{kept_at, toward_at, mind_at, kept_else}
use Rattle.query.specs.QueriedPieces.{Pieces, Opened, opened, at_leaf}

-- what a query on t finds
pub record Finds (q : ℤ) (t : Tree Item) (slot second probes : ℕ) : Type 0 where
  pub item : slot ≡ (lookup q t).item.slot
  pub other : second ≡ (lookup q t).second.slot
  pub depth : probes ≡ (lookup q t).depth

-- the promise: on words that hold a tree of pieces, at most most_levels high, and with a load in range
pub record Descended (w : Words) (root : ℕ) (q : ℤ) (slot second probes : ℕ) : Type 0 where
  pub finds : (t : Tree Item) → Pieces w root t → height t ≤ most_levels → T (load_in_range q) → Finds q t slot second probes

-- words of no capacity hold no tree
pub no_slots : {w : Words} {c : ℕ} → c ≡ cap w → c < 1 → (root : ℕ) (q : ℤ) (slot other found : ℕ) → Descended w root q slot other found
no_slots e h root q slot other found =
    record {
      finds = λ t p k r. absurd (omega (arith, e, h, p.rep.slots.low (first_leaf t), p.rep.slots.high (first_leaf t)));
    }

-- ---- on the way

-- the slot of what is kept in mind; 0 tells that nothing is
pub data Mind : Option Item → ℕ → Type 0 where
  nothing : Mind none 0
  item : {b : Item} {n : ℕ} → n ≡ b.slot → 1 ≤ n → Mind (some b) n

-- from node x on, after some probes, the walk goes on as from the root
pub record Below (w : Words) (q : ℤ) (t : Tree Item) (x second probes : ℕ) : Type 0 where
  pub tree : Tree Item
  pub kept : Option Item
  pub pieces : Pieces w x tree
  pub mind : Mind kept second
  pub item : (lookup q t).item ≡ (walk q kept tree).item
  pub other : (lookup q t).second ≡ (walk q kept tree).second
  pub depth : (lookup q t).depth ≡ probes + (walk q kept tree).depth
  pub high : probes + height tree ≤ height t

pub record Ongoing (w : Words) (root : ℕ) (q : ℤ) (x second probes : ℕ) : Type 0 where
  pub below : (t : Tree Item) → Pieces w root t → T (load_in_range q) → Below w q t x second probes

pub ongoing_start : (w : Words) (root : ℕ) (q : ℤ) → Ongoing w root q root 0 0
ongoing_start w root q =
    record {
      below = λ t p h. record {
        tree = t;
        kept = none;
        pieces = p;
        mind = nothing;
        item = refl;
        other = refl;
        depth = omega arith;
        high = omega arith;
      };
    }

-- to a child
pub step_to : {w : Words} {q : ℤ} {t : Tree Item} {x y second second' probes : ℕ} (s : Tree Item) (kept : Option Item) (b : Below w q t x second probes) →
    walk q b.kept b.tree ≡ deeper (walk q kept s) → height s < height b.tree → Pieces w y s → Mind kept second' →
    Below w q t y second' (probes + 1)
step_to s kept b k h p m =
    record {
      tree = s;
      kept = kept;
      pieces = p;
      mind = m;
      item = b.item ∙ ap (λ z. z.item) k;
      other = b.other ∙ ap (λ z. z.second) k;
      depth = omega (arith, b.depth, ap (λ z. z.depth) k);
      high = omega (arith, b.high);
    }

pub ongoing_step : {w : Words} {root x y kept second probes : ℕ} {q : ℤ} → Ongoing w root q x second probes → most_slots < x →
    (y ≡ toward_at w x q) × (kept ≡ mind_at w x q second) → Ongoing w root q y kept (probes + 1)
ongoing_step {w} {root} {x} {y} {kept} {second} {probes} {q} g d (e, k) = record { below = λ t p h. next t h (g.below t p h) }
  where
    next : (t : Tree Item) → T (load_in_range q) → Below w q t x second probes → Below w q t y kept (probes + 1)
    next t h b = go (against q (last o.l).offer (first o.r).offer) refl
      where
        o : Opened w x q b.tree
        o = opened q b.pieces h d

        shape : {z : Reached} → walk q b.kept (node o.l o.r) ≡ z → walk q b.kept b.tree ≡ z
        shape f = ap (walk q b.kept) o.shape ∙ f

        told : {z : Position} → against q (last o.l).offer (first o.r).offer ≡ z → kept ≡ kept_at z (last o.l).slot second
        told c = k ∙ o.mind second ∙ ap (λ u. kept_at u (last o.l).slot second) c

        go : (z : Position) → against q (last o.l).offer (first o.r).offer ≡ z → Below w q t y kept (probes + 1)
        go LiesBelow c =
            step_to o.l b.kept b (shape (walk_turned q b.kept o.l o.r c)) (omega (arith, ap height o.shape))
            (subst (λ n. Pieces w n o.l) (sym e) (o.left (ap on_or_above c))) (subst (Mind b.kept) (sym (told c)) b.mind)
        go On c =
            step_to o.r (some (last o.l)) b (shape (walk_turned q b.kept o.l o.r c)) (omega (arith, ap height o.shape))
            (subst (λ n. Pieces w n o.r) (sym e) (o.right (ap on_or_above c))) (item (told c) (omega (arith, told c, o.low)))
        go Above c =
            step_to o.r b.kept b (shape (walk_turned q b.kept o.l o.r c)) (omega (arith, ap height o.shape))
            (subst (λ n. Pieces w n o.r) (sym e) (o.right (ap on_or_above c))) (subst (Mind b.kept) (sym (told c)) b.mind)

-- ---- at a leaf

-- its slot is told where nothing is kept in mind
pub kept_else_lem : {kept : Option Item} {second : ℕ} (a : Item) → Mind kept second → kept_else second a.slot ≡ (kept_or kept a).slot
kept_else_lem a nothing = refl
kept_else_lem a (item {n = n} e h) = rw (le-ltb n 1 h) e

pub at_end : {w : Words} {q : ℤ} {t : Tree Item} {x second probes : ℕ} (a : Item) (b : Below w q t x second probes) → b.tree ≡ leaf a → x ≡ a.slot →
    Finds q t x (kept_else second x) probes
unfolding walk
at_end {q} {second = second} a b s e =
    record {
      item = e ∙ sym (ap (λ z. z.slot) (b.item ∙ ap (λ u. (walk q b.kept u).item) s));
      other = ap (kept_else second) e ∙ kept_else_lem a b.mind ∙ sym (ap (λ z. z.slot) (b.other ∙ ap (λ u. (walk q b.kept u).second) s));
      depth = omega (arith, b.depth, ap (λ u. (walk q b.kept u).depth) s);
    }

pub ongoing_leaf : {w : Words} {root x second probes : ℕ} {q : ℤ} → Ongoing w root q x second probes → x ≤ most_slots →
    Descended w root q x (kept_else second x) probes
ongoing_leaf {q} g d =
    record { finds = λ t p k h. let b = g.below t p h in let (a, s, e) = at_leaf b.pieces d in at_end a b s e }

-- a tree at most most_levels high has a leaf after most_levels probes
pub ongoing_limit : {w : Words} {root x second probes : ℕ} {q : ℤ} → Ongoing w root q x second probes → most_slots < x → most_levels ≤ probes →
    (slot other found : ℕ) → Descended w root q slot other found
ongoing_limit {q} g d l slot other found =
    record { finds = λ t p k h. let b = g.below t p h in let o = opened q b.pieces h d in absurd (omega (arith, b.high, ap height o.shape)) }

-- .. and no node below most_levels probes
pub ongoing_over : {w : Words} {root x second probes : ℕ} {q : ℤ} → Ongoing w root q x second probes → most_levels < probes →
    (slot other found : ℕ) → Descended w root q slot other found
ongoing_over g l slot other found = record { finds = λ t p k h. absurd (omega (arith, (g.below t p h).high)) }
