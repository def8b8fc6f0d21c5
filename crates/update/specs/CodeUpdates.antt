-- What the code of inserting and removing hands to their lemmas.
use Rattle.std.specs.Prelude.{◌≡◌, ℕ, ◌-◌, ◌<◌, ◌≤◌, Bool, true, false, ◌≢◌, int_le, int_lt, refl}
use Rattle.std.proofs.Common.{sym, ◌∙◌, subst, true≢false, arith}
use Rattle.table.specs.Fields.{most_slots, offer_tree, rate_field}
use Rattle.table.specs.Words.{Words}
use Rattle.table.specs.Layout.{cell}
use Rattle.descents.specs.Ends.{Ended}
use Rattle.levels.specs.Levels.{line_at, RaisedIn, Summed}
use Rattle.update.specs.Steps.{alone_at}
use Rattle.levels.specs.declared.Held.{Held as InHand}
use Rattle.levels.specs.declared.Counts.{Counts}
use Rattle.levels.specs.declared.Made.{Made as Outcome}
use Rattle.update.specs.declared.Opened.{Opened}
use Rattle.update.specs.Neighbours.{LoweredOn, raised_left, raised_right}
use Rattle.update.specs.Rebalancing.{RebalancedOn}
use Rattle.update.specs.Inserting.{InsertedBelow, inserted_spent, inserted_leaf, inserted_inner}
use Rattle.update.specs.Removing.{RemovedBelow, removed_spent, removed_leaf, SeamFound, removed_gone, removed_inner}

-- ---- on the way up: what came of a child is rebalanced with its sibling, and the counts are added

pub record Rebuilt (side : Bool) (gap : ℕ) (g : Outcome) (y : InHand) (w w' : Words) (m : Outcome) : Type 0 where
  pub taken : Counts
  pub rebalanced : RebalancedOn side gap g.held y w w' (record { held = m.held; counts = taken })
  pub summed : Summed g.counts taken m.counts

-- ---- insert

pub inserted_none : {limit slot : ℕ} {x : InHand} {m : Outcome} {w : Words} → most_slots < x.tree → limit ≡ 0 → InsertedBelow limit slot x w w m
inserted_none {slot} {x} {m} {w} inside d = subst (λ n. InsertedBelow n slot x w w m) (sym d) (inserted_spent inside)

-- beside a single line: in front of it, or behind it
module _ {limit slot : ℕ} {x : InHand} {m : Outcome} {w w' : Words} {b : Bool} where
  pub inserted_front :
      b ≡ int_le (cell w rate_field slot) (cell w rate_field x.tree) →
      b ≡ false →
      x.tree ≤ most_slots →
      RaisedIn slot (line_at slot) x w w' m →
      InsertedBelow limit slot x w w' m
  inserted_front d t single c = inserted_leaf single refl (sym t ∙ d) refl (raised_left c)

  pub inserted_back :
      b ≡ int_le (cell w rate_field slot) (cell w rate_field x.tree) →
      b ≡ true →
      x.tree ≤ most_slots →
      RaisedIn x.tree x (line_at slot) w w' m →
      InsertedBelow limit slot x w w' m
  inserted_back d t single c = inserted_leaf single refl (sym t ∙ d) refl (raised_right c)

-- into a child
pub inserted_step :
    {limit slot m : ℕ} {x : InHand} {c : Opened} {g out : Outcome} {w w₁ w₂ w₃ : Words} {side : Bool} →
    most_slots < x.tree →
    m ≡ x.tree - most_slots →
    side ≡ int_le (cell w rate_field slot) (cell w rate_field m) →
    LoweredOn side x w w₁ c →
    InsertedBelow (limit - 1) slot c.on w₁ w₂ g →
    Rebuilt side m g c.off w₂ w₃ out →
    InsertedBelow limit slot x w w₃ out
inserted_step inside m-is test opened below built = inserted_inner inside m-is refl test opened (omega arith) below built.rebalanced built.summed

-- ---- remove

pub removed_none : {limit slot y : ℕ} {x : InHand} {m : Outcome} {w : Words} → most_slots < x.tree → limit ≡ 0 → RemovedBelow limit slot y x w w m
removed_none {slot} {y} {x} {m} {w} inside d = subst (λ n. RemovedBelow n slot y x w w m) (sym d) (removed_spent inside)

-- a single line
pub removed_single :
    {limit slot y : ℕ} {x : InHand} {m : Outcome} {w : Words} → x.tree ≤ most_slots → m ≡ alone_at y → RemovedBelow limit slot y x w w m
removed_single {limit} {slot} {y} {x} {w} single e = subst (RemovedBelow limit slot y x w w) (sym e) (removed_leaf single)

-- the seam's slot after a removal
pub seam_kept : {side : Bool} {x m : ℕ} {w : Words} → side ≡ true → SeamFound side w x m m
seam_kept d = record { on_left = λ f. absurd (true≢false (sym d ∙ f)); on_right = λ f. refl }

pub seam_end : {side : Bool} {x m gap : ℕ} {w : Words} → side ≡ false → Ended w offer_tree true x gap → SeamFound side w x m gap
seam_end d end = record { on_left = λ f. end; on_right = λ f. absurd (true≢false (sym f ∙ d)) }

module _
    {limit slot y m : ℕ} {x : InHand} {c : Opened} {g : Outcome} {w w₁ w₂ : Words} {side : Bool}
    (inside : most_slots < x.tree)
    (m-is : m ≡ x.tree - most_slots)
    (test : side ≡ int_lt (cell w rate_field slot) (cell w rate_field m))
    (opened : LoweredOn side x w w₁ c)
    (below : RemovedBelow (limit - 1) slot y c.on w₁ w₂ g) where
  pub removed_emptied : g.held.tree ≡ 0 → RemovedBelow limit slot y x w w₂ (record { held = c.off; counts = g.counts })
  removed_emptied d = removed_gone inside m-is refl test opened (omega arith) below d

  pub removed_step :
      {w₃ : Words} {gap : ℕ} {out : Outcome} →
      g.held.tree ≢ 0 →
      SeamFound side w₂ g.held.tree m gap →
      Rebuilt side gap g c.off w₂ w₃ out →
      RemovedBelow limit slot y x w w₃ out
  removed_step d found built =
      let some_left : 1 ≤ g.held.tree = omega (arith, d) in
      removed_inner inside m-is refl test opened (omega arith) below some_left found built.rebalanced built.summed
