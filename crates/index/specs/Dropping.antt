-- An item dropped from an index: the way to its key ends at it.
use Rattle.std.specs.Prelude.{◌≡◌, ℕ, ℤ, pos, ◌+ℤ◌}
use Rattle.std.proofs.Common.{◌∙◌, ap, subst}
use mathlib.Core.List.Pairwise
use mathlib.Core.List.{List}
use Rattle.std.specs.Int.Signed.{lt_z}
use Rattle.lists.specs.Places.{sublist_mem}
use Rattle.lists.specs.Bools.{is_true}
use Rattle.offers.specs.Ranks.{most_rank}
use Rattle.trees.specs.Operations.{Part}
use Rattle.table.specs.Fields.{most_levels}
use Rattle.table.specs.Words.{Words}
use Rattle.table.specs.Items.{Item}
use Rattle.table.specs.Rep.{Only, only_more}
use Rattle.index.specs.Index.{IndexAt, Goes, Dropped}
use Rattle.index.specs.Above.{least_above, above_more}
use Rattle.index.specs.Trees.{among_in, among_holds, among_keyed, leaves_keyed, index_rep, part_low, index_made}
use Rattle.index.specs.Thinning.{Thin, Thinned}

module _ {tree field root x : ℕ} {w w' : Words} {live : List Item} {p : Part Item} {key : Item → ℤ} (sought : ℤ)
    (k : Thinned tree field (least_above sought) root most_levels w w' x) (h : IndexAt w tree field key root live p) where
  thin : Thin tree key (least_above sought) w w' x p
  thin =
      let r = index_rep p h in
      k.made p key r h.index_in.balanced (part_low w p r.slots h.index_in.balanced) (leaves_keyed p h)

  drop_only : Only tree live w w'
  drop_only = only_more (among_in h.index_in.all_live) thin.only

  module _ {a : Item} {rest : List Item} (g : Goes w key sought a live rest) where
    -- the key is small enough for one more
    above_is : key a +ℤ pos 1 ≡ least_above sought
    above_is = above_more (key a) (is_true (lt_z (key a) (pos most_rank)) (h.index.small (h.holds.held g.member))) ∙ ap least_above g.keyed

    drop_made : IndexAt w' tree field key x rest thin.left
    drop_made =
        let falls = h.index_in.falling in
        let here = h.index_in.all_there a g.member in
        index_made h.index thin.rep k.within drop_only g.slots (among_holds g.within h.holds) (among_keyed g.within h.keyed)
        thin.balanced (Pairwise.sublistᴰ thin.fewer falls)
        (λ c i. g.kept c (h.index_in.all_live c (sublist_mem thin.fewer i)) (thin.gone falls a here above_is c i))
        (λ c i. thin.kept falls a here above_is c (h.index_in.all_there c (g.within c i)) (g.other c i))

pub dropped : {tree field root x : ℕ} {sought least : ℤ} {w w' : Words} → least ≡ least_above sought → Thinned tree field least root most_levels w w' x →
    Dropped tree field sought root w w' x
dropped {tree} {field} {root} {x} {sought} {least} {w} {w'} above t =
    record {
      within = t.within;
      made = λ key a live rest p h g. ((thin sought thinned h).left, drop_made sought thinned h g);
      only = λ key live p h. drop_only sought thinned h;
    }
  where
    thinned : Thinned tree field (least_above sought) root most_levels w w' x
    thinned = subst (λ (z : ℤ). Thinned tree field z root most_levels w w' x) above t
