-- Theorems on specs/Rep.
use Rattle.std.specs.Prelude.{◌≡◌, refl, ◌≢◌, Bool, true, false, List, ℕ, suc, ◌+◌, ◌*◌, ◌-◌, ◌≤◌, ◌<◌, max, length, ℤ}
use Rattle.std.proofs.Common.{sym, ◌∙◌, ap, subst, arith}
use Rattle.trees.specs.Tree.{Tree, leaf, node, height, leaves, last}
use Rattle.trees.specs.Leaves.{last_leaf}
use Rattle.table.specs.Fields.{capacity_word, most_nodes, most_slots, order_tree}
use Rattle.table.specs.Words.{Words, word, up_to}
use Rattle.table.specs.Layout.{cap, cap_of, cell, cset, link_at, link_most, outside_of, Outside, header_outside, cset_length, cset_rest}
use Rattle.table.proofs.LayoutLaws.{cset_other}
use Rattle.table.specs.Items.{Item, In, at, in_left, in_right, Slots, slots_right, slots_across}
use Rattle.table.specs.Rep.{Field, Only}

pub only_cset : {k f s : ℕ} {xs : List Item} (w : Words) (z : ℤ) → Field k f → In s xs → Only k xs w (cset w f s z)
only_cset {k} {f} {s} {xs} w z i h =
    record { cells = λ f' s' d. cset_other w f s z (λ e. d (subst (Field k) (sym e.0) i, subst (λ n. In n xs) (sym e.1) h)) }
