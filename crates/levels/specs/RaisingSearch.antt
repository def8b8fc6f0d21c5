-- What the search on the table promises is what raising asks of it.
use Rattle.std.proofs.Math.Option.{some}
use Rattle.std.specs.Prelude.{ℕ, ◌≤◌}
use Rattle.std.proofs.Common.{arith}
use Rattle.trees.specs.Tree.{Tree, height}
use Rattle.table.specs.Fields.{most_levels}
use Rattle.table.specs.Words.{Words}
use Rattle.table.specs.Items.{Item}
use Rattle.search.specs.declared.Met.{Met}
use Rattle.search.specs.Runs.{Kept, Meets}
use Rattle.pieces.specs.Pieces.{Standing}
use Rattle.levels.specs.Raising.{MetIn}

kept : {w : Words} {x : ℕ} {t : Tree Item} → Standing w x (some t) → height t ≤ most_levels → Kept w x t
kept st low =
    record {
      rep = record { kind = omega arith; root = st.root; slots = st.slots; tied = st.pieces.0 };
      holds = st.holds;
      threaded = st.pieces.1;
      low = low;
    }

pub met_in : {w : Words} {x y : ℕ} {m : Met} → Meets w w x y m → MetIn w x y m.u m.v m.steps
met_in meets =
    record {
      met = λ tl tr f.
          let a = meets.met {tl = tl} {tr = tr} (record {
            left_kept = kept f.left f.left_low;
            right_kept = kept f.right f.right_low;
            facing =
                f.facing;
          }) in
          record { at_left = a.u; at_right = a.v; counted = a.steps };
    }
