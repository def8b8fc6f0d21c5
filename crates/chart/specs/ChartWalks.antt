-- Along the thread to a piece, told by its place.
use Rattle.std.specs.Prelude.{◌≡◌, refl, false, [], ℕ, ◌+◌, ◌≤◌, ◌<◌, length}
use Rattle.std.proofs.Common.{sym, subst, arith}
use Rattle.trees.specs.Tree.{Tree, leaves, first, Avl}
use Rattle.trees.specs.Leaves.{rest, leaves_first}
use Rattle.table.specs.Fields.{next_piece_field, piece_tree}
use Rattle.table.specs.Words.{Words}
use Rattle.table.specs.Layout.{link_at}
use Rattle.table.specs.Items.{Item}
use Rattle.descents.specs.Ends.{Ended}
use Rattle.query.specs.QueriedPieces.{Pieces}
use Rattle.listing.specs.PieceCounts.{Passed, follow}

-- r is the slot of piece i, counted from 0
pub record SlotOf (w : Words) (root i r : ℕ) : Type 0 where
  pub is : (t : Tree Item) → Pieces w root t → Avl t → i < length (leaves t) → Passed r (i + 1) (leaves t)

-- on the way there, at piece k
pub record Going (w : Words) (root i s k : ℕ) : Type 0 where
  pub within : k ≤ i
  pub here : SlotOf w root k s

pub going_begins : {w : Words} {root s : ℕ} (i : ℕ) → Ended w piece_tree false root s → Going w root i s 0
going_begins i e =
    record {
      within = omega arith;
      here = record { is = λ t p a h. record { seen = []; here = first t; ahead = rest t; split = leaves_first t; slot = e.is t p.rep a; count = refl } };
    }

pub going_on : {w : Words} {root i s s' k : ℕ} → Going w root i s k → k < i → s' ≡ link_at w next_piece_field s → Going w root i s' (k + 1)
going_on {k} g h e =
    record {
      within = omega arith;
      here = record { is = λ t p a l. subst (λ (u : ℕ). Passed u (k + 1 + 1) (leaves t)) (sym e) (follow p.thread (g.here.is t p a (omega arith)) l) };
    }

pub going_ends : {w : Words} {root i s k : ℕ} → Going w root i s k → i ≤ k → SlotOf w root i s
going_ends {w} {root} {i} {s} {k} g h = let e : k ≡ i = omega (arith, g.within) in subst (λ (n : ℕ). SlotOf w root n s) e g.here
