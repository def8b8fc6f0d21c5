-- The envelopes stored with a tree of offers, and the root of the whole one's pieces: how the code finds them.
use Rattle.std.specs.Prelude.{◌≡◌, refl, Bool, false, None, Some, List, ℕ, length}
use Rattle.std.proofs.Common.{sym, ◌∙◌, subst, arith}
use Rattle.lists.specs.Places.{sublist_mem}
use Rattle.lists.specs.Bools.{never}
use Rattle.envelopes.proofs.Query.{env_unique}
use Rattle.trees.specs.Tree.{Tree, leaves}
use Rattle.trees.specs.Operations.{Part, part_leaves}
use Rattle.trees.specs.Balanced.{AvlP}
use Rattle.table.specs.Fields.{most_levels}
use Rattle.table.specs.Words.{Words}
use Rattle.table.specs.Items.{Item}
use Rattle.table.specs.PartTrees.{part_ref}
use Rattle.pieces.specs.Pieces.{items, item_laws_lem, PartIn}
use Rattle.check_trees.specs.Stretches.{span}
use Rattle.check_trees.specs.Deciding.{Decides, decides_no, decides_as}
use Rattle.check_trees.specs.Laid.{items_at}
use Rattle.check_merge.specs.PieceTrees.{AllKnown, PieceTree, Matches}
use Rattle.check_merge.specs.Stands.{Stands, stands_known, Decorated, decorated_env}
use Rattle.check_offers.specs.OfferWalks.{Walks}
use Rattle.check_offers.specs.Orders.{stands_most, stands_low}

-- node e of the pieces is the root of the whole envelope
pub record Enveloped (w : Words) (e : ℕ) (t : Tree Item) : Type 0 where
  pub whole : Part Item
  pub root : e ≡ part_ref whole
  pub decorated : Decorated w t (part_leaves whole)
  pub pieces : PartIn w whole
  pub balanced : AvlP whole

pub record Envelops (w : Words) (x e : ℕ) (xs xs' : List ℕ) (r : Bool) : Type 0 where
  pub long : length xs' ≡ length xs
  pub told : (t : Tree Item) → Stands w x t → Decides r (Enveloped w e t)

module _ {w : Words} {x : ℕ} {xs xs₁ : List ℕ} where
  pub envelops_not : {e : ℕ} → Walks w x most_levels xs xs₁ 0 None → Envelops w x e xs xs₁ false
  envelops_not A =
      record {
        long = A.long;
        told =
            λ t s. decides_no (λ v. never (A.complete t s (stands_low s) (omega (arith, stands_most s)) (part_leaves v.whole) v.decorated) refl);
      }

  module _ {n : ℕ} (A : Walks w x most_levels xs xs₁ 0 (Some n)) where
    module _ {t : Tree Item} (s : Stands w x t) where
      known : AllKnown w (span xs₁ 0 n)
      known = stands_known s (span xs₁ 0 n) (λ b m. sublist_mem (decorated_env (A.sound.decorated t s)).sub m)

      over_pieces : {e : ℕ} → PieceTree w e (span xs₁ 0 n) → Enveloped w e t
      over_pieces p =
          record {
            whole = p.whole;
            root = p.root;
            decorated = subst (Decorated w t) (sym p.over) (A.sound.decorated t s);
            pieces = p.pieces;
            balanced = p.balanced;
          }

      pieces_over : {e : ℕ} → Enveloped w e t → PieceTree w e (span xs₁ 0 n)
      pieces_over v =
          record {
            whole = v.whole;
            root = v.root;
            over = env_unique items item_laws_lem (leaves t) (part_leaves v.whole) (items_at w (span xs₁ 0 n)) s.ordered
                (decorated_env v.decorated) (decorated_env (A.sound.decorated t s));
            pieces = v.pieces;
            balanced = v.balanced;
          }

    pub envelops_rest : {e : ℕ} {xs₂ : List ℕ} {r : Bool} → Matches w e xs₁ xs₂ 0 n r → Envelops w x e xs xs₂ r
    envelops_rest M =
        record {
          long = M.long ∙ A.long;
          told = λ t s. decides_as (over_pieces s) (pieces_over s) (M.told (known s));
        }
