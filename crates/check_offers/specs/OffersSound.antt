-- A right header, and a tree of offers with its envelopes where it says: that is a part's tree of offers.
use Rattle.std.specs.Prelude.{refl, List, ℕ, pos}
use Rattle.std.proofs.Common.{sym, ◌∙◌, ap, subst}
use Rattle.std.proofs.Math.Option.{some, none}
use Rattle.trees.specs.Operations.{Part, part_leaves}
use Rattle.trees.specs.Balanced.{AvlP}
use Rattle.dynamic.specs.OfferTree.{OfferTree, shape, hold}
use Rattle.dynamic.specs.Valid.{Valid}
use Rattle.table.specs.Words.{Words}
use Rattle.table.specs.Items.{Item}
use Rattle.table.specs.Rep.{ref_of}
use Rattle.pieces.specs.Pieces.{items, PartIn}
use Rattle.form.specs.Stored.{Stored, HeldIn}
use Rattle.check_merge.specs.Stands.{Stands, stands_slots, stands_holds, Decorated}
use Rattle.table.specs.PartTrees.{part_ref}
use Rattle.check_offers.specs.Headers.{Header}
use Rattle.check_offers.specs.OffersFound.{OffersFound, OffersAt}

-- the tree with its envelope
held_in : {w : Words} {x : ℕ} {o : OfferTree Item} {p : Part Item} → Stands w x (shape o) → Stored w o → Valid items o (part_leaves p) → PartIn w p →
    AvlP p → HeldIn w (ref_of (shape o)) (part_ref p) (hold o p)
held_in s st va i b =
    record {
      root = refl;
      envelope = refl;
      slots = stands_slots s;
      kept = stands_holds s;
      tied = s.laid.tied;
      stored = st;
      pieces = i;
      right = record { ordered = s.ordered; valid = va; balanced = s.laid.balanced; balanced_whole = b };
    }

pub offers_sound : {w : Words} {x e : ℕ} {lines : List Item} → OffersAt w x e lines → OffersFound w
offers_sound {w} {x} {e} {lines} a =
    record {
      held = some (hold o p);
      offers =
          record {
            offers_root = a.header.offers_root ∙ ap pos s.laid.root;
            envelope_root = a.header.envelope_root ∙ ap pos a.enveloped.root;
            offers_in = held_in s d.stored d.valid a.enveloped.pieces a.enveloped.balanced;
          };
    }
  where
    d : Decorated w a.tree (part_leaves a.enveloped.whole)
    d = a.enveloped.decorated

    o : OfferTree Item
    o = d.offers

    p : Part Item
    p = a.enveloped.whole

    s : Stands w x (shape d.offers)
    s = subst (Stands w x) (sym d.shape_is) a.stands

pub offers_none_sound : {w : Words} → Header w 0 0 → OffersFound w
offers_none_sound h =
    record { held = none; offers = record { offers_root = h.offers_root; envelope_root = h.envelope_root; offers_in = tt } }
