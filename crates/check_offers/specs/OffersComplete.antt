-- A part's tree of offers is where its header says, in shape and order, with its envelopes.
use Rattle.std.specs.Prelude.{◌≡◌, refl, [], ℕ, pos}
use Rattle.std.proofs.Common.{sym, ◌∙◌, ap, subst, arith}
use mathlib.Core.List.Memᴰ
use Rattle.std.proofs.Math.Option.{Option, none, some}
use Rattle.lists.specs.Places.{sublist_mem}
use Rattle.trees.specs.Tree.{leaves}
use Rattle.trees.specs.Operations.{part_leaves}
use Rattle.dynamic.specs.OfferTree.{Held, held_shape}
use Rattle.dynamic.specs.Valid.{book_lines}
use Rattle.dynamic.specs.Lower.{valid_env}
use Rattle.table.specs.Fields.{envelope_root_word, most_nodes, offers_root_word}
use Rattle.table.specs.Words.{Words, word, up_to}
use Rattle.table.specs.Items.{Item}
use Rattle.table.specs.Rep.{ref_of}
use Rattle.pieces.specs.Pieces.{items, item_laws_lem}
use Rattle.form.specs.Stored.{HeldIn}
use Rattle.form.specs.Form.{offers_ref, envelope_ref, OffersIn}
use Rattle.table.specs.PartTrees.{part_ref}
use Rattle.check_trees.specs.Laid.{AllPlaced, ref_low, root_read}
use Rattle.check_trees.specs.Along.{holds_placed}
use Rattle.check_merge.specs.Stands.{Stands}
use Rattle.check_offers.specs.Headers.{Header}
use Rattle.check_offers.specs.Envelops.{Enveloped}
use Rattle.check_offers.specs.OffersFound.{OffersFound, OffersAt}

module _ {w : Words} {x e : ℕ} {h : Held Item} (g : HeldIn w x e h) where
  held_stands : Stands w x (held_shape h)
  held_stands =
      record {
        laid = record { root = g.root; placed = holds_placed g.slots g.kept; tied = g.tied; balanced = g.right.balanced };
        ranged = λ a m. (g.kept.held m).ranged;
        ordered = g.right.ordered;
      }

  held_enveloped : Enveloped w e (held_shape h)
  held_enveloped =
      record {
        whole = h.whole;
        root = g.envelope;
        decorated = record { offers = h.tree; shape_is = refl; stored = g.stored; valid = g.right.valid };
        pieces = g.pieces;
        balanced = g.right.balanced_whole;
      }

  whole_placed : AllPlaced w (part_leaves h.whole)
  whole_placed a m = holds_placed g.slots g.kept a (sublist_mem (valid_env items item_laws_lem g.right.valid).sub m)

-- a word that is 0 reads as 0
none_read : (w : Words) (i : ℕ) {x : ℕ} → x ≡ up_to most_nodes (word w i) → word w i ≡ pos 0 → x ≡ 0
none_read w i e d = root_read {w = w} i none (λ a m. absurd (Memᴰ.not-nil m)) e d

module _ {w : Words} {x e : ℕ} (ex : x ≡ up_to most_nodes (word w offers_root_word)) (ee : e ≡ up_to most_nodes (word w envelope_root_word)) where
  -- the roots of a tree in hand are read as they are
  module _ {h : Held Item} (a : word w offers_root_word ≡ pos (ref_of (held_shape h))) (b : word w envelope_root_word ≡ pos (part_ref h.whole))
      (g : HeldIn w (ref_of (held_shape h)) (part_ref h.whole) h) where
    root_is : x ≡ ref_of (held_shape h)
    root_is = root_read offers_root_word (some (held_shape h)) (held_stands g).laid.placed ex a

    envelope_is : e ≡ part_ref h.whole
    envelope_is = root_read envelope_root_word h.whole (whole_placed g) ee b

    held_at : OffersAt w x e (leaves (held_shape h))
    held_at =
        record {
          header = record { offers_root = a ∙ ap pos (sym root_is); envelope_root = b ∙ ap pos (sym envelope_is) };
          tree = held_shape h;
          stands = subst (λ (z : ℕ). Stands w z (held_shape h)) (sym root_is) (held_stands g);
          lines_are = refl;
          enveloped = subst (λ (z : ℕ). Enveloped w z (held_shape h)) (sym envelope_is) (held_enveloped g);
        }

  pub offers_header : OffersFound w → Header w x e
  offers_header s = go s.held s.offers.offers_root s.offers.envelope_root s.offers.offers_in
    where
      go : (o : Option (Held Item)) → word w offers_root_word ≡ pos (offers_ref o) → word w envelope_root_word ≡ pos (envelope_ref o) → OffersIn w o → Header w x e
      go none a b g =
          record {
            offers_root = a ∙ ap pos (sym (none_read w offers_root_word ex a));
            envelope_root = b ∙ ap pos (sym (none_read w envelope_root_word ee b));
          }
      go (some h) a b g = (held_at a b g).header

  pub offers_complete : (x ≡ 0 → ⊥) → (s : OffersFound w) → OffersAt w x e (book_lines s.held)
  offers_complete some_root s = go s.held s.offers.offers_root s.offers.envelope_root s.offers.offers_in
    where
      go : (o : Option (Held Item)) → word w offers_root_word ≡ pos (offers_ref o) → word w envelope_root_word ≡ pos (envelope_ref o) → OffersIn w o →
          OffersAt w x e (book_lines o)
      go none a b g = absurd (some_root (none_read w offers_root_word ex a))
      go (some h) a b g = held_at a b g

  -- no tree, no leaves
  pub offers_none_complete : x ≡ 0 → (s : OffersFound w) → (e ≡ 0) × ([] ≡ book_lines s.held)
  offers_none_complete z s = go s.held s.offers.offers_root s.offers.envelope_root s.offers.offers_in
    where
      go : (o : Option (Held Item)) → word w offers_root_word ≡ pos (offers_ref o) → word w envelope_root_word ≡ pos (envelope_ref o) → OffersIn w o →
          (e ≡ 0) × ([] ≡ book_lines o)
      go none a b g = (none_read w envelope_root_word ee b, refl)
      go (some h) a b g = absurd (omega (arith, root_is a b g, ref_low (held_shape h) (held_stands g).laid.placed))
