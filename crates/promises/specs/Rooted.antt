-- What the root's envelope is in a part that has the form: none in an empty book, and else a balanced tree of pieces.
use Rattle.std.specs.Prelude.{◌≡◌, refl, List, ℕ}
use Rattle.std.proofs.Common.{sym, ◌∙◌, subst, arith}
use Rattle.std.proofs.Math.Option.{Option, none, some}
use Rattle.envelopes.specs.Envelope.{Env}
use Rattle.plain.specs.Book.{State}
use Rattle.trees.specs.Tree.{Tree, leaves, Avl}
use Rattle.trees.specs.Operations.{Part, part_leaves}
use Rattle.dynamic.specs.OfferTree.{Held, held_shape}
use Rattle.dynamic.specs.Valid.{Valid}
use Rattle.dynamic.specs.Lower.{valid_env}
use Rattle.dynamic.proofs.Raise.{some_piece}
use Rattle.table.specs.Fields.{envelope_root_word, most_nodes}
use Rattle.table.specs.Words.{Words, word, up_to}
use Rattle.table.specs.Items.{Item}
use Rattle.pieces.specs.Pieces.{items, item_laws_lem, Standing}
use Rattle.form.specs.Frames.{whole_standing}
use Rattle.form.specs.Form.{Book, OffersIn, envelope_ref}
use Rattle.query.specs.QueriedPieces.{Pieces}
use Rattle.form.specs.HeaderWords.{envelope_read}

-- the tree of the pieces of these lines
pub record Top (w : Words) (root : ℕ) (ls : List Item) (t : Tree Item) : Type 0 where
  pub pieces : Pieces w root t
  pub balanced : Avl t
  pub env : Env items ls (leaves t)

pub data Root (w : Words) (root : ℕ) : Option (Held Item) → Type 0 where
  bare : root ≡ 0 → Root w root none
  topped : {h : Held Item} (t : Tree Item) → h.whole ≡ some t → Top w root (leaves (held_shape h)) t → Root w root (some h)

top : {w : Words} {root : ℕ} {h : Held Item} (p : Part Item) → h.whole ≡ p → Standing w root p → Valid items h.tree (part_leaves p) → Root w root (some h)
top none e s v = absurd (some_piece items item_laws_lem v)
top (some t) e s v =
    topped t e
    (record {
      pieces = record { rep = record { kind = omega arith; root = s.root; slots = s.slots; tied = s.pieces.0 }; thread = s.pieces.1; holds = s.holds };
      balanced = s.balanced;
      env = valid_env items item_laws_lem v;
    })

pub root_of : {w : Words} {plain : State} {root : ℕ} {held : Option (Held Item)} → Book w plain held → root ≡ up_to most_nodes (word w envelope_root_word) →
    Root w root held
root_of {w} {root = root} {held} b e = go held b.offers.offers_in (e ∙ envelope_read b)
  where
    go : (held : Option (Held Item)) → OffersIn w held → root ≡ envelope_ref held → Root w root held
    go none o d = bare d
    go (some h) o d = top h.whole refl (subst (λ (x : ℕ). Standing w x h.whole) (sym d) (whole_standing o)) o.right.valid
