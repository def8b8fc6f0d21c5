-- Each stored part is the child's envelope less the parent's (docs/REQUIREMENTS.md, 5.2): of every inner node's two children, the part that is
-- stored with it holds exactly the lines of its own envelope that are not on the node's, in order.
use Rattle.std.specs.Prelude.{◌⊎◌, ◌↔◌}
use Rattle.std.proofs.Common.{inl, inr, ⊎_elim}
use mathlib.Core.List.{List, [], ◌∷◌, ◌++◌, Memᴰ, Sublistᴰ}
use mathlib.Core.List.Sublistᴰ
use Rattle.lists.specs.Places.{sublist_mem}
use Rattle.envelopes.specs.PseudoLines.{Figure, PseudoLines}
use Rattle.envelopes.specs.Envelope.{Env, Ordered}
use Rattle.envelopes.specs.EnvelopeLaws.{ordered_apart}
use Rattle.trees.specs.Tree.{leaves}
use Rattle.trees.specs.Operations.{part_leaves}
use Rattle.dynamic.specs.OfferTree.{OfferTree, single, fork, shape}

-- ---- the statement

-- One child of a node: the lines below it and their whole envelope, the node's envelope, and what is stored with the child.
pub record Less (S : Figure) (lines whole parent stored : List S.Line) : Type 0 where
  pub envelope : Env S lines whole
  pub in_order : Sublistᴰ stored whole
  pub less : (e : S.Line) → Memᴰ e stored ↔ (Memᴰ e whole × ¬ Memᴰ e parent)
  -- every other line of it is on the parent's
  pub divided : (e : S.Line) → Memᴰ e whole → Memᴰ e stored ⊎ Memᴰ e parent

-- at every inner node of the tree, whose envelope is `es`
abbrev pub EachLess : (S : Figure) → OfferTree S.Line → List S.Line → Type 0
EachLess S (single a) es = Unit {0}
EachLess S (fork u v l ql qr r) es =
    (el er : List S.Line) × Less S (leaves (shape l)) el es (part_leaves ql) × Less S (leaves (shape r)) er es (part_leaves qr) × EachLess S l el ×
    EachLess S r er

-- ---- its proof

-- a child's envelope in two parts, one on the parent's and one not
module _ (S : Figure) {lines parent whole kept rest : List S.Line} where
  pub divides :
      ((e : S.Line) → Memᴰ e whole → Memᴰ e rest ⊎ Memᴰ e kept) → ((e : S.Line) → Memᴰ e kept → Memᴰ e parent) →
      ((e : S.Line) → Memᴰ e rest → ¬ Memᴰ e parent) → Sublistᴰ rest whole → Env S lines whole → Less S lines whole parent rest
  divides part on off sub E =
      record {
        envelope = E;
        in_order = sub;
        less = λ e. (λ m. (sublist_mem sub m, off e m), λ p. ⊎_elim (λ m. m) (λ m. absurd (p.1 (on e m))) (part e p.0));
        divided = λ e m. ⊎_elim inl (λ k. inr (on e k)) (part e m);
      }

pub behind : {A : Type 0} (xs ys : List A) → Sublistᴰ ys (xs ++ ys)
behind [] ys = Sublistᴰ.refl ys
behind (x ∷ xs) ys = Sublistᴰ.cons (behind xs ys)

module _ (S : Figure) (L : PseudoLines S) where
  -- a line stands once in lines that are in order
  pub once : (xs ys : List S.Line) → Ordered S (xs ++ ys) → (e : S.Line) → Memᴰ e xs → Memᴰ e ys → ⊥
  once xs ys o e m n = L.before_irrefl e (ordered_apart S xs ys o e e m n)
