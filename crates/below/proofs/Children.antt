-- Theorems on specs/Children.
use Rattle.std.specs.Prelude.{ℕ, suc, ◌+◌, ◌≡◌, refl, ◌⊎◌, Bool, true, false, cond, T, length, get_or}
use Rattle.std.proofs.Common.{arith, sym, ◌∙◌, ap, subst, inl, inr, ⊎_elim, T_not, length-append, get_or-append-add}
use Rattle.std.proofs.Math.Option.{none, some}
use mathlib.Core.List.Memᴰ
use mathlib.Core.List.{List, [], ◌∷◌, ◌++◌, append_assoc, Memᴰ}
use mathlib.Core.List.Sublistᴰ
use Rattle.std.proofs.Math.ListN.{get_or-append}
use Rattle.lists.specs.Places.{sublist_mem}
use Rattle.envelopes.specs.PseudoLines.{Figure, PseudoLines}
use Rattle.envelopes.specs.Crossing.{price_refl, below_le}
use Rattle.envelopes.specs.Envelope.{Ordered, Env}
use Rattle.envelopes.specs.EnvelopeLaws.{ordered_left, ordered_apart, ordered_pairs}
use Rattle.trees.specs.Tree.{Tree, leaves, last}
use Rattle.trees.specs.Leaves.{last_leaf}
use Rattle.trees.specs.Order.{up_to_last}
use Rattle.trees.specs.Operations.{Part, part_leaves}
use Rattle.dynamic.specs.OfferTree.{OfferTree, shape}
use Rattle.dynamic.specs.Lower.{not_before}
use Rattle.below.specs.Least.{Least, Chained, later_least, earlier_least}
use Rattle.below.specs.Children.{Lesser, Seeks, chained_back, chained_front, cheaper, cheaper_least, least_all, left_of, right_of}

module _ (S : Figure) (L : PseudoLines S) (x : S.Point) (seek : Tree S.Line → S.Line) (seeks : Seeks S x seek) where
  pub children :
      (u v : S.Line) (l r : OfferTree S.Line) (ql qr : Part S.Line) {e : S.Line} {es : List S.Line} (up_to from : List S.Line) →
      Ordered S (leaves (shape l) ++ leaves (shape r)) →
      es ≡ (up_to ++ u ∷ []) ++ v ∷ from →
      Env S (leaves (shape l) ++ leaves (shape r)) es →
      Env S (leaves (shape l)) ((up_to ++ u ∷ []) ++ part_leaves ql) →
      Env S (leaves (shape r)) (part_leaves qr ++ v ∷ from) →
      Least S es e x →
      Lesser S x ((up_to ++ u ∷ []) ++ part_leaves ql) (part_leaves qr ++ v ∷ from) (left_of S x seek u l ql e) (right_of S x seek v l qr e)
  children u v l r ql qr {e} {es} up_to from o d E EL ER M =
      side (S.before (last (shape l)) e) refl (Memᴰ.append_cases (up_to ++ u ∷ []) (subst (Memᴰ e) d M.one_of))
    where
      joint : Env S (leaves (shape l) ++ leaves (shape r)) ((up_to ++ u ∷ []) ++ v ∷ from)
      joint = subst (Env S (leaves (shape l) ++ leaves (shape r))) d E

      at_most : (a : S.Line) → Memᴰ a ((up_to ++ u ∷ []) ++ v ∷ from) → T (S.at_most e a x)
      at_most a m = M.least a (subst (Memᴰ a) (sym d) m)

      in_left : (a : S.Line) → Memᴰ a ((up_to ++ u ∷ []) ++ part_leaves ql) → Memᴰ a (leaves (shape l))
      in_left a m = sublist_mem EL.sub m

      in_right : (a : S.Line) → Memᴰ a (part_leaves qr ++ v ∷ from) → Memᴰ a (leaves (shape r))
      in_right a m = sublist_mem ER.sub m

      on_left : Memᴰ e (up_to ++ u ∷ []) → Lesser S x ((up_to ++ u ∷ []) ++ part_leaves ql) (part_leaves qr ++ v ∷ from) e (cheaper S x seek v qr)
      on_left m =
          record {
            left =
                record {
                  one_of = Memᴰ.append_left (part_leaves ql) m;
                  least = λ a k. least_all S L x E M a (Memᴰ.append_left (leaves (shape r)) (in_left a k));
                };
            right =
                cheaper_least S x seek L seeks v qr
                (later_least S L x (up_to ++ u ∷ []) v from joint.chain e m (at_most v (Memᴰ.append_right (up_to ++ u ∷ []) (Memᴰ.head refl))))
                (chained_front S (part_leaves qr) (v ∷ from) ER.chain)
                (λ a k. Memᴰ.append_right (part_leaves qr) k)
                (λ a k. Memᴰ.append_left (v ∷ from) k)
                (λ a k. ⊎_elim inr inl (Memᴰ.append_cases (part_leaves qr) k));
          }

      -- the mirror image
      on_right : Memᴰ e (v ∷ from) → Lesser S x ((up_to ++ u ∷ []) ++ part_leaves ql) (part_leaves qr ++ v ∷ from) (cheaper S x seek u ql) e
      on_right m =
          record {
            left =
                cheaper_least S x seek L seeks u ql
                (earlier_least S L x (leaves (shape l) ++ leaves (shape r)) up_to u (v ∷ from) o (rw append_assoc at joint) e m
                (at_most u (Memᴰ.append_left (v ∷ from) (Memᴰ.append_right up_to (Memᴰ.head refl)))))
                (chained_back S (up_to ++ u ∷ []) (part_leaves ql) EL.chain)
                (λ a k. Memᴰ.append_left (part_leaves ql) k)
                (λ a k. Memᴰ.append_right (up_to ++ u ∷ []) k)
                (λ a k. Memᴰ.append_cases (up_to ++ u ∷ []) k);
            right =
                record {
                  one_of = Memᴰ.append_right (part_leaves qr) m;
                  least = λ a k. least_all S L x E M a (Memᴰ.append_right (leaves (shape l)) (in_right a k));
                };
          }

      side : (b : Bool) → S.before (last (shape l)) e ≡ b → Memᴰ e (up_to ++ u ∷ []) ⊎ Memᴰ e (v ∷ from)
          → Lesser S x ((up_to ++ u ∷ []) ++ part_leaves ql) (part_leaves qr ++ v ∷ from) (cond b (cheaper S x seek u ql) e) (cond b e (cheaper S x seek v qr))
      side false p (inl m) = on_left m
      side true p (inr m) = on_right m
      side true p (inl m) =
          absurd
          (T_not (S.before (last (shape l)) e)
          (not_before S L (last (shape l)) e
          (up_to_last (shape l) (ordered_pairs (ordered_left S (leaves (shape l)) (leaves (shape r)) o)) (in_left e (Memᴰ.append_left (part_leaves ql) m))))
          (subst T (sym p) tt))
      side false p (inr m) =
          absurd
          (subst T p
          (ordered_apart S (leaves (shape l)) (leaves (shape r)) o (last (shape l)) e (last_leaf (shape l))
          (in_right e (Memᴰ.append_right (part_leaves qr) m))))
