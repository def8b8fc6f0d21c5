-- From the cheapest line of a node's envelope to the cheapest of each child's.
use Rattle.std.specs.Prelude.{ℕ, suc, ◌+◌, ◌≡◌, refl, ◌⊎◌, Bool, true, false, cond, T, length, get_or}
use Rattle.std.proofs.Common.{arith, sym, ◌∙◌, ap, subst, inl, inr, ⊎_elim, T_not, length-append, get_or-append-add}
use Rattle.std.proofs.Math.Option.{none, some}
use mathlib.Core.List.Memᴰ
use mathlib.Core.List.{List, [], ◌∷◌, ◌++◌, append_assoc, Memᴰ}
use mathlib.Core.List.Sublistᴰ
use Rattle.std.proofs.Math.ListN.{get_or-append}
use Rattle.lists.specs.Places.{sublist_mem}
use Rattle.envelopes.specs.PseudoLines.{Figure, PseudoLines}
use Rattle.envelopes.specs.Crossing.{price_refl, below_le}
use Rattle.envelopes.specs.Envelope.{Ordered, Env}
use Rattle.envelopes.specs.EnvelopeLaws.{ordered_left, ordered_apart, ordered_pairs}
use Rattle.trees.specs.Tree.{Tree, leaves, last}
use Rattle.trees.specs.Leaves.{last_leaf}
use Rattle.trees.specs.Order.{up_to_last}
use Rattle.trees.specs.Operations.{Part, part_leaves}
use Rattle.dynamic.specs.OfferTree.{OfferTree, shape}
use Rattle.dynamic.specs.Lower.{not_before}
use Rattle.below.specs.Least.{Least, Chained, later_least, earlier_least}

-- ---- a part of an envelope is its own envelope

module _ (S : Figure) where
  pub chained_front : (xs ys : List S.Line) → Chained S (xs ++ ys) → Chained S xs
  chained_front xs ys K d =
      record {
        ordered = λ i h.
            rw (get_or-append xs ys d i (omega arith), get_or-append xs ys d (suc i) h) at
            ((K d).ordered i (omega (arith, length-append xs ys)));
        turning = λ i h.
            rw (get_or-append xs ys d i (omega arith), get_or-append xs ys d (suc i) (omega arith), get_or-append xs ys d (suc (suc i)) h) at
            ((K d).turning i (omega (arith, length-append xs ys)));
      }

  pub chained_back : (xs ys : List S.Line) → Chained S (xs ++ ys) → Chained S ys
  chained_back xs ys K d =
      record {
        ordered = λ i h. rw (← place i, ← later (suc (length xs + i)) (suc i) (omega arith))
            ((K d).ordered (length xs + i) (omega (arith, length-append xs ys)));
        turning = λ i h.
            rw (← place i, ← later (suc (length xs + i)) (suc i) (omega arith), ← later (suc (suc (length xs + i))) (suc (suc i)) (omega arith))
            ((K d).turning (length xs + i) (omega (arith, length-append xs ys)));
      }
    where
      place : (i : ℕ) → get_or (xs ++ ys) (length xs + i) d ≡ get_or ys i d
      place i = get_or-append-add xs ys i d

      later : (j i : ℕ) → j ≡ length xs + i → get_or (xs ++ ys) j d ≡ get_or ys i d
      later j i e = ap (λ k. get_or (xs ++ ys) k d) e ∙ place i

  module _ (L : PseudoLines S) where
    pub own_env : (qs : List S.Line) → Chained S qs → Env S qs qs
    own_env qs K = record { sub = Sublistᴰ.refl qs; chain = K; low = λ x l m. (l, m, price_refl S L l x) }

-- ---- the cheaper of a line and the cheapest of a part

module _ (S : Figure) (x : S.Point) (seek : Tree S.Line → S.Line) where
  -- what is asked of a descent: on a tree whose leaves are an envelope it ends at a line of the least price
  abbrev pub Seeks : Type 0
  Seeks = (t : Tree S.Line) → Env S (leaves t) (leaves t) → Least S (leaves t) (seek t) x

  abbrev pub cheaper : S.Line → Part S.Line → S.Line
  cheaper v none = v
  cheaper v (some t) = cond (S.at_most v (seek t) x) v (seek t)

  -- the cheapest of a node's left and right child, where e is its own
  abbrev pub left_of : S.Line → OfferTree S.Line → Part S.Line → S.Line → S.Line
  left_of u l ql e = cond (S.before (last (shape l)) e) (cheaper u ql) e

  abbrev pub right_of : S.Line → OfferTree S.Line → Part S.Line → S.Line → S.Line
  right_of v l qr e = cond (S.before (last (shape l)) e) e (cheaper v qr)

  module _ (L : PseudoLines S) (seeks : Seeks) where
    pub cheaper_least :
        {xs zs : List S.Line} (v : S.Line) (q : Part S.Line) →
        Least S xs v x →
        Chained S (part_leaves q) →
        ((a : S.Line) → Memᴰ a xs → Memᴰ a zs) →
        ((a : S.Line) → Memᴰ a (part_leaves q) → Memᴰ a zs) →
        ((a : S.Line) → Memᴰ a zs → Memᴰ a xs ⊎ Memᴰ a (part_leaves q)) →
        Least S zs (cheaper v q) x
    cheaper_least v none M K f g h =
        record { one_of = f v M.one_of; least = λ l m. M.least l (⊎_elim (λ i. i) (λ i. absurd (Memᴰ.not-nil i)) (h l m)) }
    cheaper_least {xs} {zs} v (some t) M K f g h = go (S.at_most v (seek t) x) refl
      where
        N : Least S (leaves t) (seek t) x
        N = seeks t (own_env S L (leaves t) K)

        go : (b : Bool) → S.at_most v (seek t) x ≡ b → Least S zs (cond b v (seek t)) x
        go true e =
            record {
              one_of = f v M.one_of;
              least = λ l m. ⊎_elim (M.least l) (λ i. L.price_trans v (seek t) l x (subst T (sym e) tt) (N.least l i)) (h l m);
            }
        go false e =
            record {
              one_of = g (seek t) N.one_of;
              least = λ l m. ⊎_elim (λ i. L.price_trans (seek t) v l x (below_le S L (seek t) v x (λ k. subst T e k)) (M.least l i)) (N.least l) (h l m);
            }

-- ---- the children of a node

pub record Lesser (S : Figure) (x : S.Point) (le re : List S.Line) (a b : S.Line) : Type 0 where
  pub left : Least S le a x
  pub right : Least S re b x

module _ (S : Figure) (L : PseudoLines S) (x : S.Point) where
  -- the cheapest of an envelope is at or below every line that it is the envelope of
  pub least_all : {ls es : List S.Line} {e : S.Line} → Env S ls es → Least S es e x → (l : S.Line) → Memᴰ l ls → T (S.at_most e l x)
  least_all {e} E M l m = let (f, i, h) = E.low x l m in L.price_trans e f l x (M.least f i) h
