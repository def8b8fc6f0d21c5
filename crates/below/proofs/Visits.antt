-- How many nodes the report visits: for each line that it yields, at most two a level, and the root.
use Rattle.std.specs.Prelude.{ℕ, suc, ◌+◌, ◌*◌, ◌≤◌, max, ◌≡◌, Bool, true, false, cond, List, [], ◌∷◌, ◌++◌, T, length}
use Rattle.std.proofs.Common.{mul-le-mul, sym, ◌∙◌, ap, subst, length-append}
use native.Mathlib.Omega.{arith}
use Rattle.std.proofs.Math.Path.{refl}
use Rattle.lists.specs.Filter.{keep, keep_append, keep_in}
use Rattle.lists.specs.Places.{place_of, sublist_mem}
use Rattle.envelopes.specs.PseudoLines.{Figure, PseudoLines}
use Rattle.envelopes.specs.Envelope.{Ordered, Env}
use Rattle.envelopes.specs.EnvelopeLaws.{ordered_left, ordered_right}
use Rattle.trees.specs.Tree.{Tree, height, leaves}
use Rattle.trees.specs.Operations.{part_leaves}
use Rattle.dynamic.specs.OfferTree.{OfferTree, single, fork, shape}
use Rattle.dynamic.specs.Valid.{Valid, valid_single, valid_fork}
use Rattle.dynamic.specs.Lower.{valid_env}
use Rattle.below.specs.Least.{Least}
use Rattle.below.specs.Children.{Seeks, left_of, right_of, Lesser}
use Rattle.below.specs.Visits.{visits}
use Rattle.below.proofs.Children.{children}

-- two subtrees' bounds under one node, of which at least one line is reported
two_bounds : (m n hl hr a b : ℕ) → 1 ≤ m + n → a ≤ m * (2 * suc hl) + 1 → b ≤ n * (2 * suc hr) + 1 → suc (a + b) ≤ (m + n) * (2 * suc (suc (max hl hr))) + 1
two_bounds m n hl hr a b s p q = omega (arith, front, back)
  where
    front : m * (2 * suc hl) ≤ m * (2 * suc (max hl hr))
    front = mul-le-mul (omega arith) (omega arith)

    back : n * (2 * suc hr) ≤ n * (2 * suc (max hl hr))
    back = mul-le-mul (omega arith) (omega arith)

module _ (S : Figure) (L : PseudoLines S) (x : S.Point) (seek : Tree S.Line → S.Line) (seeks : Seeks S x seek) (test : S.Line → Bool) where
  -- a cheapest line that passes is reported
  some_kept : {ls es : List S.Line} {e : S.Line} → Env S ls es → Least S es e x → test e ≡ true → 1 ≤ length (keep test ls)
  some_kept {ls} {e = e} E M q = let (i, h, p) = place_of e (keep_in test ls e (sublist_mem E.sub M.one_of) (subst T (sym q) tt)) in omega arith

  pub few_visits : {t : OfferTree S.Line} {es : List S.Line} {e : S.Line} → Valid S t es → Ordered S (leaves (shape t)) → Least S es e x
      → visits S x seek test t e ≤ length (keep test (leaves (shape t))) * (2 * suc (height (shape t))) + 1
  unfolding visits
  few_visits (valid_single {a}) o M = omega arith
  few_visits {e} (valid_fork {u} {v} {l} {r} {ql} {qr} {es} up_to from d vl vr al ar E) o M =
      go (test e) refl (few_visits vl (ordered_left S (leaves (shape l)) (leaves (shape r)) o) C.left)
      (few_visits vr (ordered_right S (leaves (shape l)) (leaves (shape r)) o) C.right)
    where
      C : Lesser S x ((up_to ++ u ∷ []) ++ part_leaves ql) (part_leaves qr ++ v ∷ from) (left_of S x seek u l ql e) (right_of S x seek v l qr e)
      C = children S L x seek seeks u v l r ql qr up_to from o d E (valid_env S L vl) (valid_env S L vr) M

      both : length (keep test (leaves (shape l) ++ leaves (shape r))) ≡ length (keep test (leaves (shape l))) + length (keep test (leaves (shape r)))
      both = ap length (keep_append test (leaves (shape l)) (leaves (shape r))) ∙ length-append (keep test (leaves (shape l))) (keep test (leaves (shape r)))

      go : {a b : ℕ} (c : Bool) → test e ≡ c → a ≤ length (keep test (leaves (shape l))) * (2 * suc (height (shape l))) + 1
          → b ≤ length (keep test (leaves (shape r))) * (2 * suc (height (shape r))) + 1
          → cond c (suc (a + b)) 1
          ≤ length (keep test (leaves (shape l) ++ leaves (shape r))) * (2 * suc (suc (max (height (shape l)) (height (shape r))))) + 1
      go {a} {b} true q f g =
          rw both
          (two_bounds (length (keep test (leaves (shape l)))) (length (keep test (leaves (shape r)))) (height (shape l)) (height (shape r)) a b
          (omega (arith, both, some_kept E M q)) f g)
      go false q f g = omega arith
