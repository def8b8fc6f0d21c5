-- The whole envelope in hand and the parts stored below it hold each line once: together they are a rearrangement of the tree's leaves.
-- So no two of these trees share a line, and what a program keeps by line, one place serves all of them.
use Rattle.std.specs.Prelude.{suc, ◌≤◌, ◌≡◌, refl, ◌≢◌, length}
use Rattle.std.proofs.Common.{arith, sym, ◌∙◌, ap, ⊎_elim, length-append}
use mathlib.Core.HLevel.{¬_prop, Π_prop}
use mathlib.Core.List.Memᴰ
use mathlib.Core.List.{List, [], ◌∷◌, ◌++◌, append_assoc, Memᴰ}
use mathlib.Core.List.Permᴰ
use mathlib.Core.List.{Permᴰ}
use mathlib.Core.List.{Pairwise}
use Rattle.lists.specs.Members.{pairs_cons}
use Rattle.envelopes.specs.PseudoLines.{Figure, PseudoLines}
use Rattle.envelopes.specs.Envelope.{Ordered, ordered_nil, ordered_cons}
use Rattle.envelopes.specs.EnvelopeLaws.{before_other}
use Rattle.trees.specs.Tree.{leaves}
use Rattle.trees.specs.Operations.{Part, part_leaves}
use Rattle.trees.specs.Order.{parted}
use Rattle.dynamic.specs.OfferTree.{OfferTree, single, fork, shape, Held}
use Rattle.dynamic.specs.Valid.{Valid, valid_single, valid_fork, Whole}

-- the lines of all parts stored below the root
abbrev pub stored : {A : Type 0} → OfferTree A → List A
stored (single a) = []
stored (fork u v l ql qr r) = (part_leaves ql ++ stored l) ++ (part_leaves qr ++ stored r)

module _ {A : Type 0} where
  -- w goes behind the three that follow it
  regroup : (u w a b c d : List A) → Permᴰ ((u ++ w) ++ ((a ++ b) ++ (c ++ d))) (((u ++ a) ++ b) ++ ((c ++ w) ++ d))
  regroup u w a b c d =
      let p : (u ++ w) ++ ((a ++ b) ++ (c ++ d)) ≡ u ++ ((w ++ ((a ++ b) ++ c)) ++ d) = simp append_assoc in
      let q : ((u ++ a) ++ b) ++ ((c ++ w) ++ d) ≡ u ++ ((((a ++ b) ++ c) ++ w) ++ d) = simp append_assoc in
      rw (p, q) (Permᴰ.append_left u (Permᴰ.append_right d (Permᴰ.append_comm w ((a ++ b) ++ c))))

  both : {xs ys us vs : List A} → Permᴰ xs us → Permᴰ ys vs → Permᴰ (xs ++ ys) (us ++ vs)
  both {ys} {us} p q = Permᴰ.trans (Permᴰ.append_right ys p) (Permᴰ.append_left us q)

module _ (S : Figure) where
  pub valid_rearranged : {t : OfferTree S.Line} {es : List S.Line} → Valid S t es → Permᴰ (es ++ stored t) (leaves (shape t))
  valid_rearranged (valid_single {a}) = Permᴰ.refl (a ∷ [])
  valid_rearranged (valid_fork {u} {v} {l} {r} {ql} {qr} up_to from e vl vr al ar E) =
      rw e
      (Permᴰ.trans (regroup (up_to ++ u ∷ []) (v ∷ from) (part_leaves ql) (stored l) (part_leaves qr) (stored r))
      (both (valid_rearranged vl) (valid_rearranged vr)))

  pub rearranged : {h : Held S.Line} → Whole S h → Permᴰ (part_leaves h.whole ++ stored h.tree) (leaves (shape h.tree))
  rearranged w = valid_rearranged w.valid

-- ---- a rearrangement keeps members and the count

module _ {A : Type 0} where
  pub rearranged_mem : {a : A} {xs ys : List A} → Permᴰ xs ys → Memᴰ a xs → Memᴰ a ys
  rearranged_mem Permᴰ.nil m = m
  rearranged_mem (Permᴰ.cons e p) m = ⊎_elim (λ q. Memᴰ.head (q ∙ e)) (λ k. Memᴰ.tail (rearranged_mem p k)) (Memᴰ.cases_cons m)
  rearranged_mem (Permᴰ.swap e f) m =
      ⊎_elim
      (λ q. Memᴰ.tail (Memᴰ.head (q ∙ e)))
      (λ k. ⊎_elim (λ q. Memᴰ.head (q ∙ f)) (λ n. Memᴰ.tail (Memᴰ.tail n)) (Memᴰ.cases_cons k))
      (Memᴰ.cases_cons m)
  rearranged_mem (Permᴰ.trans p q) m = rearranged_mem q (rearranged_mem p m)

  pub rearranged_length : {xs ys : List A} → Permᴰ xs ys → length xs ≡ length ys
  rearranged_length Permᴰ.nil = refl
  rearranged_length (Permᴰ.cons e p) = ap suc (rearranged_length p)
  rearranged_length (Permᴰ.swap e f) = refl
  rearranged_length (Permᴰ.trans p q) = rearranged_length p ∙ rearranged_length q

-- ---- the trees one by one

module _ {A : Type 0} where
  -- the parts stored below the root
  abbrev pub rests : OfferTree A → List (Part A)
  rests (single a) = []
  rests (fork u v l ql qr r) = (ql ∷ rests l) ++ (qr ∷ rests r)

  -- all piece trees of a subtree in hand
  abbrev pub piece_trees : Held A → List (Part A)
  piece_trees h = h.whole ∷ rests h.tree

  -- the lines of several parts, a part after the other
  abbrev pub part_lines : List (Part A) → List A
  part_lines [] = []
  part_lines (p ∷ ps) = part_leaves p ++ part_lines ps

  part_lines_append : (ps qs : List (Part A)) → part_lines (ps ++ qs) ≡ part_lines ps ++ part_lines qs
  part_lines_append [] qs = refl
  part_lines_append (p ∷ ps) qs = ap (λ xs. part_leaves p ++ xs) (part_lines_append ps qs) ∙ sym (append_assoc (part_leaves p) (part_lines ps) (part_lines qs))

  pub lines_rests : (t : OfferTree A) → part_lines (rests t) ≡ stored t
  lines_rests (single a) = refl
  lines_rests (fork u v l ql qr r) = simp (part_lines_append, lines_rests l, lines_rests r)

  pub lines_mem : {a : A} {p : Part A} {ps : List (Part A)} → Memᴰ p ps → Memᴰ a (part_leaves p) → Memᴰ a (part_lines ps)
  lines_mem {a} {p} (Memᴰ.head {x} {xs} e) m = Memᴰ.append_left (part_lines xs) (rw e at m)
  lines_mem (Memᴰ.tail {x} k) m = Memᴰ.append_right (part_leaves x) (lines_mem k m)

  pub lines_length : {p : Part A} {ps : List (Part A)} → Memᴰ p ps → length (part_leaves p) ≤ length (part_lines ps)
  lines_length (Memᴰ.head {x} {xs} e) = rw e (omega (arith, length-append (part_leaves x) (part_lines xs)))
  lines_length (Memᴰ.tail {x} {xs} k) = omega (arith, length-append (part_leaves x) (part_lines xs), lines_length k)

-- ---- no two trees share a line

-- Every line of the one stands so to every line of the other.
abbrev pub Between : {A : Type 0} → (A → A → Type 0) → Part A → Part A → Type 0
Between {A} R p q = (a b : A) → Memᴰ a (part_leaves p) → Memᴰ b (part_leaves q) → R a b

module _ {A : Type 0} {R : A → A → Type 0} (is_prop : (a b : A) → IsProp (R a b)) where
  parts_between : (ps : List (Part A)) → Pairwise R (part_lines ps) → Pairwise (Between R) ps
  parts_between [] h = Pairwise.nil
  parts_between (p ∷ ps) h =
      let k = parted (part_leaves p) h in
      pairs_cons (λ p q. Π_prop (λ a. Π_prop (λ b. Π_prop (λ i. Π_prop (λ j. is_prop a b))))) (λ q m a b i j. k.across i (lines_mem m j))
      (parts_between ps k.right)

module _ (S : Figure) where
  pub trees_rearranged : {h : Held S.Line} → Whole S h → Permᴰ (part_lines (piece_trees h)) (leaves (shape h.tree))
  trees_rearranged {h} w = rw (lines_rests h.tree) (rearranged S w)

  -- What holds of any two leaves, either way round, holds of any two lines of the whole and the stored parts, ..
  module _ {R : S.Line → S.Line → Type 0} (is_prop : (a b : S.Line) → IsProp (R a b)) (symmetric : (a b : S.Line) → R a b →
      R b a) {h : Held S.Line} (w : Whole S h) (p : Pairwise R (leaves (shape h.tree))) where
    pub lines_apart : Pairwise R (part_leaves h.whole ++ stored h.tree)
    lines_apart = Permᴰ.pairwise is_prop symmetric (Permᴰ.symm (rearranged S w)) p

    -- .. and so between any two of these trees.
    pub trees_apart : Pairwise (Between R) (piece_trees h)
    trees_apart = parts_between is_prop (piece_trees h) (Permᴰ.pairwise is_prop symmetric (Permᴰ.symm (trees_rearranged w)) p)

module _ (S : Figure) (L : PseudoLines S) where
  pub ordered_distinct : {ls : List S.Line} → Ordered S ls → Pairwise (λ (a b : S.Line). a ≢ b) ls
  ordered_distinct ordered_nil = Pairwise.nil
  ordered_distinct (ordered_cons {a} h o) = pairs_cons (λ x y. ¬_prop) (λ b m. before_other S L a b (h b m)) (ordered_distinct o)

  -- no line stands in two of the trees, nor twice in one
  pub no_line_twice : {h : Held S.Line} → Whole S h → Pairwise (λ (a b : S.Line). a ≢ b) (part_leaves h.whole ++ stored h.tree)
  no_line_twice w = lines_apart S (λ a b. ¬_prop) (λ a b n e. n (sym e)) w (ordered_distinct w.ordered)

  pub no_line_shared : {h : Held S.Line} → Whole S h → Pairwise (Between (λ (a b : S.Line). a ≢ b)) (piece_trees h)
  no_line_shared w = trees_apart S (λ a b. ¬_prop) (λ a b n e. n (sym e)) w (ordered_distinct w.ordered)
