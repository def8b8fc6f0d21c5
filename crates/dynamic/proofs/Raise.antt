-- Two whole subtrees, raised to one, are whole: the search finds their bridge, and the pieces up to it and from it are the envelope of both.
use Rattle.std.specs.Prelude.{◌+◌, ◌*◌, ◌≤◌, ◌≡◌, refl, T}
use Rattle.std.proofs.Common.{sym, ◌∙◌, inl, inr, ⊎_elim, T_not}
use Rattle.std.proofs.Math.Path.{ap}
use Rattle.std.proofs.Math.Bool.{not}
use Rattle.std.proofs.Math.Option.{none, some}
use mathlib.Core.List.Memᴰ
use mathlib.Core.List.{List, [], ◌∷◌, ◌++◌, Memᴰ}
use mathlib.Core.List.{Sublistᴰ}
use Rattle.std.proofs.Math.Dec.{not_T}
use Rattle.std.proofs.Math.Seq.{append_snoc}
use Rattle.envelopes.specs.PseudoLines.{Figure, PseudoLines}
use Rattle.envelopes.specs.Envelope.{Ordered, Env}
use Rattle.envelopes.specs.EnvelopeLaws.{ordered_head, ordered_right, ordered_apart, ordered_sublist}
use Rattle.trees.specs.Tree.{Tree, node, height, leaves, first, Avl}
use Rattle.trees.specs.Operations.{Part, Cut, part_leaves, join_p, split}
use Rattle.trees.specs.Leaves.{first_leaf}
use Rattle.trees.proofs.Leaves.{leaves_join_p}
use Rattle.trees.proofs.Balanced.{near_join_p}
use Rattle.trees.specs.Split.{Halves}
use Rattle.trees.proofs.Split.{split_halves, split_low}
use Rattle.meeting.specs.Machine.{meet}
use Rattle.meeting.specs.Meets.{Met, limit}
use Rattle.dynamic.specs.OfferTree.{OfferTree, fork, shape, Held, hold, held_shape, Pair, Made, bridged, raise_by, raise}
use Rattle.dynamic.specs.Valid.{Valid, valid_fork, Whole}
use Rattle.dynamic.specs.Work.{Searched, Holds}
use Rattle.dynamic.specs.Lower.{valid_env, not_before}
use Rattle.dynamic.specs.SearchEnd.{Bridged}
use Rattle.dynamic.specs.Bridged.{search_bridges}

-- ---- a list in order is cut about one of its lines

module _ (S : Figure) (L : PseudoLines S) (xs : List S.Line) (u : S.Line) (ys : List S.Line) (o : Ordered S (xs ++ u ∷ ys)) where
  in_front_lem : (a : S.Line) → Memᴰ a xs → T (S.before a u)
  in_front_lem a m = ordered_apart S xs (u ∷ ys) o a u m (Memᴰ.head refl)

  behind : (a : S.Line) → Memᴰ a ys → T (S.before u a)
  behind = ordered_head S (ordered_right S xs (u ∷ ys) o)

  -- behind u
  pub split_behind : (t : Tree S.Line) → leaves t ≡ xs ++ u ∷ ys → Halves (split (λ x. not (S.before u x)) t) (xs ++ u ∷ []) ys
  split_behind t e =
      split_halves (λ x. not (S.before u x)) t (xs ++ u ∷ []) ys (e ∙ sym (append_snoc xs u ys))
      (λ a m. not_before S L u a (⊎_elim (λ k. inr (in_front_lem a k)) (λ k. inl (Memᴰ.eq_of_singleton k)) (Memᴰ.append_cases xs m)))
      (λ a m. not_T (not (S.before u a)) (λ t. T_not (S.before u a) t (behind a m)))

  -- in front of u
  pub split_front : (t : Tree S.Line) → leaves t ≡ xs ++ u ∷ ys → Halves (split (λ x. S.before x u) t) xs (u ∷ ys)
  split_front t e =
      split_halves (λ x. S.before x u) t xs (u ∷ ys) e in_front_lem
      (λ a m. not_before S L a u (⊎_elim (λ k. inl (sym k)) (λ k. inr (behind a k)) (Memᴰ.cases_cons m)))

-- ---- the fork

module _ (S : Figure) (L : PseudoLines S) where
  -- with the bridge and the pieces about it given
  whole_fork :
      (u v : S.Line) (up_to beyond short from : List S.Line) (l r : OfferTree S.Line) (a b : Tree S.Line) →
      leaves a ≡ up_to ++ u ∷ beyond →
      leaves b ≡ short ++ v ∷ from →
      Env S (leaves (shape l) ++ leaves (shape r)) (up_to ++ u ∷ v ∷ from) →
      Whole S (hold l (some a)) →
      Whole S (hold r (some b)) →
      Ordered S (leaves (shape l) ++ leaves (shape r)) →
      Avl (node (shape l) (shape r)) →
      Whole S (bridged S u v (hold l (some a)) (hold r (some b)) (split (λ x. not (S.before u x)) a) (split (λ x. S.before x v) b))
  whole_fork u v up_to beyond short from l r a b p q E wl wr o g =
      let cl : Cut S.Line = split (λ x. not (S.before u x)) a in
      let cr : Cut S.Line = split (λ x. S.before x v) b in
      let oa : Ordered S (up_to ++ u ∷ beyond) = rw p at (ordered_sublist S (valid_env S L wl.valid).sub wl.ordered) in
      let ob : Ordered S (short ++ v ∷ from) = rw q at (ordered_sublist S (valid_env S L wr.valid).sub wr.ordered) in
      let H : Halves cl (up_to ++ u ∷ []) beyond = split_behind S L up_to u beyond oa a p in
      let K : Halves cr short (v ∷ from) = split_front S L short v from ob b q in
      let low-left = split_low (λ x. not (S.before u x)) wl.balanced_whole in
      let low-right = split_low (λ x. S.before x v) wr.balanced_whole in
      let whole : part_leaves (join_p cl.front cr.back) ≡ (up_to ++ u ∷ []) ++ v ∷ from = rw (leaves_join_p, H.before, K.after) refl in
      let vl : Valid S l ((up_to ++ u ∷ []) ++ part_leaves cl.back) = rw (H.after, append_snoc, ← p) wl.valid in
      let vr : Valid S r (part_leaves cr.front ++ v ∷ from) = rw (K.before, ← q) wr.valid in
      record {
        ordered = o;
        valid = valid_fork up_to from whole vl vr low-left.back_avl low-right.front_avl (rw (whole, append_snoc) E);
        balanced = g;
        balanced_whole = (near_join_p cl.front cr.back low-left.front_avl low-right.back_avl).avl;
      }

-- What raising two subtrees makes: a whole fork of both, and one searched pair, whose search kept to its steps.
pub record Raised (S : Figure) (l r : Held S.Line) (m : Made S.Line) : Type 0 where
  pub u : S.Line
  pub v : S.Line
  pub left_rest : Part S.Line
  pub right_rest : Part S.Line
  pub forked : m.held.tree ≡ fork u v l.tree left_rest right_rest r.tree
  pub whole : Whole S m.held
  pub pair : Pair S.Line
  pub logged : m.log ≡ pair ∷ []
  pub searched : (live : List S.Line) → Sublistᴰ (leaves (held_shape l) ++ leaves (held_shape r)) live → Searched S live pair
  pub holds : Holds S (record { front = leaves (held_shape l); back = leaves (held_shape r) }) pair
  pub met : Met (limit pair.front pair.back) u v (meet S pair.front pair.back)

pub raised_shape : (S : Figure) {l r : Held S.Line} {m : Made S.Line} → Raised S l r m → held_shape m.held ≡ node (held_shape l) (held_shape r)
raised_shape S R = ap shape R.forked

pub raised_steps :
    (S : Figure) {l r : Held S.Line} {m : Made S.Line} (R : Raised S l r m) →
    (meet S R.pair.front R.pair.back).steps ≤ 3 * (height R.pair.front + height R.pair.back) + 1
raised_steps S R = R.met.steps

module _ (S : Figure) (L : PseudoLines S) where
  -- no envelope is empty
  pub some_piece : {t : OfferTree S.Line} → Valid S t [] → ⊥
  some_piece {t} v = let (e, m, h) = (valid_env S L v).low L.somewhere (first (shape t)) (first_leaf (shape t)) in Memᴰ.not-nil m

  raise_parts :
      (p q : Part S.Line) (l r : OfferTree S.Line) →
      Whole S (hold l p) →
      Whole S (hold r q) →
      Ordered S (leaves (shape l) ++ leaves (shape r)) →
      Avl (node (shape l) (shape r)) →
      Raised S (hold l p) (hold r q) (raise_by S p q (hold l p) (hold r q))
  unfolding raise_by
  raise_parts none q l r wl wr o g = absurd (some_piece wl.valid)
  raise_parts (some a) none l r wl wr o g = absurd (some_piece wr.valid)
  raise_parts (some a) (some b) l r wl wr o g =
      let E : Env S (leaves (shape l)) (leaves a) = valid_env S L wl.valid in
      let F : Env S (leaves (shape r)) (leaves b) = valid_env S L wr.valid in
      let G : Bridged S (leaves (shape l)) (leaves (shape r)) a b = search_bridges S L (leaves (shape l)) (leaves (shape r)) o a b E F in
      let u : S.Line = first (meet S a b).u.tree in
      let v : S.Line = first (meet S a b).v.tree in
      let p : u ≡ G.u = ap first G.met.at_left in
      let q : v ≡ G.v = ap first G.met.at_right in
      record {
        u = u;
        v = v;
        left_rest = (split (λ x. not (S.before u x)) a).back;
        right_rest = (split (λ x. S.before x v) b).front;
        forked = refl;
        whole =
            whole_fork S L u v G.up_to G.beyond G.short G.from l r a b (rw p G.left_pieces) (rw q G.right_pieces) (rw (p, q) G.merged)
            wl wr o g;
        pair = record { front = a; back = b };
        logged = refl;
        searched = λ live s.
            record {
              left_set = leaves (shape l);
              right_set = leaves (shape r);
              sets = s;
              left_envelope = E;
              right_envelope = F;
              ended = G.met.finished;
              left_balanced = wl.balanced_whole;
              right_balanced = wr.balanced_whole;
            };
        holds = record { front = E; back = F };
        met = rw (p, q) G.met;
      }

  pub whole_raise :
      {l r : Held S.Line} →
      Whole S l →
      Whole S r →
      Ordered S (leaves (held_shape l) ++ leaves (held_shape r)) →
      Avl (node (held_shape l) (held_shape r)) →
      Raised S l r (raise S l r)
  whole_raise {l} {r} wl wr o g = raise_parts l.whole r.whole l.tree r.tree wl wr o g
