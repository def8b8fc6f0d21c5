-- The search's comparison of two places is the comparison of their ranks that the five facts speak of.
use Rattle.std.specs.Prelude.{ℕ, zero, suc, ◌≡◌, refl, ◌↔◌, ◌⊎◌, T}
use Rattle.std.proofs.Common.{sym, ◌∙◌, ap, subst, inl, inr, ⊎_elim}
use Rattle.std.proofs.Math.Logic.{Iff.trans as iff_trans, ⊎_swap}
use Rattle.std.proofs.Math.Option.{some}
use Rattle.lists.specs.Bools.{or_exactly}
use Rattle.envelopes.specs.PseudoLines.{Figure, mirror}
use Rattle.envelopes.specs.Bridge.{Kind, inner, Local, OnOrAbove}
use Rattle.trees.specs.Tree.{Tree, node, first, last}
use Rattle.meeting.specs.Machine.{Side, left, right, away, toward, nearest, farthest, Place, point_at, crossing_point, local_at_most}
use Rattle.meeting.specs.Machine.{crossing_on_or_above, on_or_above}
use Rattle.meeting.specs.Located.{Spans, one, two, edge_of, kind, rank, farthest_at, nearest_at, Located}

module _ (S : Figure) where
  -- the point with i lines on its outer side is on or above one of the lines
  abbrev pub Above : Side → (ℕ → S.Line) → ℕ → (S.Line → Type 0) → Type 0
  Above side a zero local = ⊥
  Above side a (suc i) local = (l : S.Line) × local l × T (S.at_most l (a i) (crossing_point S side (record { outer = a i; inner = a (suc i) })))

  pub above_left : (a : ℕ → S.Line) (i : ℕ) (local : S.Line → Type 0) → Above left a i local ≡ OnOrAbove S a i local
  above_left a zero local = refl
  above_left a (suc i) local = refl

  pub above_right : (a : ℕ → S.Line) (i : ℕ) (local : S.Line → Type 0) → Above right a i local ≡ OnOrAbove (mirror S) a i local
  above_right a zero local = refl
  above_right a (suc i) local = refl

  -- some line of the local envelope is at most the line there
  abbrev pub Low : (ℕ → S.Line) → ℕ → Kind → S.Line → S.Point → Type 0
  Low c j h b x = (l : S.Line) × Local c j h l × T (S.at_most l b x)

  pub local_node : (side : Side) (l r : Tree S.Line) (b : S.Line) (x : S.Point) →
      T (local_at_most S (node l r) b x) ↔ (T (S.at_most (nearest side (away side l r)) b x) ⊎ T (S.at_most (farthest side (toward side l r)) b x))
  local_node left l r b x = or_exactly (S.at_most (last l) b x) (S.at_most (first r) b x)
  local_node right l r b x =
      let e = or_exactly (S.at_most (last l) b x) (S.at_most (first r) b x) in
      ((λ w. ⊎_swap (e.0 w)), λ w. e.1 (⊎_swap w))

  pub low_inner : (c : ℕ → S.Line) (k : ℕ) (y z b : S.Line) (x : S.Point) → y ≡ c k → z ≡ c (suc k) →
      (T (S.at_most y b x) ⊎ T (S.at_most z b x)) ↔ Low c (suc k) inner b x
  low_inner c k y z b x p q = (
    ⊎_elim (λ w. (y, inl p, w)) (λ w. (z, inr q, w)),
    λ w. ⊎_elim (λ (e : w.0 ≡ c k). inl (subst (λ (v : S.Line). T (S.at_most v b x)) (e ∙ sym p) w.2))
        (λ (e : w.0 ≡ c (suc k)). inr (subst (λ (v : S.Line). T (S.at_most v b x)) (e ∙ sym q) w.2)) w.1,
  )

  pub local_test : {side : Side} {c : ℕ → S.Line} {lo hi : ℕ} {t : Tree S.Line} (s : Spans side c lo t hi) (b : S.Line) (x : S.Point) →
      T (local_at_most S t b x) ↔ Low c (rank s) (kind t) b x
  local_test (one {x = y} p) b x = ((λ w. (y, p, w)), λ w. rw (p ∙ sym w.1) w.2)
  local_test {side} {c} (two {l = l} {r = r} s t) b x =
      let (k, e, p) = nearest_at s in
      rw e (iff_trans (local_node side l r b x) (low_inner c k _ _ b x p (farthest_at t ∙ ap c e)))

  -- a point given by its two lines
  pub point_test : (side : Side) {other : Side} {c : ℕ → S.Line} {from to : ℕ} {q : Tree S.Line} (t : Spans other c from q to) (a : ℕ →
      S.Line) (k : ℕ) (y z : S.Line) → y ≡ a k → z ≡ a (suc k) →
      T (crossing_on_or_above S side (some (record { outer = y; inner = z })) q) ↔ Above side a (suc k) (Local c (rank t) (kind q))
  point_test side t a k y z p e = rw (p, e) (local_test t (a k) _)

  pub test_spans : (side : Side) {other : Side} {a c : ℕ → S.Line} {lo hi from to : ℕ} {b q : Tree S.Line} (s : Spans side a lo b hi)
      (t : Spans other c from q to) → T (crossing_on_or_above S side (point_at side b (edge_of a lo)) q) ↔ Above side a (rank s) (Local c (rank t) (kind q))
  test_spans side (one {i = zero} {x = x} p) t = ((λ w. w), λ w. w)
  test_spans side {a = a} (one {i = suc i} {x = x} p) t = point_test side t a i (a i) x refl p
  test_spans side {a = a} (two {mid = mid} s s') t =
      let (k, e, p) = nearest_at s in
      rw e (point_test side t a k _ _ p (farthest_at s' ∙ ap a e))
