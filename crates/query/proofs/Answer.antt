-- Of the cheapest of all lines the item that a query names first is the last in order, and the second one the first.
use Rattle.std.specs.Prelude.{◌≡◌, ℕ, zero, suc, pred, ◌≤◌, ◌<◌, T, ℤ, ◌*ℤ◌}
use Rattle.std.proofs.Common.{sym, ◌∙◌, ap, subst, arith}
use mathlib.Core.List.{List, Memᴰ}
use Rattle.std.proofs.Math.Option.{Option, none, some}
use Rattle.std.specs.Int.Signed.{le_z, lt_z}
use Rattle.lists.specs.Places.{mem_at}
use Rattle.integers.specs.Parts.{int_rules}
use Rattle.offers.specs.Offers.{crossing_numerator, crossing_denominator}
use Rattle.envelopes.specs.PseudoLines.{LeftOf, mirror}
use Rattle.envelopes.specs.Crossing.{price_refl, left_upto, left_upto_trans, upto_left_trans, cross_upto}
use Rattle.envelopes.specs.Bridge.{Chain, PastOuter, InPiece}
use Rattle.envelopes.proofs.Chains.{turns_increase}
use Rattle.envelopes.specs.Envelope.{Env, First}
use Rattle.envelopes.proofs.Query.{query, query_last}
use Rattle.lines.specs.Lines.{whole}
use Rattle.lines.proofs.Lines.{whole_left, whole_right}
use Rattle.trees.specs.Tree.{Tree, leaf, node, leaves, first, last}
use Rattle.meeting.specs.Machine.{left}
use Rattle.meeting.specs.Located.{Spans, one, two, spans_some, farthest_at, nearest_at}
use Rattle.meeting.specs.Meets.{size, line_from, spans_tree}
use Rattle.table.specs.Items.{Item}
use Rattle.prices.specs.Positions.{Position, Below, On, Above, Lies, below, on, above, lies}
use Rattle.pieces.specs.Pieces.{rate_of, base_of, items, item_laws_lem}
use Rattle.query.specs.Lookup.{Reached, against, turned, kept_or, walk, lookup}

-- ---- the pieces that the load lies in

module _ (a : ℕ → Item) (n : ℕ) (K : Chain items a n) (q : ℤ) where
  -- the load is strictly left of the inner end of the lines before a hi; a missing end is no bound
  abbrev Inside : ℕ → Type 0
  Inside hi = hi < n → LeftOf items (whole q) (items.cross (a (pred hi)) (a hi))

  -- what is kept in mind at the lines from a lo on: the line before them, where the load is at its crossing with a lo; nothing where the load is past it
  abbrev Kept : Option Item → ℕ → Type 0
  Kept none lo = PastOuter items a lo (whole q)
  Kept (some b) zero = ⊥
  Kept (some b) (suc k) =
      (b ≡ a k) × T (items.up_to (whole q) (items.cross (a k) (a (suc k)))) × T (items.up_to (items.cross (a k) (a (suc k))) (whole q))

  -- a load that is at one crossing is left of every later one
  not_past : (kept : Option Item) (lo : ℕ) {k : ℕ} → lo ≤ k → suc k < n → Kept kept lo → LeftOf items (items.cross (a k) (a (suc k))) (whole q) →
      Kept kept (suc k)
  not_past none lo h i e l = l
  not_past (some b) zero h i e l = absurd e
  not_past (some b) (suc j) {k} h i e l =
      absurd (l (left_upto items item_laws_lem (whole q) (items.cross (a k) (a (suc k)))
      (upto_left_trans items item_laws_lem (whole q) (items.cross (a j) (a (suc j))) (items.cross (a k) (a (suc k))) e.1
      (turns_increase items item_laws_lem a n K j k (omega arith) i))))

  -- where the walk ends
  record Ends (x y : Item) : Type 0 where
    k : ℕ
    item : x ≡ a k
    in_chain : k < n
    inside : suc k < n → LeftOf items (whole q) (items.cross (a k) (a (suc k)))
    j : ℕ
    second : y ≡ a j
    piece : InPiece items a n j (whole q)
    as_low : T (items.at_most (a k) (a j) (whole q))

  abbrev EndsAt : Reached → Type 0
  EndsAt r = Ends r.item r.second

  at_end : (kept : Option Item) {x : Item} {i : ℕ} → x ≡ a i → suc i ≤ n → Kept kept i → Inside (suc i) →
      Ends x (kept_or kept x)
  at_end none {x} {i} e h o u =
      record {
        k = i;
        item = e;
        in_chain = omega arith;
        inside = u;
        j = i;
        second = e;
        piece = record { inside = omega arith; outer = o; inner = λ g. left_upto items item_laws_lem (whole q) (items.cross (a i) (a (suc i))) (u g) };
        as_low = price_refl items item_laws_lem (a i) (whole q);
      }
  at_end (some b) {i = zero} e h o u = absurd o
  at_end (some b) {i = suc k} e h o u =
      record {
        k = suc k;
        item = e;
        in_chain = omega arith;
        inside = u;
        j = k;
        second = o.0;
        piece = record { inside = omega arith; outer = outer k (omega arith) o.2; inner = λ g. o.1 };
        as_low = cross_upto items item_laws_lem (a k) (a (suc k)) (whole q) (K.ordered k (omega arith)) o.2;
      }
    where
      outer : (k : ℕ) → suc k < n → T (items.up_to (items.cross (a k) (a (suc k))) (whole q)) → PastOuter items a k (whole q)
      outer zero g t = tt
      outer (suc k) g t =
          left_upto_trans items item_laws_lem (items.cross (a k) (a (suc k))) (items.cross (a (suc k)) (a (suc (suc k)))) (whole q) (K.turning k g) t

  -- between two parts of the tree
  module _ {lo mid hi : ℕ} {l r : Tree Item} (s : Spans left a lo l mid) (t : Spans left a mid r hi) (h : hi ≤ n) where
    k : ℕ
    k = (nearest_at s).0

    here : mid ≡ suc k
    unfolding k
    here = (nearest_at s).1

    in_chain : suc k < n
    in_chain = omega (arith, here, spans_some t)

    own : last l ≡ a k
    unfolding k
    own = (nearest_at s).2

    next : first r ≡ a (suc k)
    next = farthest_at t ∙ ap a here

    -- the code's tests are the figure's
    abbrev d : ℤ
    d = crossing_denominator (last l).offer (first r).offer

    abbrev c : ℤ
    c = crossing_numerator (last l).offer (first r).offer

    seam_left : items.up_to (whole q) (items.cross (a k) (a (suc k))) ≡ le_z (q *ℤ d) c
    seam_left = rw (own, next) (whole_left Item rate_of base_of (a k) (a (suc k)) q (K.ordered k in_chain))

    seam_right : items.up_to (items.cross (a k) (a (suc k))) (whole q) ≡ le_z c (q *ℤ d)
    seam_right = rw (own, next) (whole_right Item rate_of base_of (a k) (a (suc k)) q (K.ordered k in_chain))

    before_seam : T (lt_z (q *ℤ d) c) → Inside mid
    before_seam g = subst Inside (sym here) (λ m u. let v = subst T seam_right u in omega (arith, int_rules))

    at_seam : q *ℤ d ≡ c → Kept (some (last l)) mid
    at_seam e =
        subst (Kept (some (last l))) (sym here)
        (own, subst T (sym seam_left) (omega (arith, int_rules)), subst T (sym seam_right) (omega (arith, int_rules)))

    past_seam : (kept : Option Item) → Kept kept lo → T (lt_z c (q *ℤ d)) → Kept kept mid
    past_seam kept o g =
        subst (Kept kept) (sym here)
        (not_past kept lo (omega (arith, here, spans_some s)) in_chain o (λ u. let v = subst T seam_left u in omega (arith, int_rules)))

  reached : (kept : Option Item) {lo hi : ℕ} (t : Tree Item) → Spans left a lo t hi → hi ≤ n → Kept kept lo → Inside hi → EndsAt (walk q kept t)
  unfolding walk
  reached kept (leaf x) (one e) h o u = at_end kept e h o u
  reached kept (node l r) (two {mid} s t) h o u =
      go (against q (last l).offer (first r).offer) (lies _ _) (reached kept l s (omega (arith, spans_some t)) o) (λ b. reached (some (last l)) r t h b u)
      (λ b. reached kept r t h b u)
    where
      go : (p : Position) → Lies (q *ℤ crossing_denominator (last l).offer (first r).offer) (crossing_numerator (last l).offer (first r).offer) p →
          (Inside mid → EndsAt (walk q kept l)) → (Kept (some (last l)) mid → EndsAt (walk q (some (last l)) r)) → (Kept kept mid → EndsAt (walk q kept r)) →
          EndsAt (turned p (walk q kept l) (walk q (some (last l)) r) (walk q kept r))
      go Below (below g) x y z = x (before_seam s t h g)
      go On (on g) x y z = y (at_seam s t h g)
      go Above (above g) x y z = z (past_seam s t h kept o g)

-- ---- of all lines

module _ {ls : List Item} (t : Tree Item) (E : Env items ls (leaves t)) (q : ℤ) where
  z : Item
  z = first t

  ends : EndsAt (line_from left t z) (size t) (E.chain z) q (lookup q t)
  ends = reached (line_from left t z) (size t) (E.chain z) q none t (spans_tree left t z) (omega arith) tt (λ h. absurd (omega arith))

  -- the second: the first in order among the cheapest
  pub lookup_first : First items ls (lookup q t).second (whole q)
  lookup_first =
      subst (λ (c : Item). First items ls c (whole q)) (sym ends.second) (query items item_laws_lem E z ends.j (whole q) ends.piece)

  pub second_leaf : Memᴰ (lookup q t).second (leaves t)
  second_leaf = subst (λ (c : Item). Memᴰ c (leaves t)) (sym ends.second) (mem_at (leaves t) ends.j z ends.piece.inside)

  -- the first-named: the last in order
  pub lookup_last : First (mirror items) ls (lookup q t).item (whole q)
  lookup_last =
      subst (λ (c : Item). First (mirror items) ls c (whole q)) (sym ends.item)
      (query_last items item_laws_lem E z ends.k (whole q) ends.in_chain
      (λ l m. item_laws_lem.price_trans (line_from left t z ends.k) (line_from left t z ends.j) l (whole q) ends.as_low
      ((query items item_laws_lem E z ends.j (whole q) ends.piece).least l m))
      ends.inside)
