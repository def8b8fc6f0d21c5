-- The answer to a query, and that the lines decide their lower envelope.
use Rattle.std.specs.Prelude.{ℕ, zero, suc, ◌<◌, ◌≡◌, ◌↔◌, T, length, get_or}
use Rattle.std.proofs.Common.{arith, sym, subst, ◌∙◌, ⊎_elim}
use Rattle.std.proofs.Math.Decide.{dec_lt, ℕ_discrete}
use mathlib.Core.List.{List, reverse, Memᴰ}
use Rattle.lists.specs.Places.{mem_at, place_of, sublist_mem, mem_reverse, mem_unreverse}
use Rattle.envelopes.specs.PseudoLines.{Figure, LeftOf, PseudoLines, mirror, mirror_laws}
use Rattle.envelopes.specs.Crossing.{left_upto, upto_left_trans, fall_strict, le_upto_cross, ge_cross_upto, below_right_of_cross}
use Rattle.envelopes.specs.Bridge.{Chain, PastOuter, InPiece}
use Rattle.envelopes.proofs.Chains.{piece, piece_lowest, strictly_lowest}
use Rattle.envelopes.specs.Envelope.{Ordered, Env, First, listed}
use Rattle.envelopes.specs.EnvelopeLaws.{ordered_sublist, ordered_reverse, either_other, compare_lines, same_members}
use Rattle.envelopes.proofs.Listed.{stays_among, stays_mirror, listed_sub, listed_one, listed_stays, stays_listed, listed_exact, first_listed, listed_env}

module _ (S : Figure) (L : PseudoLines S) where
  -- a piece reaches further left from each of its points
  room : (a : ℕ → S.Line) (n k : ℕ) (x : S.Point) → InPiece S a n k x → (y : S.Point) × InPiece S a n k y × LeftOf S y x
  room a n zero x P =
      let (y, u) = L.left_of x in
      (y, record { inside = P.inside; outer = tt; inner = λ q. L.point_trans y x (S.cross (a zero) (a (suc zero))) (left_upto S L y x u) (P.inner q) }, u)
  room a n (suc k) x P =
      let (y, t, u) = L.between (S.cross (a k) (a (suc k))) x P.outer in (
        y,
        record {
          inside = P.inside;
          outer = t;
          inner = λ q. L.point_trans y x (S.cross (a (suc k)) (a (suc (suc k)))) (left_upto S L y x u)
              (P.inner q);
        },
        u,
      )

  -- in its piece a line of the envelope is at or below every line ..
  query_least :
      {ls es : List S.Line} → Env S ls es → (d : S.Line) (k : ℕ) (x : S.Point) → InPiece S (λ i. get_or es i d) (length es) k x → (l : S.Line) →
      Memᴰ l ls → T (S.at_most (get_or es k d) l x)
  query_least {ls} {es} E d k x P l m =
      let (e, i, h) = E.low x l m in
      let (j, b, q) = place_of d i in
      L.price_trans (get_or es k d) e l x
      (subst (λ (c : S.Line). T (S.at_most (get_or es k d) c x)) (sym q) (piece_lowest S L (λ i. get_or es i d) (length es) (E.chain d) x k j P b))
      h

  -- .. and strictly below the earlier ones: the first in order of all the lines that have the least price there
  pub query : {ls es : List S.Line} → Env S ls es → (d : S.Line) (k : ℕ) (x : S.Point) → InPiece S (λ i. get_or es i d) (length es) k x →
      First S ls (get_or es k d) x
  query {ls} {es} E d k x P =
      let (y, Q, u) = room (λ i. get_or es i d) (length es) k x P in
      record {
        one_of = sublist_mem E.sub (mem_at es k d P.inside);
        least = query_least E d k x P;
        earlier = λ l m p. L.rise_strict l (get_or es k d) y x p (query_least E d k y Q l m) u;
      }

  -- .. and only there
  pub first_in_piece :
      {ls es : List S.Line} → Env S ls es → (d : S.Line) (k : ℕ) (x : S.Point) → k < length es → First S ls (get_or es k d) x →
      InPiece S (λ i. get_or es i d) (length es) k x
  first_in_piece {ls} {es} E d k x b f =
      record {
        inside = b;
        outer = outside k b f;
        inner = λ q. le_upto_cross S L (get_or es k d) (get_or es (suc k) d) x (C.ordered k q)
            (f.least (get_or es (suc k) d) (sublist_mem E.sub (mem_at es (suc k) d q)));
      }
    where
      C : Chain S (λ i. get_or es i d) (length es)
      C = E.chain d

      outside : (k : ℕ) → k < length es → First S ls (get_or es k d) x → PastOuter S (λ i. get_or es i d) k x
      outside zero b f = tt
      outside (suc k) b f =
          below_right_of_cross S L (get_or es k d) (get_or es (suc k) d) x (C.ordered k b)
          (f.earlier (get_or es k d) (sublist_mem E.sub (mem_at es k d (omega arith))) (C.ordered k b))

  -- strictly left of its inner end, a line as low as any is the last in order of those: there is room on the right too
  pub query_last :
      {ls es : List S.Line} → Env S ls es → (d : S.Line) (k : ℕ) (x : S.Point) → k < length es →
      ((l : S.Line) → Memᴰ l ls → T (S.at_most (get_or es k d) l x)) → (suc k < length es → LeftOf S x (S.cross (get_or es k d) (get_or es (suc k) d))) →
      First (mirror S) ls (get_or es k d) x
  query_last {ls} {es} E d k x b least inner =
      let (y, Q, u) = beyond in
      record {
        one_of = sublist_mem E.sub (mem_at es k d b);
        least = least;
        earlier = λ l m p. fall_strict S L (get_or es k d) l x y p (query_least E d k y Q l m) u;
      }
    where
      -- the outer end lies at the point or left of it, so left of what lies further right
      past : (k : ℕ) → k < length es → ((l : S.Line) → Memᴰ l ls → T (S.at_most (get_or es k d) l x)) → (y : S.Point) → LeftOf S x y →
          PastOuter S (λ i. get_or es i d) k y
      past zero b least y u = tt
      past (suc k) b least y u =
          upto_left_trans S L (S.cross (get_or es k d) (get_or es (suc k) d)) x y
          (ge_cross_upto S L (get_or es k d) (get_or es (suc k) d) x ((E.chain d).ordered k b)
          (least (get_or es k d) (sublist_mem E.sub (mem_at es k d (omega arith)))))
          u

      beyond : (y : S.Point) × InPiece S (λ i. get_or es i d) (length es) k y × LeftOf S x y
      beyond =
          elim (dec_lt (suc k) (length es)) [
            | yes h ↦
                let (y, u, v) = L.between x (S.cross (get_or es k d) (get_or es (suc k) d)) (inner h) in
                (y, record { inside = b; outer = past k b least y u; inner = λ q. left_upto S L y (S.cross (get_or es k d) (get_or es (suc k) d)) v }, u)
            | no h ↦
                let (y, u) = L.right_of x in
                (y, record { inside = b; outer = past k b least y u; inner = λ q. absurd (h q) }, u)
          ]

  -- every line of an envelope is the first among the lowest somewhere
  pub env_first : {ls es : List S.Line} → Env S ls es → (e : S.Line) → Memᴰ e es → (x : S.Point) × First S ls e x
  env_first {ls} {es} E e m =
      let (k, b, q) = place_of e m in
      let (x, s) = strictly_lowest S L (λ i. get_or es i e) (length es) (E.chain e) k b in
      let (j, P) = piece S L (λ i. get_or es i e) (length es) (E.chain e) x (omega arith) in
      let f : First S ls (get_or es j e) x = query E e j x P in
      elim (ℕ_discrete j k) [
        | yes p ↦ (x, subst (λ (c : S.Line). First S ls c x) (sym q) (subst (λ (i : ℕ). First S ls (get_or es i e) x) p f))
        | no p ↦ absurd (s j P.inside p (f.least (get_or es k e) (sublist_mem E.sub (mem_at es k e b))))
      ]

  -- the lower envelope is the listing
  pub env_listed : (ls es : List S.Line) → Ordered S ls → Env S ls es → es ≡ listed S ls
  env_listed ls es o E =
      same_members S L es (listed S ls) (ordered_sublist S E.sub o) (ordered_sublist S (listed_sub S ls) o)
      (λ e m. let (x, f) = env_first E e m in first_listed S L ls e x f)
      (λ e m.
      let (x, c) = (listed_exact S L ls o e).0 m in
      let (f, i, h) = E.low x e c.one_of in
      ⊎_elim
      (λ (q : e ≡ f). mathlib.Core.List.Memᴰ.cast q i)
      (λ p. absurd (c.below f (sublist_mem E.sub i) (either_other S L e f p) h))
      (compare_lines S L o c.one_of (sublist_mem E.sub i)))

  -- so Env says: es is the listing
  pub env_exact : (ls es : List S.Line) → Ordered S ls → Env S ls es ↔ (es ≡ listed S ls)
  env_exact ls es o = (env_listed ls es o, λ e. rw e (listed_env S L ls o))

  pub env_unique : (ls es fs : List S.Line) → Ordered S ls → Env S ls es → Env S ls fs → es ≡ fs
  env_unique ls es fs o E F = env_listed ls es o E ∙ sym (env_listed ls fs o F)

  -- the envelope turned round is the envelope in the mirror image
  pub env_mirror : (ls es : List S.Line) → Ordered S ls → Env S ls es → Env (mirror S) (reverse ls) (reverse es)
  env_mirror ls es o E =
      let r : Ordered (mirror S) (reverse ls) = ordered_reverse S ls o in
      rw
      (same_members (mirror S) (mirror_laws S L) (reverse es) (listed (mirror S) (reverse ls)) (ordered_reverse S es (ordered_sublist S E.sub o))
      (ordered_sublist (mirror S) (listed_sub (mirror S) (reverse ls)) r)
      (λ e m.
      let i : Memᴰ e (listed S ls) = subst (Memᴰ e) (env_listed ls es o E) (mem_unreverse es m) in
      stays_listed (mirror S) (reverse ls) e (mem_reverse (listed_one S ls e i))
      (stays_among (mirror S) ls (reverse ls) e (λ a. mem_unreverse ls) (stays_mirror S ls e (listed_stays S ls e i))))
      (λ e m.
      mem_reverse
      (subst (Memᴰ e) (sym (env_listed ls es o E))
      (stays_listed S ls e (mem_unreverse ls (listed_one (mirror S) (reverse ls) e m))
      (stays_among S (reverse ls) ls e (λ a. mem_reverse) (stays_mirror (mirror S) (reverse ls) e (listed_stays (mirror S) (reverse ls) e m)))))))
      (listed_env (mirror S) (mirror_laws S L) (reverse ls) r)
