-- The listing is exact: a line is listed if and only if at some point it is strictly below every other. And the listing is a lower envelope.
use Rattle.std.specs.Prelude.{suc, refl, ◌⊎◌, ◌↔◌, not, ◌&&◌, T, length, get_or}
use Rattle.std.proofs.Common.{arith, sym, inl, inr, ⊎_elim, T_not}
use mathlib.Core.List.Memᴰ
use mathlib.Core.List.{List, [], ◌∷◌, Memᴰ, Sublistᴰ}
use Rattle.std.proofs.Math.Dec.{not_T}
use Rattle.lists.specs.Members.{decide_true}
use Rattle.lists.specs.Filter.{every, every_at, every_all, keep_sublist, keep_passes, keep_in}
use Rattle.lists.specs.Places.{all_cons, mem_at, sublist_mem}
use Rattle.lists.specs.Bools.{and_both, and_left, and_right}
use Rattle.envelopes.specs.PseudoLines.{Figure, LeftOf, PseudoLines, mirror, mirror_laws}
use Rattle.envelopes.specs.Crossing.{price_refl, point_refl, below_le, left_upto_trans, upto_left_trans, left_trans, left_of_cross}
use Rattle.envelopes.specs.Crossing.{right_of_cross, le_upto_cross, below_left_of_cross, below_right_of_cross}
use Rattle.envelopes.specs.Bridge.{Chain}
use Rattle.envelopes.specs.Envelope.{Ordered, Env, Cheapest, First, stays, listed}
use Rattle.envelopes.specs.EnvelopeLaws.{ordered_head, ordered_tail, ordered_sublist, ordered_at, before_other, not_both, compare_lines}

-- The test `stays`, as a statement.
abbrev pub Stays : (S : Figure) → List S.Line → S.Line → Type 0
Stays S ls e = (a b : S.Line) → Memᴰ a ls → Memᴰ b ls → T (S.before a e) → T (S.before e b) → LeftOf S (S.cross a e) (S.cross e b)

module _ (S : Figure) where
  -- to be the first speaks of members only
  pub first_among_fewer : (ls ms : List S.Line) (e : S.Line) (x : S.Point) → ((a : S.Line) → Memᴰ a ms → Memᴰ a ls) → Memᴰ e ms →
      First S ls e x → First S ms e x
  first_among_fewer ls ms e x i m f = record { one_of = m; least = λ l n. f.least l (i l n); earlier = λ l n. f.earlier l (i l n) }

  -- so does to stay, and of both sides alike
  pub stays_among : (ls ms : List S.Line) (e : S.Line) → ((a : S.Line) → Memᴰ a ms → Memᴰ a ls) → Stays S ls e → Stays S ms e
  stays_among ls ms e i h a b m n = h a b (i a m) (i b n)

  pub stays_mirror : (ls : List S.Line) (e : S.Line) → Stays S ls e → Stays (mirror S) ls e
  stays_mirror ls e h a b m n p q = h b a n m q p

  pub stays_said : (ls : List S.Line) (e : S.Line) → T (stays S ls e) → Stays S ls e
  stays_said ls e t a b m n p q u =
      T_not (S.before a e && S.before e b && S.up_to (S.cross e b) (S.cross a e))
      (every_at (λ b. not (S.before a e && S.before e b && S.up_to (S.cross e b) (S.cross a e))) ls
      (every_at (λ a. every (λ b. not (S.before a e && S.before e b && S.up_to (S.cross e b) (S.cross a e))) ls) ls t a m) b n)
      (and_both (S.before a e && S.before e b) (S.up_to (S.cross e b) (S.cross a e)) (and_both (S.before a e) (S.before e b) p q) u)

  pub stays_holds : (ls : List S.Line) (e : S.Line) → Stays S ls e → T (stays S ls e)
  stays_holds ls e h =
      every_all (λ a. every (λ b. not (S.before a e && S.before e b && S.up_to (S.cross e b) (S.cross a e))) ls) ls λ a m.
      every_all (λ b. not (S.before a e && S.before e b && S.up_to (S.cross e b) (S.cross a e))) ls λ b n.
      not_T (S.before a e && S.before e b && S.up_to (S.cross e b) (S.cross a e)) λ t.
      let pq = and_left (S.before a e && S.before e b) (S.up_to (S.cross e b) (S.cross a e)) t in
      h a b m n (and_left (S.before a e) (S.before e b) pq) (and_right (S.before a e) (S.before e b) pq)
      (and_right (S.before a e && S.before e b) (S.up_to (S.cross e b) (S.cross a e)) t)

  pub listed_sub : (ls : List S.Line) → Sublistᴰ (listed S ls) ls
  unfolding listed
  listed_sub ls = keep_sublist (stays S ls) ls

  pub listed_one : (ls : List S.Line) (e : S.Line) → Memᴰ e (listed S ls) → Memᴰ e ls
  listed_one ls e m = sublist_mem (listed_sub ls) m

  pub listed_stays : (ls : List S.Line) (e : S.Line) → Memᴰ e (listed S ls) → Stays S ls e
  unfolding listed
  listed_stays ls e m = stays_said ls e (keep_passes (stays S ls) ls e m)

  pub stays_listed : (ls : List S.Line) (e : S.Line) → Memᴰ e ls → Stays S ls e → Memᴰ e (listed S ls)
  unfolding listed
  stays_listed ls e m h = keep_in (stays S ls) ls e m (stays_holds ls e h)

-- The earlier line whose crossing with e lies furthest right.
abbrev Last : (S : Figure) → List S.Line → S.Line → S.Line → Type 0
Last S ls e m = Memᴰ m ls × T (S.before m e) × ((a : S.Line) → Memᴰ a ls → T (S.before a e) → T (S.up_to (S.cross a e) (S.cross m e)))

-- Right of the crossings with earlier lines and left of those with later ones.
record Spot (S : Figure) (ls : List S.Line) (e : S.Line) (x : S.Point) : Type 0 where
  right_of : (a : S.Line) → Memᴰ a ls → T (S.before a e) → LeftOf S (S.cross a e) x
  left_of : (b : S.Line) → Memᴰ b ls → T (S.before e b) → LeftOf S x (S.cross e b)

module _ (S : Figure) (L : PseudoLines S) where
  -- no line is earlier, or one has the last crossing
  last_crossing : (e : S.Line) (ls : List S.Line) → ((a : S.Line) → Memᴰ a ls → ¬ T (S.before a e)) ⊎ ((m : S.Line) × Last S ls e m)
  last_crossing e [] = inl (λ a m. absurd (Memᴰ.not-nil m))
  last_crossing e (l ∷ ls) = step (decide_true (S.before l e)) (last_crossing e ls)
    where
      larger : (m : S.Line) → Last S ls e m → T (S.before l e) → T (S.up_to (S.cross l e) (S.cross m e)) ⊎ T (S.up_to (S.cross m e) (S.cross l e)) →
          (m : S.Line) × Last S (l ∷ ls) e m
      larger m (i, p, f) q (inl u) = (m, (Memᴰ.tail i, p, all_cons (λ _. u) f))
      larger m (i, p, f) q (inr u) = (
        l,
        (
          Memᴰ.head refl,
          q,
          all_cons (λ _. point_refl S L (S.cross l e)) (λ a n r. L.point_trans (S.cross a e) (S.cross m e) (S.cross l e)
              (f a n r) u),
        ),
      )

      step : Dec (T (S.before l e)) → ((a : S.Line) → Memᴰ a ls → ¬ T (S.before a e)) ⊎ ((m : S.Line) × Last S ls e m) →
          ((a : S.Line) → Memᴰ a (l ∷ ls) → ¬ T (S.before a e)) ⊎ ((m : S.Line) × Last S (l ∷ ls) e m)
      step (no n) (inl f) = inl (all_cons n f)
      step (no n) (inr (m, (i, p, f))) = inr (m, (Memᴰ.tail i, p, all_cons (λ q. absurd (n q)) f))
      step (yes q) (inl f) = inr (l, (Memᴰ.head refl, q, all_cons (λ _. point_refl S L (S.cross l e)) (λ a n r. absurd (f a n r))))
      step (yes q) (inr (m, M)) = inr (larger m M q (L.point_total (S.cross l e) (S.cross m e)))

module _ (S : Figure) (L : PseudoLines S) where
  spot : (ls : List S.Line) (e : S.Line) → Stays S ls e → (x : S.Point) × Spot S ls e x
  spot ls e h = step (last_crossing S L e ls) (last_crossing (mirror S) (mirror_laws S L) e ls)
    where
      step :
          ((a : S.Line) → Memᴰ a ls → ¬ T (S.before a e)) ⊎ ((m : S.Line) × Last S ls e m) →
          ((b : S.Line) → Memᴰ b ls → ¬ T (S.before e b)) ⊎ ((m : S.Line) × Last (mirror S) ls e m) →
          (x : S.Point) × Spot S ls e x
      step (inl f) (inl g) = (L.somewhere, record { right_of = λ a m p. absurd (f a m p); left_of = λ b m p. absurd (g b m p) })
      step (inl f) (inr (w, (k, q, g))) =
          let (x, u) = L.left_of (S.cross e w) in
          (x, record { right_of = λ a m p. absurd (f a m p); left_of = λ b m p. left_upto_trans S L x (S.cross e w) (S.cross e b) u (g b m p) })
      step (inr (v, (i, p, f))) (inl g) =
          let (x, u) = L.right_of (S.cross v e) in
          (x, record { right_of = λ a m q. upto_left_trans S L (S.cross a e) (S.cross v e) x (f a m q) u; left_of = λ b m q. absurd (g b m q) })
      step (inr (v, (i, p, f))) (inr (w, (k, q, g))) =
          let (x, u, t) = L.between (S.cross v e) (S.cross e w) (h v w i k p q) in (
            x,
            record {
              right_of = λ a m r. upto_left_trans S L (S.cross a e) (S.cross v e) x (f a m r) u;
              left_of = λ b m r. left_upto_trans S L x (S.cross e w) (S.cross e b) t (g b m r);
            },
          )

  -- the requirements' sentence (3.3): a line is listed if and only if at some point it is strictly below every other
  pub listed_exact : (ls : List S.Line) → Ordered S ls → (e : S.Line) → Memᴰ e (listed S ls) ↔ ((x : S.Point) × Cheapest S ls e x)
  listed_exact ls o e = (there, λ c. back c.0 c.1)
    where
      there : Memᴰ e (listed S ls) → (x : S.Point) × Cheapest S ls e x
      there m =
          let i = listed_one S ls e m in
          let (x, X) = spot ls e (listed_stays S ls e m) in (
            x,
            record {
              one_of = i;
              below = λ l k n.
                  ⊎_elim
                  (λ q. absurd (n q))
                  (⊎_elim (λ p. right_of_cross S L l e x p (X.right_of l k p)) (λ p. left_of_cross S L e l x p (X.left_of l k p)))
                  (compare_lines S L o k i);
            },
          )

      back : (x : S.Point) → Cheapest S ls e x → Memᴰ e (listed S ls)
      back x c =
          stays_listed S ls e c.one_of
          (λ a b m n p q.
          left_trans S L (S.cross a e) x (S.cross e b)
          (below_right_of_cross S L a e x p (c.below a m (before_other S L a e p)))
          (below_left_of_cross S L e b x q (c.below b n (λ r. before_other S L e b q (sym r)))))

  -- the first among the lowest at some point is listed
  pub first_stays : (ls : List S.Line) (e : S.Line) (x : S.Point) → First S ls e x → Stays S ls e
  first_stays ls e x f a b m n p q =
      left_upto_trans S L (S.cross a e) x (S.cross e b) (below_right_of_cross S L a e x p (f.earlier a m p)) (le_upto_cross S L e b x q (f.least b n))

  pub first_listed : (ls : List S.Line) (e : S.Line) (x : S.Point) → First S ls e x → Memᴰ e (listed S ls)
  first_listed ls e x f = stays_listed S ls e f.one_of (first_stays ls e x f)

  -- at every point some line is the first among the lowest
  first_of : (x : S.Point) (l : S.Line) (ls : List S.Line) → Ordered S (l ∷ ls) → (e : S.Line) × First S (l ∷ ls) e x
  first_of x l [] o = (
    l,
    record {
      one_of = Memᴰ.head refl;
      least = all_cons (price_refl S L l x) (λ a m. absurd (Memᴰ.not-nil m));
      earlier = all_cons (λ p. absurd (L.before_irrefl l p)) (λ a m. absurd (Memᴰ.not-nil m));
    },
  )
  first_of x l (k ∷ ls) o = step (first_of x k ls (ordered_tail S o))
    where
      step : (e : S.Line) × First S (k ∷ ls) e x → (e : S.Line) × First S (l ∷ k ∷ ls) e x
      step (e, f) =
          elim (decide_true (S.at_most l e x)) [
            | yes h ↦ (
              l,
              record {
                one_of = Memᴰ.head refl;
                least = all_cons (price_refl S L l x) (λ a m. L.price_trans l e a x h (f.least a m));
                earlier = all_cons (λ p. absurd (L.before_irrefl l p)) (λ a m p. absurd (not_both S L l a (ordered_head S o a m) p));
              },
            )
            | no h ↦ (
              e,
              record {
                one_of = Memᴰ.tail f.one_of;
                least = all_cons (below_le S L e l x h) f.least;
                earlier = all_cons (λ _. h) f.earlier;
              },
            )
          ]

  pub first_among : (x : S.Point) (ls : List S.Line) → Ordered S ls → {l : S.Line} → Memᴰ l ls → (e : S.Line) × First S ls e x
  first_among x [] o m = absurd (Memᴰ.not-nil m)
  first_among x (k ∷ ls) o m = first_of x k ls o

  -- ordered lines that all stay among themselves make up a chain
  pub stays_chain : (es : List S.Line) → Ordered S es → ((e : S.Line) → Memᴰ e es → Stays S es e) → (d : S.Line) →
      Chain S (λ i. get_or es i d) (length es)
  stays_chain es o h d =
      record {
        ordered = λ i q. ordered_at S es o d i (suc i) (omega arith) q;
        turning = λ i q.
            h (get_or es (suc i) d) (mem_at es (suc i) d (omega arith)) (get_or es i d) (get_or es (suc (suc i)) d) (mem_at es i d (omega arith))
            (mem_at es (suc (suc i)) d q)
            (ordered_at S es o d i (suc i) (omega arith) (omega arith)) (ordered_at S es o d (suc i) (suc (suc i)) (omega arith) q);
      }

  -- the listing is a lower envelope
  pub listed_env : (ls : List S.Line) → Ordered S ls → Env S ls (listed S ls)
  listed_env ls o =
      record {
        sub = listed_sub S ls;
        chain = stays_chain (listed S ls) (ordered_sublist S (listed_sub S ls) o) (λ e m a b i k. listed_stays S ls e m a b (listed_one S ls a i)
            (listed_one S ls b k));
        low = λ x l m. let (e, f) = first_among x ls o m in (e, first_listed ls e x f, f.least l m);
      }
