-- The merge of two envelopes: the left lines up to u and the right lines from v are the envelope of both exactly if (u, v) is the bridge.
use Rattle.std.specs.Prelude.{ℕ, suc, ◌-◌, ◌<◌, ◌≡◌, refl, ◌⊎◌, ◌↔◌, T, length, get_or, take, drop}
use Rattle.std.proofs.Common.{arith, sym, subst, ◌∙◌, inl, inr, ⊎_elim, length-append, length-drop, length-take-le, take-suc, drop-cons}
use mathlib.Core.List.{List, ◌∷◌, ◌++◌, reverse, Memᴰ}
use mathlib.Core.List.Sublistᴰ
use mathlib.Core.List.{Sublistᴰ}
use Rattle.std.proofs.lemmas.List.{length-reverse}
use Rattle.std.proofs.Math.Seq.{append_snoc, get_or-append_seam, split_at}
use Rattle.lists.specs.Places.{mem_at, sublist_mem, mem_reverse, mem_unreverse, get_d_reverse_about, get_d_next}
use Rattle.envelopes.specs.PseudoLines.{Figure, LeftOf, PseudoLines, mirror, mirror_laws}
use Rattle.envelopes.specs.Crossing.{left_upto, left_upto_trans, le_upto_cross, ge_cross_upto, below_right_of_cross, left_of_cross}
use Rattle.envelopes.specs.Bridge.{InPiece, Facing, Bridge}
use Rattle.envelopes.proofs.Chains.{turn_in_piece}
use Rattle.envelopes.specs.Envelope.{Ordered, Env, First, listed}
use Rattle.envelopes.specs.EnvelopeLaws.{ordered_head, ordered_left, ordered_right, ordered_apart, ordered_sublist, not_both, same_members}
use Rattle.envelopes.proofs.Listed.{Stays, first_among_fewer, stays_among, stays_mirror, listed_sub, listed_one, listed_stays, stays_listed}
use Rattle.envelopes.proofs.Listed.{first_stays, listed_env}
use Rattle.envelopes.proofs.Query.{query, first_in_piece, env_listed, env_mirror}

-- ms are the lines of ls and rs, the first all before the second.
record Both (S : Figure) (ls rs ms : List S.Line) : Type 0 where
  left : (a : S.Line) → Memᴰ a ls → Memᴰ a ms
  right : (a : S.Line) → Memᴰ a rs → Memᴰ a ms
  either : (a : S.Line) → Memᴰ a ms → Memᴰ a ls ⊎ Memᴰ a rs
  apart : (a b : S.Line) → Memᴰ a ls → Memᴰ b rs → T (S.before a b)

-- At their crossing u is the first among the lowest of ls, and v the last among the lowest of rs. This is the bridge, told by lines.
pub record Meet (S : Figure) (ls rs : List S.Line) (u v : S.Line) : Type 0 where
  pub on_left : First S ls u (S.cross u v)
  pub on_right : First (mirror S) rs v (S.cross u v)

both_mirror : (S : Figure) (ls rs ms : List S.Line) → Both S ls rs ms → Both (mirror S) rs ls ms
both_mirror S ls rs ms J = record { left = J.right; right = J.left; either = λ a m. ⊎_elim inr inl (J.either a m); apart = λ a b m n. J.apart b a n m }

meet_mirror : (S : Figure) (ls rs : List S.Line) (u v : S.Line) → Meet S ls rs u v → Meet (mirror S) rs ls v u
meet_mirror S ls rs u v M = record { on_left = M.on_right; on_right = M.on_left }

-- A line of the left stays among both exactly if it stays on the left and is not after u.
module _ (S : Figure) (L : PseudoLines S) (ls rs ms : List S.Line) (J : Both S ls rs ms) (u v : S.Line) (M : Meet S ls rs u v) where
  -- u is at or below every right line at the crossing
  under_right : (b : S.Line) → Memᴰ b rs → T (S.at_most u b (S.cross u v))
  under_right b n = L.price_trans u v b (S.cross u v) (L.cross_le u v (J.apart u v M.on_left.one_of M.on_right.one_of)) (M.on_right.least b n)

  first_both : First S ms u (S.cross u v)
  first_both =
      record {
        one_of = J.left u M.on_left.one_of;
        least = λ l m. ⊎_elim (M.on_left.least l) (under_right l) (J.either l m);
        earlier = λ l m p. ⊎_elim (λ n. M.on_left.earlier l n p) (λ n. absurd (not_both S L u l (J.apart u l M.on_left.one_of n) p)) (J.either l m);
      }

  -- with an earlier line a, all three on the left, and a right line b: at the crossing with u the line is on or below b
  stays_across : (e a b : S.Line) → Stays S ls e → T (S.before e u) → Memᴰ e ls → Memᴰ a ls → Memᴰ b rs → T (S.before a e) →
      LeftOf S (S.cross a e) (S.cross e b)
  stays_across e a b h r i m n p =
      let x : S.Point = S.cross e u in
      let q : S.Point = S.cross u v in
      left_upto_trans S L (S.cross a e) x (S.cross e b) (h a u m M.on_left.one_of p r)
      (le_upto_cross S L e b x (J.apart e b i n)
      (L.price_trans e u b x (L.cross_le e u r)
      (L.fall u b x q (J.apart u b M.on_left.one_of n) (under_right b n)
      (left_upto S L x q (below_right_of_cross S L e u q r (M.on_left.earlier e i r))))))

  stays_both : (e : S.Line) → Memᴰ e ls → Stays S ls e → (e ≡ u) ⊎ T (S.before e u) → Stays S ms e
  stays_both e i h (inl r) = subst (λ (c : S.Line). Stays S ms c) (sym r) (first_stays S L ms u (S.cross u v) first_both)
  stays_both e i h (inr r) =
      λ a b m n p q. ⊎_elim
      (λ m'. ⊎_elim (λ n'. h a b m' n' p q) (λ n'. stays_across e a b h r i m' n' p) (J.either b n))
      (λ m'. absurd (not_both S L a e p (J.apart e a i m')))
      (J.either a m)

  goes_both : (e : S.Line) → Memᴰ e ls → Stays S ms e → ¬ T (S.before u e)
  goes_both e i h p =
      let q : S.Point = S.cross u v in
      let g : T (S.before e v) = J.apart e v i M.on_right.one_of in
      h u v (J.left u M.on_left.one_of) (J.right v M.on_right.one_of) p g
      (L.point_trans (S.cross e v) q (S.cross u e)
      (ge_cross_upto S L e v q g (L.price_trans v u e q (L.cross_ge u v (J.apart u v M.on_left.one_of M.on_right.one_of)) (M.on_left.least e i)))
      (le_upto_cross S L u e q p (M.on_left.least e i)))

-- Of neighbours in an envelope the earlier is the first among the lowest at their crossing.
neighbours_first : (S : Figure) → PseudoLines S → (ms B D : List S.Line) (u v : S.Line) → Env S ms (B ++ u ∷ v ∷ D) → First S ms u (S.cross u v)
neighbours_first S L ms B D u v G =
    let es : List S.Line = B ++ u ∷ v ∷ D in
    let k : ℕ = length B in
    let P : InPiece S (λ i. get_or es i u) (length es) k (S.cross (get_or es k u) (get_or es (suc k) u)) =
    turn_in_piece S L (λ i. get_or es i u) (length es) (G.chain u) k (omega (arith, length-append B (u ∷ v ∷ D)))
    in
    rw (get_or-append_seam B u (v ∷ D) u, get_d_next B u v D u) at (query S L G u k (S.cross (get_or es k u) (get_or es (suc k) u)) P)

-- The two envelopes about u and v, and both sets of lines.
module _
    (S : Figure)
    (L : PseudoLines S)
    (ls rs B A C D : List S.Line)
    (u v : S.Line)
    (o : Ordered S (ls ++ rs))
    (E : Env S ls (B ++ u ∷ A))
    (F : Env S rs (C ++ v ∷ D))
  where
    both : Both S ls rs (ls ++ rs)
    both = record {
      left = λ a. mathlib.Core.List.Memᴰ.append_left rs;
      right = λ a. mathlib.Core.List.Memᴰ.append_right ls;
      either = λ a. mathlib.Core.List.Memᴰ.append_cases ls;
      apart =
          ordered_apart S ls rs o;
    }

    ordered_ls : Ordered S ls
    ordered_ls = ordered_left S ls rs o

    ordered_rs : Ordered S rs
    ordered_rs = ordered_right S ls rs o

    ordered_left_pieces : Ordered S (B ++ u ∷ A)
    ordered_left_pieces = ordered_sublist S E.sub ordered_ls

    ordered_right_pieces : Ordered S (C ++ v ∷ D)
    ordered_right_pieces = ordered_sublist S F.sub ordered_rs

    merged_sub : Sublistᴰ (B ++ u ∷ v ∷ D) (ls ++ rs)
    merged_sub =
        rw (← append_snoc B u (v ∷ D))
        (Sublistᴰ.append
        (Sublistᴰ.trans (Sublistᴰ.append (Sublistᴰ.refl B) (Sublistᴰ.cons-cons refl (Sublistᴰ.nil-sublist A))) E.sub)
        (Sublistᴰ.trans (Sublistᴰ.append (Sublistᴰ.nil-sublist C) (Sublistᴰ.refl (v ∷ D))) F.sub))

    module _ (M : Meet S ls rs u v) where
      keeps_left : (e : S.Line) → Memᴰ e (B ++ u ∷ A) → (e ≡ u) ⊎ T (S.before e u) → Memᴰ e (listed S (ls ++ rs))
      keeps_left e m w =
          let i : Memᴰ e (listed S ls) = subst (Memᴰ e) (env_listed S L ls (B ++ u ∷ A) ordered_ls E) m in
          let k : Memᴰ e ls = listed_one S ls e i in
          stays_listed S (ls ++ rs) e (mathlib.Core.List.Memᴰ.append_left rs k) (stays_both S L ls rs (ls ++ rs) both u v M e k (listed_stays S ls e i) w)

      keeps_right : (e : S.Line) → Memᴰ e (C ++ v ∷ D) → (e ≡ v) ⊎ T (S.before v e) → Memᴰ e (listed S (ls ++ rs))
      keeps_right e m w =
          let i : Memᴰ e (listed S rs) = subst (Memᴰ e) (env_listed S L rs (C ++ v ∷ D) ordered_rs F) m in
          let k : Memᴰ e rs = listed_one S rs e i in
          stays_listed S (ls ++ rs) e (mathlib.Core.List.Memᴰ.append_right ls k)
          (stays_mirror (mirror S) (ls ++ rs) e
          (stays_both (mirror S) (mirror_laws S L) rs ls (ls ++ rs) (both_mirror S ls rs (ls ++ rs) both) v u (meet_mirror S ls rs u v M) e k
          (stays_mirror S rs e (listed_stays S rs e i)) w))

      merged_listed : B ++ u ∷ v ∷ D ≡ listed S (ls ++ rs)
      merged_listed =
          same_members S L (B ++ u ∷ v ∷ D) (listed S (ls ++ rs)) (ordered_sublist S merged_sub o) (ordered_sublist S (listed_sub S (ls ++ rs)) o) there
          (λ e m. ⊎_elim (back_left e m) (back_right e m) (mathlib.Core.List.Memᴰ.append_cases ls (listed_one S (ls ++ rs) e m)))
        where
          there : (e : S.Line) → Memᴰ e (B ++ u ∷ v ∷ D) → Memᴰ e (listed S (ls ++ rs))
          there e m =
              ⊎_elim
              (λ n. keeps_left e (mathlib.Core.List.Memᴰ.append_left (u ∷ A) n) (inr (ordered_apart S B (u ∷ A) ordered_left_pieces e u n (mathlib.Core.List.Memᴰ.head refl))))
              (λ n.
              ⊎_elim
              (λ (q : e ≡ u). keeps_left e (mathlib.Core.List.Memᴰ.append_right B (mathlib.Core.List.Memᴰ.head q)) (inl q))
              (λ k. keeps_right e (mathlib.Core.List.Memᴰ.append_right C k) (⊎_elim inl (λ t. inr (ordered_head S (ordered_right S C (v ∷ D) ordered_right_pieces) e t))
              (mathlib.Core.List.Memᴰ.cases_cons k)))
              (mathlib.Core.List.Memᴰ.cases_cons n))
              (mathlib.Core.List.Memᴰ.append_cases B m)

          back_left : (e : S.Line) → Memᴰ e (listed S (ls ++ rs)) → Memᴰ e ls → Memᴰ e (B ++ u ∷ v ∷ D)
          back_left e m i =
              let h : Stays S (ls ++ rs) e = listed_stays S (ls ++ rs) e m in
              ⊎_elim
              (λ n. mathlib.Core.List.Memᴰ.append_left (u ∷ v ∷ D) n)
              (λ n.
              ⊎_elim
              (λ (q : e ≡ u). mathlib.Core.List.Memᴰ.append_right B (mathlib.Core.List.Memᴰ.head q))
              (λ k. absurd (goes_both S L ls rs (ls ++ rs) both u v M e i h (ordered_head S (ordered_right S B (u ∷ A) ordered_left_pieces) e k)))
              (mathlib.Core.List.Memᴰ.cases_cons n))
              (mathlib.Core.List.Memᴰ.append_cases B
              (subst (Memᴰ e) (sym (env_listed S L ls (B ++ u ∷ A) ordered_ls E)) (stays_listed S ls e i (stays_among S (ls ++ rs) ls e both.left h))))

          back_right : (e : S.Line) → Memᴰ e (listed S (ls ++ rs)) → Memᴰ e rs → Memᴰ e (B ++ u ∷ v ∷ D)
          back_right e m i =
              let h : Stays S (ls ++ rs) e = listed_stays S (ls ++ rs) e m in
              ⊎_elim
              (λ n.
              absurd
              (goes_both (mirror S) (mirror_laws S L) rs ls (ls ++ rs) (both_mirror S ls rs (ls ++ rs) both) v u (meet_mirror S ls rs u v M) e i
              (stays_mirror S (ls ++ rs) e h)
              (ordered_apart S C (v ∷ D) ordered_right_pieces e v n (mathlib.Core.List.Memᴰ.head refl))))
              (λ n. mathlib.Core.List.Memᴰ.append_right B (mathlib.Core.List.Memᴰ.tail n))
              (mathlib.Core.List.Memᴰ.append_cases C
              (subst (Memᴰ e) (sym (env_listed S L rs (C ++ v ∷ D) ordered_rs F)) (stays_listed S rs e i (stays_among S (ls ++ rs) rs e both.right h))))

      pub meet_merges : Env S (ls ++ rs) (B ++ u ∷ v ∷ D)
      meet_merges = rw merged_listed (listed_env S L (ls ++ rs) o)

    -- conversely neighbours in the envelope of both that come from the two sides meet so
    pub merged_meets : Env S (ls ++ rs) (B ++ u ∷ v ∷ D) → Meet S ls rs u v
    merged_meets G =
        record {
          on_left = first_among_fewer S (ls ++ rs) ls u (S.cross u v) both.left one_left first;
          on_right =
              record {
                one_of = one_right;
                least = λ l n. L.price_trans v u l (S.cross u v) (L.cross_ge u v (ordered_apart S ls rs o u v one_left one_right))
                    (first.least l (mathlib.Core.List.Memᴰ.append_right ls n));
                earlier = λ l n p.
                    left_of_cross S L v l (S.cross u v) p
                    (stays u l (mathlib.Core.List.Memᴰ.append_left rs one_left) (mathlib.Core.List.Memᴰ.append_right ls n) (ordered_apart S ls rs o u v one_left one_right) p);
              };
        }
      where
        one_left : Memᴰ u ls
        one_left = sublist_mem E.sub (mathlib.Core.List.Memᴰ.append_right B (mathlib.Core.List.Memᴰ.head refl))

        one_right : Memᴰ v rs
        one_right = sublist_mem F.sub (mathlib.Core.List.Memᴰ.append_right C (mathlib.Core.List.Memᴰ.head refl))

        first : First S (ls ++ rs) u (S.cross u v)
        first = neighbours_first S L (ls ++ rs) B D u v G

        stays : Stays S (ls ++ rs) v
        stays = listed_stays S (ls ++ rs) v (subst (Memᴰ v) (env_listed S L (ls ++ rs) (B ++ u ∷ v ∷ D) o G)
            (mathlib.Core.List.Memᴰ.append_right B (mathlib.Core.List.Memᴰ.tail (mathlib.Core.List.Memᴰ.head refl))))

-- The two envelopes face each other.
pub env_facing :
    (S : Figure) →
    PseudoLines S →
    (ls rs us vs : List S.Line) (d : S.Line) →
    Ordered S (ls ++ rs) →
    Env S ls us →
    Env S rs vs →
    Facing S (λ k. get_or us k d) (length us) (λ k. get_or (reverse vs) k d) (length vs)
env_facing S L ls rs us vs d o E F =
    record {
      left = E.chain d;
      right = rw length-reverse at ((env_mirror S L rs vs (ordered_right S ls rs o) F).chain d);
      apart = λ i j p q.
          ordered_apart S ls rs o (get_or us i d) (get_or (reverse vs) j d) (sublist_mem E.sub (mem_at us i d p))
          (sublist_mem F.sub (mem_unreverse vs (mem_at (reverse vs) j d (rw length-reverse q))));
    }

-- The bridge by places, right lines counted from the last, is the meeting of the lines at those places.
module _ (S : Figure) (L : PseudoLines S) (ls rs A C : List S.Line) (o : Ordered S rs) (E : Env S ls A) (F : Env S rs C) (d : S.Line) (i j : ℕ) where
  pub bridge_meets : Bridge S (λ k. get_or A k d) (length A) (λ k. get_or (reverse C) k d) (length C) i j → Meet S ls rs (get_or A i d) (get_or (reverse C) j d)
  bridge_meets b =
      let q : S.Point = S.cross (get_or A i d) (get_or (reverse C) j d) in
      let f : First (mirror S) (reverse rs) (get_or (reverse C) j d) q =
      query (mirror S) (mirror_laws S L) (env_mirror S L rs C o F) d j q (rw length-reverse b.on_right)
      in
      record {
        on_left = query S L E d i q b.on_left;
        on_right = first_among_fewer (mirror S) (reverse rs) rs (get_or (reverse C) j d) q (λ a. mem_reverse) (mem_unreverse rs f.one_of) f;
      }

  pub meet_bridges : i < length A → j < length C → Meet S ls rs (get_or A i d) (get_or (reverse C) j d) →
      Bridge S (λ k. get_or A k d) (length A) (λ k. get_or (reverse C) k d) (length C) i j
  meet_bridges p q M =
      let x : S.Point = S.cross (get_or A i d) (get_or (reverse C) j d) in
      let f : First (mirror S) (reverse rs) (get_or (reverse C) j d) x =
      first_among_fewer (mirror S) rs (reverse rs) (get_or (reverse C) j d) x (λ a. mem_unreverse rs) (mem_reverse M.on_right.one_of) M.on_right
      in
      record {
        on_left = first_in_piece S L E d i x p M.on_left;
        on_right = rw length-reverse at (first_in_piece (mirror S) (mirror_laws S L) (env_mirror S L rs C o F) d j x (rw length-reverse q) f);
      }

-- The merge theorem, about u and v: they are the bridge exactly if the left lines up to u and the right ones from v are the envelope of both.
pub merge :
    (S : Figure) →
    PseudoLines S →
    (ls rs B A C D : List S.Line) (u v d : S.Line) →
    Ordered S (ls ++ rs) →
    Env S ls (B ++ u ∷ A) →
    Env S rs (C ++ v ∷ D) →
    Bridge S (λ k. get_or (B ++ u ∷ A) k d) (length (B ++ u ∷ A)) (λ k. get_or (reverse (C ++ v ∷ D)) k d) (length (C ++ v ∷ D)) (length B) (length D) ↔ Env S
    (ls ++ rs) (B ++ u ∷ v ∷ D)
merge S L ls rs B A C D u v d o E F =
    let p : get_or (B ++ u ∷ A) (length B) d ≡ u = get_or-append_seam B u A d in
    let q : get_or (reverse (C ++ v ∷ D)) (length D) d ≡ v = get_d_reverse_about C v D d in
    let r : Ordered S rs = ordered_right S ls rs o in (
      λ b. meet_merges S L ls rs B A C D u v o E F (rw (p, q) at (bridge_meets S L ls rs (B ++ u ∷ A) (C ++ v ∷ D) r E F d (length B) (length D) b)),
      λ G.
          meet_bridges S L ls rs (B ++ u ∷ A) (C ++ v ∷ D) r E F d (length B) (length D) (omega (arith, length-append B (u ∷ A)))
          (omega (arith, length-append C (v ∷ D)))
          (rw (p, q) (merged_meets S L ls rs B A C D u v o E F G)),
    )

-- The same of any two envelopes and places, once they are split there ..
pub merge_split :
    (S : Figure) →
    PseudoLines S →
    (ls rs us vs es B A C D : List S.Line) (u v d : S.Line) (i j : ℕ) →
    us ≡ B ++ u ∷ A →
    vs ≡ C ++ v ∷ D →
    es ≡ B ++ u ∷ v ∷ D →
    length B ≡ i →
    length D ≡ j →
    Ordered S (ls ++ rs) →
    Env S ls us →
    Env S rs vs →
    Bridge S (λ k. get_or us k d) (length us) (λ k. get_or (reverse vs) k d) (length vs) i j ↔ Env S (ls ++ rs) es
merge_split S L ls rs us vs es B A C D u v d i j p q r l m o E F = rw (p, q, r, ← l, ← m) (merge S L ls rs B A C D u v d o (rw p at E) (rw q at F))

-- .. and by places alone.
pub merge_at :
    (S : Figure) →
    PseudoLines S →
    (ls rs us vs : List S.Line) (d : S.Line) (i j : ℕ) →
    i < length us →
    j < length vs →
    Ordered S (ls ++ rs) →
    Env S ls us →
    Env S rs vs →
    Bridge S (λ k. get_or us k d) (length us) (λ k. get_or (reverse vs) k d) (length vs) i j ↔ Env S (ls ++ rs) (take (suc i) us ++ drop (length vs - suc j) vs)
merge_at S L ls rs us vs d i j p q o E F =
    let k : ℕ = length vs - suc j in
    let h : k < length vs = omega arith in
    merge_split S L ls rs us vs (take (suc i) us ++ drop k vs) (take i us) (drop (suc i) us) (take k vs) (drop (suc k) vs) (get_or us i d) (get_or vs k d) d i j
    (split_at us i d p)
    (split_at vs k d h)
    (rw (take-suc us i d, drop-cons vs k d) (append_snoc (take i us) (get_or us i d) (get_or vs k d ∷ drop (suc k) vs)))
    (length-take-le i us (omega arith))
    (length-drop (suc k) vs ∙ omega arith)
    o
    E
    F
