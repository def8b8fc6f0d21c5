-- A line of the least price at a point, and that the lines of an envelope fall to one and rise behind it.
use Rattle.std.specs.Prelude.{ℕ, zero, suc, ◌+◌, ◌<◌, ◌≤◌, ◌≡◌, refl, T, length, get_or}
use Rattle.std.proofs.Common.{arith, sym, ◌∙◌, subst, ⊎_elim, length-append, get_or-append-add}
use Rattle.std.proofs.Math.Decide.{dec_lt}
use mathlib.Core.List.Memᴰ
use mathlib.Core.List.{List, [], ◌∷◌, ◌++◌, reverse, Memᴰ}
use Rattle.std.proofs.Math.ListN.{get_or-append}
use Rattle.std.proofs.Math.Seq.{get_or-append_seam}
use Rattle.lists.specs.Bools.{not_refused}
use Rattle.lists.specs.Places.{place_of, mem_reverse, reverse_about}
use Rattle.envelopes.specs.PseudoLines.{Figure, PseudoLines, mirror, mirror_laws}
use Rattle.envelopes.specs.Crossing.{price_refl}
use Rattle.envelopes.specs.Bridge.{Chain}
use Rattle.envelopes.proofs.Chains.{outer_above, inner_above, turns_upto}
use Rattle.envelopes.specs.Envelope.{Ordered, Env}
use Rattle.envelopes.proofs.Query.{env_mirror}

-- One of the lines, at the point at or below every other. Of several, any: a tie is no matter here.
pub record Least (S : Figure) (es : List S.Line) (e : S.Line) (x : S.Point) : Type 0 where
  pub one_of : Memᴰ e es
  pub least : (l : S.Line) → Memᴰ l es → T (S.at_most e l x)

-- a line of a chain that is on or above an earlier one is on or below every later one
module _ (S : Figure) (L : PseudoLines S) (a : ℕ → S.Line) (n : ℕ) (K : Chain S a n) (x : S.Point) where
  pub turned : (i k j : ℕ) → i < k → k ≤ j → j < n → T (S.at_most (a i) (a k) x) → T (S.at_most (a k) (a j) x)
  turned i zero j h g b t = absurd (omega arith)
  turned i (suc k) j h g b t =
      elim (dec_lt (suc k) j) [
        | yes q ↦
            inner_above S L a n K x (suc k) j
            (λ r. L.point_trans x (S.cross (a k) (a (suc k))) (S.cross (a (suc k)) (a (suc (suc k)))) up (turns_upto S L a n K k (suc k) (omega arith) r))
            q b
        | no q ↦ subst (λ m. T (S.at_most (a (suc k)) (a m) x)) (omega arith) (price_refl S L (a (suc k)) x)
      ]
    where
      up : T (S.up_to x (S.cross (a k) (a (suc k))))
      up = not_refused (S.up_to x (S.cross (a k) (a (suc k)))) (λ l. outer_above S L a n K x (suc k) i (omega arith) l h t)

-- a list's chain
abbrev pub Chained : (S : Figure) → List S.Line → Type 0
Chained S es = (d : S.Line) → Chain S (λ i. get_or es i d) (length es)

module _ (S : Figure) (L : PseudoLines S) (x : S.Point) where
  pub later_least : (xs : List S.Line) (v : S.Line) (ys : List S.Line) → Chained S (xs ++ v ∷ ys) → (e : S.Line) → Memᴰ e xs →
      T (S.at_most e v x) → Least S (v ∷ ys) v x
  later_least xs v ys K e m t =
      record {
        one_of = Memᴰ.head refl;
        least = λ l k.
            let (i, h, p) = place_of v m in
            let (j, g, q) = place_of v k in
            let here : get_or (xs ++ v ∷ ys) (length xs) v ≡ v = get_or-append_seam xs v ys v in
            let first : get_or (xs ++ v ∷ ys) i v ≡ e = get_or-append xs (v ∷ ys) v i h ∙ sym p in
            let later : get_or (xs ++ v ∷ ys) (length xs + j) v ≡ l = get_or-append-add xs (v ∷ ys) j v ∙ sym q in
            rw (here, later) at
            (turned S L (λ z. get_or (xs ++ v ∷ ys) z v) (length (xs ++ v ∷ ys)) (K v) x i (length xs) (length xs + j) h (omega arith)
            (omega (arith, length-append xs (v ∷ ys))) (rw (here, first) t));
      }

-- the mirror image: a line before one that it is at or above
module _ (S : Figure) (L : PseudoLines S) (x : S.Point) where
  pub earlier_least : (ls xs : List S.Line) (u : S.Line) (ys : List S.Line) → Ordered S ls → Env S ls (xs ++ u ∷ ys) → (e : S.Line) →
      Memᴰ e ys → T (S.at_most e u x) → Least S (xs ++ u ∷ []) u x
  earlier_least ls xs u ys o E e m t =
      let K : Chained (mirror S) (reverse ys ++ u ∷ reverse xs) = rw (reverse_about xs u ys) at (env_mirror S L ls (xs ++ u ∷ ys) o E).chain in
      let M = later_least (mirror S) (mirror_laws S L) x (reverse ys) u (reverse xs) K e (mem_reverse m) t in
      record {
        one_of = Memᴰ.append_right xs (Memᴰ.head refl);
        least = λ l k.
            M.least l
            (⊎_elim (λ i. Memᴰ.tail (mem_reverse i)) (λ i. Memᴰ.head (Memᴰ.eq_of_singleton i)) (Memᴰ.append_cases xs k));
      }
