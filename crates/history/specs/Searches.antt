-- k's floor as a number: an update's log has at least as many pairs as there are inner nodes afterwards whose set of offers below no inner
-- node had before.
use Rattle.std.specs.Prelude.{◌≡◌, refl, suc, ◌≤◌, length}
use Rattle.std.proofs.Common.{sym, ap, subst, arith, length-append}
use mathlib.Core.List.{List, ◌∷◌, ◌++◌, Memᴰ, Sublistᴰ}
use Rattle.std.proofs.Math.Option.{Option}
use Rattle.envelopes.specs.PseudoLines.{Figure}
use Rattle.dynamic.specs.OfferTree.{Held, Pair}
use Rattle.dynamic.specs.Work.{Inner, Had, Floor, floor_none, floor_had, floor_own, book_inners, Work}

-- a pair that is taken out leaves one less
one_less : {A : Type 0} {log : List A} (xs : List A) (p : A) (ys : List A) → log ≡ xs ++ p ∷ ys → length log ≡ suc (length (xs ++ ys))
one_less xs p ys e = omega (arith, ap length e, length-append xs (p ∷ ys), length-append xs ys)

module _ (S : Figure) {before : List (Inner S.Line)} where
  floor_count :
      {ns news : List (Inner S.Line)} {log : List (Pair S.Line)} →
      Floor S before ns log → Sublistᴰ news ns → ((n : Inner S.Line) → Memᴰ n news → ¬ Had before n) → length news ≤ length log
  floor_count floor_none Sublistᴰ.slnil new = omega arith
  floor_count (floor_had h f) (Sublistᴰ.cons s) new = floor_count f s new
  floor_count (floor_had h f) (Sublistᴰ.cons-cons e s) new = absurd (new _ (Memᴰ.head refl) (subst (Had before) (sym e) h))
  floor_count (floor_own xs p ys e h f) (Sublistᴰ.cons s) new = let k = floor_count f s new in omega (arith, one_less xs p ys e)
  floor_count (floor_own xs p ys e h f) (Sublistᴰ.cons-cons d s) new = let k = floor_count f s (λ n m. new n (Memᴰ.tail m)) in
      omega (arith, one_less xs p ys e)

pub many_searches :
    (S : Figure) {before after : Option (Held S.Line)} {log : List (Pair S.Line)} → Work S before after log →
    (news : List (Inner S.Line)) → Sublistᴰ news (book_inners after) → ((n : Inner S.Line) → Memᴰ n news → ¬ Had (book_inners before) n) →
    length news ≤ length log
many_searches S w news s new = floor_count S w.floor s new
