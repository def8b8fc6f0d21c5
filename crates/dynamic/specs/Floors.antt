-- The floor under an update: it stays when an inner node goes, and when one is made together with a pair of its own.
use Rattle.std.specs.Prelude.{◌≡◌, refl}
use Rattle.std.proofs.Common.{sym, ap, subst}
use mathlib.Core.List.{List, [], ◌∷◌, ◌++◌, Memᴰ}
use Rattle.envelopes.specs.PseudoLines.{Figure}
use Rattle.dynamic.specs.OfferTree.{Pair}
use Rattle.dynamic.specs.Work.{Inner, Holds, Floor, floor_none, floor_had, floor_own}

-- The second list is the first with one more element, somewhere.
pub data Added {A : Type 0} (a : A) : List A → List A → Type 0 where
  added_here : {x : A} {xs : List A} → a ≡ x → Added a xs (x ∷ xs)
  added_there : {x : A} {xs ys : List A} → Added a xs ys → Added a (x ∷ xs) (x ∷ ys)

module _ {A : Type 0} where
  pub added_between : (xs : List A) {a : A} (ys : List A) → Added a (xs ++ ys) (xs ++ a ∷ ys)
  added_between [] ys = added_here refl
  added_between (x ∷ xs) ys = added_there (added_between xs ys)

  pub added_behind : (xs : List A) {a : A} {ys zs : List A} → Added a ys zs → Added a (xs ++ ys) (xs ++ zs)
  added_behind [] h = h
  added_behind (x ∷ xs) h = added_there (added_behind xs h)

  pub added_last : (xs : List A) {a : A} → Added a xs (xs ++ a ∷ [])
  added_last [] = added_here refl
  added_last (x ∷ xs) = added_there (added_last xs)

  -- of two elements added one after the other, the second may come first
  exchange : {a b : A} {xs ys zs : List A} → Added a xs ys → Added b ys zs → (ws : List A) × Added b xs ws × Added a ws zs
  exchange {xs} p (added_here {x} e) = (x ∷ xs, added_here e, added_there p)
  exchange (added_here d) (added_there {ys = zs} q) = (zs, q, added_here d)
  exchange (added_there {x = x} {xs = xs} p) (added_there q) =
      let (ws, s, t) = exchange {xs = xs} p q in
      (x ∷ ws, added_there s, added_there t)

  -- the place of an added element
  record Place (a : A) (xs ys : List A) : Type 0 where
    front : List A
    back : List A
    without : xs ≡ front ++ back
    with : ys ≡ front ++ a ∷ back

  place : {a : A} {xs ys : List A} → Added a xs ys → Place a xs ys
  place {xs} (added_here {x} e) = record { front = []; back = xs; without = refl; with = ap (λ y. y ∷ xs) (sym e) }
  place (added_there {x = x} p) =
      let q = place p in
      record { front = x ∷ q.front; back = q.back; without = ap (λ l. x ∷ l) q.without; with = ap (λ l. x ∷ l) q.with }

module _ (S : Figure) (before : List (Inner S.Line)) where
  own :
      {n : Inner S.Line} {ns : List (Inner S.Line)} {p : Pair S.Line} {rest log : List (Pair S.Line)} →
      Added p rest log →
      Holds S n p →
      Floor S before ns rest →
      Floor S before (n ∷ ns) log
  own {ns} {p} h k f =
      let q = place h in
      floor_own q.front p q.back q.with k (subst (Floor S before ns) q.without f)

  -- more pairs do no harm
  floor_more :
      {ns : List (Inner S.Line)} {p : Pair S.Line} {log more : List (Pair S.Line)} → Added p log more → Floor S before ns log → Floor S before ns more
  floor_more h floor_none = floor_none
  floor_more h (floor_had k f) = floor_had k (floor_more h f)
  floor_more {p = q} {more = more} h (floor_own xs p ys e k f) =
      let (ws, s, t) = exchange (added_between xs ys) (subst (λ l. Added q l more) e h) in
      own t k (floor_more s f)

  -- an inner node goes
  pub floor_drop :
      {n : Inner S.Line} {ns ms : List (Inner S.Line)} {log : List (Pair S.Line)} → Added n ns ms → Floor S before ms log → Floor S before ns log
  floor_drop (added_here e) (floor_had k f) = f
  floor_drop (added_here e) (floor_own xs p ys d k f) =
      subst (Floor S before _) (sym d) (floor_more (added_between xs ys) f)
  floor_drop (added_there h) (floor_had k f) = floor_had k (floor_drop h f)
  floor_drop (added_there h) (floor_own xs p ys d k f) = floor_own xs p ys d k (floor_drop h f)

  -- an inner node comes, and a pair that holds its children's envelopes
  pub floor_add :
      {n : Inner S.Line} {ns ms : List (Inner S.Line)} {p : Pair S.Line} {log more : List (Pair S.Line)} →
      Added n ns ms →
      Added p log more →
      Holds S n p →
      Floor S before ns log →
      Floor S before ms more
  floor_add {p} (added_here e) q k f = own q (subst (λ m. Holds S m p) e k) f
  floor_add (added_there h) q k (floor_had j f) = floor_had j (floor_add h q k f)
  floor_add {p = p} {more = more} (added_there h) q k (floor_own xs r ys d j f) =
      let (ws, s, t) = exchange (added_between xs ys) (subst (λ l. Added p l more) d q) in
      own t j (floor_add h s k f)

  -- nodes that were there before
  pub floor_old : (ns : List (Inner S.Line)) → ((n : Inner S.Line) → Memᴰ n ns → Memᴰ n before) → Floor S before ns []
  floor_old [] h = floor_none
  floor_old (n ∷ ns) h = floor_had (n, h n (Memᴰ.head refl), refl) (floor_old ns (λ m i. h m (Memᴰ.tail i)))
