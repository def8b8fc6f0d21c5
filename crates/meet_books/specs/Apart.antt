-- Two books whose rates stand apart: of lines by falling rate the last of the first book and the first of the second decide for all lines, and so for all
-- live offers.
use Rattle.std.specs.Prelude.{◌≡◌, refl, ◌⊎◌, Bool, true, false, not, ℕ, T, ℤ}
use Rattle.std.proofs.Common.{sym, ◌∙◌, ap, ap₂, subst, inl, inr, ⊎_elim, arith, T_not}
use mathlib.Core.List.Memᴰ
use mathlib.Core.List.{List, [], ◌∷◌, ◌++◌, Memᴰ}
use Rattle.std.proofs.Math.Option.{Option, some}
use Rattle.std.specs.Int.Signed.{lt_z}
use Rattle.lists.specs.Filter.{keep, keep_all, keep_append}
use Rattle.lists.specs.Firsts.{firsts_sub}
use Rattle.lists.specs.Places.{sublist_mem}
use Rattle.lists.specs.Tests.{any, not_any, none_at}
use Rattle.lists.specs.Bools.{not_failed, twice}
use Rattle.integers.specs.Parts.{int_rules}
use Rattle.offers.specs.Offers.{Offer, precedes}
use Rattle.envelopes.specs.Envelope.{Ordered}
use Rattle.envelopes.specs.EnvelopeLaws.{ordered_left, ordered_apart, ordered_pairs}
use Rattle.plain.specs.Book.{State, first_of_each}
use Rattle.trees.specs.Tree.{Tree, leaf, node, leaves, first, last}
use Rattle.trees.specs.Leaves.{first_leaf, last_leaf}
use Rattle.trees.specs.Order.{up_to_last}
use Rattle.dynamic.specs.OfferTree.{Held, held_shape}
use Rattle.dynamic.specs.Valid.{book_lines}
use Rattle.table.specs.Fields.{most_nodes, offer_tree, offers_root_word, rate_field}
use Rattle.table.specs.Words.{Words, word, up_to}
use Rattle.table.specs.Layout.{cell}
use Rattle.table.specs.Items.{Item}
use Rattle.table.specs.Rep.{Rep}
use Rattle.descents.specs.Ends.{Ended}
use Rattle.pieces.specs.Pieces.{rate_of, items}
use Rattle.form.specs.Form.{Book}
use Rattle.form.specs.Live.{line_offer, line_of_rate}
use Rattle.form.specs.HeaderWords.{offers_read}

-- every line of the one before every line of the other
abbrev pub AllBefore : (ls rs : List Item) → Type 0
AllBefore ls rs = (a b : Item) → Memᴰ a ls → Memᴰ b rs → T (items.before a b)

-- what the code's test says of two books that are not empty
pub record SetsApart (w w' : Words) (r : Bool) : Type 0 where
  pub apart : r ≡ true → {s s' : State} {h h' : Held Item} → Book w s (some h) → Book w' s' (some h') → AllBefore (book_lines (some h)) (book_lines (some h'))
  pub mixed : r ≡ false → {s s' : State} {h h' : Held Item} → Book w s (some h) → Book w' s' (some h') →
      T (any (λ a. any (λ b. not (lt_z b.rate a.rate)) s'.offers) s.offers)

-- ---- the ends decide

-- of lines in order each is the first, or behind it
from_first : (t : Tree Item) → Ordered items (leaves t) → (a : Item) → Memᴰ a (leaves t) → (a ≡ first t) ⊎ T (items.before (first t) a)
from_first (leaf x) o a m = inl (Memᴰ.eq_of_singleton m)
from_first (node l r) o a m =
    ⊎_elim (λ k. from_first l (ordered_left items (leaves l) (leaves r) o) a k)
    (λ k. inr (ordered_apart items (leaves l) (leaves r) o (first l) a (first_leaf l) k)) (Memᴰ.append_cases (leaves l) m)

ends_decide : (s t : Tree Item) → Ordered items (leaves s) → Ordered items (leaves t) → T (items.before (last s) (first t)) → AllBefore (leaves s) (leaves t)
ends_decide s t o p h a b m n = go (up_to_last s (ordered_pairs o) m) (from_first t p b n)
  where
    go : (a ≡ last s) ⊎ T (items.before a (last s)) → (b ≡ first t) ⊎ T (items.before (first t) b) → T (items.before a b)
    go (inl d) (inl e) = subst (λ (x : Item). T (items.before x b)) (sym d) (subst (λ (x : Item). T (items.before (last s) x)) (sym e) h)
    go (inl d) (inr q) = subst (λ (x : Item). T (items.before x b)) (sym d) (omega (arith, int_rules))
    go (inr k) (inl e) = subst (λ (x : Item). T (items.before a x)) (sym e) (omega (arith, int_rules))
    go (inr k) (inr q) = omega (arith, int_rules)

-- ---- the live offers

-- a pair that is not in order is found by the trial
some_mixed : (os os' : List Offer) {o p : Offer} → Memᴰ o os → Memᴰ p os' → T (not (precedes o p)) →
    T (any (λ x. any (λ y. not (lt_z y.rate x.rate)) os') os)
some_mixed os os' {o} {p} m n t =
    not_failed (any (λ x. any (λ y. not (lt_z y.rate x.rate)) os') os)
    (λ k. T_not (any (λ y. not (lt_z y.rate o.rate)) os') (none_at (λ x. any (λ y. not (lt_z y.rate x.rate)) os') os k o m) inner)
  where
    inner : T (any (λ y. not (lt_z y.rate o.rate)) os')
    inner = not_failed (any (λ y. not (lt_z y.rate o.rate)) os')
        (λ k. T_not (not (lt_z p.rate o.rate)) (none_at (λ y. not (lt_z y.rate o.rate)) os' k p n) t)

-- every offer of the one book has a higher rate than every offer of the other
abbrev pub AllAbove : (os os' : List Offer) → Type 0
AllAbove os os' = (o p : Offer) → Memᴰ o os → Memᴰ p os' → T (precedes o p)

-- and where that is so there is no such pair
pub not_mixed : (os os' : List Offer) → AllAbove os os' → T (not (any (λ x. any (λ y. not (lt_z y.rate x.rate)) os') os))
not_mixed os os' h =
    not_any (λ x. any (λ y. not (lt_z y.rate x.rate)) os') os
    (λ o m. not_any (λ y. not (lt_z y.rate o.rate)) os' (λ p n. twice (lt_z p.rate o.rate) (h o p m n)))

-- the live offers have the rates of the lines
pub offers_above : {w w' : Words} {s s' : State} {held held' : Option (Held Item)} → Book w s held → Book w' s' held' →
    AllBefore (book_lines held) (book_lines held') → AllAbove s.offers s'.offers
offers_above b b' h o p m n =
    let (x, i, d) = line_of_rate b m in
    let (y, j, e) = line_of_rate b' n in
    let k = h x y i j in
    omega (arith, int_rules)

-- ---- the first offers of both books

-- are those of the one and those of the other
pub firsts_apart : (os os' : List Offer) → AllAbove os os' → first_of_each (os ++ os') ≡ first_of_each os ++ first_of_each os'
firsts_apart [] os' h = refl
firsts_apart (o ∷ os) os' h =
    ap {B = List Offer} (λ (r : List Offer). o ∷ r)
    (ap (keep (precedes o)) (firsts_apart os os' (λ x p m n. h x p (Memᴰ.tail m) n)) ∙ keep_append (precedes o) (first_of_each os) (first_of_each os')
    ∙ ap (λ (r : List Offer). keep (precedes o) (first_of_each os) ++ r)
    (keep_all (precedes o) (first_of_each os') (λ p n. h o p (Memᴰ.head refl) (sublist_mem (firsts_sub precedes os') n))))

-- ---- the ends that the code found

module _ {w : Words} {s : State} {x : ℕ} {h : Held Item} (b : Book w s (some h)) (at_root : x ≡ up_to most_nodes (word w offers_root_word)) where
  offers_rep : Rep w offer_tree x (held_shape h)
  offers_rep = record { kind = omega arith; root = at_root ∙ offers_read b; slots = b.offers.offers_in.slots; tied = b.offers.offers_in.tied }

  last_rate : {e : ℕ} → Ended w offer_tree true x e → cell w rate_field e ≡ rate_of (last (held_shape h))
  last_rate f = ap (cell w rate_field) (f.is (held_shape h) offers_rep b.offers.offers_in.right.balanced)
      ∙ (b.offers.offers_in.kept.held (last_leaf (held_shape h))).rate

  first_rate : {e : ℕ} → Ended w offer_tree false x e → cell w rate_field e ≡ rate_of (first (held_shape h))
  first_rate f = ap (cell w rate_field) (f.is (held_shape h) offers_rep b.offers.offers_in.right.balanced)
      ∙ (b.offers.offers_in.kept.held (first_leaf (held_shape h))).rate

pub sets_apart :
    {w w' : Words} {x y a b : ℕ} {rate : ℤ} {r : Bool} →
    x ≡ up_to most_nodes (word w offers_root_word) → y ≡ up_to most_nodes (word w' offers_root_word) → Ended w offer_tree true x a → Ended w' offer_tree false y b →
    rate ≡ cell w' rate_field b → r ≡ lt_z rate (cell w rate_field a) →
    SetsApart w w' r
sets_apart {w} {w'} {x} {y} {a} {b} {rate} {r} ex ey ea eb er e =
    record {
      apart = λ d {s} {s'} {h} {h'} p q. ends_decide (held_shape h) (held_shape h') p.offers.offers_in.right.ordered
          q.offers.offers_in.right.ordered (subst T (sym d ∙ tested p q) tt);
      mixed = λ d {s} {s'} {h} {h'} p q. some_mixed s.offers s'.offers (line_offer p (last_leaf (held_shape h)))
          (line_offer q (first_leaf (held_shape h'))) (subst (λ (z : Bool). T (not z)) (sym d ∙ tested p q) tt);
    }
  where
    tested : {s s' : State} {h h' : Held Item} → Book w s (some h) → Book w' s' (some h') → r ≡ items.before (last (held_shape h)) (first (held_shape h'))
    tested p q = e ∙ ap₂ lt_z (er ∙ first_rate q ey eb) (last_rate p ex ea)
