-- Theorems on specs/Plain.
use Rattle.std.specs.Prelude.{◌≡◌, Bool, T, ℤ, length}
use Rattle.std.proofs.Common.{sym, ◌∙◌, ap, subst, arith}
use mathlib.Core.List.Memᴰ
use mathlib.Core.List.{List, [], ◌∷◌, map, Memᴰ, Pairwise}
use Rattle.std.proofs.lemmas.Bool.{lt-leb}
use Rattle.lists.specs.Bools.{is_true}
use Rattle.offers.specs.Offers.{Offer, price_at, ahead, load_in_range}
use Rattle.envelopes.specs.Envelope.{Env}
use Rattle.plain.specs.Book.{State, holding, query, found, lower, higher, cheapest, first_of_each, step}
use Rattle.plain.specs.Sound.{Sound}
use Rattle.plain.specs.FirstLaws.{self, pairs_standing}
use Rattle.plain.specs.QueryLaws.{RateOrder, lower_tie, higher_tie, Names, cheapest_names, cheapest_earliest, named_first}
use Rattle.trees.specs.Tree.{Tree, leaves}
use Rattle.table.specs.Items.{Item}
use Rattle.table.specs.Items.{offer_of}
use Rattle.pieces.specs.Pieces.{items}
use Rattle.query.specs.Lookup.{lookup}
use Rattle.query.proofs.Answer.{lookup_first, lookup_last}
use Rattle.query.specs.Plain.{names_it}

-- The lines hold the first offer of each rate; who is named among those is named among all.
pub lookup_plain : {ls : List Item} (t : Tree Item) (s : State) (q : ℤ) → Sound s → map offer_of ls ≡ first_of_each s.offers → Env items ls (leaves t) →
    T (load_in_range q) → (step s (query q)).answer ≡
    found (lookup q t).item.offer.number (price_at (lookup q t).item.offer q) (lookup q t).second.offer.number
lookup_plain {ls} t s q h e E r = go s.offers e h.ordered
  where
    z : Offer
    z = (lookup q t).item.offer

    y : Offer
    y = (lookup q t).second.offer

    names : Names lower q (map offer_of ls) z
    names = let f = lookup_last t E q in names_it f.one_of f.least f.earlier

    seconds : Names higher q (map offer_of ls) y
    seconds = let f = lookup_first t E q in names_it f.one_of f.least f.earlier

    same : {tie : ℤ → ℤ → Bool} {a o : Offer} {os : List Offer} → RateOrder tie → Names tie q (map offer_of ls) a → map offer_of ls ≡ first_of_each (o ∷ os) →
        Pairwise (λ a b. T (ahead a b)) (o ∷ os) → cheapest tie q o os ≡ a
    same {tie} {a} {o} {os} k n d p =
        sym (named_first k q (pairs_standing Offer self p) (subst (λ xs. Names tie q xs a) d n) (cheapest_names k q o os) (cheapest_earliest k q o os))

    go : (os : List Offer) → map offer_of ls ≡ first_of_each os → Pairwise (λ a b. T (ahead a b)) os →
        (step (holding s os) (query q)).answer ≡ found z.number (price_at z q) y.number
    go [] d p = absurd (Memᴰ.not-nil (subst (Memᴰ z) d names.live))
    go (o ∷ os) d p =
        rw (is_true (load_in_range q) r, lt-leb (length (o ∷ os)) 0 (omega arith))
        (ap (λ (x : Offer). found x.number (price_at x q) (cheapest higher q o os).number) (same lower_tie names d p)
        ∙ ap (λ (x : Offer). found z.number (price_at z q) x.number) (same higher_tie seconds d p))
