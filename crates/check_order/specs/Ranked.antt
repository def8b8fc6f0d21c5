-- Ranks told by the words of slots.
use Rattle.std.specs.Prelude.{◌≡◌, Bool, true, false, List, ℕ, ◌≤◌, ◌<◌, T, ℤ, get_or}
use Rattle.std.proofs.Common.{sym, ◌∙◌, ap, subst, true≢false}
use Rattle.lists.specs.Bools.{passed, is_true}
use Rattle.integers.specs.Equal.{equal}
use Rattle.integers.specs.Parts.{equal_eq, equal_is}
use Rattle.offers.specs.Offers.{Offer, offer_in_range}
use Rattle.offers.specs.Ranks.{rank}
use Rattle.table.specs.Fields.{base_field, number_field, rank_field, rate_field}
use Rattle.table.specs.Words.{Words}
use Rattle.table.specs.Layout.{cell}
use Rattle.table.specs.Items.{Item}
use Rattle.table.specs.Keys.{Keyed}
use Rattle.form.specs.Form.{rank_of}
use Rattle.check_trees.specs.Stretches.{span}
use Rattle.check_trees.specs.Deciding.{Every}
use Rattle.check_trees.specs.Loops.{RangedHere}
use Rattle.check_trees.specs.Laid.{item_at, items_at}
use Rattle.check_trees.specs.Along.{item_mem, span_all}

-- the slot's rank is that of its offer
abbrev pub rank_told : Words → ℕ → Bool
rank_told w s = equal (cell w rank_field s) (rank_of (item_at w s))

-- read word by word
module _ (w : Words) (s : ℕ) {number rate base : ℤ} (en : number ≡ cell w number_field s) (er : rate ≡ cell w rate_field s)
    (eb : base ≡ cell w base_field s) where
  offer_read : ◌≡◌ {A = Offer} (record { number = number; rate = rate; base = base }) (item_at w s).offer
  offer_read = λ i. record { number = en i; rate = er i; base = eb i }

  pub ranged_read : T (offer_in_range (item_at w s).offer) → T (offer_in_range (record { number = number; rate = rate; base = base }))
  ranged_read t = subst (λ (o : Offer). T (offer_in_range o)) (sym offer_read) t

  pub rank_read : {k : ℤ} {b : Bool} → k ≡ rank (record { number = number; rate = rate; base = base }) → b ≡ equal (cell w rank_field s) k → b ≡ rank_told w s
  rank_read ek e = e ∙ ap (equal (cell w rank_field s)) (ek ∙ ap rank offer_read)

pub record RankedHere (w : Words) (xs : List ℕ) (k : ℕ) : Type 0 where
  pub ranked : cell w rank_field (get_or xs k 0) ≡ rank_of (item_at w (get_or xs k 0))

module _ {w : Words} {k s : ℕ} {xs : List ℕ} {b : Bool} (es : s ≡ get_or xs k 0) (eb : b ≡ rank_told w s) where
  pub ranked_here : b ≡ true → RankedHere w xs k
  ranked_here e = record { ranked = rw (← es) (equal_eq (cell w rank_field s) (rank_of (item_at w s)) (passed (sym eb ∙ e))) }

  pub not_ranked_here : b ≡ false → ¬ RankedHere w xs k
  not_ranked_here e h = true≢false (sym (eb ∙ is_true _ (equal_is (cell w rank_field s) (rank_of (item_at w s)) (rw es h.ranked))) ∙ e)

-- along a stretch the rank is the key of its items
module _ {w : Words} {xs : List ℕ} where
  pub keyed_span : (a b : ℕ) → Every (RankedHere w xs) a b → Keyed w rank_field rank_of (items_at w (span xs a b))
  keyed_span a b e =
      record { read = λ {a = i} m. span_all w xs (λ (j : Item). cell w rank_field j.slot ≡ rank_of j) a b (λ k l h. (e.at k l h).ranked) i m }

  pub span_keyed : (a b : ℕ) → Keyed w rank_field rank_of (items_at w (span xs a b)) → Every (RankedHere w xs) a b
  span_keyed a b r = record { at = λ k l h. record { ranked = r.read (item_mem w xs a b k l h) } }

-- the slot at a place has an offer in range
pub ranged_entry : {w : Words} {xs : List ℕ} {a b k s : ℕ} → Every (RangedHere w xs) a b → a ≤ k → k < b → s ≡ get_or xs k 0 →
    T (offer_in_range (item_at w s).offer)
ranged_entry {w} {k} e l h es = rw es (e.at k l h).ranged
