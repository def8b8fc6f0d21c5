-- What is put and written is the plain book's report: how many offers are below, and their words.
use Rattle.std.specs.Prelude.{◌≡◌, ℕ, ◌*◌, ◌≤◌, T, ℤ, drop}
use Rattle.std.proofs.Math.Path.{sym, ap}
use Rattle.std.proofs.Common.{◌∙◌}
use mathlib.Core.List.{List, [], ◌++◌, map, nil≢cons}
use Rattle.std.proofs.Math.Option.{Option}
use native.Mathlib.Omega.{arith}
use Rattle.std.specs.Int.Signed.{lt_z}
use Rattle.std.proofs.Math.ListN.{length, length-map}
use Rattle.lists.specs.Filter.{keep, keep_map, keep_sublist}
use Rattle.lists.specs.Members.{sub_length}
use Rattle.lists.specs.Places.{sublist_mem}
use Rattle.offers.specs.Offers.{Offer, load_in_range, price_at}
use Rattle.plain.specs.Book.{State, offer_words, under}
use Rattle.trees.specs.Operations.{part_leaves}
use Rattle.dynamic.specs.OfferTree.{Held}
use Rattle.dynamic.specs.Valid.{book_lines}
use Rattle.firsts.specs.Runs.{Resumes, resumes_nowhere, resumes_at}
use Rattle.firsts.proofs.Runs.{starting}
use Rattle.table.specs.Fields.{most_slots}
use Rattle.table.specs.Words.{Words}
use Rattle.table.specs.Layout.{cap, cap_most}
use Rattle.table.specs.Items.{Item, offer_of, slot_of, slots_most}
use Rattle.table.specs.Threads.{Holds}
use Rattle.pieces.specs.Pieces.{items}
use Rattle.form.specs.Form.{Book}
use Rattle.check_trees.specs.Stretches.{span, span_length}
use Rattle.gathering.specs.Limits.{cheap_at}
use Rattle.spreading.specs.Nexts.{live_stand}
use Rattle.spreading.specs.Spreads.{slots_below, Spreads}
use Rattle.spreading.specs.Writes.{slot_words, held_words, Copied}

-- m offers are below; where the output has room for them, their words stand in front
pub record Laid (q p : ℤ) (os : List Offer) (m : ℕ) (out out' : List ℤ) : Type 0 where
  pub count : m ≡ length (under q p os)
  pub words : 3 * m ≤ length out → out' ≡ offer_words (under q p os) ++ drop (3 * m) out

-- none is
pub laid_none : {q p : ℤ} {os : List Offer} (out : List ℤ) → under q p os ≡ [] → Laid q p os 0 out out
laid_none out e = record { count = sym (ap length e); words = λ h. ap (λ (l : List Offer). offer_words l ++ out) (sym e) }

-- where none of the firsts is below, none is
pub no_first : {w : Words} {s : State} {held : Option (Held Item)} (b : Book w s held) (q p : ℤ) → keep (cheap_at q p) (book_lines held) ≡ [] →
    under q p s.offers ≡ []
no_first b q p e =
    ap (under q p) (sym b.stands_for) ∙ keep_map (λ (o : Offer). lt_z (price_at o q) p) offer_of (part_leaves b.order)
    ∙ ap (map offer_of) (nowhere (ap (keep (cheap_at q p)) (sym b.leaf_per_rate) ∙ e)
    (starting items.before (cheap_at q p) (part_leaves b.order) (live_stand b q p)))
  where
    nowhere : {xs gs : List Item} → gs ≡ [] → Resumes items.before (cheap_at q p) xs gs → keep (cheap_at q p) xs ≡ []
    nowhere d (resumes_nowhere k) = k
    nowhere d (resumes_at skipped a xs k t) = absurd (nil≢cons (sym d))

module _
    {w : Words} {s : State} {held : Option (Held Item)} (b : Book w s held) (q p : ℤ) (range : T (load_in_range q))
    {xs ys ys' : List ℕ} {n m : ℕ} (put : Spreads w q p xs ys ys' n m) (firsts : span xs 0 n ≡ slots_below q p (book_lines held)) where
  below : List Item
  below = keep (cheap_at q p) (part_leaves b.order)

  put_all : span ys' 0 m ≡ map slot_of below
  unfolding below
  put_all = put.is s held b range firsts

  plainly : map offer_of below ≡ under q p s.offers
  unfolding below
  plainly = sym (keep_map (λ (o : Offer). lt_z (price_at o q) p) offer_of (part_leaves b.order)) ∙ ap (under q p) b.stands_for

  pub spread_count : m ≡ length (under q p s.offers)
  spread_count = omega (arith, span_length ys' 0 m, ap length put_all, length-map below slot_of, length-map below offer_of, ap length plainly)

  -- so they never outnumber the slots
  pub spread_few : m ≤ most_slots
  unfolding below
  spread_few =
      omega (
        arith,
        span_length ys' 0 m,
        ap length put_all,
        length-map below slot_of,
        sub_length (keep_sublist (cheap_at q p) (part_leaves b.order)),
        slots_most (cap w) (part_leaves b.order) b.in_order.slots,
        cap_most w,
      )

  words_are : slot_words w (span ys' 0 m) ≡ offer_words (under q p s.offers)
  unfolding below
  words_are = ap (slot_words w) put_all ∙ held_words below holds ∙ ap offer_words plainly
    where
      holds : Holds w below
      holds = record { held = λ k. b.in_order.holds.held (sublist_mem (keep_sublist (cheap_at q p) (part_leaves b.order)) k) }

  pub laid : {out out' : List ℤ} → Copied w ys' m out out' → Laid q p s.offers m out out'
  laid {out} c = record { count = spread_count; words = λ h. c.words h ∙ ap (λ (l : List ℤ). l ++ drop (3 * m) out) words_are }
