-- How many offers of a part are under a price, and their words in the output: on each way through the code.
use Rattle.std.specs.Prelude.{◌≡◌, refl, Bool, false, List, [], ℕ, ◌*◌, ◌≤◌, ◌<◌, T, ℤ, length}
use Rattle.std.proofs.Common.{ap, arith}
use Rattle.std.proofs.Math.Option.{Option, none, some}
use Rattle.std.specs.Int.Signed.{lt_z}
use Rattle.lists.specs.Filter.{keep}
use Rattle.offers.specs.Offers.{load_in_range}
use Rattle.plain.specs.Book.{State, under}
use Rattle.dynamic.specs.OfferTree.{Held, held_shape}
use Rattle.dynamic.specs.Valid.{book_lines}
use Rattle.table.specs.Fields.{envelope_root_word, most_levels, most_nodes, most_slots, offers_root_word}
use Rattle.table.specs.Words.{Words, word, up_to}
use Rattle.table.specs.Items.{Item}
use Rattle.table.specs.Nodes.{ref_low}
use Rattle.form.specs.Stored.{HeldIn}
use Rattle.form.specs.Form.{Book}
use Rattle.form.specs.Live.{no_offers}
use Rattle.form.specs.HeaderWords.{offers_read, envelope_read}
use Rattle.query.specs.Readings.{price_in}
use Rattle.query.specs.Descent.{Descended}
use Rattle.check_trees.specs.Stretches.{span}
use Rattle.gathering.specs.Limits.{cheap_at}
use Rattle.gathering.specs.Gathers.{Gathers}
use Rattle.gathering.specs.Gathered.{gathered, gathered_few, none_below}
use Rattle.spreading.specs.Spreads.{Spreads, slots_below}
use Rattle.spreading.specs.Writes.{Copied}
use Rattle.spreading.specs.Laid.{Laid, laid_none, no_first, spread_few, laid}

-- so many offers are under the price, and their words stand in front of the output, where it has room for them; else it is as it was
pub record Under (q p : ℤ) (w : Words) (out out' : List ℤ) (n : ℕ) : Type 0 where
  pub few : n ≤ most_slots
  pub long : length out' ≡ length out
  pub short : length out < 3 * n → out' ≡ out
  pub is : (s : State) (held : Option (Held Item)) → Book w s held → T (load_in_range q) → Laid q p s.offers n out out'

-- nothing is told and nothing written
idle : {q p : ℤ} {w : Words} {out : List ℤ} →
    ((s : State) (held : Option (Held Item)) → Book w s held → T (load_in_range q) → Laid q p s.offers 0 out out) → Under q p w out out 0
idle f = record { few = omega arith; long = refl; short = λ h. refl; is = f }

-- no offer is live
pub under_empty : {q p : ℤ} {w : Words} {out : List ℤ} {x : ℕ} → x ≡ up_to most_nodes (word w offers_root_word) → x < 1 → Under q p w out out 0
under_empty {q} {p} {w} {out} {x} e h = idle go
  where
    go : (s : State) (held : Option (Held Item)) → Book w s held → T (load_in_range q) → Laid q p s.offers 0 out out
    go s none b range = laid_none out (ap (under q p) (no_offers b refl))
    go s (some g) b range = absurd (omega (arith, e, h, offers_read b, ref_low (held_shape g) b.offers.offers_in.slots))

-- what holds of every tree of offers in hand holds of a book with a root
with_tree : {w : Words} {x root : ℕ} {s : State} (A : Option (Held Item) → Type 0) → x ≡ up_to most_nodes (word w offers_root_word) → 1 ≤ x →
    root ≡ up_to most_nodes (word w envelope_root_word) → ((h : Held Item) → HeldIn w x root h → A (some h)) → (held : Option (Held Item)) → Book w s held → A held
with_tree A ex some-x er f none b = absurd (omega (arith, ex, some-x, offers_read b))
with_tree A ex some-x er f (some h) b = f h (rw (ex, er, offers_read b, envelope_read b) b.offers.offers_in)

module _ {q p : ℤ} {w : Words} {x root slot second probes : ℕ} (ex : x ≡ up_to most_nodes (word w offers_root_word)) (some-x : 1 ≤ x)
    (er : root ≡ up_to most_nodes (word w envelope_root_word)) (d : Descended w root q slot second probes) where
  -- the cheapest is not under the price
  pub under_none : {out : List ℤ} {t : Bool} → t ≡ lt_z (price_in w slot q) p → t ≡ false → Under q p w out out 0
  under_none {out} test y =
      idle λ s held b range. laid_none out (no_first b q p
      (with_tree (λ g. keep (cheap_at q p) (book_lines g) ≡ []) ex some-x er (λ h k. none_below p d h k range test y) held b))

  module _ {n : ℕ} {xs₀ xs : List ℕ} (g : Gathers w x slot q p most_levels xs₀ xs 0 n) where
    firsts_are : {s : State} (held : Option (Held Item)) → Book w s held → T (load_in_range q) → span xs 0 n ≡ slots_below q p (book_lines held)
    firsts_are held b range = with_tree (λ e. span xs 0 n ≡ slots_below q p (book_lines e)) ex some-x er (λ h k. gathered d g h k range) held b

    -- the walk gave up: no book's words make it do so
    pub under_lost : {out : List ℤ} → most_slots < n → Under q p w out out 0
    under_lost more =
        idle λ s held b range. absurd (with_tree (λ e. ⊥) ex some-x er (λ h k. omega (arith, more, gathered_few d g h k range)) held b)

    module _ {m : ℕ} {ys ys' : List ℕ} (put : Spreads w q p xs ys ys' n m) where
      pub under_astray : {out : List ℤ} → most_slots < m → Under q p w out out 0
      under_astray more = idle λ s held b range. absurd (omega (arith, more, spread_few b q p range put (firsts_are held b range)))

      pub under_all : {out out' : List ℤ} → m ≤ most_slots → Copied w ys' m out out' → Under q p w out out' m
      under_all few c =
          record { few = few; long = c.long; short = c.short; is = λ s held b range. laid b q p range put (firsts_are held b range) c }
