-- Demand 2 (docs/REQUIREMENTS.md, 1.3), about the calls on a table that stands for a plain book: a query's answer and the words of a listing and of a
-- report tell what section 3 says of the live offers (`Meaning`), a post or a withdrawal changes the live offers by that one offer, a take-back by undoing
-- the last update remembered, and a declined call meets the first cause that applies. `AnswersExact` proves it.
use Rattle.std.specs.Prelude.{◌≡◌, List, [], ◌∷◌, ℕ, ◌*◌, length, take, drop, ℤ, pos, Result, Ok, Err}
use Rattle.std.proofs.Math.Option.{Option}
use Rattle.offers.specs.Offers.{Offer}
use Rattle.plain.specs.Causes.{Cause, Trial, cause_number, Clear, FirstOf}
use Rattle.plain.specs.Book.{State, Undo, Call, post, withdraw, query, listing, take_back, report, recalling, join, leave, undo_of, remember}
use Rattle.plain.specs.Book.{undone, trials}
use Rattle.plain.specs.Meaning.{Cheapest, Listing, Report}
use Rattle.dynamic.specs.OfferTree.{Held}
use Rattle.table.specs.Items.{Item}
use Rattle.form.specs.Form.{Form}
use Rattle.causes.specs.declared.Declined.{Declined}
use Rattle.causes.specs.Numbers.{number_of}
use Rattle.promises.specs.declared.Update.{Update}
use Rattle.promises.specs.declared.Found.{Found}
use Rattle.promises.specs.Promises.{part_of, Updates, Queries, Lists, Reports}

-- The number is that of the first cause that applies.
abbrev pub Refuses : List Trial → ℤ → Type 0
Refuses ks z = (c : Cause) × FirstOf ks c × (z ≡ pos (cause_number c))

-- No cause applies: the least price, and of the offers that have it one with the lowest rate and one with the highest, within a rate the first in order.
abbrev pub QueryTells : State → ℤ → Result Found Declined → Type 0
QueryTells s q (Ok f) = Clear (trials s (query q)) × Cheapest s.offers q f.number f.price f.second
QueryTells s q (Err c) = Refuses (trials s (query q)) (number_of c)

-- No cause applies: in order, exactly the offers that are the first of their rate and at some rational load strictly cheaper than every offer of another
-- rate, each with its crossing with the next.
abbrev pub ListingTells : State → ℕ → Result ℤ Declined → List ℤ → Type 0
ListingTells s room (Ok m) out = Clear (trials s (listing room)) × ((n : ℕ) × (m ≡ pos n) × Listing s.offers n (take (3 * n) out))
ListingTells s room (Err c) out = Refuses (trials s (listing room)) (number_of c)

-- No cause applies: in order, exactly the offers whose price at the load is strictly below p, and behind their words the output as it was; a declined
-- report leaves every word of it.
abbrev pub ReportTells : State → ℤ → ℤ → (out out' : List ℤ) → Result ℤ Declined → Type 0
ReportTells s q p out out' (Ok m) =
    Clear (trials s (report q p (length out)))
    × ((n : ℕ) × (m ≡ pos n) × Report s.offers q p n (take (3 * n) out') × (drop (3 * n) out' ≡ drop (3 * n) out))
ReportTells s q p out out' (Err c) = Refuses (trials s (report q p (length out))) (number_of c) × (out' ≡ out)

-- No cause applies: the part stands for the book with these live offers, of which it remembers so much, and their count is told; a declined call leaves
-- every word.
abbrev pub UpdateTells : State → Call → List Offer → List Undo → ℕ → (t t' : List ℤ) → Result Update Declined → Type 0
UpdateTells s k os us start t t' (Ok u) =
    Clear (trials s k) × (u.live ≡ pos (length os)) × ((after : Option (Held Item)) × Form (part_of t' start) (recalling s os us) after)
UpdateTells s k os us start t t' (Err c) = Refuses (trials s k) (number_of c) × (t' ≡ t)

-- The live offers when the last entry is undone; with no entry there is nothing to take back.
abbrev pub offers_back : List Undo → List Offer → List Offer
offers_back [] os = os
offers_back (u ∷ us) os = undone u os

-- Of a table whose part stands for the plain book s, and of every call on it.
pub record Demand2 (start : ℕ) (t : List ℤ) (s : State) : Type 0 where
  pub query_tells : {q : ℤ} {r : Result Found Declined} → Queries q start t r → QueryTells s q r
  pub listing_tells : {out out' : List ℤ} {r : Result ℤ Declined} → Lists start t out out' r → ListingTells s (length out) r out'
  pub report_tells : {q p : ℤ} {out out' : List ℤ} {r : Result ℤ Declined} → Reports q p start t out out' r → ReportTells s q p out out' r
  pub post_tells : {n r b : ℤ} {t' : List ℤ} {u : Result Update Declined} → Updates (post n r b) start t t' u
      → UpdateTells s (post n r b) (join (record { number = n; rate = r; base = b }) s.offers) (remember (undo_of s.offers (post n r b)) s.memory) start t t' u
  pub withdraw_tells : {n : ℤ} {t' : List ℤ} {u : Result Update Declined} → Updates (withdraw n) start t t' u
      → UpdateTells s (withdraw n) (leave n s.offers) (remember (undo_of s.offers (withdraw n)) s.memory) start t t' u
  pub take_back_tells : {t' : List ℤ} {u : Result Update Declined} → Updates take_back start t t' u
      → UpdateTells s take_back (offers_back s.memory s.offers) (drop 1 s.memory) start t t' u
