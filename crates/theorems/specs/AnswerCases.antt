-- From an answer back to the `Result`: a refusal's number tells an `Err` of that number, and an accepted answer an `Ok` with all its values.
-- (`refused 0` is no answer of the plain book, so a refusal is asked to be above 0.)
use Rattle.std.specs.Prelude.{◌≡◌, refl, List, [], ◌∷◌, ℕ, zero, suc, ◌*◌, ◌≤◌, length, take, ℤ, pos, negsuc, Result, Ok, Err}
use Rattle.std.proofs.Common.{sym, ◌∙◌, ap, arith}
use Rattle.std.proofs.Math.Option.{Option}
use Rattle.plain.specs.Book.{State, Call, query, listing, report, refused, live, found, listed, reported, step}
use Rattle.dynamic.specs.OfferTree.{Held}
use Rattle.table.specs.Items.{Item}
use Rattle.form.specs.Form.{Form}
use Rattle.causes.specs.declared.Declined.{Declined}
use Rattle.causes.specs.Numbers.{number_of}
use Rattle.promises.specs.declared.Update.{Update}
use Rattle.promises.specs.declared.Found.{Found}
use Rattle.promises.specs.Promises.{part_of, IsRefusal, counted, update_told, found_told, update_answer, found_answer, listing_answer, report_answer, Queries}
use Rattle.promises.specs.Promises.{Lists, Reports}
use Rattle.promises.specs.Numbered.{numbered}

-- a refusal told by a word is told by its number
pub refused_word : (z : ℤ) (n : ℕ) → 1 ≤ n → counted refused z ≡ refused n → z ≡ pos n
refused_word (pos m) n l e = let d : m ≡ n = cc in ap pos d
refused_word (negsuc m) n l e = let d : 0 ≡ n = cc in absurd (omega arith)

-- ---- post, withdraw and take-back

pub counted_live : (z : ℤ) (n : ℕ) → 1 ≤ n → counted live z ≡ refused n → ⊥
counted_live (pos m) n l e = cc
counted_live (negsuc m) n l e = let d : 0 ≡ n = cc in omega arith

pub update_refused : (r : Result Update Declined) (n : ℕ) → 1 ≤ n → update_answer r ≡ refused n → IsRefusal r (pos n)
update_refused (Ok u) n l e = absurd (counted_live u.live n l e)
update_refused (Err c) n l e = (c, refl, refused_word (number_of c) n l e)

live_word : (z : ℤ) (n : ℕ) → counted live z ≡ live n → z ≡ pos n
live_word (pos m) n e = let d : m ≡ n = cc in ap pos d
live_word (negsuc m) n e = cc

refused_live : (z : ℤ) (n : ℕ) → counted refused z ≡ live n → ⊥
refused_live (pos m) n e = cc
refused_live (negsuc m) n e = cc

pub update_live : (r : Result Update Declined) (n : ℕ) → update_answer r ≡ live n →
    (k s h : ℤ) × (r ≡ Ok (record { live = pos n; k = k; s = s; h = h }))
update_live (Ok u) n e = (u.k, u.s, u.h, λ i. Ok (record { live = live_word u.live n e i; k = u.k; s = u.s; h = u.h }))
update_live (Err c) n e = absurd (refused_live (number_of c) n e)

-- the values tell the case
pub update_values : (r : Result Update Declined) (n k s h : ℤ) → (update_told r).values ≡ n ∷ k ∷ s ∷ h ∷ [] →
    r ≡ Ok (record { live = n; k = k; s = s; h = h })
update_values (Ok u) n k s h e =
    let a : u.live ≡ n = cc in
    let b : u.k ≡ k = cc in
    let c : u.s ≡ s = cc in
    let d : u.h ≡ h = cc in
    λ i. Ok (record { live = a i; k = b i; s = c i; h = d i })
update_values (Err c) n k s h e = cc

-- ---- query

pub query_refused : (r : Result Found Declined) (n : ℕ) → 1 ≤ n → found_answer r ≡ refused n → IsRefusal r (pos n)
query_refused (Ok f) n l e = cc
query_refused (Err c) n l e = (c, refl, refused_word (number_of c) n l e)

refused_found : (z : ℤ) (number price second : ℤ) → counted refused z ≡ found number price second → ⊥
refused_found (pos m) number price second e = cc
refused_found (negsuc m) number price second e = cc

pub query_found : (r : Result Found Declined) (number price second : ℤ) → found_answer r ≡ found number price second →
    (probes : ℤ) × (r ≡ Ok (record { number = number; price = price; second = second; probes = probes }))
query_found (Ok f) number price second e =
    let a : f.number ≡ number = cc in
    let b : f.price ≡ price = cc in
    let c : f.second ≡ second = cc in
    (f.probes, λ i. Ok (record { number = a i; price = b i; second = c i; probes = f.probes }))
query_found (Err c) number price second e = absurd (refused_found (number_of c) number price second e)

pub query_values : (r : Result Found Declined) (number price second probes : ℤ) → (found_told r).values ≡ number ∷ price ∷ second ∷ probes ∷ [] →
    r ≡ Ok (record { number = number; price = price; second = second; probes = probes })
query_values (Ok f) number price second probes e =
    let a : f.number ≡ number = cc in
    let b : f.price ≡ price = cc in
    let c : f.second ≡ second = cc in
    let d : f.probes ≡ probes = cc in
    λ i. Ok (record { number = a i; price = b i; second = c i; probes = d i })
query_values (Err c) number price second probes e = cc

-- ---- listing

pub listing_refused : (r : Result ℤ Declined) (out : List ℤ) (n : ℕ) → 1 ≤ n → listing_answer r out ≡ refused n → IsRefusal r (pos n)
listing_refused (Ok (pos m)) out n l e = cc
listing_refused (Ok (negsuc m)) out n l e = let d : 0 ≡ n = cc in absurd (omega arith)
listing_refused (Err c) out n l e = (c, refl, refused_word (number_of c) n l e)

refused_listed : (z : ℤ) (n : ℕ) (ws : List ℤ) → counted refused z ≡ listed n ws → ⊥
refused_listed (pos m) n ws e = cc
refused_listed (negsuc m) n ws e = cc

pub listing_listed : (r : Result ℤ Declined) (out : List ℤ) (n : ℕ) (ws : List ℤ) → listing_answer r out ≡ listed n ws →
    (r ≡ Ok (pos n)) × (ws ≡ take (3 * n) out)
listing_listed (Ok (pos m)) out n ws e =
    let d : m ≡ n = cc in
    let f : take (3 * m) out ≡ ws = cc in
    (ap (λ x. Ok (pos x)) d, sym f ∙ ap (λ x. take (3 * x) out) d)
listing_listed (Ok (negsuc m)) out n ws e = cc
listing_listed (Err c) out n ws e = absurd (refused_listed (number_of c) n ws e)

-- ---- report

pub report_refused : (r : Result ℤ Declined) (out : List ℤ) (n : ℕ) → 1 ≤ n → report_answer r out ≡ refused n → IsRefusal r (pos n)
report_refused (Ok (pos m)) out n l e = cc
report_refused (Ok (negsuc m)) out n l e = let d : 0 ≡ n = cc in absurd (omega arith)
report_refused (Err c) out n l e = (c, refl, refused_word (number_of c) n l e)

refused_reported : (z : ℤ) (n : ℕ) (ws : List ℤ) → counted refused z ≡ reported n ws → ⊥
refused_reported (pos m) n ws e = cc
refused_reported (negsuc m) n ws e = cc

pub report_reported : (r : Result ℤ Declined) (out : List ℤ) (n : ℕ) (ws : List ℤ) → report_answer r out ≡ reported n ws →
    (r ≡ Ok (pos n)) × (ws ≡ take (3 * n) out)
report_reported (Ok (pos m)) out n ws e =
    let d : m ≡ n = cc in
    let f : take (3 * m) out ≡ ws = cc in
    (ap (λ x. Ok (pos x)) d, sym f ∙ ap (λ x. take (3 * x) out) d)
report_reported (Ok (negsuc m)) out n ws e = cc
report_reported (Err c) out n ws e = absurd (refused_reported (number_of c) n ws e)

-- ---- on a book: where the plain book refuses, the call is declined with that number

pub plain_number : (s : State) (k : Call) (n : ℕ) → (step s k).answer ≡ refused n → 1 ≤ n
plain_number s k zero e = absurd (numbered s k e)
plain_number s k (suc n) e = omega arith

module _ {start : ℕ} {t : List ℤ} {s : State} {held : Option (Held Item)} (f : Form (part_of t start) s held) where
  pub query_declined : {q : ℤ} {r : Result Found Declined} → Queries q start t r → (n : ℕ) → (step s (query q)).answer ≡ refused n → IsRefusal r (pos n)
  query_declined {q} {r} p n e = query_refused r n (plain_number s (query q) n e) (p.answers s held f.book ∙ e)

  pub listing_declined :
      {out out' : List ℤ} {r : Result ℤ Declined} → Lists start t out out' r → (n : ℕ) → (step s (listing (length out))).answer ≡ refused n →
      IsRefusal r (pos n)
  listing_declined {out} {out'} {r} p n e = listing_refused r out' n (plain_number s (listing (length out)) n e) (p.answers s held f.book ∙ e)

  pub report_declined :
      {q p : ℤ} {out out' : List ℤ} {r : Result ℤ Declined} → Reports q p start t out out' r → (n : ℕ) →
      (step s (report q p (length out))).answer ≡ refused n → IsRefusal r (pos n)
  report_declined {q} {p} {out} {out'} {r} k n e =
      report_refused r out' n (plain_number s (report q p (length out)) n e) (k.answers s held f.book ∙ e)
