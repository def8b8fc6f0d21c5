-- Demand 2 holds of every call: the promises give it on a table that stands for a book.
use Rattle.std.specs.Prelude.{◌≡◌, refl, List, [], ◌∷◌, ℕ, ◌*◌, length, take, drop, ℤ, pos, negsuc, Result, Ok, Err}
use Rattle.std.proofs.Common.{sym, ◌∙◌, ap, subst}
use Rattle.std.proofs.Math.Option.{Option, none, some}
use Rattle.offers.specs.Offers.{Offer}
use Rattle.plain.specs.Causes.{Cause, cause_number, declined, Clear}
use Rattle.plain.specs.Trials.{clear, declined_first}
use Rattle.plain.specs.Book.{State, Undo, Call, post, withdraw, query, listing, take_back, report, Answer, refused, live, found, listed, reported}
use Rattle.plain.specs.Book.{Outcome, holding, recalling, changed, join, leave, trials, accepted, respond, step}
use Rattle.plain.proofs.MeaningLaws.{query_cheapest, listing_listing, report_report}
use Rattle.dynamic.specs.OfferTree.{Held}
use Rattle.table.specs.Items.{Item}
use Rattle.form.specs.Form.{Form}
use Rattle.form.specs.Live.{book_sound}
use Rattle.causes.specs.declared.Declined.{Declined}
use Rattle.causes.specs.Numbers.{number_of}
use Rattle.promises.specs.declared.Update.{Update}
use Rattle.promises.specs.declared.Found.{Found}
use Rattle.promises.specs.Promises.{part_of, counted, update_answer, found_answer, listing_answer, report_answer, written_words, Follows, Queries, Lists, Reports}
use Rattle.promises.specs.Numbered.{from_one, numbered}
use Rattle.theorems.specs.AnswerCases.{refused_word, counted_live}
use Rattle.theorems.specs.Demand2.{Refuses, QueryTells, ListingTells, ReportTells, UpdateTells, offers_back, Demand2}

-- ---- a refusal

a_refusal : (z : ℤ) → (n : ℕ) × (counted refused z ≡ refused n)
a_refusal (pos n) = (n, refl)
a_refusal (negsuc n) = (0, refl)

-- a call that is not refused met no cause
answered_clear : (s : State) (k : Call) (a : Answer) → ((n : ℕ) → a ≡ refused n → ⊥) → a ≡ (step s k).answer → Clear (trials s k)
answered_clear s k a unlike e = go (declined (trials s k)) refl e
  where
    go : (d : Option Cause) → declined (trials s k) ≡ d → a ≡ (respond s k d).answer → Clear (trials s k)
    go (some c) p q = absurd (unlike (cause_number c) q)
    go none p q = clear (trials s k) p

-- a query past the trials is not refused
query_accepted : (s : State) (q : ℤ) (n : ℕ) → Clear (trials s (query q)) → (accepted s (query q)).answer ≡ refused n → ⊥
query_accepted s q n k e = go s.offers k e
  where
    go : (os : List Offer) → Clear (trials (holding s os) (query q)) → (accepted (holding s os) (query q)).answer ≡ refused n → ⊥
    go [] (load, (empty, _)) d = empty
    go (o ∷ os) k d = cc

-- .. and a refused one met the first that applies
refuses :
    (s : State) (k : Call) (z : ℤ) → ((n : ℕ) → Clear (trials s k) → (accepted s k).answer ≡ refused n → ⊥) → counted refused z ≡ (step s k).answer →
    Refuses (trials s k) z
refuses s k z unlike e = go (declined (trials s k)) refl e
  where
    go : (d : Option Cause) → declined (trials s k) ≡ d → counted refused z ≡ (respond s k d).answer → Refuses (trials s k) z
    go (some c) p a = (c, declined_first (trials s k) c p, refused_word z (cause_number c) (from_one c) a)
    go none p a = let (n, b) = a_refusal z in absurd (unlike n (clear (trials s k) p) (sym a ∙ b))

-- ---- an update, by what it makes of the live offers where no cause applies

module _ (s : State) (k : Call) (os : List Offer) (us : List Undo) (a : Clear (trials s k) → accepted s k ≡ changed s os us) where
  unsaid : {n : ℕ} → Clear (trials s k) → refused n ≡ (accepted s k).answer → ⊥
  unsaid {n} c e = let q : refused n ≡ live (length os) = e ∙ ap (λ (o : Outcome). o.answer) (a c) in cc

  said : (z : ℤ) → Clear (trials s k) → counted live z ≡ (accepted s k).answer → z ≡ pos (length os)
  said (pos m) c e = let q : live m ≡ live (length os) = e ∙ ap (λ (o : Outcome). o.answer) (a c) in let d : m ≡ length os = cc in ap pos d
  said (negsuc m) c e = absurd (unsaid c e)

  module _ (start : ℕ) (t t' : List ℤ) where
    update_by :
        (d : Option Cause) → declined (trials s k) ≡ d → (u : Result Update Declined) → update_answer u ≡ (respond s k d).answer →
        (after : Option (Held Item)) → Form (part_of t' start) (respond s k d).state after → ((n : ℕ) → update_answer u ≡ refused n → t' ≡ t) →
        UpdateTells s k os us start t t' u
    update_by none p (Ok u) e after f r =
        let c = clear (trials s k) p in (
          c,
          said u.live c e,
          (after, subst (λ (o : Outcome). Form (part_of t' start) o.state after) (a c) f),
        )
    update_by none p (Err z) e after f r = let (n, q) = a_refusal (number_of z) in absurd (unsaid (clear (trials s k) p) (sym q ∙ e))
    update_by (some c) p (Ok u) e after b r = absurd (counted_live u.live (cause_number c) (from_one c) e)
    update_by (some c) p (Err z) e after b r = (
      (c, declined_first (trials s k) c p, refused_word (number_of z) (cause_number c) (from_one c) e),
      r (cause_number c) e,
    )

    update_told_lem : {held : Option (Held Item)} {u : Result Update Declined} → Follows k s held start t t' u → UpdateTells s k os us start t t' u
    update_told_lem {u} f = update_by (declined (trials s k)) refl u f.answers f.after f.stands f.refusal

-- ---- the six calls

module _ {start : ℕ} {t : List ℤ} {s : State} {held : Option (Held Item)} (f : Form (part_of t start) s held) where
  query_told : {q : ℤ} {r : Result Found Declined} → Queries q start t r → QueryTells s q r
  query_told {q} {r} p = go r (p.answers s held f.book)
    where
      go : (r : Result Found Declined) → found_answer r ≡ (step s (query q)).answer → QueryTells s q r
      go (Ok a) e = (
        answered_clear s (query q) (found a.number a.price a.second) (λ n h. cc) e,
        query_cheapest s q a.number a.price a.second (sym e),
      )
      go (Err c) e = refuses s (query q) (number_of c) (query_accepted s q) e

  listing_told : {out out' : List ℤ} {r : Result ℤ Declined} → Lists start t out out' r → ListingTells s (length out) r out'
  listing_told {out} {out'} {r} p = go r (p.answers s held f.book)
    where
      go : (r : Result ℤ Declined) → listing_answer r out' ≡ (step s (listing (length out))).answer → ListingTells s (length out) r out'
      go (Ok (pos n)) e = (
        answered_clear s (listing (length out)) (listed n (take (3 * n) out')) (λ m h. cc) e,
        (n, refl, listing_listing s (length out) n (take (3 * n) out') (book_sound f.book) (sym e)),
      )
      go (Ok (negsuc n)) e = absurd (numbered s (listing (length out)) (sym e))
      go (Err c) e = refuses s (listing (length out)) (number_of c) (λ n k h. cc) e

  report_told : {q p : ℤ} {out out' : List ℤ} {r : Result ℤ Declined} → Reports q p start t out out' r → ReportTells s q p out out' r
  report_told {q} {p} {out} {out'} {r} k = go r (k.answers s held f.book) (k.later s held f.book) k.refusal
    where
      room : ℕ
      room = length out

      go :
          (r : Result ℤ Declined) → report_answer r out' ≡ (step s (report q p room)).answer →
          drop (written_words (report_answer r out')) out' ≡ drop (written_words (report_answer r out')) out → ((c : Declined) → r ≡ Err c → out' ≡ out) →
          ReportTells s q p out out' r
      go (Ok (pos n)) e l same =
          let m = report_report s q p room n (take (3 * n) out') (book_sound f.book) (sym e) in (
            answered_clear s (report q p room) (reported n (take (3 * n) out')) (λ m h. cc) e,
            (n, refl, m, subst (λ (i : ℕ). drop i out' ≡ drop i out) m.long l),
          )
      go (Ok (negsuc n)) e l same = absurd (numbered s (report q p room) (sym e))
      go (Err c) e l same = (
        refuses s (report q p room) (number_of c) (λ n k h. cc) e,
        same c refl,
      )

  pub demand_2 : Demand2 start t s
  demand_2 =
      record {
        query_tells = query_told;
        listing_tells = listing_told;
        report_tells = report_told;
        post_tells = λ {n} {r} {b = base} {t'} p. update_told_lem s (post n r base) (join (record { number = n; rate = r; base = base }) s.offers) _
            (λ c. refl) start t t' (p.follows s held f);
        withdraw_tells = λ {n} {t'} p. update_told_lem s (withdraw n) (leave n s.offers) _ (λ c. refl) start t t' (p.follows s held f);
        take_back_tells = λ {t'} p. update_told_lem s take_back (offers_back s.memory s.offers) (drop 1 s.memory) (undoes s.memory) start t t'
            (p.follows s held f);
      }
    where
      undoes : (m : List Undo) → Clear (trials (recalling s s.offers m) take_back) →
          accepted (recalling s s.offers m) take_back ≡ changed s (offers_back m s.offers) (drop 1 m)
      undoes [] (empty, _) = absurd empty
      undoes (u ∷ us) c = refl
