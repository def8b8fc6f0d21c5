-- A report's answer on a part, and on a table, by what the code counts and writes.
use Rattle.std.specs.Prelude.{◌≡◌, refl, Bool, true, false, not, List, ℕ, ◌*◌, ◌-◌, ◌≤◌, ◌<◌, length, take, drop, T, ℤ, pos, Result, Ok, Err}
use Rattle.std.proofs.Common.{sym, ◌∙◌, ap, subst, arith, take_at, drop_at}
use Rattle.std.proofs.Math.Option.{Option}
use Rattle.lists.specs.Bools.{not_not, said, denied}
use Rattle.offers.specs.Offers.{Offer, load_in_range, price_in_range}
use Rattle.plain.specs.Causes.{Cause, cause_number, FirstOf, at_once, further}
use Rattle.plain.specs.Book.{State, report, Outcome, reported, refused, under, offer_words, no_book_at, step}
use Rattle.plain.specs.Rules.{reports, offers_length}
use Rattle.plain.proofs.Rules.{report_short}
use Rattle.dynamic.specs.OfferTree.{Held}
use Rattle.table.specs.Fields.{capacity_word}
use Rattle.table.specs.Words.{Words, word}
use Rattle.table.specs.Items.{Item}
use Rattle.form.specs.Form.{Book}
use Rattle.spreading.specs.Laid.{Laid}
use Rattle.promises.specs.Promises.{part_of, table_trials, counted, report_answer, written_words, Reports}
use Rattle.promises.specs.Plainly.{table_declined}
use Rattle.promises.specs.LentPart.{whole_part}
use Rattle.promises.specs.OneCause.{one_cause, not_clear}
use Rattle.causes.specs.declared.Declined.{Declined}
use Rattle.causes.specs.declared.Declined.TheVariants.{NoBook, OutOfRange, LoadOutOfRange, OutputTooShort}
use Rattle.causes.specs.Numbers.{number_of}
use Rattle.reporting.specs.Counting.{Under}

-- ---- on a part, with load and price in range

pub record Tells (q p : ℤ) (w : Words) (out out' : List ℤ) (r : Result ℤ Declined) : Type 0 where
  pub refusal : (c : Declined) → r ≡ Err c → out' ≡ out
  pub long : length out' ≡ length out
  pub answers : (s : State) (held : Option (Held Item)) → Book w s held → T (load_in_range q) → T (price_in_range p) →
      report_answer r out' ≡ (step s (report q p (length out))).answer
  pub later : (s : State) (held : Option (Held Item)) → Book w s held → T (load_in_range q) →
      drop (written_words (report_answer r out')) out' ≡ drop (written_words (report_answer r out')) out

-- the output begins with the words of these offers
module _ {q p : ℤ} {os : List Offer} {n : ℕ} {out out' : List ℤ} (l : Laid q p os n out out') (h : 3 * n ≤ length out) where
  size : length (offer_words (under q p os)) ≡ 3 * n
  size = omega (arith, offers_length (under q p os), l.count)

  begins : take (3 * n) out' ≡ offer_words (under q p os)
  begins = ap (take (3 * n)) (l.words h) ∙ take_at (offer_words (under q p os)) (drop (3 * n) out) (3 * n) size

  laid_answer : reported n (take (3 * n) out') ≡ reported (length (under q p os)) (offer_words (under q p os))
  laid_answer = ap (reported n) begins ∙ ap (λ (m : ℕ). reported m (offer_words (under q p os))) l.count

  laid_later : drop (length (take (3 * n) out')) out' ≡ drop (length (take (3 * n) out')) out
  laid_later =
      subst (λ (k : ℕ). drop k out' ≡ drop k out) (sym (ap length begins ∙ size))
      (ap (drop (3 * n)) (l.words h) ∙ drop_at (offer_words (under q p os)) (drop (3 * n) out) (3 * n) size)

module _ {w : Words} {n : ℕ} {q p : ℤ} {out out' : List ℤ} (u : Under q p w out out' n) where
  -- too short an output
  pub told_short : length out < 3 * n → Tells q p w out out' (Err OutputTooShort)
  told_short h =
      record {
        refusal = λ c d. u.short h;
        long = u.long;
        answers = λ s held b rq rp.
            sym (ap (λ (o : Outcome). o.answer) (report_short s q p (length out) rp rq (omega (arith, (u.is s held b rq).count))));
        later = λ s held b rq. ap (drop 0) (u.short h);
      }

  -- every offer under the price
  pub told_all_lem : 3 * n ≤ length out → Tells q p w out out' (Ok (pos n))
  told_all_lem h =
      record {
        refusal = λ c d. cc;
        long = u.long;
        answers = λ s held b rq rp.
            let l = u.is s held b rq in
            laid_answer l h ∙ sym (ap (λ (o : Outcome). o.answer) (reports s q p (length out) rp rq (omega (arith, l.count))));
        later = λ s held b rq. laid_later (u.is s held b rq) h;
      }

-- ---- on a table

module _ (q p : ℤ) (start : ℕ) (t out : List ℤ) where
  report_declined : {c : Declined} {k : Cause} → FirstOf (table_trials t start (report q p (length out))) k → number_of c ≡ pos (cause_number k) →
      Reports q p start t out out (Err c)
  report_declined f e =
      record {
        declined = λ z g. (ap (counted refused) e ∙ ap refused (sym (one_cause f g)), refl);
        refusal = λ c d. refl;
        long = refl;
        answers = λ s held b. ap (counted refused) e ∙ sym (ap (λ (o : Outcome). o.answer) (table_declined start t (report q p (length out)) b f));
        later = λ s held b. refl;
      }

  module _ {no : Bool} (e : no ≡ no_book_at (length t) start (word (part_of t start) capacity_word)) where
    pub report_no_book : no ≡ true → Reports q p start t out out (Err NoBook)
    report_no_book d = report_declined (at_once (said e d)) refl

    module _ (d : no ≡ false) {high : Bool} (e₁ : high ≡ not (price_in_range p)) where
      pub report_price : high ≡ true → Reports q p start t out out (Err OutOfRange)
      report_price d₁ = report_declined (further (denied e d) (at_once (said e₁ d₁))) refl

      module _ (d₁ : high ≡ false) {far : Bool} (e₂ : far ≡ not (load_in_range q)) where
        pub report_load : far ≡ true → Reports q p start t out out (Err LoadOutOfRange)
        report_load d₂ = report_declined (further (denied e d) (further (denied e₁ d₁) (at_once (said e₂ d₂)))) refl

        pub report_told : far ≡ false → {out' : List ℤ} {r : Result ℤ Declined} → Tells q p (take (length t - start) (drop start t)) out out' r →
            Reports q p start t out out' r
        report_told d₂ {out'} {r} k =
            record {
              declined = λ z f. absurd (not_clear f (denied e d, (denied e₁ d₁, (denied e₂ d₂, tt))));
              refusal = s.refusal;
              long = s.long;
              answers = λ plain held b. s.answers plain held b load price;
              later = λ plain held b. s.later plain held b load;
            }
          where
            s : Tells q p (part_of t start) out out' r
            s = subst (λ (w : Words). Tells q p w out out' r) (whole_part t start) k

            load : T (load_in_range q)
            load = not_not (load_in_range q) (denied e₂ d₂)

            price : T (price_in_range p)
            price = not_not (price_in_range p) (denied e₁ d₁)
