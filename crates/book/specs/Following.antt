-- What a call's code has done, put together into what the call promises on a part that stands for a plain book.
use Rattle.std.specs.Prelude.{◌≡◌, refl, List, [], ◌∷◌, ℕ, length, ℤ, pos, Result, Ok, Err}
use Rattle.std.proofs.Common.{sym, ◌∙◌, ap, subst, arith}
use Rattle.std.proofs.Math.Option.{Option}
use Rattle.plain.specs.Book.{State, Outcome, Call, refused, live, first_of_each, step}
use Rattle.dynamic.specs.OfferTree.{Held}
use Rattle.dynamic.proofs.Updated.{idle_work}
use Rattle.table.specs.Items.{Item}
use Rattle.pieces.specs.Pieces.{items}
use Rattle.table.specs.Words.{Words}
use Rattle.form.specs.Form.{Book, Form}
use Rattle.form.specs.Live.{first_offers}
use Rattle.promises.specs.declared.Update.{Update}
use Rattle.causes.specs.declared.Declined.{Declined}
use Rattle.causes.specs.Numbers.{number_of}
use Rattle.promises.specs.Promises.{part_of, counted, update_told, update_answer, Counts, Follows}
use Rattle.plain.specs.Rules.{refusing}
use Rattle.filing.specs.declared.Told.{Told}
use Rattle.recording.specs.Recording.{update_of, Recorded}

-- ---- a declined call

pub follows_declined :
    (start : ℕ) (t : List ℤ) (k : Call) {plain : State} {m : ℕ} {held : Option (Held Item)} {t' : List ℤ} {r : Result Update Declined} {c : Declined} →
    Form (part_of t start) plain held → step plain k ≡ refusing plain m → r ≡ Err c → number_of c ≡ pos m → t' ≡ t →
    Follows k plain held start t t' r
follows_declined start t k {plain} {m} {held} {t'} {r} f e er ec et =
    record {
      after = held;
      log = [];
      answers = ap update_answer er ∙ ap (counted refused) ec ∙ ap (λ (o : Outcome). o.answer) (sym e);
      stands = subst (λ (o : Outcome). Form (part_of t' start) o.state held) (sym e) (subst (λ (u : List ℤ). Form (part_of u start) plain held) (sym et) f);
      refusal = λ n d. et;
      work = idle_work items held;
      spared = λ q. refl;
      counts = subst (λ (u : Result Update Declined). Counts (update_told u).values []) (sym er) refl;
    }

-- ---- an accepted one

not_refused : {m n : ℕ} → live m ≡ refused n → ⊥
not_refused e = let z : ◌≡◌ {A = ℕ} 0 1 = cc in omega arith

pub done_follows :
    (start : ℕ) (t : List ℤ) (q : Call) {w : Words} {plain next : State} {told : Told} {held : Option (Held Item)} {t' : List ℤ} {r : Result Update Declined} →
    Book w plain held → Recorded (part_of t' start) next held told →
    step plain q ≡ record { state = next; answer = live (length next.offers) } → r ≡ Ok (update_of told) →
    Follows q plain held start t t' r
done_follows start t q {next = next} {told} {t' = t'} b g e er =
    let u = g.updated in
    record {
      after = u.after;
      log = u.log;
      answers = ap update_answer er ∙ ap live g.live ∙ ap (λ (o : Outcome). o.answer) (sym e);
      stands = subst (λ (o : Outcome). Form (part_of t' start) o.state u.after) (sym e) (record { book = u.stands; memory = g.memory });
      refusal = λ m d. absurd (not_refused (sym (ap update_answer er) ∙ d));
      work = u.work;
      spared = λ d. u.spared (first_offers b ∙ d ∙ ap (λ (o : Outcome). first_of_each o.state.offers) e ∙ sym (first_offers u.stands));
      counts = subst (λ (v : Result Update Declined). Counts (update_told v).values u.log) (sym er) (λ i. pos (u.counts.searches i) ∷ pos (u.counts.steps i) ∷
          pos (u.counts.heights i) ∷ []);
    }
