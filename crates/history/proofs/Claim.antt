-- Theorems on specs/Claim.
use Rattle.std.specs.Prelude.{◌≡◌, refl, List, ◌∷◌, ℕ, length, ℤ, nat_abs, Result, Ok}
use Rattle.std.proofs.Common.{sym, ◌∙◌, subst}
use Rattle.std.proofs.Math.Option.{Option, none}
use Rattle.plain.specs.Causes.{Clear}
use Rattle.plain.specs.Book.{State, Call, Answer, opened, open_trials}
use Rattle.plain.specs.Book.{step}
use Rattle.trees.specs.Height.{log_height_p}
use Rattle.dynamic.specs.OfferTree.{Held}
use Rattle.table.specs.Items.{Item}
use Rattle.causes.specs.declared.Declined.{Declined}
use Rattle.form.specs.Form.{Form}
use Rattle.form.specs.Local.{Alike}
use Rattle.form.proofs.Local.{form_alike}
use Rattle.promises.specs.Promises.{part_of, Opens}
use Rattle.history.specs.History.{History, finished, next}
use Rattle.history.specs.History.{Claim}
use Rattle.history.specs.Claim.{OneCall, low_trees, one_call, step_capacity}

-- c is the plain book's capacity
pub from_book :
    {c start : ℕ} {t : List ℤ} {ks : List Call} {as' : List Answer} {t' : List ℤ} (h : History c start t ks as' t') (s : State) (held : Option (Held Item)) →
    s.capacity ≡ c → Form (part_of t start) s held → Claim s held h
from_book {start} {t} finished s held same form =
    let book = form.book in
    record {
      held = held;
      stands = form;
      told = refl;
      low = low_trees (part_of t start) held book.offers.offers_in;
      low_numbers = log_height_p book.numbers.numbers book.numbers.numbers_in.balanced;
      low_order = log_height_p book.order book.in_order.order_in.balanced;
      each = refl;
    }
from_book {c} {start} (next {t} {t₁} {k = k} alike p rest) s held same form =
    let o = one_call s held p (form_alike form (subst (λ (n : ℕ). Alike n (part_of t start) (part_of t₁ start)) (sym same) alike)) in
    onward o (from_book rest (step s k).state o.mid (step_capacity s k ∙ same) o.stands)
  where
    onward : (o : OneCall s held p) → Claim (step s k).state o.mid rest → Claim s held (next alike p rest)
    onward o r =
        record {
          held = r.held;
          stands = r.stands;
          told = λ i. o.told i ∷ r.told i;
          low = r.low;
          low_numbers = r.low_numbers;
          low_order = r.low_order;
          each = (o.mid, o.kept, r.each);
        }

-- Every history: the list begins at an opening that meets neither cause 1 nor cause 2. That opening is accepted.
pub every_history :
    {start : ℕ} {t t₀ : List ℤ} {ks : List Call} {as' : List Answer} {t' : List ℤ} (c : ℤ) (r : Result (Unit {0}) Declined) →
    Opens c start t t₀ r →
    Clear (open_trials (length t) start c) →
    (h : History (nat_abs c) start t₀ ks as' t') →
    (r ≡ Ok tt) × Claim (opened c) none h
every_history c r p clear h = ((p.accepted clear).0, from_book h (opened c) none refl (p.accepted clear).1)
