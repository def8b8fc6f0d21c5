-- After any list of calls with take-backs in it, refused ones among them, the part stands for the offers that the remaining accepted calls leave
-- (plain, Remaining): those that the answers say were accepted, without the ones that were taken back.
use Rattle.std.specs.Prelude.{◌≡◌, List, [], ℕ, ℤ}
use Rattle.std.proofs.Common.{sym, ◌∙◌, ap, subst}
use Rattle.std.proofs.Math.Option.{Option}
use Rattle.plain.specs.Book.{State, Call, Answer, after}
use Rattle.plain.specs.Sound.{Sound}
use Rattle.plain.specs.Remaining.{remaining, AllAccepted}
use Rattle.plain.proofs.Remaining.{remaining_leaves}
use Rattle.dynamic.specs.OfferTree.{Held}
use Rattle.table.specs.Items.{Item}
use Rattle.form.specs.Form.{plain_offers}
use Rattle.history.specs.History.{History, Claim}

-- What remains of the calls, told by their answers, is accepted call for call when it alone is made, and leaves what the order's leaves hold.
pub record Stays {c start : ℕ} {t : List ℤ} {ks : List Call} {as' : List Answer} {t' : List ℤ} {s : State} {before : Option (Held Item)}
    {h : History c start t ks as' t'} (q : Claim s before h) : Type 0 where
  pub accepted : AllAccepted s (remaining ks as')
  pub stands_for : plain_offers q.stands.book.order ≡ (after s (remaining ks as')).offers

-- from a plain book that remembers nothing
pub remaining_stands : {c start : ℕ} {t : List ℤ} {ks : List Call} {as' : List Answer} {t' : List ℤ} {s : State} {before : Option (Held Item)}
    {h : History c start t ks as' t'} → Sound s → s.memory ≡ [] → (q : Claim s before h) → Stays q
remaining_stands {ks = ks} {s = s} sound empty q =
    let r = remaining_leaves s sound empty ks in
    record {
      accepted = subst (λ (told : List Answer). AllAccepted s (remaining ks told)) (sym q.told) r.accepted;
      stands_for = q.stands.book.stands_for ∙ sym r.offers ∙ ap (λ (told : List Answer). (after s (remaining ks told)).offers) (sym q.told);
    }
