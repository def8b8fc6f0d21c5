-- Theorems on specs/AnswerCases.
use Rattle.std.specs.Prelude.{◌≡◌, List, ℕ, ℤ, pos, Result}
use Rattle.std.proofs.Common.{◌∙◌}
use Rattle.std.proofs.Math.Option.{Option}
use Rattle.plain.specs.Book.{State, Call, refused, step}
use Rattle.dynamic.specs.OfferTree.{Held}
use Rattle.table.specs.Items.{Item}
use Rattle.form.specs.Form.{Form}
use Rattle.causes.specs.declared.Declined.{Declined}
use Rattle.promises.specs.declared.Update.{Update}
use Rattle.promises.specs.Promises.{part_of, IsRefusal, Updates}
use Rattle.theorems.specs.AnswerCases.{plain_number, update_refused}

module _ {start : ℕ} {t : List ℤ} {s : State} {held : Option (Held Item)} (f : Form (part_of t start) s held) where
  pub update_declined :
      {k : Call} {t' : List ℤ} {r : Result Update Declined} → Updates k start t t' r → (n : ℕ) → (step s k).answer ≡ refused n →
      IsRefusal r (pos n)
  update_declined {k} {r = r} p n e = update_refused r n (plain_number s k n e) ((p.follows s held f).answers ∙ e)
