-- What an update that is remembered promises of a part, and a take-back. `w` are the part's words before it and `w'` those after it.
use Rattle.std.specs.Prelude.{◌≡◌, List, [], ◌∷◌, ℕ, ◌≤◌, length, ℤ, pos, Result, Ok, Err}
use Rattle.std.proofs.Math.Option.{Option}
use Rattle.offers.specs.Offers.{Offer}
use Rattle.plain.specs.Causes.{Clear}
use Rattle.plain.specs.Book.{State, Undo, post, withdraw, trials, undone, recalling}
use Rattle.plain.specs.Rules.{posted, withdrawn}
use Rattle.trees.specs.Operations.{part_leaves}
use Rattle.dynamic.specs.OfferTree.{Held}
use Rattle.table.specs.Fields.{most_nodes, number_field, number_tree, numbers_root_word}
use Rattle.table.specs.Words.{Words, word, up_to}
use Rattle.table.specs.Layout.{cap}
use Rattle.table.specs.Items.{Item}
use Rattle.form.specs.Form.{Form}
use Rattle.form.specs.Memory.{Remembers}
use Rattle.form.specs.Local.{Beyond}
use Rattle.index.specs.Index.{FoundKey}
use Rattle.declining.specs.PartCauses.{Postable}
use Rattle.filing.specs.Updating.{Updated}
use Rattle.filing.specs.declared.Told.{Told}
use Rattle.promises.specs.declared.Update.{Update}
use Rattle.causes.specs.declared.Declined.{Declined}
use Rattle.causes.specs.declared.Declined.TheVariants.{NothingToTakeBack}

-- an update's answer
abbrev pub update_of : Told → Update
update_of t = record { live = pos t.live; k = pos t.counts.searches; s = pos t.counts.steps; h = pos t.counts.heights }

-- words past the part stay, and its capacity, whatever the words are
pub record Inside (w w' : Words) : Type 0 where
  pub beyond : Beyond (cap w) w w'
  pub room : cap w' ≡ cap w

-- the part stands for this plain book, its offers and its memory, and the answer tells its live count
pub record Recorded (w' : Words) (next : State) (held : Option (Held Item)) (t : Told) : Type 0 where
  pub updated : Updated w' next held t.counts
  pub memory : Remembers w' next
  pub live : t.live ≡ length next.offers

-- ---- remembered

pub record PostKept (o : Offer) (w w' : Words) (u : Update) : Type 0 where
  pub inside : Inside w w'
  pub told : Told
  pub answer : u ≡ update_of told
  pub done :
      (plain : State) (held : Option (Held Item)) (f : Form w plain held) → Clear (trials plain (post o.number o.rate o.base)) →
      Postable o plain.capacity (part_leaves f.book.order) → Recorded w' (posted plain o.number o.rate o.base) held told

-- of the live offer in slot s
pub record WithdrawKept (n : ℤ) (s : ℕ) (w w' : Words) (u : Update) : Type 0 where
  pub inside : Inside w w'
  pub told : Told
  pub answer : u ≡ update_of told
  pub done :
      (plain : State) (held : Option (Held Item)) → Form w plain held → Clear (trials plain (withdraw n)) →
      FoundKey number_tree number_field n (up_to most_nodes (word w numbers_root_word)) w s → 1 ≤ s → Recorded w' (withdrawn plain n) held told

-- ---- undone

-- this entry, where it is the last one
pub record Undoes (v : Undo) (w w' : Words) (u : Result Update Declined) : Type 0 where
  pub inside : Inside w w'
  pub refusal : (c : Declined) → u ≡ Err c → w' ≡ w
  pub done :
      (plain : State) (held : Option (Held Item)) (us : List Undo) → Form w plain held → plain.memory ≡ v ∷ us →
      (t : Told) × (u ≡ Ok (update_of t)) × Recorded w' (recalling plain (undone v plain.offers) us) held t

-- the last one, whatever it is
pub record TakesBack (w w' : Words) (u : Result Update Declined) : Type 0 where
  pub inside : Inside w w'
  pub refusal : (c : Declined) → u ≡ Err c → w' ≡ w
  pub nothing : (plain : State) (held : Option (Held Item)) → Form w plain held → plain.memory ≡ [] → u ≡ Err NothingToTakeBack
  pub done :
      (plain : State) (held : Option (Held Item)) (v : Undo) (us : List Undo) → Form w plain held → plain.memory ≡ v ∷ us →
      (t : Told) × (u ≡ Ok (update_of t)) × Recorded w' (recalling plain (undone v plain.offers) us) held t
