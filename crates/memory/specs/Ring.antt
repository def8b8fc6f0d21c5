-- What the code promises of the ring of entries (form, Memory), whatever the words are.
use Rattle.std.specs.Prelude.{◌≡◌, List, [], ◌∷◌, ℕ, ◌≤◌, ℤ}
use Rattle.std.specs.Int.{w64}
use Rattle.std.proofs.Common.{SFits}
use Rattle.plain.specs.Book.{Undo, unpost, restore, remember}
use Rattle.table.specs.Words.{Words, word}
use Rattle.table.specs.Layout.{cap, part_end}
use Rattle.form.specs.Memory.{Ring, posted, withdrawn}
use Rattle.form.specs.Local.{AlikeOffers}
use Rattle.memory.specs.declared.Entry.{Entry}

-- ---- the last entry

-- the entry that stands for the first of these
abbrev pub Reads : List Undo → Entry → Type 0
Reads [] e = e.done ≡ 0
Reads (unpost n ∷ us) e = (e.done ≡ posted) × (e.number ≡ n)
Reads (restore o ∷ us) e = (e.done ≡ withdrawn) × (record { number = e.number; rate = e.rate; base = e.base } ≡ o)

pub record LastOf (w : Words) (e : Entry) : Type 0 where
  pub reads : (us : List Undo) → Ring w us → Reads us e
  -- whatever the words are, the fields are 64-bit numbers
  pub fits : SFits w64 e.number × SFits w64 e.rate × SFits w64 e.base

-- ---- no entry, one entry more, one entry less

-- only the memory's words are written, whatever the words are
pub record OnlyMemory (w w' : Words) : Type 0 where
  pub offers : AlikeOffers (cap w) w w'
  pub beyond : (i : ℕ) → part_end (cap w) ≤ i → word w' i ≡ word w i

-- what an entry with these words undoes
pub data Entered : Undo → ℕ → ℤ → ℤ → ℤ → Type 0 where
  of_post : {n r b : ℤ} → Entered (unpost n) posted n r b
  of_withdrawal : {n r b : ℤ} → Entered (restore (record { number = n; rate = r; base = b })) withdrawn n r b

pub record Emptying (w w' : Words) : Type 0 where
  pub only : OnlyMemory w w'
  pub ring : 1 ≤ cap w → Ring w' []

pub record Remembering (done : ℕ) (n r b : ℤ) (w w' : Words) : Type 0 where
  pub only : OnlyMemory w w'
  pub ring : (u : Undo) (us : List Undo) → Entered u done n r b → 1 ≤ cap w → Ring w us → Ring w' (remember (u ∷ []) us)

pub record Forgetting (w w' : Words) : Type 0 where
  pub only : OnlyMemory w w'
  pub ring : (u : Undo) (us : List Undo) → Ring w (u ∷ us) → Ring w' us
