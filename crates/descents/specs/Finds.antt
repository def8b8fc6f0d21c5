-- A leaf found by its key.
use Rattle.std.specs.Prelude.{◌≡◌, refl, Bool, true, false, cond, ◌&&◌, ℕ, ◌≤◌, ℤ}
use Rattle.std.proofs.Common.{sym, ◌∙◌, ap}
use Rattle.std.proofs.Math.Option.{none, some}
use Rattle.std.specs.Int.Signed.{le_z, lt_z}
use Rattle.trees.specs.Tree.{leaf}
use Rattle.trees.specs.Operations.{find}
use Rattle.table.specs.Fields.{most_slots}
use Rattle.table.specs.Words.{Words}
use Rattle.table.specs.Layout.{cell}
use Rattle.table.specs.Items.{Item}
pub use Rattle.descents.specs.Seeks.{found_at}
use Rattle.descents.specs.Seeks.{Answered, Looking, Leads, looking_ends}

abbrev pub Found : Words → ℕ → ℕ → ℤ → ℕ → ℕ → Type 0
Found w k f sought x r = Answered find w k f sought x r

-- it is right of a leaf with a greater key
pub find_leads : Leads find lt_z
unfolding find
find_leads key sought true l r e = ap (λ c. cond c (find key sought r) (find key sought l)) e
find_leads key sought false l r e = ap (λ c. cond c (find key sought r) (find key sought l)) e

pub find_ends : {w : Words} {k f x y limit : ℕ} {b : Bool} (sought : ℤ) (d : Bool) → Looking find w k f sought x y limit → y ≤ most_slots →
    b ≡ le_z (cell w f y) sought && le_z sought (cell w f y) → b ≡ d
    → Found w k f sought x (cond d y 0)
unfolding find
find_ends {w} {k} {f} {x} {y} sought d j h eb e = looking_ends (cond d y 0) j h (zero d) (λ key a s i. one d key a s (told key a i))
  where
    zero : (d : Bool) → y ≡ 0 → cond d y 0 ≡ 0
    zero true i = i
    zero false i = refl

    told : (key : Item → ℤ) (a : Item) → cell w f y ≡ key a → d ≡ le_z (key a) sought && le_z sought (key a)
    told key a i = sym e ∙ eb ∙ ap (λ (z : ℤ). le_z z sought && le_z sought z) i

    one : (d : Bool) (key : Item → ℤ) (a : Item) → y ≡ a.slot → d ≡ le_z (key a) sought && le_z sought (key a) →
        cond d y 0 ≡ found_at (find key sought (leaf a))
    one true key a s g = s ∙ ap (λ c. found_at (cond c (some a) none)) g
    one false key a s g = ap (λ c. found_at (cond c (some a) none)) g
