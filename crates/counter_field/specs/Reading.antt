-- What the reading functions answer.
use Rattle.std.specs.Prelude.{ℕ, ◌≤◌, ◌≡◌, refl, ◌≢◌, List, ◌++◌, length, take, drop, ℤ, Option, Some, None}
use Rattle.std.proofs.Common.{ap, sym, ◌∙◌, arith, length-take-le, take_at}
use Rattle.counter_print.specs.Texts.{decimal, justified, FitsIn}
use Rattle.counter_field.specs.Values.{told, told_justified, told_fits}
use Rattle.counter_print.specs.Justified.{justified_length}
use Rattle.counter_print.specs.Printed.{Justifies}
use Rattle.counter_print.specs.Decimals.{decimal_some}

-- The columns hold a number: its decimal text, justified to their width.
abbrev pub Holds : List ℕ → ℤ → Type 0
Holds columns z = columns ≡ justified (length columns) (decimal z)

-- A field's number is the one that the columns hold, and there is none where they hold none.
abbrev pub FieldRead : List ℕ → Option ℤ → Type 0
FieldRead columns (Some z) = Holds columns z
FieldRead columns None = ((z : ℤ) → Holds columns z → ⊥)

-- They hold no other number than the one that they tell.
pub holds_told : (columns : List ℕ) (z : ℤ) → Holds columns z → told columns ≡ z
holds_told columns z e = ap told e ∙ told_justified (length columns) z

pub field_unique : (columns : List ℕ) (f g : Option ℤ) → FieldRead columns f → FieldRead columns g → f ≡ g
field_unique columns (Some y) (Some z) p q = ap Some (sym (holds_told columns y p) ∙ holds_told columns z q)
field_unique columns (Some y) None p q = absurd (q y p)
field_unique columns None (Some z) p q = absurd (p z q)
field_unique columns None None p q = refl

-- ---- the one candidate, printed into as many bytes

pub holds_none : (columns : List ℕ) (z : ℤ) → length columns ≡ 0 → Holds columns z → ⊥
holds_none columns z e h = omega (arith, ap length h, justified_length (length columns) (decimal z), decimal_some z)

module _ (columns bytes text : List ℕ) (z : ℤ) (some : length columns ≢ 0) (room : length columns ≤ length bytes) (number : z ≡ told columns)
    (kept : length text ≡ length (take (length columns) bytes)) (printed : Justifies z (take (length columns) bytes) text) where
  wide : length (take (length columns) bytes) ≡ length columns
  wide = length-take-le (length columns) bytes room

  fits : FitsIn (length (take (length columns) bytes)) z
  fits = rw (wide, number) (told_fits columns (omega arith))

  pub candidate : take (length columns) (text ++ drop (length columns) bytes) ≡ justified (length columns) (decimal z)
  candidate = take_at text (drop (length columns) bytes) (length columns) (kept ∙ wide) ∙ printed.text fits ∙ ap (λ (w : ℕ). justified w (decimal z)) wide

  -- Whatever the columns hold is the candidate.
  pub held : (y : ℤ) → Holds columns y → columns ≡ take (length columns) (text ++ drop (length columns) bytes)
  held y h = h ∙ ap (λ (x : ℤ). justified (length columns) (decimal x)) (sym (number ∙ holds_told columns y h)) ∙ sym candidate
