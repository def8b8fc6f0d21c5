-- Texts in columns: how wide they are, and a text of two parts.
use Rattle.std.specs.Prelude.{ℕ, ◌+◌, ◌-◌, ◌≤◌, ◌≡◌, List, ◌++◌, length}
use Rattle.std.proofs.Common.{◌∙◌, append_assoc, arith, length-append}
use Rattle.std.proofs.lemmas.List.{length-replicate}
use Rattle.counter_print.specs.Texts.{justified}

-- A text that fits is as wide as its column, and a longer one keeps its length.
pub justified_length : (w : ℕ) (t : List ℕ) → length (justified w t) ≡ w - length t + length t
unfolding justified
justified_length w t = rw (length-append, length-replicate)

pub justified_width : (w : ℕ) (t : List ℕ) → length t ≤ w → length (justified w t) ≡ w
justified_width w t h = justified_length w t ∙ omega arith

-- What fills its column fits it.
pub justified_fits : (w : ℕ) (t : List ℕ) → length (justified w t) ≡ w → length t ≤ w
justified_fits w t e = omega (arith, justified_length w t)

-- A text of two parts: the first in the columns before the second.
pub justified_append : (w : ℕ) (s t : List ℕ) → length t ≤ w → justified w (s ++ t) ≡ justified (w - length t) s ++ t
unfolding justified
justified_append w s t h =
    let e : w - length (s ++ t) ≡ w - length t - length s = rw length-append (omega arith) in
    rw (e, append_assoc)
