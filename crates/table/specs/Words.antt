-- The words of a lent part, and one of them read or written. Both are total: past the end a word reads 0, and a write does nothing.
use Rattle.std.specs.Prelude.{◌≡◌, refl, ◌≢◌, List, Bool, true, false, cond, ℕ, ◌≤◌, ◌<◌, length, get_or, set, ℤ, pos, negsuc, leb}
use Rattle.std.proofs.Common.{arith, length-set, get_or-set_same, get_or-set_other, le-leb, leb-true}
use Rattle.std.proofs.Math.ListN.{get_or-eq_default}
use Rattle.std.proofs.Math.Seq.{set_out}
use Rattle.std.proofs.lemmas.Bool.{lt-leb}

abbrev pub Words : Type 0
Words = List ℤ

unfoldable pub word : Words → ℕ → ℤ
word w at = get_or w at (pos 0)

unfoldable pub wset : Words → ℕ → ℤ → Words
wset w at z = set w at z

pub word_out : (w : Words) (at : ℕ) → length w ≤ at → word w at ≡ pos 0
unfolding word
word_out w at h = get_or-eq_default w (pos 0) h

pub wset_length : (w : Words) (at : ℕ) (z : ℤ) → length (wset w at z) ≡ length w
unfolding wset
wset_length w at z = length-set w at z

pub wset_same : (w : Words) (at : ℕ) (z : ℤ) → at < length w → word (wset w at z) at ≡ z
unfolding word wset
wset_same w at z h = get_or-set_same w at z (pos 0) h

pub wset_other : (w : Words) (at j : ℕ) (z : ℤ) → j ≢ at → word (wset w at z) j ≡ word w j
unfolding word wset
wset_other w at j z h = get_or-set_other w at j z (pos 0) h

pub wset_out : (w : Words) (at : ℕ) (z : ℤ) → length w ≤ at → wset w at z ≡ w
unfolding wset
wset_out w at z h = set_out w at z h

-- ---- a word as a natural number

-- the number itself where it is from 0 to `most`, and 0 for any other word
unfoldable pub up_to : ℕ → ℤ → ℕ
up_to most (pos n) = cond (leb n most) n 0
up_to most (negsuc n) = 0

pub up_to_in : (most n : ℕ) → n ≤ most → up_to most (pos n) ≡ n
unfolding up_to
up_to_in most n h = rw (le-leb n most h)

pub up_to_over : (most n : ℕ) → most < n → up_to most (pos n) ≡ 0
unfolding up_to
up_to_over most n h = rw (lt-leb n most h)

pub up_to_below : (most n : ℕ) → up_to most (negsuc n) ≡ 0
unfolding up_to
up_to_below most n = refl

pub up_to_most : (most : ℕ) (z : ℤ) → up_to most z ≤ most
unfolding up_to
up_to_most most (pos n) = go (leb n most) refl
  where
    go : (b : Bool) → leb n most ≡ b → cond b n 0 ≤ most
    go true e = leb-true n most e
    go false e = omega arith
up_to_most most (negsuc n) = omega arith
