-- Two integers are one, as a test that computes.
use Rattle.std.specs.Prelude.{Bool, ◌&&◌, ℤ}
use Rattle.std.specs.Int.Signed.{le_z}

abbrev pub equal : ℤ → ℤ → Bool
equal a b = le_z a b && le_z b a
