-- The numbers of the causes for which a call is declined (docs/REQUIREMENTS.md, 13).
use Rattle.std.specs.Prelude.{Bool, cond, ◌&&◌, ◌||◌, ℤ, pos}
use Rattle.std.specs.Int.Signed.{le_z}
use Rattle.causes.specs.declared.Declined.{Declined}
use Rattle.causes.specs.declared.Declined.TheVariants.{Capacity, NoRoom, NoBook, OutOfRange, RateOutOfRange, BaseOutOfRange, LoadOutOfRange}
use Rattle.causes.specs.declared.Declined.TheVariants.{NumberLive, Full, NotLive, NothingToTakeBack, Empty, OutputTooShort, RatesNotApart, NoSuchMark, Other}

-- the numbers of the named causes
abbrev pub is_cause : ℤ → Bool
is_cause z = (le_z (pos 1) z && le_z z (pos 5)) || (le_z (pos 7) z && le_z z (pos 10)) || (le_z (pos 12) z && le_z z (pos 17))

-- Each named cause has its own (`named_once`), and another number stands for itself.
abbrev pub number_of : Declined → ℤ
number_of Capacity = pos 1
number_of NoRoom = pos 2
number_of NoBook = pos 3
number_of OutOfRange = pos 4
number_of RateOutOfRange = pos 14
number_of BaseOutOfRange = pos 15
number_of LoadOutOfRange = pos 16
number_of NumberLive = pos 5
number_of Full = pos 7
number_of NotLive = pos 8
number_of NothingToTakeBack = pos 17
number_of Empty = pos 9
number_of OutputTooShort = pos 10
number_of RatesNotApart = pos 12
number_of NoSuchMark = pos 13
number_of (Other n) = cond (is_cause n) (pos 0) n

-- a cause by name
abbrev pub Named : Declined → Type 0
Named Capacity = Unit {0}
Named NoRoom = Unit {0}
Named NoBook = Unit {0}
Named OutOfRange = Unit {0}
Named RateOutOfRange = Unit {0}
Named BaseOutOfRange = Unit {0}
Named LoadOutOfRange = Unit {0}
Named NumberLive = Unit {0}
Named Full = Unit {0}
Named NotLive = Unit {0}
Named NothingToTakeBack = Unit {0}
Named Empty = Unit {0}
Named OutputTooShort = Unit {0}
Named RatesNotApart = Unit {0}
Named NoSuchMark = Unit {0}
Named (Other n) = ⊥
