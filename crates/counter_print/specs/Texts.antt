-- The texts of the counter program's columns (docs/REQUIREMENTS.md, 14.3), as lists of bytes: numbers, columns, an answer's line.
use Rattle.std.specs.Prelude.{ℕ, zero, suc, ◌+◌, ◌-◌, ◌/◌, ◌%◌, ◌≤◌, List, [], ◌∷◌, ◌++◌, length, replicate, ℤ, pos, negsuc}

-- ---- bytes

abbrev pub space : ℕ
space = 32

abbrev pub minus : ℕ
minus = 45

abbrev pub newline : ℕ
newline = 10

abbrev pub digit : ℕ → ℕ
digit d = 48 + d

-- ---- numbers

-- The digits of a number, the leading one first, and none for 0. The first argument bounds how many there are.
unfoldable pub digits_within : ℕ → ℕ → List ℕ
digits_within zero n = []
digits_within (suc k) zero = []
digits_within (suc k) (suc m) = digits_within k (suc m / 10) ++ digit (suc m % 10) ∷ []

unfoldable pub digits : ℕ → List ℕ
digits n = digits_within n n

-- The digits of its tens, and its last digit: 0 is written too.
unfoldable pub numeral : ℕ → List ℕ
numeral n = digits (n / 10) ++ digit (n % 10) ∷ []

-- The minus stands against the digits.
unfoldable pub decimal : ℤ → List ℕ
decimal (pos n) = numeral n
decimal (negsuc n) = minus ∷ numeral (suc n)

-- ---- columns

-- A text in a column so many bytes wide: spaces before.
unfoldable pub justified : ℕ → List ℕ → List ℕ
justified width text = replicate (width - length text) space ++ text

-- The number's text is at most as wide as its column.
abbrev pub FitsIn : ℕ → ℤ → Type 0
FitsIn width z = length (decimal z) ≤ width

-- ---- an answer's line, with its newline

-- Letter, refusal or 0, offer, value, second value.
unfoldable pub answer_line : ℕ → (refusal offer value second : ℤ) → List ℕ
answer_line letter refusal offer value second =
    letter ∷ justified 3 (decimal refusal) ++ justified 6 (decimal offer) ++ justified 14 (decimal value) ++ justified 14 (decimal second) ++ newline ∷ []
