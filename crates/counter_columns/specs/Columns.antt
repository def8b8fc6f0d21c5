-- The lines of the calls (docs/REQUIREMENTS.md, 14.2), as lists of bytes, without their newlines.
use Rattle.std.specs.Prelude.{ℕ, ◌≡◌, List, [], ◌∷◌, ◌++◌, replicate, ℤ, pos}
use Rattle.plain.specs.Book.{Call, post, withdraw, query, listing, take_back, report}
use Rattle.counter_print.specs.Texts.{space, decimal, justified, FitsIn}

-- One number in the last 12 of 26 columns.
unfoldable pub last_columns : ℤ → List ℕ
last_columns z = replicate 14 space ++ justified 12 (decimal z)

-- P, W, Q and L. A listing's line does not tell its room. A take-back and a report have no line.
unfoldable pub line_of : Call → List ℕ
line_of (post number rate base) = 80 ∷ justified 6 (decimal number) ++ justified 8 (decimal rate) ++ justified 12 (decimal base)
line_of (withdraw number) = 87 ∷ last_columns number
line_of (query load) = 81 ∷ last_columns load
line_of (listing room) = 76 ∷ last_columns (pos 0)
line_of take_back = []
line_of (report load price room) = []

-- The calls that have a line: each number fits its columns.
abbrev pub HasLine : Call → Type 0
HasLine (post number rate base) = FitsIn 6 number × FitsIn 8 rate × FitsIn 12 base
HasLine (withdraw number) = FitsIn 12 number
HasLine (query load) = FitsIn 12 load
HasLine (listing room) = Unit {0}
HasLine take_back = ⊥
HasLine (report load price room) = ⊥

pub record IsLineOf (k : Call) (line : List ℕ) : Type 0 where
  pub fits : HasLine k
  pub text : line ≡ line_of k
