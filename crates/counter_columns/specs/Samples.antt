-- The sample (docs/REQUIREMENTS.md, 14.4), line by line, and the ends of the range.
use Rattle.std.specs.Prelude.{ℕ, zero, suc, ◌-◌, ◌^◌, ◌≡◌, refl, List, [], ◌∷◌, pos, negsuc}
use Prim.Native.String.{String, len, char_at}
use Prim.Native.Char.{code}
use Rattle.plain.specs.Book.{post, withdraw, query, listing}
use Rattle.counter_print.specs.Texts.{digits_within, digits, numeral, decimal, justified, answer_line}
use Rattle.counter_columns.specs.Columns.{last_columns, line_of}

-- The bytes of a text of plain characters.
abbrev pub bytes_from : String → (at left : ℕ) → List ℕ
bytes_from s at zero = []
bytes_from s at (suc k) = code (char_at s at) ∷ bytes_from s (suc at) k

abbrev pub bytes : String → List ℕ
bytes s = bytes_from s 0 (len s)

-- ---- calls

posted : line_of (post (pos 1) (pos 3) (pos 0)) ≡ bytes "P     1       3           0"
unfolding line_of justified decimal numeral digits digits_within
posted = refl

posted_again : line_of (post (pos 2) (pos 1) (pos 10)) ≡ bytes "P     2       1          10"
unfolding line_of justified decimal numeral digits digits_within
posted_again = refl

queried : line_of (query (pos 5)) ≡ bytes "Q                         5"
unfolding line_of last_columns justified decimal numeral digits digits_within
queried = refl

listed : line_of (listing 0) ≡ bytes "L                         0"
unfolding line_of last_columns justified decimal numeral digits digits_within
listed = refl

withdrawn : line_of (withdraw (pos 1)) ≡ bytes "W                         1"
unfolding line_of last_columns justified decimal numeral digits digits_within
withdrawn = refl

rebate : line_of (post (pos 9_999) (negsuc 99_999) (negsuc 999_999_999)) ≡ bytes "P  9999 -100000 -1000000000"
unfolding line_of justified decimal numeral digits digits_within
rebate = refl

-- ---- answers

piece : answer_line 69 (pos 0) (pos 1) (pos 10) (pos 2) ≡ bytes "E  0     1            10             2\n"
unfolding answer_line justified decimal numeral digits digits_within
piece = refl

dearest : answer_line 81 (pos 0) (pos 2) (negsuc 100_999_999_999) (pos 0) ≡ bytes "Q  0     2 -101000000000             0\n"
unfolding answer_line justified decimal numeral digits digits_within
dearest = refl

declined : answer_line 63 (pos 11) (pos 0) (pos 0) (pos 0) ≡ bytes "? 11     0             0             0\n"
unfolding answer_line justified decimal numeral digits digits_within
declined = refl

-- ---- numbers

least : decimal (negsuc (2 ^ 63 - 1)) ≡ bytes "-9223372036854775808"
unfolding decimal numeral digits digits_within
least = refl

greatest : decimal (pos (2 ^ 63 - 1)) ≡ bytes "9223372036854775807"
unfolding decimal numeral digits digits_within
greatest = refl
