-- A call's line, taken apart: it is 27 bytes long, and its letter and its columns tell the call.
use Rattle.std.specs.Prelude.{ℕ, ◌+◌, ◌≤◌, ◌≡◌, refl, List, [], ◌∷◌, ◌++◌, length, get_or, take, drop, replicate, ℤ, pos}
use Rattle.std.proofs.Common.{ap, sym, ◌∙◌, subst, append_assoc, arith, length-append, length-drop, take_at, drop_at, take_all, length-take-le}
use Rattle.plain.specs.Book.{Call, post, withdraw, query, listing, take_back, report}
use Rattle.counter_print.specs.Texts.{space, decimal, justified, FitsIn}
use Rattle.counter_columns.specs.Columns.{last_columns, line_of, HasLine, IsLineOf}
use Rattle.counter_print.specs.Decimals.{fits_unsigned}
use Rattle.counter_print.specs.Justified.{justified_width, justified_fits}
use Rattle.counter_field.specs.Reading.{Holds}
use Rattle.counter_print.specs.Sections.{between, parts_left, parts_middle, parts_right, two_parts, three_parts}

-- ---- the parts of a line

abbrev pub letter : List ℕ → ℕ
letter line = get_or line 0 0

-- The columns of a post, and of any other call.
pub record PostColumns (line : List ℕ) (number rate base : ℤ) : Type 0 where
  pub first : Holds (between 1 7 line) number
  pub second : Holds (between 7 15 line) rate
  pub third : Holds (between 15 27 line) base

pub record LastColumns (line : List ℕ) (z : ℤ) : Type 0 where
  pub blank : between 1 15 line ≡ replicate 14 space
  pub last : Holds (between 15 27 line) z

-- What a line is by its parts.
abbrev pub Shape : Call → List ℕ → Type 0
Shape (post number rate base) line = (letter line ≡ 80) × PostColumns line number rate base
Shape (withdraw number) line = (letter line ≡ 87) × LastColumns line number
Shape (query load) line = (letter line ≡ 81) × LastColumns line load
Shape (listing room) line = (letter line ≡ 76) × LastColumns line (pos 0)
Shape take_back line = ⊥
Shape (report load price room) line = ⊥

-- ---- columns of a known width

columns_are : (w : ℕ) (columns : List ℕ) (z : ℤ) → length columns ≡ w → Holds columns z → columns ≡ justified w (decimal z)
columns_are w columns z e h = h ∙ ap (λ (i : ℕ). justified i (decimal z)) e

columns_fit : (w : ℕ) (columns : List ℕ) (z : ℤ) → length columns ≡ w → Holds columns z → FitsIn w z
columns_fit w columns z e h = justified_fits w (decimal z) (ap length (sym (columns_are w columns z e h)) ∙ e)

columns_hold : (w : ℕ) (columns : List ℕ) (z : ℤ) → FitsIn w z → columns ≡ justified w (decimal z) → Holds columns z
columns_hold w columns z f e = e ∙ ap (λ (i : ℕ). justified i (decimal z)) (sym (ap length e ∙ justified_width w (decimal z) f))

-- ---- a call's line has its shape

post_columns : (b₀ : ℕ) (number rate base : ℤ) → FitsIn 6 number → FitsIn 8 rate → FitsIn 12 base
    → PostColumns (b₀ ∷ justified 6 (decimal number) ++ justified 8 (decimal rate) ++ justified 12 (decimal base)) number rate base
post_columns b₀ number rate base f₁ f₂ f₃ =
    record {
      first = columns_hold 6 _ number f₁ (rw append_assoc (parts_left A B C 6 8 l m));
      second = columns_hold 8 _ rate f₂ (rw append_assoc (parts_middle A B C 6 8 l m));
      third = columns_hold 12 _ base f₃ (rw append_assoc (ap (take 12) (parts_right A B C 6 8 l m) ∙ take_all 12 C (omega (arith, n))));
    }
  where
    A : List ℕ
    A = justified 6 (decimal number)

    B : List ℕ
    B = justified 8 (decimal rate)

    C : List ℕ
    C = justified 12 (decimal base)

    l : length A ≡ 6
    l = justified_width 6 (decimal number) f₁

    m : length B ≡ 8
    m = justified_width 8 (decimal rate) f₂

    n : length C ≡ 12
    n = justified_width 12 (decimal base) f₃

last_columns_lem : (b₀ : ℕ) (z : ℤ) → FitsIn 12 z → LastColumns (b₀ ∷ last_columns z) z
unfolding last_columns
last_columns_lem b₀ z f =
    record {
      blank = take_at (replicate 14 space) C 14 refl;
      last = columns_hold 12 _ z f (ap (take 12) (drop_at (replicate 14 space) C 14 refl) ∙ take_all 12 C (omega (arith, n)));
    }
  where
    C : List ℕ
    C = justified 12 (decimal z)

    n : length C ≡ 12
    n = justified_width 12 (decimal z) f

zero_fits : FitsIn 12 (pos 0)
zero_fits = fits_unsigned 12 0 (omega arith) (omega arith)

shape_of : (k : Call) → HasLine k → Shape k (line_of k)
unfolding line_of
shape_of (post number rate base) f = (refl, post_columns 80 number rate base f.0 f.1 f.2)
shape_of (withdraw number) f = (refl, last_columns_lem 87 number f)
shape_of (query load) f = (refl, last_columns_lem 81 load f)
shape_of (listing room) f = (refl, last_columns_lem 76 (pos 0) zero_fits)
shape_of take_back f = f
shape_of (report load price room) f = f

pub line_shape : {k : Call} {line : List ℕ} → IsLineOf k line → Shape k line
line_shape {k} i = subst (Shape k) (sym i.text) (shape_of k i.fits)

-- ---- 27 bytes of a call's shape are its line

section_length : (a b : ℕ) (t : List ℕ) → a + b ≤ length t → length (take b (drop a t)) ≡ b
section_length a b t h = length-take-le b (drop a t) (rw length-drop (omega arith))

post_line : (b₀ : ℕ) (t : List ℕ) (number rate base : ℤ) → length t ≡ 26 → PostColumns (b₀ ∷ t) number rate base
    → (FitsIn 6 number × FitsIn 8 rate × FitsIn 12 base) × (b₀ ∷ t ≡ b₀ ∷ justified 6 (decimal number) ++ justified 8 (decimal rate) ++ justified 12
    (decimal base))
post_line b₀ t number rate base e p = (
  (columns_fit 6 _ number l₁ p.first, columns_fit 8 _ rate l₂ p.second, columns_fit 12 _ base l₃ p.third),
  ap (λ (u : List ℕ). b₀ ∷ u) (three_parts 6 8 12 t e
      ∙ (λ i. columns_are 6 _ number l₁ p.first i ++ columns_are 8 _ rate l₂ p.second i ++ columns_are 12 _ base l₃ p.third i)),
)
  where
    l₁ : length (take 6 t) ≡ 6
    l₁ = length-take-le 6 t (omega arith)

    l₂ : length (take 8 (drop 6 t)) ≡ 8
    l₂ = section_length 6 8 t (omega arith)

    l₃ : length (take 12 (drop 14 t)) ≡ 12
    l₃ = section_length 14 12 t (omega arith)

last_line : (b₀ : ℕ) (t : List ℕ) (z : ℤ) → length t ≡ 26 → LastColumns (b₀ ∷ t) z → FitsIn 12 z × (b₀ ∷ t ≡ b₀ ∷ last_columns z)
unfolding last_columns
last_line b₀ t z e p = (
  columns_fit 12 _ z l p.last,
  ap (λ (u : List ℕ). b₀ ∷ u) (two_parts 14 12 t e ∙ (λ i. p.blank i ++ columns_are 12 _ z l p.last i)),
)
  where
    l : length (take 12 (drop 14 t)) ≡ 12
    l = section_length 14 12 t (omega arith)

line_of_lem : (k : Call) (b₀ : ℕ) (t : List ℕ) → length t ≡ 26 → Shape k (b₀ ∷ t) → IsLineOf k (b₀ ∷ t)
unfolding line_of
line_of_lem (post number rate base) b₀ t e s =
    let q = post_line b₀ t number rate base e s.1 in
    record { fits = q.0; text = q.1 ∙ ap (λ (b : ℕ). b ∷ justified 6 (decimal number) ++ justified 8 (decimal rate) ++ justified 12 (decimal base)) s.0 }
line_of_lem (withdraw number) b₀ t e s =
    let q = last_line b₀ t number e s.1 in
    record { fits = q.0; text = q.1 ∙ ap (λ (b : ℕ). b ∷ last_columns number) s.0 }
line_of_lem (query load) b₀ t e s =
    let q = last_line b₀ t load e s.1 in
    record { fits = q.0; text = q.1 ∙ ap (λ (b : ℕ). b ∷ last_columns load) s.0 }
line_of_lem (listing room) b₀ t e s =
    let q = last_line b₀ t (pos 0) e s.1 in
    record { fits = tt; text = q.1 ∙ ap (λ (b : ℕ). b ∷ last_columns (pos 0)) s.0 }
line_of_lem take_back b₀ t e s = absurd s
line_of_lem (report load price room) b₀ t e s = absurd s

pub shape_line : (k : Call) (line : List ℕ) → length line ≡ 27 → Shape k line → IsLineOf k line
shape_line k [] e s = absurd (omega arith)
shape_line k (b₀ ∷ t) e s = line_of_lem k b₀ t (omega arith) s

-- ---- a call's line is 27 bytes long

line_length_of : (k : Call) → HasLine k → length (line_of k) ≡ 27
unfolding line_of last_columns
line_length_of (post number rate base) f =
    simp length-append
    (omega (arith, justified_width 6 (decimal number) f.0, justified_width 8 (decimal rate) f.1, justified_width 12 (decimal base) f.2))
line_length_of (withdraw number) f = omega (arith, justified_width 12 (decimal number) f)
line_length_of (query load) f = omega (arith, justified_width 12 (decimal load) f)
line_length_of (listing room) f = omega (arith, justified_width 12 (decimal (pos 0)) zero_fits)
line_length_of take_back f = absurd f
line_length_of (report load price room) f = absurd f

pub line_length : {k : Call} {line : List ℕ} → IsLineOf k line → length line ≡ 27
line_length {k} i = ap length i.text ∙ line_length_of k i.fits
