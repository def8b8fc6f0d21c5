-- What `parse` answers: the command of the call whose line it was given, and none where it was given no call's.
use Rattle.std.specs.Prelude.{ℕ, ◌≡◌, refl, ◌≢◌, ◌↔◌, Bool, ◌&&◌, [], ◌∷◌, suc, drop, true, false, cond, length, replicate, ℤ, pos, negsuc, eqb, Option, Some, None}
use Rattle.std.proofs.Common.{ap, sym, ◌∙◌, subst, arith, rules, length-take-le, length-drop, eqb-true}
use Rattle.std.specs.Option.{option_map}
use Rattle.std.specs.List.{list_all}
use Rattle.std.specs.Bool.{then_some, Decides}
use mir.Syntax.{w64}
use mir.Val.{of_z, SFits}
use mathlib.Core.List.{List, List-discrete}
use mathlib.Core.Bool.{true≢false}
use Rattle.std.proofs.Math.Decide.{dec_le, ℕ_discrete}
use Rattle.plain.specs.Book.{Call, post, withdraw, query, listing, take_back, report}
use Rattle.counter_columns.specs.declared.Command.{Command}
use Rattle.counter_columns.specs.declared.Command.TheVariants.{Post, Withdraw, Query, List as Listing}
use Rattle.counter_print.specs.Texts.{space, decimal, FitsIn}
use Rattle.counter_columns.specs.Columns.{line_of, HasLine, IsLineOf}
use Rattle.counter_field.specs.Values.{told}
use Rattle.counter_field.specs.Reading.{FieldRead, holds_told}
use Rattle.counter_print.specs.Sections.{between}
use Rattle.counter_columns.specs.CallLines.{letter, Shape, PostColumns, LastColumns, line_shape, shape_line, line_length}

-- What a line tells: a command, where it is a call's.
abbrev pub LineCommand : Type 0
LineCommand = Option Command

-- The command of a call, where it has one. A listing's room is no part of it.
abbrev pub as_command : Call → LineCommand
as_command (post number rate base) = Some (Post number rate base)
as_command (withdraw number) = Some (Withdraw number)
as_command (query load) = Some (Query load)
as_command (listing room) = Some Listing
as_command take_back = None
as_command (report load price room) = None

-- The command is a call's exactly where the line is that call's, and there is none where the line is no call's.
abbrev pub Parsed : List ℕ → LineCommand → Type 0
Parsed line (Some m) = ((k : Call) → (Some m ≡ as_command k) ↔ IsLineOf k line)
Parsed line None = ((k : Call) → IsLineOf k line → ⊥)

-- What stands in the last columns, the ones before them blank.
abbrev pub LastRead : List ℕ → Option ℤ → Type 0
LastRead line (Some z) = LastColumns line z
LastRead line None = ((z : ℤ) → LastColumns line z → ⊥)

-- ---- the command that a line's parts tell

decode : List ℕ → Command
decode line =
    cond (eqb (letter line) 80) (Post (told (between 1 7 line)) (told (between 7 15 line)) (told (between 15 27 line)))
    (cond (eqb (letter line) 87) (Withdraw (told (between 15 27 line)))
    (cond (eqb (letter line) 81) (Query (told (between 15 27 line))) Listing))

shape_tells : (k : Call) (line : List ℕ) → Shape k line → Some (decode line) ≡ as_command k
unfolding decode
shape_tells (post n r b) line s = rw (
  s.0,
  holds_told (between 1 7 line) n s.1.first,
  holds_told (between 7 15 line) r s.1.second,
  holds_told (between 15 27 line) b s.1.third,
)
shape_tells (withdraw n) line s = rw (s.0, holds_told (between 15 27 line) n s.1.last)
shape_tells (query q) line s = rw (s.0, holds_told (between 15 27 line) q s.1.last)
shape_tells (listing room) line s = rw s.0
shape_tells take_back line s = absurd s
shape_tells (report load price room) line s = absurd s

-- ---- a line that is some call's

-- A call with a command: its room is free.
some_call : Command → Call
some_call (Post n r b) = post n r b
some_call (Withdraw n) = withdraw n
some_call (Query q) = query q
some_call Listing = listing 0

one_command : {a b : Command} → Some a ≡ Some b → a ≡ b
one_command e = cc

-- the line of a call is that of its command
SameLine : Command → Call → List ℕ → Type 0
SameLine m k line = IsLineOf k line ↔ IsLineOf (some_call m) line

some_line : (k : Call) {m : Command} (line : List ℕ) → Some m ≡ as_command k → SameLine m k line
unfolding SameLine some_call line_of
some_line (post n r b) line e = subst (λ (m : Command). SameLine m (post n r b) line) (sym (one_command e)) (λ i. i, λ i. i)
some_line (withdraw n) line e = subst (λ (m : Command). SameLine m (withdraw n) line) (sym (one_command e)) (λ i. i, λ i. i)
some_line (query q) line e = subst (λ (m : Command). SameLine m (query q) line) (sym (one_command e)) (λ i. i, λ i. i)
some_line (listing room) line e =
    subst (λ (m : Command). SameLine m (listing room) line) (sym (one_command e))
    (λ i. record { fits = tt; text = i.text }, λ i. record { fits = tt; text = i.text })
some_line take_back line e = let z : ◌≡◌ {A = ℕ} 0 1 = cc in absurd (omega arith)
some_line (report load price room) line e = let z : ◌≡◌ {A = ℕ} 0 1 = cc in absurd (omega arith)

pub parsed : (k : Call) {m : Command} (line : List ℕ) → Some m ≡ as_command k → IsLineOf k line → Parsed line (Some m)
unfolding SameLine
parsed k line e i j =
    (λ d. (some_line j line d).1 ((some_line k line e).0 i), λ i'. e ∙ sym (shape_tells k line (line_shape i)) ∙ shape_tells j line (line_shape i'))

told_line : {line : List ℕ} {m : Command} → Parsed line (Some m) → IsLineOf (some_call m) line
unfolding some_call
told_line {m = Post n r b} p = (p (post n r b)).0 refl
told_line {m = Withdraw n} p = (p (withdraw n)).0 refl
told_line {m = Query x} p = (p (query x)).0 refl
told_line {m = Listing} p = (p (listing 0)).0 refl

-- ---- one line has one answer

pub parsed_unique : (line : List ℕ) (r s : LineCommand) → Parsed line r → Parsed line s → r ≡ s
parsed_unique line (Some (Post n r b)) (Some s) p q = sym ((q (post n r b)).1 ((p (post n r b)).0 refl))
parsed_unique line (Some (Withdraw n)) (Some s) p q = sym ((q (withdraw n)).1 ((p (withdraw n)).0 refl))
parsed_unique line (Some (Query x)) (Some s) p q = sym ((q (query x)).1 ((p (query x)).0 refl))
parsed_unique line (Some Listing) (Some s) p q = sym ((q (listing 0)).1 ((p (listing 0)).0 refl))
parsed_unique line (Some m) None p q = absurd (q (some_call m) (told_line p))
parsed_unique line None (Some m) p q = absurd (p (some_call m) (told_line q))
parsed_unique line None None p q = refl

-- ---- and every line has one: the command as a function of the line

all_known : {A B C : Type 0} → Dec A → Dec B → Dec C → Dec (A × B × C)
all_known (yes a) (yes b) (yes c) = yes (a, b, c)
all_known (yes a) (yes b) (no c) = no (λ p. c p.2)
all_known (yes a) (no b) d = no (λ p. b p.1)
all_known (no a) d e = no (λ p. a p.0)

fits_known : (width : ℕ) (z : ℤ) → Dec (FitsIn width z)
fits_known width z = dec_le (length (decimal z)) width

has_line_known : (k : Call) → Dec (HasLine k)
has_line_known (post n r b) = all_known (fits_known 6 n) (fits_known 8 r) (fits_known 12 b)
has_line_known (withdraw n) = fits_known 12 n
has_line_known (query q) = fits_known 12 q
has_line_known (listing room) = yes tt
has_line_known take_back = no (λ f. f)
has_line_known (report load price room) = no (λ f. f)

line_known : (k : Call) (line : List ℕ) → Dec (IsLineOf k line)
line_known k line = go (has_line_known k) (List-discrete ℕ_discrete line (line_of k))
  where
    go : Dec (HasLine k) → Dec (line ≡ line_of k) → Dec (IsLineOf k line)
    go (yes f) (yes e) = yes (record { fits = f; text = e })
    go (yes f) (no e) = no (λ i. e i.text)
    go (no f) d = no (λ i. f i.fits)

command_if : (m : Command) {line : List ℕ} → Dec (IsLineOf (some_call m) line) → LineCommand
command_if m (yes i) = Some m
command_if m (no n) = None

-- `Parsed` fixes it.
pub command_of : List ℕ → LineCommand
command_of line = command_if (decode line) (line_known (some_call (decode line)) line)

pub command_parsed : (line : List ℕ) → Parsed line (command_of line)
unfolding SameLine command_of command_if
command_parsed line = go (line_known (some_call (decode line)) line)
  where
    go : (d : Dec (IsLineOf (some_call (decode line)) line)) → Parsed line (command_if (decode line) d)
    go (yes i) = parsed (some_call (decode line)) line (shape_tells (some_call (decode line)) line (line_shape i)) i
    go (no n) = (λ k i. n ((some_line k line (shape_tells k line (line_shape i))).0 i))

-- ---- no call's line, and a call's line, by the parts

-- Where each test of the program sends a line.
pub wrong_length : (line : List ℕ) → length line ≢ 27 → Parsed line None
wrong_length line h = (λ k i. h (line_length i))

pub wrong_letter : (line : List ℕ) → letter line ≢ 80 → letter line ≢ 87 → letter line ≢ 81 → letter line ≢ 76 → Parsed line None
wrong_letter line p w q l = (λ k i. go k (line_shape i))
  where
    go : (k : Call) → Shape k line → ⊥
    go (post n r b) s = p s.0
    go (withdraw n) s = w s.0
    go (query x) s = q s.0
    go (listing room) s = l s.0
    go take_back s = s
    go (report load price room) s = s

-- The letter P, and columns that hold no three numbers.
pub wrong_post : (line : List ℕ) → letter line ≡ 80 → ((n r b : ℤ) → PostColumns line n r b → ⊥) → Parsed line None
wrong_post line e none = (λ k i. go k (line_shape i))
  where
    go : (k : Call) → Shape k line → ⊥
    go (post n r b) s = none n r b s.1
    go (withdraw n) s = omega (arith, s.0)
    go (query x) s = omega (arith, s.0)
    go (listing room) s = omega (arith, s.0)
    go take_back s = s
    go (report load price room) s = s

-- Another letter, and last columns that hold no number.
pub wrong_last : (line : List ℕ) → letter line ≢ 80 → ((z : ℤ) → LastColumns line z → ⊥) → Parsed line None
wrong_last line e none = (λ k i. go k (line_shape i))
  where
    go : (k : Call) → Shape k line → ⊥
    go (post n r b) s = e s.0
    go (withdraw n) s = none n s.1
    go (query x) s = none x s.1
    go (listing room) s = none (pos 0) s.1
    go take_back s = s
    go (report load price room) s = s

-- The letter L, and last columns that hold another number than 0.
pub wrong_list : (line : List ℕ) (z : ℤ) → letter line ≡ 76 → LastColumns line z → z ≢ pos 0 → Parsed line None
wrong_list line z e held other = (λ k i. go k (line_shape i))
  where
    go : (k : Call) → Shape k line → ⊥
    go (post n r b) s = omega (arith, s.0)
    go (withdraw n) s = omega (arith, s.0)
    go (query x) s = omega (arith, s.0)
    go (listing room) s = other (sym (holds_told (between 15 27 line) z held.last) ∙ holds_told (between 15 27 line) (pos 0) s.1.last)
    go take_back s = s
    go (report load price room) s = s

-- ---- a line that is some call's, by its parts

pub is_post : (line : List ℕ) (n r b : ℤ) → length line ≡ 27 → letter line ≡ 80 → PostColumns line n r b → Parsed line (Some (Post n r b))
is_post line n r b e l p = parsed (post n r b) line refl (shape_line (post n r b) line e (l, p))

-- A withdrawal and a query are told by their last columns, where those hold a number.
pub reads_withdraw : (line : List ℕ) (f : Option ℤ) → length line ≡ 27 → letter line ≡ 87 → LastRead line f → Parsed line (option_map Withdraw f)
reads_withdraw line (Some n) e l p = parsed (withdraw n) line refl (shape_line (withdraw n) line e (l, p))
reads_withdraw line None e l p = wrong_last line (λ h. omega arith) p

pub reads_query : (line : List ℕ) (f : Option ℤ) → length line ≡ 27 → letter line ≡ 81 → LastRead line f → Parsed line (option_map Query f)
reads_query line (Some q) e l p = parsed (query q) line refl (shape_line (query q) line e (l, p))
reads_query line None e l p = wrong_last line (λ h. omega arith) p

-- A listing by the letter and a 0, which is told by its bits.
zero_bits : (z : ℤ) → SFits w64 z → Decides (eqb (of_z w64 z) 0) (z ≡ pos 0)
zero_bits (pos n) f = (λ h. ap pos (eqb-true n 0 h), λ e. search rules)
zero_bits (negsuc n) f = (λ h. let none : of_z w64 (negsuc n) ≡ 0 = eqb-true _ _ h in absurd (omega arith), λ e. absurd (let none : ◌≡◌ {A = ℕ} 0 1 = cc in omega arith))

pub reads_list : (line : List ℕ) (z : ℤ) → SFits w64 z → length line ≡ 27 → letter line ≡ 76 → LastColumns line z
    → Parsed line (then_some (eqb (of_z w64 z) 0) Listing)
reads_list line z f e l held = go (eqb (of_z w64 z) 0) (zero_bits z f)
  where
    go : (b : Bool) → Decides b (z ≡ pos 0) → Parsed line (then_some b Listing)
    go true d =
        let zero : LastColumns line (pos 0) = rw (d.0 refl) at held in
        parsed (listing 0) line refl (shape_line (listing 0) line e (l, zero))
    go false d = wrong_list line z l held (λ zero. true≢false (sym (d.1 zero)))

-- ---- a field that was read

pub last_read : (line : List ℕ) (f : Option ℤ) → between 1 15 line ≡ replicate 14 space → FieldRead (between 15 27 line) f → LastRead line f
last_read line (Some z) e r = record { blank = e; last = r }
last_read line None e r = λ z l. r z l.last

-- A byte that is no space is found where the columns before them are not blank.
all_spaces : (t : List ℕ) → list_all (λ b. eqb b space) t ≡ true → t ≡ replicate (length t) space
all_spaces [] h = refl
all_spaces (b ∷ t) h = go (eqb b space) refl h (all_spaces t)
  where
    go : (x : Bool) → eqb b space ≡ x → (x && list_all (λ b. eqb b space) t) ≡ true
        → (list_all (λ b. eqb b space) t ≡ true → t ≡ replicate (length t) space) → b ∷ t ≡ replicate (suc (length t)) space
    go true e h rest =
        let first : b ≡ space = eqb-true b space e in
        rw first (ap (λ (l : List ℕ). space ∷ l) (rest h))
    go false e h rest = absurd (true≢false (sym h))

pub blank_read : (line : List ℕ) (f : Option ℤ) → length line ≡ 27 → list_all (λ b. eqb b space) (between 1 15 line) ≡ true
    → FieldRead (between 15 27 line) f → LastRead line f
blank_read line f e h =
    let long : length (between 1 15 line) ≡ 14 = length-take-le 14 (drop 1 line) (omega (arith, length-drop 1 line)) in
    last_read line f (all_spaces (between 1 15 line) h ∙ ap (λ (n : ℕ). replicate n space) long)
