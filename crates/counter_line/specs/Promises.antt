-- The counter (docs/REQUIREMENTS.md, 14): what a line prints, and what it does to the plain book. The book stands at the table's
-- beginning, and a listing has room for 192 words. The program opens a book of capacity 64; a line is answered on one of any capacity.
use Rattle.std.specs.Prelude.{Some, None, ◌≡◌, List, [], ◌∷◌, ◌++◌, cond, ℕ, ◌≤◌, ◌<◌, length, eqb, ℤ, pos}
use Rattle.std.proofs.Math.Option.{Option}
use Rattle.plain.specs.Causes.{Cause, cause_number, unreadable_line, FirstOf}
use Rattle.plain.specs.Book.{State, post, withdraw, query, listing, refused, Outcome, opened, step}
use Rattle.counter_columns.specs.declared.Command.TheVariants.{Post, Withdraw, Query, List as Listing}
use Rattle.counter_print.specs.Texts.{newline}
use Rattle.counter_reply.specs.Answered.{answered, Prints}
use Rattle.counter_columns.specs.Commands.{LineCommand, command_of}
use Rattle.dynamic.specs.OfferTree.{Held}
use Rattle.table.specs.Fields.{capacity_word}
use Rattle.table.specs.Words.{word}
use Rattle.table.specs.Items.{Item}
use Rattle.form.specs.Form.{Form}
use Rattle.promises.specs.Promises.{part_of, capacity_at, table_trials, OnlyPart}

-- ---- the plain counter

abbrev pub capacity : ℕ
capacity = 64

abbrev pub room : ℕ
room = 192

-- The plain book after a line, and the bytes that the line prints.
pub record Told : Type 0 where
  pub state : State
  pub bytes : List ℕ

abbrev pub letter_of : LineCommand → ℕ
letter_of (Some (Post number rate base)) = 80
letter_of (Some (Withdraw number)) = 87
letter_of (Some (Query load)) = 81
letter_of (Some Listing) = 76
letter_of None = 63

abbrev pub named : LineCommand → ℤ
named (Some (Post number rate base)) = number
named (Some (Withdraw number)) = number
named (Some (Query load)) = pos 0
named (Some Listing) = pos 0
named None = pos 0

abbrev pub outcome : State → LineCommand → Outcome
outcome s (Some (Post number rate base)) = step s (post number rate base)
outcome s (Some (Withdraw number)) = step s (withdraw number)
outcome s (Some (Query load)) = step s (query load)
outcome s (Some Listing) = step s (listing room)
outcome s None = record { state = s; answer = refused (cause_number unreadable_line) }

abbrev pub commanded : State → LineCommand → Told
commanded s m = record { state = (outcome s m).state; bytes = answered (letter_of m) (named m) (outcome s m).answer }

-- A line, without its newline.
abbrev pub told : State → List ℕ → Told
told s line = commanded s (command_of line)

-- Lines one after the other.
abbrev pub told_all : State → List (List ℕ) → List ℕ
told_all s [] = []
told_all s (line ∷ lines) = (told s line).bytes ++ told_all (told s line).state lines

-- The lines of an input, the bytes `text` of the first one being there already. The last line may lack its newline; after a final newline there is none.
abbrev pub lines_from : List ℕ → List ℕ → List (List ℕ)
lines_from [] [] = []
lines_from (b ∷ text) [] = (b ∷ text) ∷ []
lines_from text (b ∷ input) = cond (eqb b newline) (text ∷ lines_from [] input) (lines_from (text ++ b ∷ []) input)

-- What the counter prints for an input.
abbrev pub output : List ℕ → List ℕ
output input = told_all (opened (pos capacity)) (lines_from [] input)

-- ---- the counter on words

-- The most that a line prints: 64 pieces and the listing's own line.
abbrev pub most : ℕ
most = 2_535

-- The part stands for the plain book after the line, and the line's bytes are printed.
pub record Stands (o : Told) (t' : List ℤ) (out out' : List ℕ) (n : ℕ) : Type 0 where
  pub after : Option (Held Item)
  pub stands : Form (part_of t' 0) o.state after
  pub prints : Prints o.bytes out out' n

-- On words of any content: the causes that do not depend on the offers.
abbrev pub Declines : List ℤ → LineCommand → Cause → Type 0
Declines t (Some (Post number rate base)) z = FirstOf (table_trials t 0 (post number rate base)) z
Declines t (Some (Withdraw number)) z = FirstOf (table_trials t 0 (withdraw number)) z
Declines t (Some (Query load)) z = FirstOf (table_trials t 0 (query load)) z
Declines t (Some Listing) z = FirstOf (table_trials t 0 (listing room)) z
Declines t None z = z ≡ unreadable_line

-- Only a post and a withdrawal write.
abbrev pub Asks : LineCommand → Type 0
Asks (Some (Post number rate base)) = ⊥
Asks (Some (Withdraw number)) = ⊥
Asks (Some (Query load)) = Unit {0}
Asks (Some Listing) = Unit {0}
Asks None = Unit {0}

pub record Obeys (m : LineCommand) (t t' : List ℤ) (out out' : List ℕ) (n : ℕ) : Type 0 where
  pub asks : Asks m → t' ≡ t
  pub declined : (z : Cause) → Declines t m z → (t' ≡ t) × Prints (answered (letter_of m) (named m) (refused (cause_number z))) out out' n
  pub refusal : (s : State) (held : Option (Held Item)) → Form (part_of t 0) s held → (k : ℕ) → (outcome s m).answer ≡ refused k → t' ≡ t
  pub follows : (s : State) (held : Option (Held Item)) → Form (part_of t 0) s held → Stands (commanded s m) t' out out' n

-- An output that is too short for some line gets nothing, and the line is not answered.
pub record Counts (line : List ℕ) (t t' : List ℤ) (out out' : List ℕ) (n : ℕ) : Type 0 where
  pub short : length out < most → (n ≡ 0) × (t' ≡ t) × (out' ≡ out)
  pub within : n ≤ length out
  pub outside : OnlyPart (capacity_at t 0) 0 t t'
  -- so that the part is the same one from line to line
  pub same_part : word (part_of t' 0) capacity_word ≡ word (part_of t 0) capacity_word
  pub obeys : most ≤ length out → Obeys (command_of line) t t' out out' n
