-- The sample (docs/REQUIREMENTS.md, 14.4), whole: six calls, and the bytes that the counter prints for them. Then entries out of range, and theirs.
use Rattle.std.specs.Prelude.{Some, ◌≡◌, refl, List, [], ◌∷◌, ◌++◌, map, ℕ, pos, negsuc}
use Rattle.std.proofs.Common.{◌∙◌, ap, arith}
use Rattle.plain.specs.Book.{State, Call, post, withdraw, query, listing, opened}
use Rattle.counter_print.specs.Texts.{digits_within, digits, numeral, decimal, justified, answer_line}
use Rattle.counter_columns.specs.Columns.{last_columns, line_of, HasLine}
use Rattle.counter_columns.specs.declared.Command.{Command}
use Rattle.counter_columns.specs.declared.Command.TheVariants.{Post, Withdraw, Query, List as Listing}
use Rattle.counter_columns.specs.Commands.{as_command, parsed, parsed_unique, command_of, command_parsed}
use Rattle.counter_columns.specs.Samples.{bytes}
use Rattle.counter_line.specs.Promises.{capacity, commanded, told_all, lines_from, output}
use Rattle.counter_reply.specs.Answered.{piece_lines}

-- ---- calls' lines are answered as their calls

command_of_lem : (k : Call) {m : Command} → Some m ≡ as_command k → HasLine k → command_of (line_of k) ≡ Some m
command_of_lem k e h = parsed_unique (line_of k) _ _ (command_parsed (line_of k)) (parsed k (line_of k) e (record { fits = h; text = refl }))

abbrev HaveLines : List Call → List Command → Type 0
HaveLines [] [] = Unit {0}
HaveLines [] (m ∷ ms) = ⊥
HaveLines (k ∷ ks) [] = ⊥
HaveLines (k ∷ ks) (m ∷ ms) = (Some m ≡ as_command k) × HasLine k × HaveLines ks ms

abbrev called_all : State → List Command → List ℕ
called_all s [] = []
called_all s (m ∷ ms) = (commanded s (Some m)).bytes ++ called_all (commanded s (Some m)).state ms

called : (ks : List Call) (ms : List Command) → HaveLines ks ms → (s : State) → told_all s (map line_of ks) ≡ called_all s ms
called [] [] h s = refl
called [] (m ∷ ms) h s = absurd h
called (k ∷ ks) [] h s = absurd h
called (k ∷ ks) (m ∷ ms) h s =
    (λ i. (commanded s (command_of_lem k h.0 h.1 i)).bytes ++ told_all (commanded s (command_of_lem k h.0 h.1 i)).state (map line_of ks))
    ∙ ap (λ (t : List ℕ). (commanded s (Some m)).bytes ++ t) (called ks ms h.2 (commanded s (Some m)).state)

printed : (text : List ℕ) {answer : List ℕ} (ks : List Call) (ms : List Command) → lines_from [] text ≡ map line_of ks → HaveLines ks ms →
    called_all (opened (pos capacity)) ms ≡ answer → output text ≡ answer
printed text ks ms lines fits told = ap (told_all (opened (pos capacity))) lines ∙ called ks ms fits (opened (pos capacity)) ∙ told

-- ---- the sample

abbrev pub sample : List ℕ
sample =
    bytes "P     1       3           0\n"
    ++ bytes "P     2       1          10\n"
    ++ bytes "Q                         5\n"
    ++ bytes "L                         0\n"
    ++ bytes "W                         1\n"
    ++ bytes "Q                         5\n"

abbrev pub answer : List ℕ
answer =
    bytes "P  0     1             1             0\n"
    ++ bytes "P  0     2             2             0\n"
    ++ bytes "Q  0     2            15             1\n"
    ++ bytes "E  0     1            10             2\n"
    ++ bytes "E  0     2             0             0\n"
    ++ bytes "L  0     0             2             0\n"
    ++ bytes "W  0     1             1             0\n"
    ++ bytes "Q  0     2            15             2\n"

abbrev calls : List Call
calls = post (pos 1) (pos 3) (pos 0) ∷ post (pos 2) (pos 1) (pos 10) ∷ query (pos 5) ∷ listing 0 ∷ withdraw (pos 1) ∷ query (pos 5) ∷ []

sample_lines : lines_from [] sample ≡ map line_of calls
unfolding line_of last_columns justified decimal numeral digits digits_within
sample_lines = refl

abbrev commands : List Command
commands = Post (pos 1) (pos 3) (pos 0) ∷ Post (pos 2) (pos 1) (pos 10) ∷ Query (pos 5) ∷ Listing ∷ Withdraw (pos 1) ∷ Query (pos 5) ∷ []

sample_fits : HaveLines calls commands
unfolding decimal numeral digits digits_within
sample_fits = (
  refl,
  (omega arith, omega arith, omega arith),
  (refl, (omega arith, omega arith, omega arith), (refl, omega arith, (refl, tt, (refl, omega arith, (refl, omega arith, tt))))),
)

sample_called : called_all (opened (pos capacity)) commands ≡ answer
unfolding piece_lines answer_line justified decimal numeral digits digits_within
sample_called = refl

pub sample_printed : output sample ≡ answer
sample_printed = printed sample calls commands sample_lines sample_fits sample_called

-- ---- entries out of range

-- all three entries of a post, the rate and the base, the base, and a load
abbrev pub slips : List ℕ
slips =
    bytes "P     0  100001  1000000001\n"
    ++ bytes "P     1 -100001 -1000000001\n"
    ++ bytes "P     1       3  1000000001\n"
    ++ bytes "Q                   1000001\n"

abbrev pub refusals : List ℕ
refusals =
    bytes "P  4     0             0             0\n"
    ++ bytes "P 14     0             0             0\n"
    ++ bytes "P 15     0             0             0\n"
    ++ bytes "Q 16     0             0             0\n"

abbrev slipped : List Call
slipped =
    post (pos 0) (pos 100_001) (pos 1_000_000_001)
    ∷ post (pos 1) (negsuc 100_000) (negsuc 1_000_000_000)
    ∷ post (pos 1) (pos 3) (pos 1_000_000_001)
    ∷ query (pos 1_000_001)
    ∷ []

slip_lines : lines_from [] slips ≡ map line_of slipped
unfolding line_of last_columns justified decimal numeral digits digits_within
slip_lines = refl

abbrev slip_commands : List Command
slip_commands =
    Post (pos 0) (pos 100_001) (pos 1_000_000_001)
    ∷ Post (pos 1) (negsuc 100_000) (negsuc 1_000_000_000)
    ∷ Post (pos 1) (pos 3) (pos 1_000_000_001)
    ∷ Query (pos 1_000_001)
    ∷ []

slips_fit : HaveLines slipped slip_commands
unfolding decimal numeral digits digits_within
slips_fit = (
  refl,
  (omega arith, omega arith, omega arith),
  (refl, (omega arith, omega arith, omega arith), (refl, (omega arith, omega arith, omega arith), (refl, omega arith, tt))),
)

slips_called : called_all (opened (pos capacity)) slip_commands ≡ refusals
unfolding answer_line justified decimal numeral digits digits_within
slips_called = refl

pub slips_printed : output slips ≡ refusals
slips_printed = printed slips slipped slip_commands slip_lines slips_fit slips_called
