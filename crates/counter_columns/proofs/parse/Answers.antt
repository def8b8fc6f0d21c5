-- `counter_columns::parse` meets its contract: by the length, the letter, and what the columns hold.
use mir.Syntax.{w64}
use Rattle.std.proofs.Common.{FitsSigned, ◌≡◌, rules}
use Rattle.std.specs.Option.{option_map}
use Rattle.counter_columns.specs.declared.Command.TheVariants.{Withdraw, Query}
use Rattle.counter_columns.specs.Commands.{wrong_length, wrong_letter, wrong_last, reads_withdraw, reads_query, reads_list}
use Rattle.counter_columns.proofs.parse.Goals as goal

pub returns-then-line-ne-LINE_LENGTH : goal.returns-then-line-ne-LINE_LENGTH
returns-then-line-ne-LINE_LENGTH c = wrong_length _ c.if-line-ne-LINE_LENGTH.true

pub returns-in-87 : goal.returns-in-87
returns-in-87 c =
    let made : c.map.result ≡ option_map Withdraw c.last_columns.result = search rules in
    rw made (reads_withdraw _ _ c.if-line-ne-LINE_LENGTH.false c.in-87.is c.last_columns.ensures)

pub returns-in-81 : goal.returns-in-81
returns-in-81 c =
    let made : c.map-in-81.result ≡ option_map Query c.last_columns-in-81.result = search rules in
    rw made (reads_query _ _ c.if-line-ne-LINE_LENGTH.false c.in-81.is c.last_columns-in-81.ensures)

pub returns-in_err-last_columns-in-76 : goal.returns-in_err-last_columns-in-76
returns-in_err-last_columns-in-76 c =
    rw c.from_residual.ensures (wrong_last _ (search rules) c.in_err-last_columns-in-76.ensures)

pub returns-in_ok-last_columns-in-76 : goal.returns-in_ok-last_columns-in-76
returns-in_ok-last_columns-in-76 c =
    let f : FitsSigned w64 c.in_ok-last_columns-in-76.field-0 = search rules in
    rw c.then_some.ensures (reads_list _ _ f c.if-line-ne-LINE_LENGTH.false c.in-76.is c.in_ok-last_columns-in-76.ensures)

pub returns-in_default : goal.returns-in_default
returns-in_default c = wrong_letter _ (search rules) (search rules) (search rules) (search rules)
