-- `counter_columns::parse_post` meets its contract: a post where all three fields hold a number, and else no call's line.
use mir.Facts.{to_z-of_z}
use mir.Syntax.{w64}
use Rattle.std.proofs.Common.{FitsSigned, rules}
use Rattle.counter_columns.specs.Commands.{wrong_post, is_post}
use Rattle.counter_columns.proofs.parse_post.Goals as goal

pub returns-in_err-number : goal.returns-in_err-number
returns-in_err-number c = rw c.from_residual.ensures (wrong_post _ c.requires.1 (λ n r b p. c.in_err-number.ensures n p.first))

pub returns-in_err-rate : goal.returns-in_err-rate
returns-in_err-rate c = rw c.from_residual-in_err-rate.ensures (wrong_post _ c.requires.1 (λ n r b p. c.in_err-rate.ensures r p.second))

pub returns-in_err-base : goal.returns-in_err-base
returns-in_err-base c = rw c.from_residual-in_err-base.ensures (wrong_post _ c.requires.1 (λ n r b p. c.in_err-base.ensures b p.third))

pub returns : goal.returns
returns c =
    let f : FitsSigned w64 c.in_ok-number.number = search rules in
    let g : FitsSigned w64 c.in_ok-rate.rate = search rules in
    let h : FitsSigned w64 c.in_ok-base.base = search rules in
    simp (to_z-of_z, f, g, h)
    (is_post _ _ _ _ c.requires.0 c.requires.1
    (record { first = c.in_ok-number.ensures; second = c.in_ok-rate.ensures; third = c.in_ok-base.ensures }))
