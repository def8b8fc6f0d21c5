-- `check_merge::matches` meets its contract.
use Rattle.check_merge.specs.PieceTrees.{matches_none, matches_not_filled, matches_not_long, matches_differ, matches_rest}
use Rattle.check_merge.proofs.matches.Goals as goal

pub returns-then-q-eq0 : goal.returns-then-q-eq0
returns-then-q-eq0 c = matches_none c.if-q-eq0.true c.requires.0

pub returns-in_default : goal.returns-in_default
returns-in_default c = matches_not_filled c.if-q-eq0.false c.requires.0 c.requires.1 c.in_default.ensures

pub returns-then-f-to : goal.returns-then-f-to
returns-then-f-to c = matches_not_long c.if-q-eq0.false c.requires.0 c.requires.1 c.in-Some.ensures c.if-f-to.true

pub returns-then-not-same : goal.returns-then-not-same
returns-then-not-same c = matches_differ c.if-q-eq0.false c.requires.0 c.requires.1 c.in-Some.ensures c.if-f-to.false c.same.ensures
    c.if-not-same.true

pub returns : goal.returns
returns c = matches_rest c.if-q-eq0.false c.requires.0 c.requires.1 c.in-Some.ensures c.if-f-to.false c.same.ensures c.if-not-same.false
    c.threaded.ensures
