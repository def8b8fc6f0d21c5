-- `check_memory::undo` meets its contract.
use native.Mathlib.Omega.{arith}
use Rattle.table.specs.Layout.{cap_most}
use Rattle.check_memory.specs.Flags.{number_below}
use Rattle.check_memory.specs.Entries.{tries_no_number, tries_out, tries_neither, tries_back}
use Rattle.check_memory.proofs.undo.Goals as goal

pub returns-then-number-lt1 : goal.returns-then-number-lt1
returns-then-number-lt1 c = tries_no_number c.entry_at-at.ensures c.number_at-number.ensures c.if-number-lt1.true

pub take_out-requires : goal.take_out-requires
take_out-requires c = record {
  low = c.if-number-lt1.false;
  high = number_below _ c.number_at-number.ensures;
  small = c.requires.1;
}

pub returns-then-tells : goal.returns-then-tells
returns-then-tells c = tries_out c.entry_at-at.ensures c.number_at-number.ensures c.if-number-lt1.false c.tells.ensures
    c.if-tells.true c.take_out.ensures

pub restorable-requires : goal.restorable-requires
restorable-requires c = omega (arith, c.entry_at-at.ensures, cap_most c.args.part.now, c.requires)

pub returns-then-not-restorable : goal.returns-then-not-restorable
returns-then-not-restorable c = tries_neither c.entry_at-at.ensures c.tells.ensures c.if-tells.false c.restorable.ensures
    c.if-not-restorable.true

pub bring_back-requires : goal.bring_back-requires
bring_back-requires c = record {
  low = c.if-number-lt1.false;
  high = number_below _ c.number_at-number.ensures;
  small = c.requires.1;
}

pub returns : goal.returns
returns c = tries_back c.entry_at-at.ensures c.number_at-number.ensures c.if-number-lt1.false c.restorable.ensures
    c.if-not-restorable.false c.bring_back.ensures
