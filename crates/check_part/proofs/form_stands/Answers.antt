-- `check_part::form_stands` meets its contract.
use native.Mathlib.Omega.{arith}
use Rattle.table.specs.Fields.{live_count_word, most_slots}
use Rattle.table.specs.Words.{word, up_to_most}
use Rattle.check_part.specs.Audits.{audits_no_free, audits_no_offers, audits_no_order, audits_no_memory, audits_all}
use Rattle.check_part.proofs.form_stands.Goals as goal

pub returns-then-not-free_slots : goal.returns-then-not-free_slots
returns-then-not-free_slots c = audits_no_free c.number_at-n.ensures c.free_slots.ensures c.if-not-free_slots.true

pub returns-in_default : goal.returns-in_default
returns-in_default c = audits_no_offers c.number_at-n.ensures c.free_slots.ensures c.in_default.ensures

pub order-requires : goal.order-requires
order-requires c = (
  c.in-Some.ensures.inside,
  omega (arith, c.number_at-n.ensures, up_to_most most_slots (word c.args.part.now live_count_word)),
)

pub returns-then-not-order : goal.returns-then-not-order
returns-then-not-order c = audits_no_order c.number_at-n.ensures c.free_slots.ensures c.in-Some.ensures c.order.ensures c.if-not-order.true

pub memory-requires : goal.memory-requires
memory-requires c = omega (arith, c.number_at-n.ensures, up_to_most most_slots (word c.args.part.now live_count_word))

pub returns-then-not-memory : goal.returns-then-not-memory
returns-then-not-memory c = audits_no_memory c.number_at-n.ensures c.free_slots.ensures c.in-Some.ensures
    c.order.ensures c.if-not-order.false c.memory.ensures c.if-not-memory.true

pub numbers-requires : goal.numbers-requires
numbers-requires c = omega (arith, c.number_at-n.ensures, up_to_most most_slots (word c.args.part.now live_count_word))

pub returns : goal.returns
returns c = audits_all c.number_at-n.ensures c.free_slots.ensures c.in-Some.ensures
    c.order.ensures c.if-not-order.false c.memory.ensures c.capacity.ensures
    (λ h. omega (arith, h, c.if-capacity-lt1.false)) c.if-not-free_slots.false c.if-not-memory.false c.numbers.ensures
