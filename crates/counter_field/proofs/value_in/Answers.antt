-- `counter_field::value_in` meets its contract. The loop's invariant: the bytes passed say the value, which has no more digits than those.
use Rattle.counter_field.specs.Values.{read_more, read_all, read_small}
use Rattle.counter_field.proofs.value_in.Goals as goal

pub with_byte-value-requires : goal.with_byte-value-requires
with_byte-value-requires c = read_small c.loop-byte.invariant c.requires

pub loop-byte-preserved : goal.loop-byte-preserved
loop-byte-preserved c = read_more c.loop-byte.invariant c.loop-byte-test.true c.with_byte-value.ensures

pub returns : goal.returns
returns c = (read_all c.loop-byte.invariant c.loop-byte-test.false, read_small c.loop-byte.invariant c.requires)
