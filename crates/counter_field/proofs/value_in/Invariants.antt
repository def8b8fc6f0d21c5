-- `counter_field::value_in` meets its contract. The loop's invariant: the bytes passed say the value, which has no more digits than those.
use Rattle.counter_field.specs.Values.{ReadTo}
use Rattle.counter_field.proofs.value_in.Given as goal

abbrev pub invariant-loop-byte : goal.invariant-loop-byte
invariant-loop-byte l = ReadTo l.text l.value l.byte-index
