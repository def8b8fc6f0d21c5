-- `spreading::write` meets its contract. The loop's invariant: the first i offers are written, and the output's later words are as before.
use Rattle.spreading.specs.Writes.{Copying}
use Rattle.spreading.proofs.write.Given as goal

abbrev pub invariant-loop-i : goal.invariant-loop-i
invariant-loop-i l = Copying l.part l.all l.n l.initial.out l.i l.out
