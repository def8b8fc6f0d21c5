-- `listing::write` meets its contract. The loop's invariant: the first i pieces are written, and the output's later words are as before.
use Rattle.listing.specs.Listing.{Writing}
use Rattle.listing.proofs.write.Given as goal

abbrev pub invariant-loop-i : goal.invariant-loop-i
invariant-loop-i l = Writing l.part l.root l.n l.initial.out l.s l.i l.out
