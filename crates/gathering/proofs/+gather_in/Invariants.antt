use Rattle.gathering.proofs.+gather_in.Given as goal

-- proposed from what the function passes where it calls itself
abbrev pub decreases-gather_in : goal.decreases-gather_in
decreases-gather_in l = l.limit
