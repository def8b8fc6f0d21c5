use Rattle.descents.proofs.+split_in.Given as goal

-- proposed from what the function passes where it calls itself
abbrev pub decreases-split_in : goal.decreases-split_in
decreases-split_in l = l.limit
