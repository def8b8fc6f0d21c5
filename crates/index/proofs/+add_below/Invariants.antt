use Rattle.index.proofs.+add_below.Given as goal

-- proposed from what the function passes where it calls itself
abbrev pub decreases-add_below : goal.decreases-add_below
decreases-add_below l = l.limit
