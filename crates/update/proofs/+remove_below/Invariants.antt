use Rattle.update.proofs.+remove_below.Given as goal

-- proposed from what the function passes where it calls itself
abbrev pub decreases-remove_below : goal.decreases-remove_below
decreases-remove_below l = l.limit
