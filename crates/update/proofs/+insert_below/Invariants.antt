use Rattle.update.proofs.+insert_below.Given as goal

-- proposed from what the function passes where it calls itself
abbrev pub decreases-insert_below : goal.decreases-insert_below
decreases-insert_below l = l.limit
