use Rattle.index.proofs.+drop_below.Given as goal

-- proposed from what the function passes where it calls itself
abbrev pub decreases-drop_below : goal.decreases-drop_below
decreases-drop_below l = l.limit
