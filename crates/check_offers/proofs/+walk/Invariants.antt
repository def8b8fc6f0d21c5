use Rattle.check_offers.proofs.+walk.Given as goal

-- proposed from what the function passes where it calls itself
abbrev pub decreases-walk : goal.decreases-walk
decreases-walk l = l.limit
