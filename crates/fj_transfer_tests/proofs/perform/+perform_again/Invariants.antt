use Rattle.fj_transfer_tests.proofs.perform.+perform_again.Given as goal

-- one time fewer is left
abbrev pub decreases-perform_again : goal.decreases-perform_again
decreases-perform_again g l = l.more
