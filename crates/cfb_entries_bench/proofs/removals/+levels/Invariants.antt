use Rattle.cfb_entries_bench.proofs.removals.+levels.Given as goal

abbrev pub decreases-levels : goal.decreases-levels
decreases-levels l = l.at_most
