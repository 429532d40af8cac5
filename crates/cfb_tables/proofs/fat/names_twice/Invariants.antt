use Rattle.cfb_tables.proofs.FatLemmas.{NamedSoFar}
use Rattle.cfb_tables.proofs.fat.names_twice.Given as goal

abbrev pub invariant-loop-second : goal.invariant-loop-second
invariant-loop-second g l = NamedSoFar l.fat l.second l.named.items
