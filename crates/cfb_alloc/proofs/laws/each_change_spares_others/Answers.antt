use Rattle.cfb_alloc.proofs.Spared.{taken_spares, freed_spares, written_spares}
use Rattle.cfb_alloc.proofs.BrokenSpared.{broken_taking_spares, broken_freeing_spares}
use Rattle.cfb_alloc.proofs.laws.each_change_spares_others.Goals as goal

pub returns-clause-taking : goal.returns-clause-taking
returns-clause-taking c = taken_spares

pub returns-clause-broken_taking : goal.returns-clause-broken_taking
returns-clause-broken_taking c = broken_taking_spares

pub returns-clause-freeing : goal.returns-clause-freeing
returns-clause-freeing c = freed_spares

pub returns-clause-broken_freeing : goal.returns-clause-broken_freeing
returns-clause-broken_freeing c = broken_freeing_spares

pub returns-clause-writing : goal.returns-clause-writing
returns-clause-writing c = written_spares
