use Rattle.std.proofs.Common.{sym}
use Rattle.cfb_siblings.specs.Laws.{grown_by}
use Rattle.cfb_siblings.proofs.Grown.{entry-stays, length-grows, place-same, children-same, children-back, absent-same, red-apart-same, balanced-same}
use Rattle.cfb_siblings.proofs.laws.growth_keeps_children.Goals as goal

pub returns-clause-entries : goal.returns-clause-entries
returns-clause-entries c = entry-stays

pub returns-clause-places : goal.returns-clause-places
returns-clause-places c cases es more parent name steps p = place-same es (grown_by es more) (entry-stays es more) (length-grows es more) cases parent name steps p

pub returns-clause-children : goal.returns-clause-children
returns-clause-children c cases es more parent list h = children-same es (grown_by es more) (entry-stays es more) (length-grows es more) cases parent list h

pub returns-clause-no_more : goal.returns-clause-no_more
returns-clause-no_more c cases es more parent list was h = children-back es (grown_by es more) (entry-stays es more) (length-grows es more) cases parent list was h

pub returns-clause-absence : goal.returns-clause-absence
returns-clause-absence c cases es more name list = (absent-same (grown_by es more) es (λ k. sym (entry-stays es more k)) cases name list, absent-same es (grown_by es more) (entry-stays es more) cases name list)

pub returns-clause-reds : goal.returns-clause-reds
returns-clause-reds c es more parent list = (red-apart-same (grown_by es more) es (λ k. sym (entry-stays es more k)) parent list, red-apart-same es (grown_by es more) (entry-stays es more) parent list)

pub returns-clause-balance : goal.returns-clause-balance
returns-clause-balance c es more top black b = balanced-same es (grown_by es more) (entry-stays es more) (length-grows es more) top black b
