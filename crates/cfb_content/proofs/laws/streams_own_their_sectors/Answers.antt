use Rattle.cfb_content.proofs.Apart.{own-is-apart, starts-unnamed, stream-start-unnamed}
use Rattle.cfb_content.proofs.Readable.{large-is-there, small-is-there}
use Rattle.cfb_content.proofs.laws.streams_own_their_sectors.Goals as goal

pub returns-clause-apart : goal.returns-clause-apart
returns-clause-apart c = own-is-apart

pub returns-clause-start : goal.returns-clause-start
returns-clause-start c = stream-start-unnamed

pub returns-clause-large : goal.returns-clause-large
returns-clause-large c = large-is-there

pub returns-clause-small : goal.returns-clause-small
returns-clause-small c = small-is-there

pub returns-clause-system : goal.returns-clause-system
returns-clause-system c = starts-unnamed
