use Rattle.cfb_content.proofs.Readable.{large-read-by-places, small-read-by-places}
use Rattle.cfb_content.proofs.laws.streams_are_read_by_places.Goals as goal

pub returns-clause-large : goal.returns-clause-large
returns-clause-large c = large-read-by-places

pub returns-clause-small : goal.returns-clause-small
returns-clause-small c = small-read-by-places
