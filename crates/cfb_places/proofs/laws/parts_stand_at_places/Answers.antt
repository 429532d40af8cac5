use Rattle.cfb_places.proofs.Ordered.{tree-is-ordered}
use Rattle.cfb_places.proofs.Stood.{parts-stand-at-places}
use Rattle.cfb_places.proofs.Whole.{streams-are-whole}
use Rattle.cfb_places.proofs.laws.parts_stand_at_places.Goals as goal

pub returns-clause-parts : goal.returns-clause-parts
returns-clause-parts c = parts-stand-at-places

pub returns-clause-ordered : goal.returns-clause-ordered
returns-clause-ordered c = tree-is-ordered

pub returns-clause-whole : goal.returns-clause-whole
returns-clause-whole c = streams-are-whole
