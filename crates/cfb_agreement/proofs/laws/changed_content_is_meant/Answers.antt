use Rattle.cfb_agreement.proofs.ContentChanges.{content-becomes-tree, content-keeps-parts, content-keeps-stream}
use Rattle.cfb_agreement.proofs.laws.changed_content_is_meant.Goals as goal

pub returns-clause-tree : goal.returns-clause-tree
returns-clause-tree c = content-becomes-tree

pub returns-clause-stream : goal.returns-clause-stream
returns-clause-stream c = content-keeps-stream

pub returns-clause-parts : goal.returns-clause-parts
returns-clause-parts c = content-keeps-parts
