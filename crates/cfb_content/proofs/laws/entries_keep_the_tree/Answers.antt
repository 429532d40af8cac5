use Rattle.cfb_content.proofs.Outlines.{content-moves-then, moved-is-outline, moved-root-moved, same-entries-moved, stream-is-no-root, stream-stays}
use Rattle.cfb_content.proofs.laws.entries_keep_the_tree.Goals as goal

pub returns-clause-outline : goal.returns-clause-outline
returns-clause-outline c = moved-is-outline

pub returns-clause-no_root : goal.returns-clause-no_root
returns-clause-no_root c = stream-is-no-root

pub returns-clause-stream : goal.returns-clause-stream
returns-clause-stream c = stream-stays

pub returns-clause-same : goal.returns-clause-same
returns-clause-same c = same-entries-moved

pub returns-clause-root : goal.returns-clause-root
returns-clause-root c = moved-root-moved

pub returns-clause-in_turn : goal.returns-clause-in_turn
returns-clause-in_turn c = content-moves-then
