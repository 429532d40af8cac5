use Rattle.std.proofs.Common.{◌∙◌}
use Rattle.cfb_tables.proofs.RoomLemmas.{run-left, one-left}
use Rattle.cfb_tables.proofs.lists.Sizes.with_some.Goals as goal

pub returns-then-run-gt0-clause-sizes : goal.returns-then-run-gt0-clause-sizes
returns-then-run-gt0-clause-sizes c = run-left c.args.version c.args.more c.covered-run.result c.args.self c.covered-run.ensures.few c.covered-run.ensures.words

pub returns-clause-sizes : goal.returns-clause-sizes
returns-clause-sizes c = c.in-Some.ensures.sizes ∙ one-left c.args.version c.args.more c.args.self c.requires.some
