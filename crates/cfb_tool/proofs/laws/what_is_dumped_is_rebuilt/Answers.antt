use Rattle.cfb_tool.proofs.Rebuilt.{dump_is_rebuilt}
use Rattle.cfb_tool.proofs.laws.what_is_dumped_is_rebuilt.Goals as goal

pub returns : goal.returns
returns g c = dump_is_rebuilt g.S.Seen.seen g.S.Seen.promised
