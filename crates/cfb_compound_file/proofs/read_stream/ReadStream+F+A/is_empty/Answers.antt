use Rattle.std.proofs.Common.{refl}
use Rattle.cfb_compound_file.specs.Stored.{stored_of}
use Rattle.cfb_compound_file.proofs.StreamCalls.{asks}
use Rattle.cfb_compound_file.proofs.read_stream.ReadStream+F+A.is_empty.Goals as goal

pub returns-clause-runs : goal.returns-clause-runs
returns-clause-runs g c = let s = stored_of c.args.self.now.file.now c.args.self.now.entry in asks _ s _ _ _ _ refl refl (c.is_empty.ensures.runs s)
