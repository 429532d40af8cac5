use Rattle.std.proofs.Common.{arith}
use Rattle.cfb_sectors.proofs.ReadLemmas.{rest_after_read}
use Rattle.cfb_sectors.proofs.sector.Sector.read.Goals as goal

pub returns-clause-rest : goal.returns-clause-rest
returns-clause-rest g c =
    rest_after_read c.in_ok-count.count c.min-room.result c.read_at.new.into c.args.into.now c.read_at.auto.into
    (omega (arith, c.in_ok-count.ensures.count, c.read_at.auto.into)) c.in_ok-count.ensures.rest
