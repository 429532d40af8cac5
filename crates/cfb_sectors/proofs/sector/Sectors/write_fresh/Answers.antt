use Rattle.cfb_sectors.proofs.sector.Sectors.write_fresh.Goals as goal

pub returns-in-Zero-clause-ok : goal.returns-in-Zero-clause-ok
returns-in-Zero-clause-ok g c = rw (← c.version.ensures, c.in-Zero.is, ← c.zero_sector.ensures.zeros, ← c.zero_sector.ensures.len, c.version.ensures) c.write_at.ensures.ok
