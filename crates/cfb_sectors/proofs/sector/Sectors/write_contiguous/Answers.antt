use Rattle.std.proofs.Common.{refl}
use Rattle.cfb_sectors.proofs.WordLemmas.{word_apart}
use Rattle.cfb_sectors.proofs.SectorLemmas.{sector_apart, SectorStays_refl}
use Rattle.cfb_sectors.proofs.sector.Sectors.write_contiguous.Goals as goal

pub returns-in_err-at-clause-sectors : goal.returns-in_err-at-clause-sectors
returns-in_err-at-clause-sectors g c told i apart = SectorStays_refl c.args.self.now.version i c.args.self.now.bytes

pub returns-in_err-at-clause-words : goal.returns-in_err-at-clause-words
returns-in_err-at-clause-words g c told p within apart = refl

pub returns-clause-sectors : goal.returns-clause-sectors
returns-clause-sectors g c told i apart = sector_apart c.args.self.now.version _ _ i _ _ (c.write_at.ensures.others told) (rw c.in_ok-at.ensures.ok.0 apart)

pub returns-clause-words : goal.returns-clause-words
returns-clause-words g c told p within apart = word_apart _ _ p _ _ (c.write_at.ensures.others told) within (rw c.in_ok-at.ensures.ok.0 apart)
