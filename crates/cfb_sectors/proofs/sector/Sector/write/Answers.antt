use Rattle.std.proofs.Common.{arith, length-take}
use Rattle.cfb_sectors.proofs.WordLemmas.{word_apart}
use Rattle.cfb_sectors.proofs.SectorLemmas.{sector_apart, SectorStays_refl}
use Rattle.cfb_sectors.proofs.sector.Sector.write.Goals as goal

pub returns-then-count-eq0-clause-sectors : goal.returns-then-count-eq0-clause-sectors
returns-then-count-eq0-clause-sectors g c told i apart = SectorStays_refl _ i _

pub returns-in_err-write_at-clause-sectors : goal.returns-in_err-write_at-clause-sectors
returns-in_err-write_at-clause-sectors g c told i apart =
    sector_apart _ _ _ i _ _ (c.write_at.ensures.others told)
    (λ low. let behind = apart low in omega (arith, behind, length-take c.min-count.result c.args.from.now, c.min-count.ensures, c.remaining.ensures))

pub returns-in_err-write_at-clause-words : goal.returns-in_err-write_at-clause-words
returns-in_err-write_at-clause-words g c told p within apart =
    word_apart _ _ p _ _ (c.write_at.ensures.others told) within
    (λ low. let behind = apart low in omega (arith, behind, length-take c.min-count.result c.args.from.now, c.min-count.ensures, c.remaining.ensures))

pub returns-clause-sectors : goal.returns-clause-sectors
returns-clause-sectors g c told i apart =
    sector_apart _ _ _ i _ _ (c.write_at.ensures.others told)
    (λ low. let behind = apart low in omega (arith, behind, length-take c.min-count.result c.args.from.now, c.min-count.ensures, c.remaining.ensures))

pub returns-clause-words : goal.returns-clause-words
returns-clause-words g c told p within apart =
    word_apart _ _ p _ _ (c.write_at.ensures.others told) within
    (λ low. let behind = apart low in omega (arith, behind, length-take c.min-count.result c.args.from.now, c.min-count.ensures, c.remaining.ensures))
