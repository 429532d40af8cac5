use Rattle.std.proofs.Common.{arith, ap}
use Rattle.cfb_sectors.specs.Sectors.{SectorFile}
use Rattle.cfb_sectors.proofs.WordLemmas.{word_apart}
use Rattle.cfb_sectors.proofs.SectorLemmas.{after_header, ChangesOnly_from}
use Rattle.cfb_sectors.proofs.sector.Sectors.write_header_word.Goals as goal

pub returns-clause-sectors : goal.returns-clause-sectors
returns-clause-sectors g c told i =
    let change = ChangesOnly_from _ _ _ _ _ (ap (λ (f : SectorFile). f.bytes) c.self.view_is) (c.write_all_at.ensures.others told) in
    after_header _ i _ _ _ _ change (omega arith)

pub returns-clause-words : goal.returns-clause-words
returns-clause-words g c told p within apart =
    let change = ChangesOnly_from _ _ _ _ _ (ap (λ (f : SectorFile). f.bytes) c.self.view_is) (c.write_all_at.ensures.others told) in
    word_apart _ _ p _ _ change within (omega arith)
