use Rattle.std.proofs.Common.{subst}
use Rattle.std.specs.Prelude.{IfErr, OnOk}
use Rattle.cfb_tables.specs.Refused.{ChangeRefused}
use Rattle.cfb_mini.specs.MiniSectors.{HasMiniSector}
use Rattle.cfb_mini_chains.specs.LentMiniChain.{state_of}
use Rattle.cfb_mini_chains.proofs.mini_chain.MiniChain+F+A.can_end_at.Goals as goal

pub returns-clause-placed : goal.returns-clause-placed
returns-clause-placed g c some =
    subst (λ m. OnOk c.check_mini_sector.result (HasMiniSector (state_of c.args.self.now) m)) c.mini_sector_at-mini.ensures.mini_sector c.check_mini_sector.ensures.ok

pub returns-clause-err : goal.returns-clause-err
returns-clause-err g c =
    subst (λ m. IfErr c.check_mini_sector.result (ChangeRefused (HasMiniSector (state_of c.args.self.now) m → ⊥) ⊥ ⊥ ⊥)) c.mini_sector_at-mini.ensures.mini_sector c.check_mini_sector.ensures.err
