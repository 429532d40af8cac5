use Rattle.std.proofs.Common.{sym, ◌∙◌}
use Rattle.cfb_compound_file.proofs.Flawed.{owners-held}
use Rattle.cfb_compound_file.proofs.compound_file.CompoundFile.sector_owners.Goals as goal

pub returns-clause-told : goal.returns-clause-told
returns-clause-told g c = rw (← c.self.view_is) (λ told.
    let unfailed = sym c.is_failed.ensures ∙ c.if-is_failed.false in
    owners-held c.self.inside.volume (c.self.invariant told unfailed) c.tables.result.now c.tables.ensures c.in_ok-owners.owners.items c.in_ok-owners.ensures.exact)
