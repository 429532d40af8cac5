use Rattle.std.proofs.Common.{sym, ◌∙◌}
use Rattle.cfb_compound_file.proofs.StoredStreams.{agrees_with_flags}
use Rattle.cfb_compound_file.proofs.WritesOut.{flush-on-failed, flush-refused, flush-served}
use Rattle.cfb_compound_file.proofs.compound_file.CompoundFile.flush.Goals as goal
use Rattle.cfb_compound_file.proofs.cfb_volume.Settings.{setting-same}

pub invariant_of-self : goal.invariant_of-self
invariant_of-self g c = λ told. agrees_with_flags _ _ _ _ (c.flush.ensures.stays.rest told) (λ _. sym c.is_failed.ensures ∙ c.if-is_failed.false) (c.self.invariant told)

pub returns-then-is_failed-clause-refused : goal.returns-then-is_failed-clause-refused
returns-then-is_failed-clause-refused g c = λ told. flush-on-failed _ c.args.self.now (rw c.self.view_is at (sym c.is_failed.ensures ∙ c.if-is_failed.true))

pub returns-clause-ok : goal.returns-clause-ok
returns-clause-ok g c = rw (← c.self.view_is)
    (λ told. flush-served c.self.inside.volume c.flush.new.self c.flush.result (sym c.is_failed.ensures ∙ c.if-is_failed.false) (c.flush.ensures.stays.ok told))

pub returns-clause-refused : goal.returns-clause-refused
returns-clause-refused g c = rw (← c.self.view_is)
    (λ told. flush-refused g.F.Medium.write_faults c.self.inside.volume c.flush.new.self c.flush.result (sym c.is_failed.ensures ∙ c.if-is_failed.false)
    c.flush.ensures.stays.setting (c.flush.ensures.stays.rest told) c.flush.ensures.flags.failed c.flush.ensures.err (c.flush.ensures.counts told))

pub returns-then-is_failed-clause-setting : goal.returns-then-is_failed-clause-setting
returns-then-is_failed-clause-setting g c = setting-same c.args.self.now

pub returns-clause-setting : goal.returns-clause-setting
returns-clause-setting g c = rw (← c.self.view_is) c.flush.ensures.stays.setting
