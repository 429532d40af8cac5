use Rattle.std.proofs.Common.{◌∙◌, sym}
use Rattle.cfb_compound_file.proofs.StoredStreams.{agrees_with_flags, flushed_kept, flushes_then, flushes_tight, stream_stays}
use Rattle.cfb_compound_file.proofs.Heeding.{change_keeps_flags, failed_in_memory}
use Rattle.cfb_compound_file.proofs.contents.CompoundFileContents.flush.Goals as goal

pub invariant_of-self : goal.invariant_of-self
invariant_of-self g c = λ told. agrees_with_flags _ _ _ _ (c.flush.ensures.stays.rest told) (λ _. sym c.is_failed.ensures ∙ c.if-is_failed.false) (c.self.invariant told)

pub returns-clause-others : goal.returns-clause-others
returns-clause-others g c = rw (← c.self.view_is) (λ told first k. flushes_then _ first _ _ _ _ (sym c.is_failed.ensures ∙ c.if-is_failed.false) (c.flush.ensures.stays.rest told) k)

pub returns-clause-tight : goal.returns-clause-tight
returns-clause-tight g c = rw (← c.self.view_is) (λ told first k. flushes_tight first c.self.inside.volume c.flush.new.self _ _ (sym c.is_failed.ensures ∙ c.if-is_failed.false) (c.flush.ensures.stays.rest told) k)

pub returns-clause-there : goal.returns-clause-there
returns-clause-there g c = stream_stays _ _ _ c.flush.ensures.stays.entries c.flush.ensures.stays.setting.limits.cases (rw (← c.self.view_is) at c.requires.there)

pub returns-clause-kept : goal.returns-clause-kept
returns-clause-kept g c = rw (← c.self.view_is) (λ told. flushed_kept _ _ c.flush.result (c.flush.ensures.stays.ok told) c.flush.ensures.flags.failed)

pub returns-clause-any : goal.returns-clause-any
returns-clause-any g c =
    let unfailed = sym c.is_failed.ensures ∙ c.if-is_failed.false in
    rw (← c.self.view_is) (change_keeps_flags _ _ _ c.flush.result c.flush.ensures.stays.setting unfailed c.flush.ensures.flags.ended (failed_in_memory _ _ c.flush.result c.flush.ensures.flags.failed))
