use Rattle.std.proofs.Common.{◌∙◌, inr, sym, ap, List}
use Rattle.cfb_format.specs.DirectoryEntry.{Entry}
use Rattle.cfb_format.specs.Siblings.{entry_at}
use Rattle.cfb_path_changes.proofs.ReachedStreams.{reached_stream}
use Rattle.cfb_path_changes.proofs.Numbers.{object-within}
use Rattle.cfb_compound_file.proofs.compound_file.CompoundFile.stream_at.Goals as goal

pub kind_of-kind-requires : goal.kind_of-kind-requires
kind_of-kind-requires g c =
    object-within c.self.inside.volume c.entries.result.now c.in-Some.number c.entries.ensures.entries c.entries.ensures.in_order c.in-Some.ensures.reached

pub returns-in_default-kind-clause-refused : goal.returns-in_default-kind-clause-refused
returns-in_default-kind-clause-refused g c =
    let kind = c.kind_of-kind.ensures ∙ ap (λ (es : List Entry). (entry_at es c.in-Some.number).obj_type) c.entries.ensures.entries in
    rw (← c.self.view_is) (
      sym c.is_failed.ensures ∙ c.if-is_failed.false,
      inr (record { number = c.in-Some.number; stands = λ o is. sym (c.in-Some.ensures.found o is); kind = λ e. c.in_default-kind.not-Stream (kind ∙ e) }),
    )

pub returns-in-Stream-clause-found : goal.returns-in-Stream-clause-found
returns-in-Stream-clause-found g c =
    let kind = c.kind_of-kind.ensures ∙ ap (λ (es : List Entry). (entry_at es c.in-Some.number).obj_type) c.entries.ensures.entries in
    let order = c.entries.ensures.in_order in
    rw (← c.self.view_is) (record {
      unfailed = sym c.is_failed.ensures ∙ c.if-is_failed.false;
      stands = λ o is. sym (c.in-Some.ensures.found o is);
      kind = sym kind ∙ c.in-Stream.is;
      stream = reached_stream c.self.inside.volume.base c.in-Some.number order (c.in-Some.ensures.reached order.outline order.is) (sym kind ∙ c.in-Stream.is);
    })

pub returns-in_default-kind-clause-agrees : goal.returns-in_default-kind-clause-agrees
returns-in_default-kind-clause-agrees g c = rw (← c.self.view_is) (λ told. c.self.invariant told)

pub returns-in-Stream-clause-agrees : goal.returns-in-Stream-clause-agrees
returns-in-Stream-clause-agrees g c = rw (← c.self.view_is) (λ told. c.self.invariant told)
