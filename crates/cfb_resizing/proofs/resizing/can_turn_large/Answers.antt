use Rattle.std.proofs.Common.{arith}
use Rattle.std.proofs.lemmas.Result.{err_from_is_err_and}
use Rattle.cfb_content.proofs.StreamEntry.{stream-inside}
use Rattle.cfb_content.proofs.WholeStreams.{not-whole}
use Rattle.cfb_resizing.proofs.CanGrow.{leaving-can, staying-can}
use Rattle.cfb_resizing.proofs.resizing.can_turn_large.Goals as goal
use Rattle.cfb_tables.proofs.Refusals.{refused-as}

pub content_in-start-requires : goal.content_in-start-requires
content_in-start-requires g c = record { inside = stream-inside c.args.mini.now c.args.entry c.requires.stream }

pub returns-in_err-have-clause-err : goal.returns-in_err-have-clause-err
returns-in_err-have-clause-err g c =
    let p = err_from_is_err_and c.from_residual.result c.from_residual.ensures.1 in
    rw (p.1, p.2) (refused-as _ _ _ _ _ _ _ _
    (not-whole c.args.mini.now c.args.entry c.allocator.result.now c.content_in-start.result.0 c.content_in-start.result.1 c.allocator.ensures
    c.content_in-start.ensures.start c.content_in-start.ensures.len c.requires.stream c.requires.large)
    (λ u. u) (λ no. absurd no) (λ no. absurd no) c.in_err-have.field-0.0 c.in_err-have.ensures.err)

pub returns-then-size-clause-lacks : goal.returns-then-size-clause-lacks
returns-then-size-clause-lacks g c =
    leaving-can c.args.mini.now c.args.entry c.args.size c.content_in-start.result.0 c.content_in-start.result.1 c.content_in-start.ensures.start c.content_in-start.ensures.len
    c.in_ok-have.have c.div_ceil-count.result c.allocator.result.now c.in_ok-have.ensures.whole.0 c.requires.large c.if-size.true c.allocator.ensures c.in_ok-have.ensures.whole.2
    c.in_ok-have.ensures.whole.1 c.div_ceil-count.ensures c.can_take.result c.can_take.ensures

pub returns-clause-lacks : goal.returns-clause-lacks
returns-clause-lacks g c =
    staying-can c.args.mini.now c.args.entry c.args.size c.content_in-start.result.0 c.content_in-start.result.1 c.content_in-start.ensures.start c.content_in-start.ensures.len
    c.in_ok-have.have c.div_ceil-needed.result c.saturating_sub-lacking.result c.sector_len.result c.allocator.result.now c.allocator-2.result.now c.in_ok-have.ensures.whole.0 c.requires.large
    (omega (arith, c.if-size.false)) c.allocator.ensures c.allocator-2.ensures c.in_ok-have.ensures.whole.2 c.in_ok-have.ensures.whole.1 c.sector_len.ensures c.div_ceil-needed.ensures
    c.saturating_sub-lacking.ensures c.can_take-2.result c.can_take-2.ensures
