use Rattle.std.proofs.Common.{◌≡◌, refl, length, arith}
use Rattle.std.proofs.lemmas.Result.{err_from_is_err_and}
use Rattle.cfb_content.proofs.StreamEntry.{stream-inside}
use Rattle.cfb_content.proofs.WholeStreams.{not-whole-minis}
use Rattle.cfb_resizing.proofs.CanGrow.{entering-can, mini-can}
use Rattle.cfb_resizing.proofs.resizing.can_turn_small.Goals as goal
use Rattle.cfb_tables.proofs.Refusals.{refused-as}

pub content_in-start-requires : goal.content_in-start-requires
content_in-start-requires g c = record { inside = stream-inside c.args.mini.now c.args.entry c.requires.stream }

pub returns-then-size-clause-lacks : goal.returns-then-size-clause-lacks
returns-then-size-clause-lacks g c =
    entering-can c.args.mini.now c.args.entry c.args.size _ _ refl refl c.div_ceil-needed.result c.in_ok-given.given c.sector_len.result c.allocator.result.now c.requires.small c.if-size.true
    c.allocator.ensures c.sector_len.ensures c.div_ceil-needed.ensures c.in_ok-given.ensures.lacks c.can_take.result c.can_take.ensures

pub returns-in_err-whole_mini_chain-clause-err : goal.returns-in_err-whole_mini_chain-clause-err
returns-in_err-whole_mini_chain-clause-err g c =
    let p = err_from_is_err_and c.from_residual-in_err-whole_mini_chain.result c.from_residual-in_err-whole_mini_chain.ensures.1 in
    rw (p.1, p.2) (refused-as _ _ _ _ _ _ _ _
    (not-whole-minis c.args.mini.now c.args.entry c.content_in-start.result.0 c.content_in-start.result.1 c.content_in-start.ensures.start c.content_in-start.ensures.len c.requires.stream
    c.requires.small)
    (λ u. u) (λ no. absurd no) (λ no. absurd no) c.in_err-whole_mini_chain.field-0.0 c.in_err-whole_mini_chain.ensures.err)

pub returns-clause-lacks : goal.returns-clause-lacks
returns-clause-lacks g c =
    let have : c.len-have.result ≡ length c.in_ok-whole_mini_chain.field-0.items = omega (arith, c.len-have.ensures, c.in_ok-whole_mini_chain.field-0.ok.0) in
    mini-can c.args.mini.now c.args.entry c.args.size c.content_in-start.result.0 c.content_in-start.result.1 c.content_in-start.ensures.start c.content_in-start.ensures.len
    c.len-have.result c.div_ceil-needed-2.result c.saturating_sub-lacking.result c.in_ok-whole_mini_chain.field-0.items c.requires.small (omega (arith, c.if-size.false))
    c.in_ok-whole_mini_chain.ensures.whole have c.div_ceil-needed-2.ensures c.saturating_sub-lacking.ensures c.can_take-2.result c.can_take-2.ensures
