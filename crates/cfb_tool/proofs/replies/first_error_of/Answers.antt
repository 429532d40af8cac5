use Rattle.std.proofs.Common.{◌≡◌, ◌∙◌, ap, arith, drop, map, sym}
use Rattle.std.proofs.lemmas.List.{drop_all}
use Rattle.cfb_commands.specs.Commands.{refusal_of_result, stream_reply_of}
use Rattle.cfb_whole_streams.specs.Told.{first_refusal}
use Rattle.cfb_tool.proofs.Telling.{caught_at, passed_at}
use Rattle.cfb_tool.proofs.replies.first_error_of.Goals as goal

pub loop-reply-preserved : goal.loop-reply-preserved
loop-reply-preserved g c = record {
  left = sym (passed_at stream_reply_of c.args.replies.now c.loop-reply.reply-index c.reply-item.result (refusal_of_result c.args.closed.now) c.error_of_work-error.result
      c.loop-reply-test.true c.reply-item.is c.error_of_work-error.ensures (sym c.is_some.ensures ∙ c.if-is_some.false)) ∙ c.loop-reply.invariant.left;
}

pub returns-then-is_some : goal.returns-then-is_some
returns-then-is_some g c =
    caught_at stream_reply_of c.args.replies.now c.loop-reply.reply-index c.reply-item.result (refusal_of_result c.args.closed.now) c.error_of_work-error.result
    c.loop-reply-test.true c.reply-item.is c.error_of_work-error.ensures (sym c.is_some.ensures ∙ c.if-is_some.true) ∙ c.loop-reply.invariant.left

pub returns : goal.returns
returns g c = c.error_of.ensures ∙ ap (λ rs. first_refusal (map stream_reply_of rs) (refusal_of_result c.args.closed.now)) (sym (drop_all c.loop-reply.reply-index c.args.replies.now c.loop-reply-test.false))
    ∙ c.loop-reply.invariant.left
