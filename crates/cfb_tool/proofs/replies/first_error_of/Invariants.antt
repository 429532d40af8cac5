use Rattle.std.proofs.Common.{◌≡◌, drop, map}
use Rattle.cfb_commands.specs.Commands.{refusal_of_result, stream_reply_of}
use Rattle.cfb_whole_streams.specs.Told.{first_refusal}
use Rattle.cfb_tool.proofs.replies.first_error_of.Given as goal

abbrev pub invariant-loop-reply : goal.invariant-loop-reply
invariant-loop-reply g l = record {
  left : first_refusal (map stream_reply_of (drop l.reply-index l.replies)) (refusal_of_result l.closed)
      ≡ first_refusal (map stream_reply_of l.replies) (refusal_of_result l.closed);
}
