use Rattle.std.proofs.Common.{◌∙◌, sym}
use Rattle.cfb_commands.specs.Commands.{stream_reply_of}
use Rattle.cfb_tool.proofs.Telling.{last_of}
use Rattle.cfb_tool.proofs.replies.last_taken.Goals as goal

pub returns-in-Some : goal.returns-in-Some
returns-in-Some g c = c.taken_by.ensures ∙ sym (last_of stream_reply_of c.args.replies.now c.in-Some.field-0-1.now c.in-Some.last.now c.in-Some.ensures.cases.0)
