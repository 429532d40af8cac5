use Rattle.std.proofs.Common.{◌∙◌, ap, chars, sym}
use Rattle.cfb_commands.specs.Commands.{stream_call_of}
use Rattle.cfb_tool.proofs.Telling.{written_last}
use Rattle.cfb_tool.proofs.replies.written_by.Goals as goal

pub returns : goal.returns
returns g c = rw c.in-Stream.is (
  ap chars (sym c.deref-2.ensures),
  written_last stream_call_of c.in-Stream.ops.items c.in_ok-last.field-0-1.now c.in_ok-last.last.now (sym c.deref.ensures.value ∙ c.in_ok-last.ensures.cases.0) ∙ sym c.bytes_of.ensures,
)
