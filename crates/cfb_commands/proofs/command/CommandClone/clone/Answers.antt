use Rattle.std.proofs.Common.{◌∙◌, ap, ap₂, chars, List, ℕ, sym}
use Rattle.cfb_commands.specs.cfb_rules.Lists.{on_stream}
use Rattle.cfb_commands.specs.cfb_rules.StreamCalls.{StreamCall}
use Rattle.cfb_commands.specs.Commands.{command_of, opening_of}
use Rattle.cfb_commands.proofs.Cloned.{same_calls}
use Rattle.cfb_commands.proofs.command.CommandClone.clone.Goals as goal

pub returns-in_ok-clone-in-Stream-2 : goal.returns-in_ok-clone-in-Stream-2
returns-in_ok-clone-in-Stream-2 g c = record {
  cases = ap₂ (λ (bytes : List ℕ) (calls : List StreamCall). on_stream (opening_of c.in-Stream.how) (chars bytes) calls)
      c.in_ok-clone-in-Stream.ensures.cases
      (same_calls c.in-Stream.ops.items c.in_ok-clone-in-Stream-2.field-0.items c.in_ok-clone-in-Stream-2.ensures.cases.0)
      ∙ ap command_of (sym c.in-Stream.is);
}
