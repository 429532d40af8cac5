use Rattle.std.proofs.Common.{◌<◌, ◌^◌, arith, chars, string_bytes}
use Rattle.cfb_lines.proofs.Written.{bits_line}
use Rattle.cfb_lines.proofs.writing.push_state_bits.Goals as goal

pub returns : goal.returns
returns g c =
    let fits : c.args.bits < 2 ^ 32 = omega arith in
    bits_line (string_bytes c.args.text.now) (string_bytes c.push_line.new.text) (chars c.args.path.now) c.requires c.as_str.result.now c.args.bits
    fits (cc (c.in_ok-field.ensures)) c.in_ok-push_line.ensures
