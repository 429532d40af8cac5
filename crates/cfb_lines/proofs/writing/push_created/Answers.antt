use Rattle.std.proofs.Common.{◌<◌, ◌^◌, arith, chars, string_bytes}
use Rattle.cfb_lines.proofs.Written.{created_line}
use Rattle.cfb_lines.proofs.writing.push_created.Goals as goal

pub returns : goal.returns
returns g c =
    let fits : c.value-units.result < 2 ^ 64 = omega arith in
    created_line (string_bytes c.args.text.now) (string_bytes c.push_line.new.text) (chars c.args.path.now) c.requires c.as_str.result.now c.value-units.result c.args.moment
    fits c.value-units.ensures (cc (c.in_ok-field.ensures)) c.in_ok-push_line.ensures
