use Rattle.std.proofs.Common.{◌<◌, ◌^◌, arith, chars, string_bytes}
use Rattle.cfb_lines.proofs.Written.{modified_line}
use Rattle.cfb_lines.proofs.writing.push_modified.Goals as goal

pub returns : goal.returns
returns g c =
    let fits : c.value-units.result < 2 ^ 64 = omega arith in
    modified_line (string_bytes c.args.text.now) (string_bytes c.push_line.new.text) (chars c.args.path.now) c.requires c.as_str.result.now c.value-units.result c.args.moment
    fits c.value-units.ensures (cc (c.in_ok-field.ensures)) c.in_ok-push_line.ensures
