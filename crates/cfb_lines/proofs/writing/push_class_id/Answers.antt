use Rattle.std.proofs.Common.{chars, string_bytes}
use Rattle.cfb_lines.proofs.Written.{class_line}
use Rattle.cfb_lines.proofs.writing.push_class_id.Goals as goal

pub returns : goal.returns
returns g c =
    class_line (string_bytes c.args.text.now) (string_bytes c.push_line.new.text) (chars c.args.path.now) c.requires c.encode_lower-field.result.now c.args.id c.in_ok-push_line.ensures
    (rw c.hyphenated.ensures at c.encode_lower-field.ensures.text) (rw c.hyphenated.ensures at c.encode_lower-field.ensures.parsed) c.encode_lower-field.utf8
