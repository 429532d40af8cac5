use Rattle.std.proofs.Common.{chars, string_bytes}
use Rattle.cfb_lines.proofs.Written.{storage_line}
use Rattle.cfb_lines.proofs.writing.push_storage.Goals as goal

pub returns : goal.returns
returns g c =
    storage_line (string_bytes c.args.text.now) (string_bytes c.push_line.new.text) (chars c.args.path.now) c.requires c.in_ok-push_line.ensures
