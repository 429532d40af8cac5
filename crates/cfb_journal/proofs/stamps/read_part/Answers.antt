use Rattle.std.proofs.Common.{◌≤◌, ◌+◌, length, arith}
use Rattle.cfb_journal.proofs.Framed.{framed_part}
use Rattle.cfb_journal.proofs.stamps.read_part.Goals as goal

pub returns-clause-part : goal.returns-clause-part
returns-clause-part g c tells =
    let file = (g.D.Disk.view c.args.disk.now).seen.file in
    let inside : c.args.at + length c.args.into.now ≤ length file = omega (arith, c.requires.inside, c.requires.within tells) in
    framed_part c.args.count c.args.len c.args.frames.now file (c.requires.within tells) c.requires.whole c.args.at (length c.args.into.now) c.read_file.new.into c.lay_frames.new.into c.requires.inside
    (c.in_ok-read_file.ensures.bytes tells inside) c.lay_frames.ensures
