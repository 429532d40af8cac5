use Rattle.std.specs.Prelude.{chars}
use Rattle.cfb_codecs.specs.EntryModel.{entries_of}
use Rattle.cfb_siblings.proofs.Joined.{has-dir, absent-place}
use Rattle.cfb_siblings.proofs.insert.place_for.Goals as goal

pub way_to-requires-clause-stands : goal.way_to-requires-clause-stands
way_to-requires-clause-stands g c = has-dir c.args.cases.now (entries_of c.args.entries.now) c.args.parent c.requires.stands

pub returns : goal.returns
returns g c =
    absent-place c.args.cases.now (entries_of c.args.entries.now) c.args.parent (chars c.args.name.now) c.in_ok-path.path.items c.in_ok-path.field-0-0 c.requires.few c.requires.stands c.requires.absent
    c.in_ok-path.ensures.placed c.in_ok-path.ensures.found
