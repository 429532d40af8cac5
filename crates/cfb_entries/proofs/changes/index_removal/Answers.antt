use Rattle.std.proofs.Common.{refl, arith}
use Rattle.cfb_entries.proofs.changes.index_removal.Goals as goal

pub returns-then-freed-number-clause-indexed : goal.returns-then-freed-number-clause-indexed
returns-then-freed-number-clause-indexed g c = record {
  less = c.take.new.self;
  gone = c.take.ensures.taken c.requires.fits;
  stays = λ e q. refl;
  more = λ ne. absurd (ne c.if-freed-number.true);
}

pub put_entry-requires-clause-room : goal.put_entry-requires-clause-room
put_entry-requires-clause-room g c = omega (arith, c.requires.room, c.take.ensures.room)

pub move_entries-requires-clause-room : goal.move_entries-requires-clause-room
move_entries-requires-clause-room g c = omega (arith, c.requires.room, c.take.ensures.room, c.put_entry.ensures.room)

pub returns-clause-indexed : goal.returns-clause-indexed
returns-clause-indexed g c = record {
  less = c.take.new.self;
  gone = c.take.ensures.taken c.requires.fits;
  stays = λ e. absurd (c.if-freed-number.false e);
  more = λ ne. (c.put_entry.new.index, c.put_entry.ensures.put, c.move_entries.ensures.moved);
}

pub returns-clause-room : goal.returns-clause-room
returns-clause-room g c = omega (arith, c.take.ensures.room, c.put_entry.ensures.room, c.move_entries.ensures.room)
