use Rattle.std.proofs.Common.{arith}
use Rattle.cfb_mini_table.proofs.MiniFreeLemmas.{free-room}
use Rattle.cfb_mini_table.proofs.words.give_back.Goals as goal

pub free_all-requires-clause-room : goal.free_all-requires-clause-room
free_all-requires-clause-room g c =
    let free = c.args.free.now in
    let minifat = c.args.minifat.now in
    let room = free-room free.items minifat.items c.args.list.now _ c.requires.listed c.requires.busy (omega (arith, c.requires.room, minifat.ok.0)) c.requires.places in
    omega (arith, room, free.ok.0)
