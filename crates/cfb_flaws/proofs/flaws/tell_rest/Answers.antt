use Rattle.std.proofs.Common.{◌≡◌, ℕ, List}
use Rattle.cfb_flaws.specs.declared.owner.Table.TheVariants.{Fat, Minifat}
use Rattle.cfb_flaws.specs.Flaws.{HasRoom, KeepsLooseIn, on_loose, on_mini_loose, on_mini_room}
use Rattle.cfb_flaws.proofs.Growing.{grows, grows-on, grows-then, then-grows}
use Rattle.cfb_flaws.proofs.flaws.tell_rest.Goals as goal

pub returns-clause-room : goal.returns-clause-room
returns-clause-room g c = λ cases bytes r reads knows.
    let f0 = c.args.found.now.items in
    let f1 = c.tell_room.new.found.items in
    let f2 = c.tell_loose.new.found.items in
    let f3 = c.tell_loose-2.new.found.items in
    then-grows bytes r on_mini_room (HasRoom r) f0 f1 f3 (c.in_ok-tell_room.ensures.told cases bytes r reads knows)
    (grows-on bytes r f1 f2 f3 (grows bytes r on_loose (KeepsLooseIn Fat r) f1 f2 (c.in_ok-tell_loose.ensures.told cases bytes r reads knows))
    (grows bytes r on_mini_loose (KeepsLooseIn Minifat r) f2 f3 (c.in_ok-tell_loose-2.ensures.told cases bytes r reads knows)))

pub returns-clause-loose : goal.returns-clause-loose
returns-clause-loose g c = λ cases bytes r reads knows.
    let f0 = c.args.found.now.items in
    let f1 = c.tell_room.new.found.items in
    let f2 = c.tell_loose.new.found.items in
    let f3 = c.tell_loose-2.new.found.items in
    grows-then bytes r on_loose (KeepsLooseIn Fat r) f0 f1 f3 (grows bytes r on_mini_room (HasRoom r) f0 f1 (c.in_ok-tell_room.ensures.told cases bytes r reads knows))
    (then-grows bytes r on_loose (KeepsLooseIn Fat r) f1 f2 f3 (c.in_ok-tell_loose.ensures.told cases bytes r reads knows)
    (grows bytes r on_mini_loose (KeepsLooseIn Minifat r) f2 f3 (c.in_ok-tell_loose-2.ensures.told cases bytes r reads knows)))

pub returns-clause-mini_loose : goal.returns-clause-mini_loose
returns-clause-mini_loose g c = λ cases bytes r reads knows.
    let f0 = c.args.found.now.items in
    let f1 = c.tell_room.new.found.items in
    let f2 = c.tell_loose.new.found.items in
    let f3 = c.tell_loose-2.new.found.items in
    grows-then bytes r on_mini_loose (KeepsLooseIn Minifat r) f0 f2 f3
    (grows-on bytes r f0 f1 f2 (grows bytes r on_mini_room (HasRoom r) f0 f1 (c.in_ok-tell_room.ensures.told cases bytes r reads knows))
    (grows bytes r on_loose (KeepsLooseIn Fat r) f1 f2 (c.in_ok-tell_loose.ensures.told cases bytes r reads knows)))
    (c.in_ok-tell_loose-2.ensures.told cases bytes r reads knows)
