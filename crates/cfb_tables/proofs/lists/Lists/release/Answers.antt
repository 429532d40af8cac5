use Rattle.std.proofs.Common.{◌≢◌, arith, length-set}
use Rattle.cfb_format.specs.Bytes.{free_sector}
use Rattle.cfb_format.specs.Chain.{value}
use Rattle.cfb_tables.specs.Tables.{tables_of}
use Rattle.cfb_tables.proofs.KeptLemmas.{kept-push}
use Rattle.cfb_tables.proofs.ListedLemmas.{fewer-free}
use Rattle.cfb_tables.proofs.lists.Lists.release.Goals as goal
use Rattle.cfb_format.proofs.Walks.{value-below}

pub push_reserved-requires : goal.push_reserved-requires
push_reserved-requires g c =
    let s = c.self.inside in
    let t = tables_of s.version s.max_sectors s.fat.items s.fat_sectors.items s.difat_sectors.items in
    let busy : value s.fat.items c.args.sector ≢ free_sector = rw (← c.self.view_is) at c.requires.busy in
    let fewer = fewer-free t s.free.items c.args.sector c.self.invariant.kept busy in
    let room = c.self.invariant.room in
    omega (arith, fewer, room)

pub invariant_of-self : goal.invariant_of-self
invariant_of-self g c =
    let s = c.self.inside in
    let t = tables_of s.version s.max_sectors s.fat.items s.fat_sectors.items s.difat_sectors.items in
    let busy : value s.fat.items c.args.sector ≢ free_sector = rw (← c.self.view_is) at c.requires.busy in
    let len = length-set s.fat.items c.args.sector free_sector in
    let room = c.self.invariant.room in
    record {
      kept = rw c.push_reserved.ensures.items (kept-push t s.free.items c.args.sector (value-below s.fat.items c.args.sector busy) busy c.self.invariant.kept);
      room = omega (arith, len, room, c.push_reserved.ensures.capacity);
    }
