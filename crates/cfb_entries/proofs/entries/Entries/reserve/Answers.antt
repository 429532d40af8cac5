use Rattle.std.proofs.Common.{ap, length, arith}
use Rattle.cfb_codecs.specs.EntryModel.{entries_of}
use Rattle.cfb_entries.proofs.Covered.{covers-same}
use Rattle.cfb_entries.proofs.entries.Entries.reserve.Goals as goal

pub invariant_of-self : goal.invariant_of-self
invariant_of-self g c =
    let s = c.self.inside in
    let w = c.reserve_all.ensures in (
      rw w.list.0 c.self.invariant.0,
      rw (w.list.0, w.free.0) c.self.invariant.1,
      rw w.list.0 (covers-same s.letters (entries_of s.list.items) s.index c.reserve_all.new.index w.index.0 c.self.invariant.2),
      omega (arith, w.index.1, c.self.invariant.3, ap length w.free.0, s.free.ok.0, c.reserve_all.new.free.ok.0),
    )
