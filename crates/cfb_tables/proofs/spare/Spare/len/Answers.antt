use Rattle.std.proofs.Common.{◌-◌, ◌++◌, length-append, length-drop, length-take, take, drop, arith}
use Rattle.std.specs.List.{range_with_len}
use Rattle.std.proofs.lemmas.List.FromFn.{length-range_with_len}
use Rattle.cfb_tables.proofs.spare.Spare.len.Goals as goal

pub returns : goal.returns
returns g c =
    let s = c.self.inside in
    let v = s.listed.items in
    let row = range_with_len s.first (s.end - s.first) in
    let both = length-append (take s.early v ++ row) (drop s.early v) in
    let first = length-append (take s.early v) row in
    let early = length-take s.early v in
    let late = length-drop s.early v in
    let long = length-range_with_len s.first (s.end - s.first) in
    let inv = c.self.invariant in
    rw (← c.self.view_is) (omega (arith, both, first, early, late, long, inv.0, inv.1, s.listed.ok.0))
