use Rattle.std.proofs.Common.{◌-◌, [], arith, length, refl}
use Rattle.cfb_codecs.specs.EntryModel.{entries_of}
use Rattle.cfb_shown.specs.Trees.{counts_text}
use Rattle.cfb_shown.proofs.Pieces.{is-as}
use Rattle.cfb_shown.proofs.TreeLines.{counts-are, streams-within}
use Rattle.cfb_shown.proofs.tree.write_counts_of.Goals as goal

pub overflow_sub-storages : goal.overflow_sub-storages
overflow_sub-storages g c =
    let some = c.count_streams-streams.ensures in
    let most = streams-within (entries_of c.args.entries.now) c.args.list.now in
    omega (arith, some, most)

pub returns : goal.returns
returns g c =
    let some = c.count_streams-streams.ensures in
    let most = streams-within (entries_of c.args.entries.now) c.args.list.now in
    let storages = length c.args.list.now - c.count_streams-streams.result in
    is-as c.write_counts.result _ _ _ _
    (counts-are (entries_of c.args.entries.now) c.args.list.now [] (counts_text storages c.count_streams-streams.result c.count_bytes-bytes.result) storages
    c.count_streams-streams.result c.count_bytes-bytes.result (omega (arith, some, most)) some c.count_bytes-bytes.ensures refl)
    c.write_counts.ensures
