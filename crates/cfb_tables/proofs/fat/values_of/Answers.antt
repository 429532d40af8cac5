use Rattle.std.proofs.Common.{◌-◌, ◌∙◌}
use Rattle.cfb_tables.proofs.FatLemmas.{values-made}
use Rattle.cfb_tables.proofs.fat.values_of.Goals as goal

pub returns-clause-ok : goal.returns-clause-ok
returns-clause-ok g c =
    let n = c.args.num_sectors in
    let words = c.args.words in
    let new = c.resize.new.self in
    values-made n new.len (n - words.len) c.args.fat_sectors.now c.args.difat_sectors.now words.items c.deref_mut.result.now new.items c.set_values.new.fat
    c.deref_mut.ensures.value c.in_ok-resize.ensures.items (c.deref_mut.ensures.len ∙ c.in_ok-resize.ensures.len) c.in_ok-resize.ensures.len c.set_values.ensures
