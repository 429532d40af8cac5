use Rattle.std.proofs.Common.{length, refl, ◌∙◌, ap}
use Rattle.std.proofs.lemmas.List.{length-map}
use Rattle.cfb_format.specs.Fat.{ended_past_file}
use Rattle.cfb_tables.proofs.FatLemmas.{values-set}
use Rattle.cfb_tables.proofs.fat.set_values.Goals as goal

pub returns : goal.returns
returns c =
    let old = c.args.fat.now in
    let ended = ap length c.end_past_file.ensures ∙ length-map old (ended_past_file (length old)) in
    let owned = c.mark.ensures.len ∙ ended in
    values-set (length old) c.args.fat_sectors.now c.args.difat_sectors.now old c.end_past_file.new.fat c.mark.new.fat c.mark-2.new.fat refl
    c.end_past_file.ensures (c.mark-2.ensures.len ∙ owned) c.mark.ensures.values c.mark-2.ensures.values owned
