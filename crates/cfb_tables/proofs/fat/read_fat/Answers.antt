use Rattle.std.proofs.Common.{sym, subst}
use Rattle.cfb_tables.specs.Changes.{PointsWithin}
use Rattle.cfb_tables.proofs.FatLemmas.{values-within}
use Rattle.cfb_tables.proofs.fat.read_fat.Goals as goal

pub check_values-requires : goal.check_values-requires
check_values-requires g c =
    let fat = c.in_ok-fat.fat.items in
    let within = values-within c.args.num_sectors c.args.words.items c.args.fat_sectors.now c.args.difat_sectors.now fat c.in_ok-fat.ensures.ok in
    record { within = subst PointsWithin (sym c.deref-3.ensures.value) within }
