use Rattle.std.proofs.Common.{ap, ◌∙◌, ◌+◌, ◌*◌, ◌/◌, ◌-◌, ◌++◌, ℕ, List, length, take}
use Rattle.cfb_sectors.specs.Sectors.{copies}
use Rattle.cfb_sectors.proofs.FreshLemmas.{zero_filled, fat_filled, difat_filled, dir_filled}
use Rattle.cfb_sectors.proofs.sector.fill.Goals as goal

pub returns-in-Zero : goal.returns-in-Zero
returns-in-Zero c =
    rw c.in-Zero.is (zero_filled c.args.version c.sector_len.result c.put_copies.result _ c.sector_len.ensures c.put_copies.ensures.end (c.put_copies.auto.into ∙ c.requires) c.put_copies.ensures.before)

pub returns-in-Fat : goal.returns-in-Fat
returns-in-Fat c =
    let k = c.sector_len-words.result / 4 in
    let put = c.put_copies-in-Fat.ensures in
    rw c.in-Fat.is (fat_filled c.args.version k c.put_copies-in-Fat.result _ (ap (λ n. n / 4) c.sector_len-words.ensures)
    (put.end ∙ ap (λ (xs : List ℕ). k * length xs) c.to_le_bytes.ensures)
    (c.put_copies-in-Fat.auto.into ∙ c.requires)
    (put.before ∙ ap (λ (xs : List ℕ). copies k xs) c.to_le_bytes.ensures))

pub returns-in-Difat : goal.returns-in-Difat
returns-in-Difat c =
    let k = c.sector_len-words.result / 4 in
    let free = c.put_copies-last.ensures in
    let end = c.to_le_bytes-in-Difat-2.ensures in
    rw c.in-Difat.is (difat_filled c.args.version k c.put_copies-last.result c.put.result c.put_copies-last.new.into _ (ap (λ n. n / 4) c.sector_len-words.ensures)
    (free.end ∙ ap (λ (xs : List ℕ). (k - 1) * length xs) c.to_le_bytes-in-Difat.ensures)
    (c.put.ensures.end ∙ ap (λ (xs : List ℕ). c.put_copies-last.result + length xs) end)
    (c.put.auto.into ∙ c.put_copies-last.auto.into ∙ c.requires)
    (free.before ∙ ap (λ (xs : List ℕ). copies (k - 1) xs) c.to_le_bytes-in-Difat.ensures)
    (c.put.ensures.before ∙ ap (λ (xs : List ℕ). take c.put_copies-last.result c.put_copies-last.new.into ++ xs) end))

pub returns-in-Dir : goal.returns-in-Dir
returns-in-Dir c =
    let put = c.put_copies-in-Dir.ensures in
    rw c.in-Dir.is (dir_filled c.args.version c.dir_entries_per_sector.result c.put_copies-in-Dir.result c.unallocated_slot.result _ c.dir_entries_per_sector.ensures
    c.unallocated_slot.ensures put.end (c.put_copies-in-Dir.auto.into ∙ c.requires) put.before)
