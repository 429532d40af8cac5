use Rattle.std.proofs.Common.{◌≡◌, ◌+◌, ◌-◌, ◌*◌, ◌<◌, ◌≤◌, ℕ, refl, sym, ◌∙◌, length, arith}
use Rattle.std.specs.Prelude.{slice_index}
use Rattle.std.proofs.lemmas.Bool.{eqb-false}
use Rattle.cfb_format.specs.Bytes.{sector_len}
use Rattle.cfb_content.proofs.KnownSectors.{chain-goes-on, chain-is-known}
use Rattle.cfb_content.proofs.LastSector.{first-but-last}
use Rattle.cfb_content.proofs.in_sectors.there_in_chain.Goals as goal

pub there_in_sectors-requires : goal.there_in_sectors-requires
there_in_sectors-requires g c =
    let chain = c.requires.chain in
    record { known = chain-is-known c.args.allocator.now.tables.fat chain.0 c.args.ids.now c.args.ids.now chain.1 refl }

pub returns : goal.returns
returns g c =
    let a = c.args.allocator.now in
    let ids = c.args.ids.now in
    let chain = c.requires.chain in
    let some = eqb-false (length ids) 0 (sym c.is_empty.ensures ∙ c.if-is_empty.false) in
    first-but-last a.tables.version ids (length ids - 1) a.file.len c.args.len _ (omega (arith, some))
    (λ i lt.
    c.goes_on_in_whole.ensures c.if-not-goes_on_in_whole.false (slice_index ids i) (chain-is-known a.tables.fat chain.0 ids ids chain.1 refl i (omega (arith, lt)))
    (chain-goes-on a.tables.fat chain.0 ids chain.1 i (omega (arith, lt))))
    (omega arith) (grind arith)
