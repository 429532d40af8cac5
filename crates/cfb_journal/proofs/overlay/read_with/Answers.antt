use Rattle.std.proofs.Common.{◌≡◌, ◌∙◌, ◌++◌, ◌*◌, ◌/◌, ap, sym, List, ℕ, length, length-take, drop, arith}
use Rattle.cfb_journal.specs.Overlay.{contents, block_at}
use Rattle.cfb_journal.proofs.Blockwise.{block_fits}
use Rattle.cfb_journal.proofs.Tables.{block_part}
use Rattle.cfb_journal.proofs.overlay.read_with.Goals as goal

pub slice_bounds-copy_from_slice-end : goal.slice_bounds-copy_from_slice-end
slice_bounds-copy_from_slice-end g c =
    let there : c.args.at ≡ c.args.at / 4096 * 4096 = omega (arith, c.requires.aligned) in
    let less = block_fits c.args.base (contents c.args.blocks.now) (c.args.at / 4096) c.args.at (length c.args.into.now) c.requires.fits there c.requires.covered in
    omega (arith, less, ap length c.block-over.ensures, c.read_file.auto.into)

pub slice_bounds-copy_from_slice-end-2 : goal.slice_bounds-copy_from_slice-end-2
slice_bounds-copy_from_slice-end-2 g c =
    let there : c.args.at ≡ c.args.at / 4096 * 4096 = omega (arith, c.requires.aligned) in
    let less = block_fits c.args.base (contents c.args.blocks.now) (c.args.at / 4096) c.args.at (length c.args.into.now) c.requires.fits there c.requires.covered in
    omega (arith, less, ap length c.block-over.ensures, c.read_file.auto.into, length-take (length c.block-over.result.now) c.read_file.new.into)

pub copy_from_slice-requires : goal.copy_from_slice-requires
copy_from_slice-requires g c =
    let there : c.args.at ≡ c.args.at / 4096 * 4096 = omega (arith, c.requires.aligned) in
    let less = block_fits c.args.base (contents c.args.blocks.now) (c.args.at / 4096) c.args.at (length c.args.into.now) c.requires.fits there c.requires.covered in
    omega (arith, less, ap length c.block-over.ensures, c.read_file.auto.into, length-take (length c.block-over.result.now) c.read_file.new.into)

pub returns-clause-part : goal.returns-clause-part
returns-clause-part g c tells =
    let file = (g.D.Disk.view c.args.disk.now).seen.file in
    let table = contents c.args.blocks.now in
    let i = c.args.at / 4096 in
    let n = length c.args.into.now in
    let there : c.args.at ≡ c.args.at / 4096 * 4096 = omega (arith, c.requires.aligned) in
    let less = block_fits c.args.base table i c.args.at n c.requires.fits there c.requires.covered in
    let read = c.in_ok-read_file.ensures.bytes tells (c.requires.inside tells) in
    let piece : c.copy_from_slice.new.self ≡ block_at (c.args.at / 4096) (contents c.args.blocks.now) = c.copy_from_slice.ensures.after ∙ c.block-over.ensures in
    ap (λ (x : List ℕ). x ++ drop (length c.block-over.result.now) c.read_file.new.into) piece
    ∙ ap (λ k. block_at i table ++ drop k c.read_file.new.into) (ap length c.block-over.ensures)
    ∙ ap (λ (x : List ℕ). block_at i table ++ drop (length (block_at i table)) x) read
    ∙ sym (block_part c.args.base table i c.args.at n file c.requires.fits (c.requires.sized tells) there c.requires.small (c.requires.inside tells) less)
