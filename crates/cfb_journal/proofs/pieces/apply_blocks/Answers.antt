use Rattle.std.proofs.Common.{◌∙◌, ◌-◌, ap, sym, length, take, drop, arith, List, ℕ, ◌∷◌}
use Rattle.cfb_journal.specs.Overlay.{contents, frames_from}
use Rattle.cfb_journal.proofs.Blockwise.{rest_fits, block_done, block_passed}
use Rattle.cfb_journal.proofs.Contents.{contents_split, is_no_block, is_some_block}
use Rattle.cfb_journal.proofs.pieces.apply_blocks.Goals as goal
use Rattle.cfb_journal.proofs.pieces.apply_blocks.Goals.{then-not-is_empty+in_ok-write_file, else-not-is_empty}

pub loop-rest-preserved : goal.loop-rest-preserved
loop-rest-preserved g c =
    let all = frames_from 0 (contents c.args.blocks.now) in
    let table = contents c.loop-rest.rest.now in
    let place = c.loop-rest.place in
    let b = c.as_slice-bytes.result.now in
    let after = contents (take (length c.loop-rest.rest.now - 1) (drop 1 c.loop-rest.rest.now)) in
    let split = contents_split c.loop-rest.rest.now c.block-item.result c.in-len1-up.len_at_least c.block-item.is ∙ ap (λ (x : List ℕ). x ∷ after) (sym c.as_slice-bytes.ensures.value) in
    record {
      few = omega (arith, c.loop-rest.invariant.few, c.in-len1-up.len_at_least);
      fits = rest_fits c.args.base place table b after split c.loop-rest.invariant.fits;
      honest = λ tells.
          let old = g.D.Disk.view c.args.disk.now in
          elim c.if-not-is_empty.branch [
            | then-not-is_empty+in_ok-write_file w ↦
                rw w.disk-is (block_done c.args.base place table b after split c.loop-rest.invariant.fits all old (g.D.Disk.view c.loop-rest.disk) (g.D.Disk.view w.write_file.new.self) (c.requires.within tells)
                (is_some_block _ c.is_empty.result w.if-not-is_empty.true c.is_empty.ensures) (c.loop-rest.invariant.honest tells) w.in_ok-write_file.field-0 (w.in_ok-write_file.ensures.honest tells))
            | else-not-is_empty w ↦
                rw w.disk-is (block_passed c.args.base place table b after split c.loop-rest.invariant.fits all old (g.D.Disk.view c.loop-rest.disk)
                (is_no_block _ c.is_empty.result w.if-not-is_empty.false c.is_empty.ensures) (c.loop-rest.invariant.honest tells))
          ];
    }
