use Rattle.std.proofs.Common.{◌≡◌, ◌∙◌, ◌++◌, [], ◌∷◌, ap, List, ℕ}
use Rattle.cfb_journal.specs.Journal.{encoded}
use Rattle.cfb_journal.specs.Overlay.{frames_from}
use Rattle.cfb_journal.proofs.Behind.{puts_as}
use Rattle.cfb_journal.proofs.Blockwise.{frame_bytes}
use Rattle.cfb_journal.proofs.Contents.{is_some_block}
use Rattle.cfb_journal.proofs.pieces.put_frame.Goals as goal

pub returns-clause-honest : goal.returns-clause-honest
returns-clause-honest g c tells =
    let block = c.args.block.now in
    let is : c.join.new.into ≡ encoded (frames_from c.args.place (c.args.block.now ∷ [])) =
    c.join.ensures ∙ ap (λ (h : List ℕ). h ++ block) c.head.ensures ∙ frame_bytes c.args.place block (is_some_block _ c.is_empty.result c.if-is_empty.false c.is_empty.ensures) in
    puts_as c.in_ok-put_behind.field-0 _ _ _ _ _ is (c.in_ok-put_behind.ensures tells)
