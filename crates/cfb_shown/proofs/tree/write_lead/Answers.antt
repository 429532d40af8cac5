use Rattle.std.proofs.Common.{◌≡◌, ◌++◌, ◌∷◌, ◌+◌, ◌∙◌, [], Bool, List, ℕ, ap, append-nil, append_assoc, drop, false, flat_map, get_or, refl, subst, sym}
use Rattle.std.proofs.KnownBytes.{Appends-nil, Appends-trans}
use Rattle.std.proofs.lemmas.List.{at_drop_all}
use Rattle.cfb_shown.specs.Trees.{beside, own_cell}
use Rattle.cfb_shown.proofs.Pieces.{as-text, ends-as}
use Rattle.cfb_shown.proofs.TreeLines.{next-of}
use Rattle.cfb_shown.proofs.tree.write_lead.Goals as goal

pub loop-is_ended-init : goal.loop-is_ended-init
loop-is_ended-init g c = record { text = []; written = Appends-nil (g.W.Write.contents c.args.out.now); cells = refl }

pub loop-is_ended-preserved : goal.loop-is_ended-preserved
loop-is_ended-preserved g c =
    let above = c.args.above.now in
    let at = c.loop-is_ended.is_ended-index in
    let inv = c.loop-is_ended.invariant in
    let flag = get_or above at false in
    record {
      text = inv.text ++ beside flag;
      written = Appends-trans (g.W.Write.contents c.args.out.now) (g.W.Write.contents c.loop-is_ended.out) (g.W.Write.contents c.write_all.new.self) inv.text (beside flag) inv.written
          (as-text _ _ _ (beside flag) (c.as_bytes.ensures.value ∙ c.beside.ensures) c.in_ok-write_all.ensures.bytes);
      cells = append_assoc inv.text (beside flag) (flat_map beside (drop (at + 1) above))
          ∙ ap (λ (fs : List Bool). inv.text ++ flat_map beside fs) (sym (next-of above at false c.loop-is_ended-test.true)) ∙ inv.cells;
    }

pub returns : goal.returns
returns g c =
    let inv = c.loop-is_ended.invariant in
    let end = at_drop_all (λ (fs : List Bool). flat_map beside fs) c.args.above.now c.loop-is_ended.is_ended-index c.loop-is_ended-test.false in
    ends-as c.write_all-2.result (g.W.Write.contents c.args.out.now) (g.W.Write.contents c.loop-is_ended.out) _ inv.text c.as_bytes-2.result.now _ inv.written
    (ap (λ (text : List ℕ). inv.text ++ text) (c.as_bytes-2.ensures.value ∙ c.own_cell.ensures)
    ∙ ap (λ (text : List ℕ). text ++ own_cell c.args.is_last) (sym (append-nil inv.text) ∙ ap (λ (text : List ℕ). inv.text ++ text) (sym end) ∙ inv.cells))
    c.write_all-2.ensures.bytes
