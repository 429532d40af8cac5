use Rattle.std.proofs.Common.{◌≡◌, ◌≢◌, ◌∙◌, Bool, sym, subst, refl}
use Rattle.std.specs.Prelude.{◌↔◌, IsTrue}
use Rattle.cfb_format.specs.Bytes.{free_sector}
use Rattle.cfb_format.specs.Chain.{value}
use Rattle.cfb_format.specs.Full.{freed}
use Rattle.cfb_content.proofs.Freed.{free-now, searched-free}
use Rattle.cfb_resizing.proofs.room.is_free_then.Goals as goal
use Rattle.cfb_format.proofs.Walks.{value-at}

pub returns-then-table-number : goal.returns-then-table-number
returns-then-table-number c =
    ((λ yes. free-now c.args.table.now c.args.rising.now c.args.number (value-at c.args.table.now c.args.number c.requires.inside ∙ c.if-table-number.true)), (λ is. refl))

pub returns : goal.returns
returns c =
    let table = c.args.table.now in
    let rising = c.args.rising.now in
    let i = c.args.number in
    let busy : value table i ≢ free_sector = λ is. c.if-table-number.false (sym (value-at table i c.requires.inside) ∙ is) in
    subst (λ (b : Bool). IsTrue b ↔ (value (freed table rising) i ≡ free_sector)) (sym c.is_ok.ensures.value)
    (searched-free table rising i c.binary_search.result c.requires.rising c.binary_search.ensures.position busy)
