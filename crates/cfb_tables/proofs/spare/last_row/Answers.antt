use Rattle.std.proofs.Common.{◌≡◌, ◌-◌, inl, inr, ap, ◌∙◌, length, get_or, arith}
use Rattle.std.proofs.lemmas.Bool.{cases_eq}
use Rattle.cfb_tables.proofs.spare.last_row.Goals as goal

pub loop-behind-preserved : goal.loop-behind-preserved
loop-behind-preserved c = λ i from lt.
    let table = c.args.table.now in
    elim (cases_eq i (length table - c.loop-behind.behind - 1)) [
      | inl same ↦ ap (λ n. get_or table n 0) same ∙ c.if-table-first.false
      | inr other ↦ c.loop-behind.invariant i (omega (arith, from, other)) lt
    ]
