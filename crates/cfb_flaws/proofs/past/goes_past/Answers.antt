use Rattle.std.proofs.Common.{◌≡◌, ◌≤◌, inl, inr, ℕ, List, true, false, length, sym, ◌∙◌, ap, arith}
use Rattle.cfb_flaws.specs.declared.owner.Owner.{Owner}
use Rattle.cfb_flaws.specs.declared.owner.Table.TheVariants.{Fat}
use Rattle.cfb_flaws.specs.Owners.{is_of_tables, owner_at}
use Rattle.cfb_flaws.specs.Telling.{owners_of}
use Rattle.cfb_flaws.proofs.Pointing.{is-not, not-is, points, points-not, unlisted-is}
use Rattle.cfb_flaws.proofs.past.goes_past.Goals as goal

pub returns-then-next-gt-MAX_REGULAR_SECTOR : goal.returns-then-next-gt-MAX_REGULAR_SECTOR
returns-then-next-gt-MAX_REGULAR_SECTOR g c = λ cases bytes r reads knows lt word. (
  (λ e. let f : false ≡ true = e in cc),
  λ p. absurd (points-not c.args.known.now cases bytes r reads knows c.args.sector c.args.next lt word (inl (omega (arith, c.if-next-gt-MAX_REGULAR_SECTOR.true))) p),
)

pub returns-then-at-sectors : goal.returns-then-at-sectors
returns-then-at-sectors g c = λ cases bytes r reads knows lt word. (
  (λ e. let f : false ≡ true = e in cc),
  λ p. absurd (points-not c.args.known.now cases bytes r reads knows c.args.sector c.args.next lt word (inr (omega (arith, c.if-at-sectors.true))) p),
)

pub returns : goal.returns
returns g c = λ cases bytes r reads knows lt word.
    let known = c.args.known.now in
    let sector = c.args.sector in
    let o : c.owner_at-owner.result ≡ owner_at (owners_of Fat known) sector = c.owner_at-owner.ensures ∙ ap (λ (z : List Owner). owner_at z sector) c.owners_in.ensures in
    let is : c.is_of_tables.result ≡ is_of_tables (owner_at (owners_of Fat known) sector) = c.is_of_tables.ensures ∙ ap is_of_tables o in (
      (λ e. points known cases bytes r reads knows sector c.args.next lt word (omega (arith, c.if-next-gt-MAX_REGULAR_SECTOR.false)) (omega (arith, c.if-at-sectors.false))
          (sym is ∙ not-is c.is_of_tables.result e)),
      λ p. is-not c.is_of_tables.result (is ∙ unlisted-is known cases bytes r reads knows sector c.args.next lt word p),
    )
