use Rattle.std.proofs.Common.{◌≡◌, ◌≢◌, ℕ, List, sym, ◌∙◌, ap}
use Rattle.cfb_soundness.proofs.MarkLemmas.{true_false}
use Rattle.cfb_flaws.specs.declared.flaw.Flaw.TheVariants.{UsedTwice}
use Rattle.cfb_flaws.specs.declared.owner.Owner.TheVariants.{Difat}
use Rattle.cfb_flaws.specs.declared.owner.Table.TheVariants.{Fat}
use Rattle.cfb_flaws.specs.Flaws.{owner_in, twice_in}
use Rattle.cfb_flaws.specs.declared.owner.Owner.{Owner}
use Rattle.cfb_flaws.specs.Owners.{meant, owner_at}
use Rattle.cfb_flaws.specs.Telling.{owners_of}
use Rattle.cfb_flaws.proofs.Sharing.{difat-inside, one-true}
use Rattle.cfb_flaws.proofs.Tellings.{told-one, told-same}
use Rattle.cfb_flaws.proofs.Truths.{owner-known}
use Rattle.cfb_flaws.proofs.shared.tell_difat_sector.Goals as goal

pub returns-then-is_same-clause-told : goal.returns-then-is_same-clause-told
returns-then-is_same-clause-told g c = λ cases bytes r reads knows m.
    let n = c.args.number in
    let lt = difat-inside c.args.known.now cases bytes r reads knows n m in
    let is : c.owner_at-owner.result ≡ owner_at (owners_of Fat c.args.known.now) n = c.owner_at-owner.ensures ∙ ap (λ (z : List Owner). owner_at z n) c.owners_in.ensures in
    told-same bytes r (twice_in Fat) (owner_in Fat r n ≡ meant Difat) c.args.found.now.items
    (sym (owner-known c.args.known.now bytes r knows Fat n lt) ∙ ap meant (sym is ∙ c.is_same.ensures.0 c.if-is_same.true))

pub returns-clause-told : goal.returns-clause-told
returns-clause-told g c = λ cases bytes r reads knows m.
    let n = c.args.number in
    let lt = difat-inside c.args.known.now cases bytes r reads knows n m in
    let is : c.owner_at-owner.result ≡ owner_at (owners_of Fat c.args.known.now) n = c.owner_at-owner.ensures ∙ ap (λ (z : List Owner). owner_at z n) c.owners_in.ensures in
    rw c.in_ok-push.ensures.items
    (told-one bytes r (owner_in Fat r n ≡ meant Difat) c.args.found.now.items (UsedTwice Fat n n c.owner_at-owner.result Difat)
    (one-true c.args.known.now bytes r knows Fat Difat c.owner_at-owner.result n lt is m
    (λ e. true_false c.is_same.result (c.is_same.ensures.1 e) c.if-is_same.false)))
