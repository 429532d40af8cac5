use Rattle.std.proofs.Common.{◌≡◌, ℕ, List, subst}
use Rattle.std.specs.Prelude.{Contains}
use Rattle.cfb_flaws.specs.declared.owner.Owner.TheVariants.{Difat}
use Rattle.cfb_flaws.specs.declared.owner.Table.TheVariants.{Fat}
use Rattle.cfb_flaws.specs.Flaws.{owner_in, twice_in}
use Rattle.cfb_flaws.specs.Owners.{meant}
use Rattle.cfb_flaws.specs.Telling.{Told}
use Rattle.cfb_flaws.proofs.Sharing.{member-at}
use Rattle.cfb_flaws.proofs.Streaming.{told-start, told-step, told-end}
use Rattle.cfb_flaws.proofs.shared.tell_difat.Goals as goal

pub loop-number-init : goal.loop-number-init
loop-number-init g c = λ cases bytes r reads knows.
    told-start bytes r (twice_in Fat) (λ i. owner_in Fat r i ≡ meant Difat) c.args.known.now.parts.now.difat_sectors.now c.args.found.now.items

pub loop-number-preserved : goal.loop-number-preserved
loop-number-preserved g c = λ cases bytes r reads knows.
    let list = c.args.known.now.parts.now.difat_sectors.now in
    let l = c.loop-number in
    let lt = c.loop-number-test.true in
    told-step bytes r (twice_in Fat) (λ i. owner_in Fat r i ≡ meant Difat) list l.number-index c.args.found.now.items l.found.items c.tell_difat_sector.new.found.items lt
    (l.invariant cases bytes r reads knows)
    (c.in_ok-tell_difat_sector.ensures.told cases bytes r reads knows (member-at list r.difat_sectors l.number-index lt knows.parts.difat_sectors))

pub returns-clause-told : goal.returns-clause-told
returns-clause-told g c = λ cases bytes r reads knows.
    let list = c.args.known.now.parts.now.difat_sectors.now in
    let l = c.loop-number in
    subst (λ (z : List ℕ). Told (twice_in Fat) ((i : ℕ) → Contains z i → owner_in Fat r i ≡ meant Difat) bytes r c.args.found.now.items l.found.items) knows.parts.difat_sectors
    (told-end bytes r (twice_in Fat) (λ i. owner_in Fat r i ≡ meant Difat) list l.number-index c.args.found.now.items l.found.items c.loop-number-test.false
    (l.invariant cases bytes r reads knows))
