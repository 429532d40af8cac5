use Rattle.std.proofs.Common.{◌≡◌, ◌<◌, ◌+◌, ℕ, List, length, sym, ap, subst}
use Rattle.std.specs.Prelude.{slice_index}
use Rattle.cfb_flaws.specs.Flaws.{raw_of}
use Rattle.cfb_flaws.proofs.Pointing.{past-less, past-none, past-then}
use Rattle.cfb_flaws.proofs.past.tell_past.Goals as goal

pub loop-sector-init : goal.loop-sector-init
loop-sector-init g c = λ cases bytes r reads knows raw. past-none bytes r 0 c.args.found.now.items

pub loop-sector-preserved : goal.loop-sector-preserved
loop-sector-preserved g c = λ cases bytes r reads knows raw.
    let l = c.loop-sector in
    let lt : l.sector < length (raw_of bytes r) = subst (λ (xs : List ℕ). l.sector < length xs) raw c.loop-sector-test.true in
    let word : slice_index (raw_of bytes r) l.sector ≡ slice_index c.args.raw.now l.sector = ap (λ (xs : List ℕ). slice_index xs l.sector) (sym raw) in
    past-then bytes r 0 l.sector (l.sector + 1) c.args.found.now.items l.found.items c.tell_past_at.new.found.items
    (l.invariant cases bytes r reads knows raw) (c.in_ok-tell_past_at.ensures.told cases bytes r reads knows lt word)

pub returns-clause-told : goal.returns-clause-told
returns-clause-told g c = λ cases bytes r reads knows raw.
    let l = c.loop-sector in
    past-less bytes r 0 l.sector (length c.args.raw.now) c.args.found.now.items l.found.items c.loop-sector-test.false (l.invariant cases bytes r reads knows raw)
