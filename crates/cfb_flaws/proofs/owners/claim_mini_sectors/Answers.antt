use Rattle.cfb_flaws.proofs.Assembling.{known-none, mini-sector-owners}
use Rattle.cfb_flaws.proofs.owners.claim_mini_sectors.Goals as goal

pub returns-clause-exact : goal.returns-clause-exact
returns-clause-exact g c = λ cases bytes r reads are new.
    let p = c.args.parts.now in
    let k0 = known-none p.minifat.now c.args.owners.now c.args.seen.now new in
    mini-sector-owners p cases bytes r reads are c.args.owners.now c.claim_streams.new.owners c.tell_free.new.owners
    c.requires.owners new.unowned (c.in_ok-claim_streams.ensures.claimed k0) c.tell_free.ensures
