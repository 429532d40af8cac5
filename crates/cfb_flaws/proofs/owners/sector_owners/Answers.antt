use Rattle.std.proofs.Common.{◌≡◌, List, ◌++◌, length, take, drop, ◌∙◌}
use Rattle.cfb_flaws.specs.declared.owner.Owner.{Owner}
use Rattle.cfb_flaws.proofs.Assembling.{new-of, written-back}
use Rattle.cfb_flaws.proofs.owners.sector_owners.Goals as goal

pub returns-clause-exact : goal.returns-clause-exact
returns-clause-exact g c = λ cases bytes r reads are.
    let v = c.in_ok-owners.owners in
    let n = length c.args.parts.now.fat.now in
    let fresh = new-of n n v.items c.in_ok-seen.seen.items (c.in_ok-owners.ensures.items_if_clones_equal (λ y e. e)) (c.in_ok-seen.ensures.items_if_clones_equal (λ y e. e)) in
    let exact = c.in_ok-claim_sectors.ensures.exact cases bytes r reads are (rw (c.deref_mut.ensures.value, c.deref_mut-2.ensures.value) fresh) in
    let new = c.claim_sectors.new.owners in
    let back : take v.len (new ++ drop (length new) v.items) ≡ new = written-back v.len new (drop (length new) v.items) (c.claim_sectors.auto.owners ∙ c.deref_mut.ensures.len) in
    rw back exact
