use Rattle.std.proofs.Common.{◌≡◌, ◌<◌, ℕ, List, true, false, length, arith}
use Rattle.cfb_flaws.specs.Owners.{is_unused, owner_at}
use Rattle.cfb_flaws.proofs.Claiming.{claimed-new, claimed-old, known-more}
use Rattle.cfb_flaws.proofs.claims.claim.Goals as goal

pub returns-then-at-owners-clause-claimed : goal.returns-then-at-owners-clause-claimed
returns-then-at-owners-clause-claimed c = λ first done was.
    claimed-old first c.args.owners.now done c.args.owner c.args.number (λ inside. absurd (omega (arith, inside))) was

pub returns-then-not-is_unused-clause-claimed : goal.returns-then-not-is_unused-clause-claimed
returns-then-not-is_unused-clause-claimed c = λ first done was.
    let used : is_unused (owner_at c.args.owners.now c.args.number) ≡ false = cc in
    claimed-old first c.args.owners.now done c.args.owner c.args.number (λ inside. used) was

pub returns-clause-claimed : goal.returns-clause-claimed
returns-clause-claimed c = λ first done was.
    let below : c.args.number < length c.args.owners.now = omega arith in
    let free : is_unused (owner_at c.args.owners.now c.args.number) ≡ true = cc in
    claimed-new first c.args.owners.now done c.args.owner c.args.number below free was

pub returns-clause-known : goal.returns-clause-known
returns-clause-known c = λ table known none used not.
    let below : c.args.number < length c.args.owners.now = omega arith in
    let there : c.args.number < length c.args.seen.now = omega arith in
    let free : is_unused (owner_at c.args.owners.now c.args.number) ≡ true = cc in
    known-more table c.args.owners.now c.args.seen.now c.args.owner c.args.number below there free used not none known
