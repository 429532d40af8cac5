use Rattle.std.proofs.Common.{◌≡◌, ◌<◌, ℕ, List, length, sym, ◌∙◌, subst, arith}
use Rattle.std.specs.Prelude.{Contains}
use Rattle.cfb_flaws.specs.Claims.{Given}
use Rattle.cfb_flaws.proofs.Knowing.{not-arrived, arrived-claimed, arrived-known, stopped-claimed, stopped-known}
use Rattle.cfb_flaws.proofs.Paths.{path-below}
use Rattle.cfb_flaws.proofs.claims.claim_chain.Goals as goal

pub returns-then-not-is_on_chain-clause-claimed : goal.returns-then-not-is_on_chain-clause-claimed
returns-then-not-is_on_chain-clause-claimed g c = λ known.
    let w = c.in_ok-walk.walk in
    let e = c.in_ok-walk.ensures in
    let n = not-arrived c.args.owners.now w.next c.is_on_chain.result c.is_on_chain.ensures c.if-not-is_on_chain.true in
    stopped-claimed c.args.table.now c.args.owners.now c.args.seen.now c.walk_unseen.new.seen c.args.start w.path.items w.next known e.path e.fresh e.marked e.stops n.0 n.1 c.args.owner

pub returns-then-not-is_on_chain-clause-known : goal.returns-then-not-is_on_chain-clause-known
returns-then-not-is_on_chain-clause-known g c = λ known.
    let w = c.in_ok-walk.walk in
    let e = c.in_ok-walk.ensures in
    let n = not-arrived c.args.owners.now w.next c.is_on_chain.result c.is_on_chain.ensures c.if-not-is_on_chain.true in
    stopped-known c.args.table.now c.args.owners.now c.args.seen.now c.walk_unseen.new.seen c.args.start w.path.items w.next known e.path e.fresh e.marked e.stops n.0 n.1

pub give-requires : goal.give-requires
give-requires g c = λ i m.
    let w = c.in_ok-walk.walk in
    let m' : Contains w.path.items i = rw c.deref.ensures.value at m in
    let below = path-below c.args.table.now c.args.start w.path.items w.next i c.in_ok-walk.ensures.path m' in
    omega (arith, below, c.requires.owners)

pub returns-clause-claimed : goal.returns-clause-claimed
returns-clause-claimed g c = λ known.
    let w = c.in_ok-walk.walk in
    let e = c.in_ok-walk.ensures in
    let given : Given c.args.owners.now w.path.items c.args.owner c.give.new.owners = rw c.deref.ensures.value at c.give.ensures in
    arrived-claimed c.args.table.now c.args.owners.now c.args.seen.now c.walk_unseen.new.seen c.args.start w.path.items w.next known e.path e.fresh e.marked
    c.args.owner c.give.new.owners c.requires.chained given (c.is_on_chain.ensures.0 c.if-not-is_on_chain.false)

pub returns-clause-known : goal.returns-clause-known
returns-clause-known g c = λ known.
    let w = c.in_ok-walk.walk in
    let e = c.in_ok-walk.ensures in
    let given : Given c.args.owners.now w.path.items c.args.owner c.give.new.owners = rw c.deref.ensures.value at c.give.ensures in
    arrived-known c.args.table.now c.args.owners.now c.args.seen.now c.walk_unseen.new.seen c.args.start w.path.items w.next known e.path e.fresh e.marked
    c.args.owner c.give.new.owners c.requires.chained given (c.is_on_chain.ensures.0 c.if-not-is_on_chain.false)
