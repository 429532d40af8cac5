use Rattle.std.proofs.Common.{◌≡◌, ◌≢◌, ◌<◌, ◌++◌, ℕ, List, Bool, length, sym, ◌∙◌, ap, subst, arith}
use Rattle.std.specs.Prelude.{Contains}
use Rattle.cfb_format.specs.Chain.{Follows}
use Rattle.cfb_flaws.specs.Claims.{IsPath, Stops, words_in}
use Rattle.cfb_flaws.specs.Reach.{Filled, KnowsReach, capped, reach_of}
use Rattle.cfb_flaws.proofs.Filling.{known-behind, known-filled, rest-of}
use Rattle.cfb_flaws.proofs.Paths.{path-below}
use Rattle.cfb_flaws.proofs.reach.reach_from.Goals as goal

pub fill-there-requires : goal.fill-there-requires
fill-there-requires g c = λ i m.
    let w = c.in_ok-walk.walk in
    let t = c.args.table in
    let known = c.args.known.now in
    let m' : Contains w.path.items i = rw c.deref.ensures.value at m in
    let words = c.words_of-words.ensures in
    let p : IsPath (words_in t known.parts.now) c.args.start w.path.items w.next = subst (λ (z : List ℕ). IsPath z c.args.start w.path.items w.next) words c.in_ok-walk.ensures.path in
    let below = path-below (words_in t known.parts.now) c.args.start w.path.items w.next i p m' in
    omega (arith, below, c.requires.reach)

pub returns-clause-reach : goal.returns-clause-reach
returns-clause-reach g c = λ list f knows.
    let t = c.args.table in
    let known = c.args.known.now in
    let w = c.in_ok-walk.walk in
    let e = c.in_ok-walk.ensures in
    let words = c.words_of-words.ensures in
    let p : IsPath (words_in t known.parts.now) c.args.start w.path.items w.next = subst (λ (z : List ℕ). IsPath z c.args.start w.path.items w.next) words e.path in
    let stops : Stops (words_in t known.parts.now) c.walk_unseen.new.seen w.next = subst (λ (z : List ℕ). Stops z c.walk_unseen.new.seen w.next) words e.stops in
    let rest = rest-of known t c.args.seen.now c.walk_unseen.new.seen c.args.reach.now c.args.start w.path.items w.next p e.fresh e.marked stops knows list f in
    let behind = known-behind known t c.args.seen.now c.walk_unseen.new.seen c.args.reach.now c.args.start w.path.items w.next p e.fresh e.marked stops knows list f
    c.reach_at-behind.result c.reach_at-behind.ensures.end c.reach_at-behind.ensures.there in
    let path = c.deref.ensures.value in
    c.fill-there.ensures.first rest.0 behind ∙ ap (λ (z : List ℕ). capped (reach_of known t (z ++ rest.0))) path ∙ ap (λ (z : List ℕ). capped (reach_of known t z)) (sym rest.1)

pub returns-clause-knows : goal.returns-clause-knows
returns-clause-knows g c = λ list f knows.
    let t = c.args.table in
    let known = c.args.known.now in
    let w = c.in_ok-walk.walk in
    let e = c.in_ok-walk.ensures in
    let words = c.words_of-words.ensures in
    let p : IsPath (words_in t known.parts.now) c.args.start w.path.items w.next = subst (λ (z : List ℕ). IsPath z c.args.start w.path.items w.next) words e.path in
    let stops : Stops (words_in t known.parts.now) c.walk_unseen.new.seen w.next = subst (λ (z : List ℕ). Stops z c.walk_unseen.new.seen w.next) words e.stops in
    let rest = rest-of known t c.args.seen.now c.walk_unseen.new.seen c.args.reach.now c.args.start w.path.items w.next p e.fresh e.marked stops knows list f in
    let behind = known-behind known t c.args.seen.now c.walk_unseen.new.seen c.args.reach.now c.args.start w.path.items w.next p e.fresh e.marked stops knows list f
    c.reach_at-behind.result c.reach_at-behind.ensures.end c.reach_at-behind.ensures.there in
    let filled : Filled known t c.args.reach.now w.path.items rest.0 c.fill-there.new.reach = rw c.deref.ensures.value at (c.fill-there.ensures.filled rest.0 behind (rw c.deref.ensures.value e.fresh.once)) in
    known-filled known t c.args.seen.now c.walk_unseen.new.seen c.args.reach.now c.args.start w.path.items w.next p e.fresh e.marked stops knows list f
    c.fill-there.new.reach filled
