use Rattle.std.proofs.Common.{◌≡◌, ℕ, List, subst}
use Rattle.std.specs.Prelude.{Contains}
use Rattle.cfb_format.specs.Soundness.{streams}
use Rattle.cfb_flaws.specs.Flaws.{OwnsMembers, twice_in}
use Rattle.cfb_flaws.specs.Telling.{Told}
use Rattle.cfb_flaws.proofs.Sharing.{member-at}
use Rattle.cfb_flaws.proofs.Streaming.{told-start, told-step, told-end}
use Rattle.cfb_flaws.proofs.streams.tell_shared_streams.Goals as goal

pub loop-number-init : goal.loop-number-init
loop-number-init g c = λ cases bytes r reads knows.
    let t = c.args.table in
    told-start bytes r (twice_in t) (OwnsMembers t r) c.args.known.now.parts.now.streams.now c.args.found.now.items

pub loop-number-preserved : goal.loop-number-preserved
loop-number-preserved g c = λ cases bytes r reads knows.
    let t = c.args.table in
    let list = c.args.known.now.parts.now.streams.now in
    let l = c.loop-number in
    let lt = c.loop-number-test.true in
    told-step bytes r (twice_in t) (OwnsMembers t r) list l.number-index c.args.found.now.items l.found.items c.tell_shared_stream.new.found.items lt
    (l.invariant cases bytes r reads knows)
    (c.in_ok-taken.ensures.told cases bytes r reads knows (member-at list (streams r) l.number-index lt knows.parts.streams))

pub returns-clause-told : goal.returns-clause-told
returns-clause-told g c = λ cases bytes r reads knows.
    let t = c.args.table in
    let list = c.args.known.now.parts.now.streams.now in
    let l = c.loop-number in
    subst (λ (z : List ℕ). Told (twice_in t) ((i : ℕ) → Contains z i → OwnsMembers t r i) bytes r c.args.found.now.items l.found.items) knows.parts.streams
    (told-end bytes r (twice_in t) (OwnsMembers t r) list l.number-index c.args.found.now.items l.found.items c.loop-number-test.false
    (l.invariant cases bytes r reads knows))
