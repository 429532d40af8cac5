use Rattle.std.proofs.Common.{◌+◌, refl, sym, ◌∙◌, arith}
use Rattle.cfb_mending.specs.Mended.{bytes_with}
use Rattle.cfb_mending.proofs.Patching.{all-set, byte-beyond, next-set, with-none}
use Rattle.cfb_mending.proofs.patches.Patch.set_in.Goals as goal
use Rattle.cfb_mending.proofs.patches.Patch.set_in.Goals.{then-self-place-via-then-self-place, then-self-place-via-else-self-place+then-last-self}

pub loop-index-init : goal.loop-index-init
unfolding bytes_with
loop-index-init c = refl

pub loop-index-preserved : goal.loop-index-preserved
loop-index-preserved c =
    next-set c.args.self c.args.place c.args.bytes.now c.loop-index.bytes c.loop-index.index _ (omega arith) c.loop-index.invariant
    (c.byte_at.ensures ∙ byte-beyond c.args.self (c.args.place + c.loop-index.index) _ _ (omega arith) c.saturating_add-here.ensures)

pub returns : goal.returns
returns c = all-set c.args.self c.args.place c.args.bytes.now c.loop-index.bytes c.loop-index.index (omega arith) c.loop-index.invariant

pub returns-then-self-place : goal.returns-then-self-place
returns-then-self-place c =
    sym (with-none c.args.self c.args.place c.args.bytes.now (λ i low high from upto.
    elim c.then-self-place.branch [ then-self-place-via-then-self-place w ↦ omega arith | then-self-place-via-else-self-place+then-last-self w ↦ omega arith ]))
