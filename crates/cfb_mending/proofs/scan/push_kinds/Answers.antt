use Rattle.std.proofs.Common.{◌≡◌, ◌<◌, ◌++◌, ℕ, ◌∙◌, ap, arith}
use Rattle.cfb_format.specs.Bytes.{entries_per_sector, sector_start}
use Rattle.cfb_mending.specs.Missing.{kinds_from}
use Rattle.cfb_mending.proofs.HeldWords.{kind-there, most-slots}
use Rattle.cfb_mending.proofs.UsedWords.{kinds-more, kinds-none}
use Rattle.cfb_mending.proofs.scan.push_kinds.Goals as goal

pub loop-slot-init : goal.loop-slot-init
loop-slot-init g c bytes s h = kinds-none bytes (sector_start c.args.version s) c.args.kinds.now.items

pub loop-slot-preserved : goal.loop-slot-preserved
loop-slot-preserved g c bytes s h =
    let version = c.args.version in
    let below : c.loop-slot.slot < entries_per_sector version = omega (arith, c.loop-slot-test.true, c.dir_entries_per_sector-slot-end.ensures) in
    kinds-more bytes (sector_start version s) c.loop-slot.slot _ _ c.loop-slot.kinds.items _
    (c.kind.ensures (omega (arith, below, most-slots version)) ∙ kind-there version bytes s _ _ c.loop-slot.slot h below) (c.loop-slot.invariant bytes s h) c.in_ok-push.ensures.items

pub returns : goal.returns
returns g c bytes s h =
    c.loop-slot.invariant bytes s h
    ∙ ap (λ (n : ℕ). c.args.kinds.now.items ++ kinds_from bytes (sector_start c.args.version s) n)
    (let e : c.loop-slot.slot ≡ entries_per_sector c.args.version = omega (arith, c.loop-slot.auto.slot-end, c.loop-slot-test.false, c.dir_entries_per_sector-slot-end.ensures) in e)
