use Rattle.std.proofs.Common.{[], refl}
use Rattle.std.proofs.lemmas.Result.{IfOk-weaker}
use Rattle.cfb_resizing.proofs.MovedToSectors.{moved-turns-soundly}
use Rattle.cfb_resizing.proofs.moving.move_to_sectors.Goals as goal

pub returns-clause-turned : goal.returns-clause-turned
returns-clause-turned g c told =
    IfOk-weaker c.move_with.result _ _ (λ start moved. moved-turns-soundly c.args.mini.now c.move_with.new.mini c.args.entry c.args.size start [] refl moved)
    (c.move_with.ensures.moved told)
