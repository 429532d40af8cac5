use Rattle.std.proofs.Common.{take}
use Rattle.cfb_flaws.specs.Claims.{Given}
use Rattle.cfb_flaws.proofs.claims.give.Given as goal

abbrev pub invariant-loop-number : goal.invariant-loop-number
invariant-loop-number l = Given l.fn.owners (take l.number-index l.numbers) l.owner l.owners
