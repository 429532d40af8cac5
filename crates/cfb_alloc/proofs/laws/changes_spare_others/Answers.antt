use Rattle.cfb_alloc.proofs.Frames.{nothing-touched, spares-less, spares-then, foreign-stays, other-chains-spared, bytes-stay-in-place}
use Rattle.cfb_alloc.proofs.laws.changes_spare_others.Goals as goal

pub returns-clause-nothing : goal.returns-clause-nothing
returns-clause-nothing c = nothing-touched

pub returns-clause-less : goal.returns-clause-less
returns-clause-less c = spares-less

pub returns-clause-in_turn : goal.returns-clause-in_turn
returns-clause-in_turn c = spares-then

pub returns-clause-chains : goal.returns-clause-chains
returns-clause-chains c = other-chains-spared

pub returns-clause-bytes : goal.returns-clause-bytes
returns-clause-bytes c = bytes-stay-in-place

pub returns-clause-foreign : goal.returns-clause-foreign
returns-clause-foreign c = foreign-stays
