use Rattle.cfb_content.proofs.Fullness.{enough-is-not-too-long, lack-is-too-long}
use Rattle.cfb_content.proofs.RoomGiven.{room-comes-free}
use Rattle.cfb_content.proofs.laws.fullness_is_want_of_numbers.Goals as goal

pub returns-clause-room : goal.returns-clause-room
returns-clause-room c = room-comes-free

pub returns-clause-too_long : goal.returns-clause-too_long
returns-clause-too_long c = lack-is-too-long

pub returns-clause-enough : goal.returns-clause-enough
returns-clause-enough c = enough-is-not-too-long
