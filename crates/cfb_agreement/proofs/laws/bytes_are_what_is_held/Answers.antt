use Rattle.cfb_agreement.proofs.HeldBytes.{as-made-is-in-order, held-means-its-tree, sound-is-exact}
use Rattle.cfb_agreement.proofs.Reopened.{made-is-exact}
use Rattle.cfb_agreement.proofs.laws.bytes_are_what_is_held.Goals as goal

pub returns-clause-means : goal.returns-clause-means
returns-clause-means c = held-means-its-tree

pub returns-clause-sound : goal.returns-clause-sound
returns-clause-sound c = sound-is-exact

pub returns-clause-made : goal.returns-clause-made
returns-clause-made c = made-is-exact

pub returns-clause-in_order : goal.returns-clause-in_order
returns-clause-in_order c = as-made-is-in-order
