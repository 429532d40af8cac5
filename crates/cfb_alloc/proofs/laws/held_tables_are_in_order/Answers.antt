use Rattle.cfb_alloc.proofs.HeldOrder.{members-no_table, held-usable}
use Rattle.cfb_alloc.proofs.laws.held_tables_are_in_order.Goals as goal

pub returns-clause-members : goal.returns-clause-members
returns-clause-members c = members-no_table

pub returns-clause-usable : goal.returns-clause-usable
returns-clause-usable c = held-usable
