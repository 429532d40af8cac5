use Rattle.cfb_entry_changes.proofs.Balance.{insertion-keeps-balance}
use Rattle.cfb_entry_changes.proofs.Entries.{put-is-balanced}
use Rattle.cfb_entry_changes.proofs.insertion.insertions_keep_balance.Goals as goal

pub returns-clause-others : goal.returns-clause-others
returns-clause-others c = insertion-keeps-balance

pub returns-clause-all : goal.returns-clause-all
returns-clause-all c = put-is-balanced
