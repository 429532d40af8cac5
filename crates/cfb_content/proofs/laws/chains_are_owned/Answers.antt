use Rattle.cfb_content.proofs.Owned.{empty-owns-nothing, large-owns-its-chain, own-stays, small-owns-its-chain}
use Rattle.cfb_content.proofs.Readable.{stream-owns-its-own}
use Rattle.cfb_content.proofs.laws.chains_are_owned.Goals as goal

pub returns-clause-own : goal.returns-clause-own
returns-clause-own c = stream-owns-its-own

pub returns-clause-large : goal.returns-clause-large
returns-clause-large c = large-owns-its-chain

pub returns-clause-small : goal.returns-clause-small
returns-clause-small c = small-owns-its-chain

pub returns-clause-empty : goal.returns-clause-empty
returns-clause-empty c = empty-owns-nothing

pub returns-clause-stays : goal.returns-clause-stays
returns-clause-stays c = own-stays
