use Rattle.cfb_agreement.proofs.Flags.{as-before-same, flags-keep-parts, flags-not-made, flags-not-read}
use Rattle.cfb_agreement.proofs.laws.flags_are_not_read.Goals as goal

pub returns-clause-holds : goal.returns-clause-holds
returns-clause-holds c = flags-not-read

pub returns-clause-made : goal.returns-clause-made
returns-clause-made c = flags-not-made

pub returns-clause-parts : goal.returns-clause-parts
returns-clause-parts c = flags-keep-parts

pub returns-clause-same : goal.returns-clause-same
returns-clause-same c = as-before-same
