use Rattle.cfb_format.specs.Created.{created_reading}
use Rattle.cfb_format.proofs.CreatedFacts.{three_sectors, header_accepted, reads, means, strict, sound, owned, exact}
use Rattle.cfb_format.proofs.laws.created_file_is_right.Goals as goal

pub returns-clause-means : goal.returns-clause-means
returns-clause-means c = means

pub returns-clause-strict : goal.returns-clause-strict
returns-clause-strict c = λ cases version. record { reading = created_reading version; reads = reads cases version; holds = strict version }

pub returns-clause-sound : goal.returns-clause-sound
returns-clause-sound c = λ cases version. record { reading = created_reading version; reads = reads cases version; holds = sound version }

pub returns-clause-owned : goal.returns-clause-owned
returns-clause-owned c = λ cases version. record { reading = created_reading version; reads = reads cases version; holds = owned version }

pub returns-clause-tables : goal.returns-clause-tables
returns-clause-tables c = λ cases version. record { reading = created_reading version; reads = reads cases version; holds = exact version }

pub returns-clause-len : goal.returns-clause-len
returns-clause-len c = three_sectors

pub returns-clause-header : goal.returns-clause-header
returns-clause-header c = header_accepted
