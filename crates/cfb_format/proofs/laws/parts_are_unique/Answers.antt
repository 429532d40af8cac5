use Rattle.cfb_format.proofs.Unique.{IsHeader-unique, IsDifat-unique, IsFat-unique, IsDirectory-unique, IsOutline-unique, IsMinifat-unique}
use Rattle.cfb_format.proofs.laws.parts_are_unique.Goals as goal

pub returns-clause-header : goal.returns-clause-header
returns-clause-header c = IsHeader-unique

pub returns-clause-difat : goal.returns-clause-difat
returns-clause-difat c = IsDifat-unique

pub returns-clause-fat : goal.returns-clause-fat
returns-clause-fat c = IsFat-unique

pub returns-clause-directory : goal.returns-clause-directory
returns-clause-directory c = IsDirectory-unique

pub returns-clause-outline : goal.returns-clause-outline
returns-clause-outline c = IsOutline-unique

pub returns-clause-minifat : goal.returns-clause-minifat
returns-clause-minifat c = IsMinifat-unique
