use Rattle.cfb_tables.proofs.FatLaws.{read_sound, read_complete}
use Rattle.cfb_tables.proofs.fat.read_fat_is_the_files_fat.Goals as goal

pub returns-clause-sound : goal.returns-clause-sound
returns-clause-sound c = read_sound

pub returns-clause-complete : goal.returns-clause-complete
returns-clause-complete c = read_complete
