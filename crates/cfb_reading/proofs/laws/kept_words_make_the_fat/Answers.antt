use Rattle.cfb_reading.proofs.KeptWordLaws.{make-the-fat, words-are-kept, point-into-file}
use Rattle.cfb_reading.proofs.laws.kept_words_make_the_fat.Goals as goal

pub returns-clause-made : goal.returns-clause-made
returns-clause-made c = make-the-fat

pub returns-clause-kept : goal.returns-clause-kept
returns-clause-kept c = words-are-kept

pub returns-clause-points : goal.returns-clause-points
returns-clause-points c = point-into-file
