use Rattle.cfb_dates.proofs.Texts.{moments_apart}
use Rattle.cfb_dates.proofs.Words.{moments_are_one_word}
use Rattle.cfb_dates.proofs.laws.texts_of_moments_are_apart.Goals as goal

pub returns : goal.returns
returns c = record { apart = moments_apart; word = moments_are_one_word }
