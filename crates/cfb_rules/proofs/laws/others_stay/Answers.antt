use Rattle.cfb_rules.proofs.CallBreaks.{refused_keep_all, root_len_stays}
use Rattle.cfb_rules.proofs.OthersStay.{others_stay, unnamed_stay}
use Rattle.cfb_rules.proofs.laws.others_stay.Goals as goal

pub returns-clause-found : goal.returns-clause-found
returns-clause-found c = others_stay

pub returns-clause-unnamed : goal.returns-clause-unnamed
returns-clause-unnamed c = unnamed_stay

pub returns-clause-root_len : goal.returns-clause-root_len
returns-clause-root_len c = root_len_stays

pub returns-clause-refused : goal.returns-clause-refused
returns-clause-refused c = refused_keep_all
