use Rattle.cfb_shown.proofs.Fields.{rows_have_seven_fields}
use Rattle.cfb_shown.proofs.laws.rows_have_seven_fields.Goals as goal

pub returns : goal.returns
returns c = rows_have_seven_fields
