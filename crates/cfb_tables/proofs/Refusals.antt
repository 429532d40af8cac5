-- Refusals that are said again of more.
use Rattle.cfb_format.specs.declared.error.Error.TheVariants.{AlreadyExists, Failed, Full, InvalidData, InvalidInput, Medium, Memory, NotFound, Unsound}
use Rattle.cfb_tables.specs.Refused.{ChangeRefused}
use Rattle.cfb_format.specs.declared.error.Error.{Error}

-- the same reasons, each said of the whole
pub refused-as : (invalid invalid' memory memory' full full' medium medium' : Type 0) → (invalid → invalid') → (memory → memory') → (full → full') → (medium → medium')
    → (e : Error) → ChangeRefused invalid memory full medium e → ChangeRefused invalid' memory' full' medium' e
refused-as invalid invalid' memory memory' full full' medium medium' a b c d (NotFound x) h = h
refused-as invalid invalid' memory memory' full full' medium medium' a b c d (AlreadyExists x) h = h
refused-as invalid invalid' memory memory' full full' medium medium' a b c d (InvalidInput x) h = h
refused-as invalid invalid' memory memory' full full' medium medium' a b c d (InvalidData x) h = a h
refused-as invalid invalid' memory memory' full full' medium medium' a b c d (Medium x) h = d h
refused-as invalid invalid' memory memory' full full' medium medium' a b c d Memory h = b h
refused-as invalid invalid' memory memory' full full' medium medium' a b c d Full h = c h
refused-as invalid invalid' memory memory' full full' medium medium' a b c d Unsound h = h
refused-as invalid invalid' memory memory' full full' medium medium' a b c d Failed h = h
