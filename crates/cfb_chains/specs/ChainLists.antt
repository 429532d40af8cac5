-- The list of a chain's sectors, as the chain grows, is cut, or breaks off (MS-CFB 2.3).
use Rattle.std.specs.Prelude.{◌≡◌}
use Rattle.cfb_format.specs.declared.error.Error.{Error}
use Rattle.cfb_format.specs.Refused.{AfterMedium}

-- after the medium's error it is none; after any other it is as before
abbrev pub StaysOrBecomes : {A : Type 0} → A → A → A → Error → Type 0
StaysOrBecomes none old new = AfterMedium (new ≡ none) (new ≡ old)
