-- Of which kinds the refusals are of calls that change nothing.
use Rattle.std.specs.Prelude.{⊤}
use Rattle.cfb_format.specs.declared.error.Error.{Error}
use Rattle.cfb_format.specs.Refused.{HasReason, no_error}

-- of a question about a path, on a failed file too
abbrev pub IsOfAsking : Error → Type 0
IsOfAsking = HasReason (record no_error { invalid_input = ⊤; not_found = ⊤; memory = ⊤ })

-- of the opening of a stream that is there
abbrev pub IsOfOpeningStream : Error → Type 0
IsOfOpeningStream = HasReason (record no_error { invalid_input = ⊤; not_found = ⊤; memory = ⊤; failed = ⊤ })
