-- Refusals that come in between.
use Rattle.std.specs.Prelude.{⊤}
use Rattle.cfb_format.specs.Refused.{IsBreak}
use Rattle.cfb_extract.specs.declared.error.ExtractError.{ExtractError}
use Rattle.cfb_extract.specs.declared.error.ExtractError.TheVariants.{File, Folder}

-- the medium failed or memory was refused, or the folder refused
abbrev pub IsBrokenOff : ExtractError → Type 0
IsBrokenOff (File e) = IsBreak ⊥ e
IsBrokenOff (Folder fault) = ⊤
