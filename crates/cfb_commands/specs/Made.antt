-- What a list of commands keeps of a file, whatever it does.
use Rattle.std.specs.Prelude.{◌≡◌, true, false}
use Rattle.cfb_commands.specs.cfb_agreement.Changes.{KeepsParts}
use Rattle.cfb_commands.specs.cfb_agreement.Files.{FileState, SameSetting, is_failed}

-- the setting stays, a file that failed stays failed, and unless it failed it keeps each part of what makes a file that was made here
pub record StaysMade (old new : FileState) : Type 0 where
  pub setting : SameSetting old new
  pub failed : is_failed old ≡ true → is_failed new ≡ true
  pub parts : is_failed new ≡ false → KeepsParts old.base new.base
