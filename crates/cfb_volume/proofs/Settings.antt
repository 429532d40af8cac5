-- What a file's calls leave as it is: its version, letters, limits, soundness and buffers.
use Rattle.std.proofs.Common.{refl}
use Rattle.cfb_agreement.specs.Files.{FileState, SameSetting}

pub setting-same : (file : FileState) → SameSetting file file
setting-same file = record {
  limits = record { version = refl; cases = refl; max_sectors = refl; max_mini_sectors = refl };
  is_sound = refl;
  buffer_limit = refl;
}
