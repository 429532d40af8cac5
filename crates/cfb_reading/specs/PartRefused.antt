-- Why a part of a file was not read.
use Rattle.std.specs.Prelude.{Bool, IsTrue, ⊤}
use Rattle.cfb_format.specs.declared.error.Error.{Error}
use Rattle.cfb_format.specs.declared.medium.MediumFault.{MediumFault}
use Rattle.cfb_format.specs.Refused.{HasReason, no_error}

-- where the medium tells its bytes, they are refused only if they have no such part, and the medium fails only by a fault that it can
-- give there; or memory was refused, and nothing else
abbrev pub PartRefused : Bool → (MediumFault → Bool) → Type 0 → Error → Type 0
PartRefused tells can_give none = HasReason (record no_error {
  invalid_data = IsTrue tells → none;
  medium = λ fault. IsTrue tells → IsTrue (can_give fault);
  memory = ⊤;
})
