-- Why a part was not read.
use Rattle.std.proofs.Common.{◌≡◌, arith}
use Rattle.std.specs.Prelude.{Bool, IsTrue, Result, Ok, Err, IfOk}
use Rattle.cfb_format.specs.Refused.{number_of}
use Rattle.cfb_format.specs.declared.error.Error.{Error}
use Rattle.cfb_format.specs.declared.error.Error.TheVariants.{NotFound, AlreadyExists, InvalidInput, InvalidData, Medium, Memory, Full, Unsound, Failed}
use Rattle.cfb_format.specs.declared.medium.MediumFault.{MediumFault}
use Rattle.cfb_reading.specs.PartRefused.{PartRefused}

module _ (tells : Bool) (can_give : MediumFault → Bool) (P Q : Type 0) (turn : IsTrue tells → P → Q) where
  pub refused-weaker : (e : Error) → PartRefused tells can_give P e → PartRefused tells can_give Q e
  refused-weaker (NotFound d) r = r
  refused-weaker (AlreadyExists d) r = r
  refused-weaker (InvalidInput d) r = r
  refused-weaker (InvalidData d) r = λ told. turn told (r told)
  refused-weaker (Medium f) r = r
  refused-weaker Memory r = r
  refused-weaker Full r = r
  refused-weaker Unsound r = r
  refused-weaker Failed r = r

-- four facts of what a call answered
pub from_four : {T E : Type 0} (r : Result T E) (P Q R S All : T → Type 0) → ((x : T) → P x → Q x → R x → S x → All x) → IfOk r P → IfOk r Q → IfOk r R → IfOk r S → IfOk r All
from_four (Ok x) P Q R S All both p q s t = both x p q s t
from_four (Err e) P Q R S All both p q s t = tt

-- the bytes alone are refused
pub refused-bytes : (tells : Bool) (can_give : MediumFault → Bool) (none : Type 0) (e : Error) → number_of e ≡ 4 → (IsTrue tells → none) → PartRefused tells can_give none e
refused-bytes tells can_give none (NotFound d) is turn = absurd (omega arith)
refused-bytes tells can_give none (AlreadyExists d) is turn = absurd (omega arith)
refused-bytes tells can_give none (InvalidInput d) is turn = absurd (omega arith)
refused-bytes tells can_give none (InvalidData d) is turn = turn
refused-bytes tells can_give none (Medium f) is turn = absurd (omega arith)
refused-bytes tells can_give none Memory is turn = absurd (omega arith)
refused-bytes tells can_give none Full is turn = absurd (omega arith)
refused-bytes tells can_give none Unsound is turn = absurd (omega arith)
refused-bytes tells can_give none Failed is turn = absurd (omega arith)
