-- How the refusal of a step is one of opening.
use Rattle.std.proofs.Common.{ℕ}
use Rattle.std.specs.Prelude.{Bool, IsTrue}
use Rattle.cfb_format.specs.Refused.{CountsError, IsInvalidOrMemory}
use Rattle.cfb_format.specs.declared.error.Error.{Error}
use Rattle.cfb_format.specs.declared.error.Error.TheVariants.{NotFound, AlreadyExists, InvalidInput, InvalidData, Medium, Memory, Full, Unsound, Failed}
use Rattle.cfb_format.specs.declared.medium.MediumFault.{MediumFault}
use Rattle.cfb_opening.specs.cfb_tables.Refused.{ChangeRefused, TableRefused}
use Rattle.cfb_reading.specs.PartRefused.{PartRefused}

module _ (tells : Bool) (can_give : MediumFault → Bool) (P Q : Type 0) (turn : IsTrue tells → P → Q) where
  -- a step over the medium, whose faults are counted
  pub change-refused : (old new : ℕ) (e : Error) → ChangeRefused P (Unit {0}) ⊥ (Unit {0}) e → (IsTrue tells → CountsError can_give old new e) → PartRefused tells can_give Q e
  change-refused old new (NotFound d) r counts = r
  change-refused old new (AlreadyExists d) r counts = r
  change-refused old new (InvalidInput d) r counts = r
  change-refused old new (InvalidData d) r counts = λ told. turn told r
  change-refused old new (Medium f) r counts = λ told. (counts told).can
  change-refused old new Memory r counts = r
  change-refused old new Full r counts = r
  change-refused old new Unsound r counts = r
  change-refused old new Failed r counts = r

  -- a step in memory
  pub table-refused : (e : Error) → TableRefused P (Unit {0}) ⊥ e → PartRefused tells can_give Q e
  table-refused (NotFound d) r = r
  table-refused (AlreadyExists d) r = r
  table-refused (InvalidInput d) r = r
  table-refused (InvalidData d) r = λ told. turn told r
  table-refused (Medium f) r = absurd r
  table-refused Memory r = r
  table-refused Full r = r
  table-refused Unsound r = r
  table-refused Failed r = r

  pub memory-refused : (e : Error) → IsInvalidOrMemory P e → PartRefused tells can_give Q e
  memory-refused (NotFound d) r = r
  memory-refused (AlreadyExists d) r = r
  memory-refused (InvalidInput d) r = r
  memory-refused (InvalidData d) r = λ told. turn told r
  memory-refused (Medium f) r = absurd r
  memory-refused Memory r = r
  memory-refused Full r = r
  memory-refused Unsound r = r
  memory-refused Failed r = r
