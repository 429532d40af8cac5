-- From the number of an error to what holds of it.
use Rattle.std.proofs.Common.{arith}
use Rattle.cfb_format.specs.declared.error.Error.{Error}
use Rattle.cfb_format.specs.declared.error.Error.TheVariants.{NotFound, AlreadyExists, InvalidInput, InvalidData, Medium, Memory, Full, Unsound, Failed}
use Rattle.cfb_format.specs.Refused.{IsInvalidData}
use Rattle.cfb_tables.specs.Refused.{TableRefused}

pub refused-invalid : (invalid memory full : Type 0) (e : Error) → IsInvalidData e → invalid → TableRefused invalid memory full e
refused-invalid invalid memory full (InvalidData d) is h = h
refused-invalid invalid memory full (NotFound d) is h = absurd (omega arith)
refused-invalid invalid memory full (AlreadyExists d) is h = absurd (omega arith)
refused-invalid invalid memory full (InvalidInput d) is h = absurd (omega arith)
refused-invalid invalid memory full (Medium f) is h = absurd (omega arith)
refused-invalid invalid memory full Memory is h = absurd (omega arith)
refused-invalid invalid memory full Full is h = absurd (omega arith)
refused-invalid invalid memory full Unsound is h = absurd (omega arith)
refused-invalid invalid memory full Failed is h = absurd (omega arith)
