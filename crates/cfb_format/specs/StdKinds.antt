-- What an error is to std.
use Rattle.std.specs.declared.io.ErrorKind.{ErrorKind}
use Rattle.std.specs.declared.io.ErrorKind.TheVariants as std
use Rattle.cfb_format.specs.declared.error.Error.{Error}
use Rattle.cfb_format.specs.declared.error.Error.TheVariants.{NotFound, AlreadyExists, InvalidInput, InvalidData, Medium, Memory, Full, Unsound, Failed}

-- the kind that an error has in std
abbrev pub std_kind : Error → ErrorKind
std_kind (NotFound d) = std.NotFound
std_kind (AlreadyExists d) = std.AlreadyExists
std_kind (InvalidInput d) = std.InvalidInput
std_kind (InvalidData d) = std.InvalidData
std_kind (Medium f) = std.Other
std_kind Memory = std.OutOfMemory
std_kind Full = std.StorageFull
std_kind Unsound = std.InvalidData
std_kind Failed = std.Other
