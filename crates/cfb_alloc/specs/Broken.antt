-- How a change over a medium breaks off.
use Rattle.std.specs.Prelude.{◌≡◌, true}
use Rattle.cfb_format.specs.declared.error.Error.{Error}
use Rattle.cfb_format.specs.Refused.{AfterMedium}
use Rattle.cfb_tables.specs.Tables.{TableState}
use Rattle.cfb_alloc.specs.Alloc.{AllocatorState}

-- a change broke off: after any error but the medium's nothing has changed; after that one the change was begun, and it is made in memory
abbrev pub BreaksOff : (TableState → TableState → Type 0) → AllocatorState → AllocatorState → Error → Type 0
BreaksOff made old new = AfterMedium ((new.file.begun ≡ true) × made old.tables new.tables) (new ≡ old)
