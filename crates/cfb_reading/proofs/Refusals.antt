-- How the refusal of a step is one of the whole.
use Rattle.cfb_format.specs.declared.error.Error.{Error}
use Rattle.cfb_format.specs.declared.error.Error.TheVariants.{AlreadyExists, Failed, Full, InvalidData, InvalidInput, Medium, Memory, NotFound, Unsound}
use Rattle.cfb_format.specs.Refused.{IsInvalidOrMemory}
use Rattle.cfb_reading.specs.cfb_tables.Refused.{ChangeRefused}

-- a step that reads no medium
pub memory-refused : (P invalid full medium : Type 0) → (P → invalid) → (e : Error) → IsInvalidOrMemory P e → ChangeRefused invalid (Unit {0}) full medium e
memory-refused P invalid full medium a (NotFound x) h = h
memory-refused P invalid full medium a (AlreadyExists x) h = h
memory-refused P invalid full medium a (InvalidInput x) h = h
memory-refused P invalid full medium a (InvalidData x) h = a h
memory-refused P invalid full medium a (Medium x) h = absurd h
memory-refused P invalid full medium a Memory h = h
memory-refused P invalid full medium a Full h = absurd h
memory-refused P invalid full medium a Unsound h = h
memory-refused P invalid full medium a Failed h = h
