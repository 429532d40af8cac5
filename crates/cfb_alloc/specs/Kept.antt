-- The chain that is kept from the call that ended it to the one that opens it again (MS-CFB 2.3).
use Rattle.std.specs.Prelude.{ℕ, List, Option, Vec, IfSome}
use Rattle.cfb_format.specs.Chain.{IsChain}
use Rattle.cfb_tables.specs.Tables.{first_or_end}

-- what is kept, if anything, is a chain of this table
abbrev pub IsKeptChain : {A : Type 0} → List ℕ → Option (Vec ℕ A) → Type 0
IsKeptChain fat kept = IfSome kept (λ list. IsChain fat (first_or_end list.items) list.items)
