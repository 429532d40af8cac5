-- Why a call on the tables was refused: what holds at each error, and which errors the call can give.
use Rattle.std.specs.Prelude.{ℕ, ◌≢◌, List, []}
use Rattle.cfb_format.specs.declared.error.Error.{Error}
use Rattle.cfb_format.specs.Chain.{IsChain}
use Rattle.cfb_format.specs.Refused.{HasReason, no_error}
use Rattle.cfb_tables.specs.Changes.{NoChain, IsNextOf}
use Rattle.cfb_tables.specs.Tables.{TableState, IsTooFew}

-- the error is one of these three, and so much holds of each
abbrev pub TableRefused : Type 0 → Type 0 → Type 0 → Error → Type 0
TableRefused invalid memory full = HasReason (record no_error { invalid_data = invalid; memory = memory; full = full })

abbrev pub WalkRefused : List ℕ → ℕ → Error → Type 0
WalkRefused table start = TableRefused (NoChain table start) Unit ⊥

-- no list with a member is the chain
abbrev pub NoLast : List ℕ → ℕ → Type 0
NoLast table start = (list : List ℕ) → IsChain table start list → list ≢ [] → ⊥

abbrev pub LastRefused : List ℕ → ℕ → Error → Type 0
LastRefused table start = TableRefused (NoLast table start) ⊥ ⊥

abbrev pub ExtendRefused : TableState → ℕ → ℕ → Error → Type 0
ExtendRefused t start count = TableRefused (NoLast t.fat start) (IsTooFew t count → ⊥) (IsTooFew t count)

abbrev pub NextRefused : List ℕ → ℕ → Error → Type 0
NextRefused table i = TableRefused ((next : ℕ) → IsNextOf table i next → ⊥) ⊥ ⊥

-- a change was refused: so much holds of each error
abbrev pub ChangeRefused : Type 0 → Type 0 → Type 0 → Type 0 → Error → Type 0
ChangeRefused invalid memory full medium = HasReason (record no_error { invalid_data = invalid; memory = memory; full = full; medium = λ f. medium })
