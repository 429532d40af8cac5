-- Chains whose members the caller has listed.
use Rattle.std.specs.Prelude.{ℕ, ◌≡◌, ◌-◌, ◌<◌, List, [], ◌∷◌, ◌++◌, length, drop, slice_index_or}
use Rattle.cfb_format.specs.Bytes.{end_of_chain}
use Rattle.cfb_format.specs.Chain.{value, IsChain}
use Rattle.cfb_tables.specs.Changes.{GivesBack}
use Rattle.cfb_tables.specs.Tables.{ending, first_or_end}

-- the last one of a list, or END where it is empty
abbrev pub last_or_end : List ℕ → ℕ
last_or_end list = slice_index_or list (length list - 1) end_of_chain

-- where a chain ends of which these are left
abbrev pub ends_of : List ℕ → List ℕ
ends_of left = ending (last_or_end left)

-- the list is empty, or a chain ends at its last one
abbrev pub EndsChain : List ℕ → List ℕ → Type 0
EndsChain table list = 0 < length list → value table (last_or_end list) ≡ end_of_chain

-- what the new list has behind the old one
abbrev pub gained : List ℕ → List ℕ → List ℕ
gained old new = drop (length old) new

-- ---- laws

-- what is left of a chain whose last members are given back is a chain
abbrev pub WhatIsLeftIsChain : Type 0
WhatIsLeftIsChain = (old new left gone : List ℕ) → IsChain old (first_or_end (left ++ gone)) (left ++ gone) → GivesBack (ends_of left) gone old new
    → IsChain new (first_or_end left) left

-- where some are left, it ends at the last of them, and those given back were the chain behind it
abbrev pub WhatIsLeftEnds : Type 0
WhatIsLeftEnds = (old left gone : List ℕ) → 0 < length left → IsChain old (first_or_end (left ++ gone)) (left ++ gone)
    → (ends_of left ≡ last_or_end left ∷ []) × IsChain old (value old (last_or_end left)) gone
