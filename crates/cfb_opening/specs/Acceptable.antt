-- Which bytes opening accepts (MS-CFB 2.2 to 2.6).
use Rattle.std.specs.Prelude.{ℕ, ◌≤◌, List, length}
use Rattle.cfb_format.specs.declared.validate.Validation.{Validation}
use Rattle.cfb_format.specs.Full.{max_mini_sectors}
use Rattle.cfb_format.specs.Header.{IfStrict}
use Rattle.cfb_format.specs.Names.{Cases}
use Rattle.cfb_format.specs.Reading.{IsStrict, Reading, Reads}

-- opening in this mode accepts the bytes, and these are their parts; there is a number for each mini sector of the MiniFAT, as in every file of
-- version 3
pub record IsAcceptable (validation : Validation) (cases : Cases) (bytes : List ℕ) (r : Reading) : Type 0 where
  pub reads : Reads cases bytes r
  pub strict : IfStrict validation (IsStrict bytes r)
  pub numbered : length r.minifat ≤ max_mini_sectors r.header.version

-- opening in this mode refuses the bytes
abbrev pub IsRefused : Validation → Cases → List ℕ → Type 0
IsRefused validation cases bytes = (r : Reading) → IsAcceptable validation cases bytes r → ⊥
