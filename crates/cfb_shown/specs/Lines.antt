-- Lines for the objects of a walk.
use Rattle.std.specs.Prelude.{ℕ, ◌≡◌, List, [], ◌∷◌, ◌++◌, Option, codes, flat_map, ⊤}
use Rattle.std.specs.Fmt.{decimal}
use Rattle.std.specs.Io.KnownBytes.{Appends}
use Rattle.std.specs.Str.{encode_utf8_all}
use Rattle.cfb_format.specs.DirectoryEntry.{Entry}
use Rattle.cfb_format.specs.Refused.{IsMemory}
use Rattle.cfb_text.specs.Shown.{shown}
use Rattle.cfb_listing.specs.Listings.{Walks}
use Rattle.cfb_rules.specs.Calls.{EntryInfo}
use Rattle.cfb_shown.specs.declared.lines.Form.{Form}
use Rattle.cfb_shown.specs.declared.lines.Form.TheVariants.{Plain, Shown, Row}
use Rattle.cfb_shown.specs.declared.write_error.WriteError.{WriteError}
use Rattle.cfb_shown.specs.declared.write_error.WriteError.TheVariants.{File, Output}
use Rattle.cfb_shown.specs.Rows.{kind_text, row_text}

-- `d` or `f`, the length, and this text, with blanks between
abbrev pub line_with : EntryInfo → List ℕ → List ℕ
line_with info path = kind_text info ++ (codes " " ++ (decimal info.len ++ (codes " " ++ (encode_utf8_all path ++ (10 ∷ [])))))

-- with the path
abbrev pub entry_line : EntryInfo → List ℕ
entry_line info = line_with info info.path

-- with the path as it is shown
abbrev pub shown_line : EntryInfo → List ℕ
shown_line info = line_with info (shown info.path)

-- the line of an object in this form
abbrev pub line_in : Form → EntryInfo → List ℕ
line_in Plain info = entry_line info
line_in Shown info = shown_line info
line_in Row info = row_text info

-- the text has a line for the object k with this path, and then one for each that is in it, in the order of a walk
pub record HasLinesOf (form : Form) (entries : List Entry) (path : List ℕ) (k : ℕ) (text : List ℕ) : Type 0 where
  pub told : List EntryInfo
  pub walks : Walks entries path k told
  pub lines : text ≡ flat_map (line_in form) told

-- ---- what a writer got

-- such a text, where the writer tells its bytes
pub record Writes (Is : List ℕ → Type 0) (start now : Option (List ℕ)) : Type 0 where
  pub text : List ℕ
  pub is : Is text
  pub written : Appends start now text

-- the writer refused
abbrev pub IsOfOutput : WriteError → Type 0
IsOfOutput (File e) = ⊥
IsOfOutput (Output e) = ⊤

-- memory was refused, and then nothing was written; or the writer refused
abbrev pub IsNotWritten : (start now : Option (List ℕ)) → WriteError → Type 0
IsNotWritten start now (File e) = IsMemory e × (now ≡ start)
IsNotWritten start now (Output e) = ⊤
