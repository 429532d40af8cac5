-- What is told of objects and of lists of them.
use Rattle.std.specs.Prelude.{ℕ, ◌≡◌, ◌⊎◌, ◌-◌, List, Option, None, Some, IsErrAnd, IsOk, MatchOption, Result, chars, drop, length, min, replicate, slice_get, take}
use Rattle.cfb_format.specs.declared.error.Error.{Error}
use Rattle.cfb_format.specs.declared.objtype.ObjType.{ObjType}
use Rattle.cfb_format.specs.declared.objtype.ObjType.TheVariants.{Unallocated, Storage, Stream, Root}
use Rattle.cfb_format.specs.Refused.{IsMemory}
use Rattle.cfb_commands.specs.cfb_agreement.Files.{FileState}
use Rattle.cfb_commands.specs.cfb_path_changes.Answers.{Answers, AnswersNot}
use Rattle.cfb_commands.specs.cfb_rules.Calls.{Call, EntryInfo, entries, one_entry}
use Rattle.cfb_c.specs.declared.held.Held.{Held}
use Rattle.cfb_c.specs.declared.listing.ObjectInfo.{ObjectInfo}
use Rattle.cfb_c.specs.declared.refusal.Refusal.{Refusal}
use Rattle.cfb_c.specs.Calls.{IsListAnd}
use Rattle.cfb_c.specs.Given.{IsGiven}
use Rattle.cfb_c.specs.Numbers.{IsWrong}

-- the kind of an object as a byte; no list has what is not in use
abbrev pub kind_byte : ObjType → ℕ
kind_byte Unallocated = 1
kind_byte Storage = 1
kind_byte Stream = 2
kind_byte Root = 5

-- The first bytes of this name, as many as there is room for before a 0, and zeros behind them. A stored name has at most 93 bytes.
pub record IsNamed (stored : List ℕ) (name : List ℕ) (len : ℕ) : Type 0 where
  pub count : len ≡ min (length stored) 95
  pub bytes : take len name ≡ take len stored
  pub rest : drop len name ≡ replicate (96 - len) 0

-- in UTF-8
pub record IsNameOf (letters : List ℕ) (name : List ℕ) (len : ℕ) : Type 0 where
  pub stored : List ℕ
  pub is : chars stored ≡ letters
  pub named : IsNamed stored name len

-- This is told of the object.
pub record IsInfoOf (entry : EntryInfo) (info : ObjectInfo) : Type 0 where
  pub name : IsNameOf entry.name info.name info.name_len
  pub len : info.len ≡ entry.len
  pub created : info.created ≡ entry.created
  pub modified : info.modified ≡ entry.modified
  pub state_bits : info.state_bits ≡ entry.state_bits
  pub kind : info.kind ≡ kind_byte entry.obj_type
  pub clsid : info.clsid ≡ entry.clsid

-- of the object that the library answers to this call
pub record TellsOne (call : Call) (info : ObjectInfo) (file : FileState) : Type 0 where
  pub entry : EntryInfo
  pub answers : Answers file call (one_entry entry)
  pub told : IsInfoOf entry info

-- the handle holds this list
abbrev pub KeepsList : List EntryInfo → Option Held → Type 0
KeepsList list None = ⊥
KeepsList list (Some held) = IsListAnd (λ kept. kept ≡ list) held.kept

-- the handle holds the list that the library answers to this call
abbrev pub HoldsList : Call → Option Held → FileState → Type 0
HoldsList call None file = ⊥
HoldsList call (Some held) file = IsListAnd (λ list. Answers file call (entries list)) held.kept

-- why there is none: the library refuses the call, and the handle for the list holds what it held; or memory was refused for the list
abbrev pub IsNotListed : (old new : Option Held) → Call → FileState → Error → Type 0
IsNotListed old new call file e = (AnswersNot file call e × (new ≡ old)) ⊎ IsMemory e

-- of the object of this number, if the list has so many, this is told; else an argument is wrong
abbrev pub TellsAt : {T : Type 0} → (EntryInfo → Result T Refusal → Type 0) → List EntryInfo → (number : ℕ) → Result T Refusal → Type 0
TellsAt told list number outcome = MatchOption (slice_get list number) (IsErrAnd outcome IsWrong) (λ entry. told entry outcome)

-- its path, in UTF-8
pub record GivesPath {T : Type 0} (room filled : List ℕ) (len : ℕ) (entry : EntryInfo) (outcome : Result T Refusal) : Type 0 where
  pub path : List ℕ
  pub is : chars path ≡ entry.path
  pub given : IsGiven path room outcome filled len

-- what a list tells of it
abbrev pub GivesInfo : {T : Type 0} → ObjectInfo → EntryInfo → Result T Refusal → Type 0
GivesInfo info entry outcome = IsOk outcome × IsInfoOf entry info
