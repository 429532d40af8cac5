-- What calls through a handle come to.
use Rattle.std.specs.Prelude.{ℕ, ◌≡◌, List, Option, None, Some, Result, Ok, Err, IsErrAnd, MatchResult, chars}
use Rattle.cfb_format.specs.declared.error.Error.{Error}
use Rattle.cfb_format.specs.Refused.{IsInvalidInput}
use Rattle.cfb_commands.specs.cfb_agreement.Files.{FileState}
use Rattle.cfb_commands.specs.cfb_rules.Calls.{EntryInfo}
use Rattle.cfb_c.specs.declared.held.Held.{Held}
use Rattle.cfb_c.specs.declared.held.Kept.{Kept}
use Rattle.cfb_c.specs.declared.held.Kept.TheVariants.{File, Bytes, Entries, Nothing}
use Rattle.cfb_c.specs.declared.refusal.Refusal.{Refusal}
use Rattle.cfb_c.specs.declared.refusal.Refusal.TheVariants.{Library, TooSmall, NotOpen}
use Rattle.cfb_c.specs.Numbers.{IsPath, IsWrong, number_of_refusal, number_told, reason_after, reason_in}

-- ---- what is held

-- a file is held, of which P holds
abbrev pub IsFileAnd : (FileState → Type 0) → Kept → Type 0
IsFileAnd P (File file) = P file
IsFileAnd P (Bytes bytes) = ⊥
IsFileAnd P (Entries list) = ⊥
IsFileAnd P Nothing = ⊥

-- bytes are held, of which P holds
abbrev pub IsBytesAnd : (List ℕ → Type 0) → Kept → Type 0
IsBytesAnd P (File file) = ⊥
IsBytesAnd P (Bytes bytes) = P bytes.bytes
IsBytesAnd P (Entries list) = ⊥
IsBytesAnd P Nothing = ⊥

-- a list is held, of which P holds
abbrev pub IsListAnd : (List EntryInfo → Type 0) → Kept → Type 0
IsListAnd P (File file) = ⊥
IsListAnd P (Bytes bytes) = ⊥
IsListAnd P (Entries list) = P list.items
IsListAnd P Nothing = ⊥

-- ---- what was held before, and is held now

-- what is held is not what the call needs, and nothing has changed
pub record IsNotOpen {T K : Type 0} (old : K) (outcome : Result T Refusal) (new : K) : Type 0 where
  pub refused : outcome ≡ Err NotOpen
  pub same : new ≡ old

module _ {T : Type 0} (does : FileState → Result T Error → FileState → Type 0) where
  -- the library's call was made on this file, and answered so
  abbrev pub MadeOn : FileState → Result T Refusal → Kept → Type 0
  MadeOn file (Ok x) new = IsFileAnd (does file (Ok x)) new
  MadeOn file (Err (Library e)) new = IsFileAnd (does file (Err e)) new
  MadeOn file (Err TooSmall) new = ⊥
  MadeOn file (Err NotOpen) new = ⊥

  -- on the file that is held, if one is
  abbrev pub OnFile : Kept → Result T Refusal → Kept → Type 0
  OnFile (File file) outcome new = MadeOn file outcome new
  OnFile (Bytes bytes) outcome new = IsNotOpen (Bytes bytes) outcome new
  OnFile (Entries list) outcome new = IsNotOpen (Entries list) outcome new
  OnFile Nothing outcome new = IsNotOpen Nothing outcome new

-- on the list that is held, if one is, which stays
module _ {T : Type 0} (does : List EntryInfo → Result T Refusal → Type 0) where
  pub record OnThisList (list : List EntryInfo) (old : Kept) (outcome : Result T Refusal) (new : Kept) : Type 0 where
    pub answer : does list outcome
    pub same : new ≡ old

  abbrev pub OnList : Kept → Result T Refusal → Kept → Type 0
  OnList (Entries list) outcome new = OnThisList list.items (Entries list) outcome new
  OnList (File file) outcome new = IsNotOpen (File file) outcome new
  OnList (Bytes bytes) outcome new = IsNotOpen (Bytes bytes) outcome new
  OnList Nothing outcome new = IsNotOpen Nothing outcome new

-- on the bytes that are held, if any are
module _ {T : Type 0} (does : List ℕ → Result T Refusal → List ℕ → Type 0) where
  abbrev pub OnBytes : Kept → Result T Refusal → Kept → Type 0
  OnBytes (Bytes bytes) outcome new = IsBytesAnd (does bytes.bytes outcome) new
  OnBytes (File file) outcome new = IsNotOpen (File file) outcome new
  OnBytes (Entries list) outcome new = IsNotOpen (Entries list) outcome new
  OnBytes Nothing outcome new = IsNotOpen Nothing outcome new

-- on the file that is held, if one is, where the room of the caller can be too small
module _ {T : Type 0} (does : FileState → Result T Refusal → FileState → Type 0) where
  abbrev pub FromFile : Kept → Result T Refusal → Kept → Type 0
  FromFile (File file) outcome new = IsFileAnd (does file outcome) new
  FromFile (Bytes bytes) outcome new = IsNotOpen (Bytes bytes) outcome new
  FromFile (Entries list) outcome new = IsNotOpen (Entries list) outcome new
  FromFile Nothing outcome new = IsNotOpen Nothing outcome new

-- The call by the library's path. Bytes that are none are refused as wrong, and nothing has changed.
pub record AtPath {T : Type 0} (bytes : List ℕ) (does : List ℕ → FileState → Result T Error → FileState → Type 0) (old : FileState) (outcome : Result T Error) (new : FileState) : Type 0 where
  pub made : IsPath bytes → does (chars bytes) old outcome new
  pub wrong : (IsPath bytes → ⊥) → IsErrAnd outcome IsInvalidInput × (new ≡ old)

-- the same where the room of the caller can be too small
pub record FromPath {T : Type 0} (bytes : List ℕ) (does : List ℕ → FileState → Result T Refusal → FileState → Type 0) (old : FileState) (outcome : Result T Refusal) (new : FileState) : Type 0 where
  pub made : IsPath bytes → does (chars bytes) old outcome new
  pub wrong : (IsPath bytes → ⊥) → IsErrAnd outcome IsWrong × (new ≡ old)

-- a question that nothing refuses: so much is told of the file, and nothing has changed
pub record Tells {T : Type 0} (told : FileState → Type 0) (old : FileState) (outcome : Result T Error) (new : FileState) : Type 0 where
  pub answer : MatchResult outcome (λ _. told old) (λ _. ⊥)
  pub same : new ≡ old

-- a question that was answered so, or refused for this reason, and nothing has changed
pub record Asks {T : Type 0} (told : FileState → Type 0) (not : FileState → Error → Type 0) (old : FileState) (outcome : Result T Error) (new : FileState) : Type 0 where
  pub answer : MatchResult outcome (λ _. told old) (not old)
  pub same : new ≡ old

-- ---- through a handle

module _ (on : Kept → Result (Unit {0}) Refusal → Kept → Type 0) where
  -- the call was made on what the handle holds, which then holds what is left, and tells why it was refused
  abbrev pub Through : Option Held → Result (Unit {0}) Refusal → Option Held → Type 0
  Through None outcome new = IsNotOpen None outcome new
  Through (Some old) outcome None = ⊥
  Through (Some old) outcome (Some new) = on old.kept outcome new.kept × (new.refusal ≡ reason_after outcome old.refusal)

  -- and the number was answered that stands for what came of it
  pub record Calls (old : Option Held) (number : ℕ) (new : Option Held) : Type 0 where
    pub outcome : Result (Unit {0}) Refusal
    pub told : number ≡ number_told outcome
    pub through : Through old outcome new

-- The handle holds what was made, and tells no reason; or it holds nothing, and tells why. Where memory lacks for what it would hold, it is closed.
abbrev pub IsHeld : Result Kept Refusal → ℕ → Option Held → Type 0
IsHeld made number None = number ≡ 6
IsHeld (Ok kept) number (Some held) = (number ≡ 0) × (held ≡ record { kept = kept; refusal = None })
IsHeld (Err refusal) number (Some held) = (number ≡ number_of_refusal refusal) × (held ≡ record { kept = Nothing; refusal = reason_in refusal })

-- of what was made `good` holds, and of why it was not `bad`
pub record Makes (good : Kept → Type 0) (bad : Refusal → Type 0) (number : ℕ) (new : Option Held) : Type 0 where
  pub made : Result Kept Refusal
  pub answer : MatchResult made good bad
  pub held : IsHeld made number new
