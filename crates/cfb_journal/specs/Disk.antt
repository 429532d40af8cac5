-- A compound file and its journal on one disk: what a read returns, and what a crash may leave of both.
use Rattle.std.specs.Prelude.{◌≡◌, ◌⊎◌, ℕ, ◌+◌, ◌<◌, ◌≤◌, ⊤, max, min, List, length, take, Result, MatchResult}
use Rattle.cfb_format.specs.Medium.{written, ChangesOnlyBytes}
use Rattle.cfb_format.specs.declared.medium.MediumFault.{MediumFault}

-- what the two files hold
pub record Image : Type 0 where
  pub file : List ℕ
  pub journal : List ℕ

-- what a disk shows at a moment
pub record View : Type 1 where
  -- what a read returns
  pub seen : Image
  -- what a crash at this moment may leave
  pub may_leave : Image → Type 0
  -- the moment, as a number that does not fall
  pub moment : ℕ
  -- what a crash at some moment from that one on might have left, during a call or between two
  pub left_since : ℕ → Image → Type 0
  -- how many calls have failed
  pub faults : ℕ

-- ---- what a crash may make of a call

-- a write of n bytes that is cut short: any bytes in the range and past the old end, the others as before
pub record Torn (at n : ℕ) (old new : List ℕ) : Type 0 where
  pub others : ChangesOnlyBytes at n old new
  pub no_longer : length new ≤ max (length old) (at + n)

-- a cut to n bytes: some length between; what is shorter already stays
pub record Cut (n : ℕ) (old new : List ℕ) : Type 0 where
  pub no_shorter : min n (length old) ≤ length new
  pub no_longer : length new ≤ length old
  pub front : new ≡ take (length new) old

-- a step of the file, while the journal stays
pub record InFile (step : List ℕ → List ℕ → Type 0) (old new : Image) : Type 0 where
  pub file : step old.file new.file
  pub journal : new.journal ≡ old.journal

-- a step of the journal, while the file stays
pub record InJournal (step : List ℕ → List ℕ → Type 0) (old new : Image) : Type 0 where
  pub file : new.file ≡ old.file
  pub journal : step old.journal new.journal

-- an outcome after a step
abbrev pub After : (Image → Image → Type 0) → (Image → Type 0) → Image → Type 0
After step old c = (d : Image) × old d × step d c

-- each new outcome of a crash is an old outcome after a step
abbrev pub Follows : (Image → Image → Type 0) → (Image → Type 0) → (Image → Type 0) → Type 0
Follows step old new = (c : Image) → new c → After step old c

-- Time goes on: a crash since t might have left what it might have left before, or what it may leave now.
pub record Elapses (old new : View) : Type 0 where
  pub later : old.moment ≤ new.moment
  pub nothing_else : (t : ℕ) (c : Image) → t ≤ old.moment → new.left_since t c → old.left_since t c ⊎ new.may_leave c
  pub keeps : (t : ℕ) (c : Image) → t ≤ old.moment → old.left_since t c → new.left_since t c

-- the count of failed calls stays at `Ok` and rises at `Err`
abbrev pub CountsFault : {T : Type 0} → Result T MediumFault → ℕ → ℕ → Type 0
CountsFault result old new = MatchResult result (λ _. new ≡ old) (λ _. old < new)

-- ---- the calls

-- a call that changes nothing: no outcome of a crash is added
pub record OnlyLooks {T : Type 0} (result : Result T MediumFault) (old new : View) : Type 0 where
  pub seen : new.seen ≡ old.seen
  pub crash : (c : Image) → new.may_leave c → old.may_leave c
  pub time : Elapses old new
  pub cause : CountsFault result old.faults new.faults

-- a call that changes a file by a step, of which a crash may leave the part `torn`; what it leaves at `Err` is open within that part
pub record Changes {T : Type 0} (torn : Image → Image → Type 0) (done : Image → Image → Type 0) (result : Result T MediumFault) (old new : View) : Type 0 where
  pub seen : MatchResult result (λ _. done old.seen new.seen) (λ _. torn old.seen new.seen)
  pub crash : Follows torn old.may_leave new.may_leave
  pub time : Elapses old new
  pub cause : CountsFault result old.faults new.faults

-- a call that brings a file to the disk
pub record Syncs {T : Type 0} (synced : Image → Image → Type 0) (result : Result T MediumFault) (old new : View) : Type 0 where
  pub looks : OnlyLooks result old new
  pub durable : MatchResult result (λ _. (c : Image) → new.may_leave c → synced old.seen c) (λ _. ⊤)

abbrev pub IsWritten : ℕ → List ℕ → List ℕ → List ℕ → Type 0
IsWritten at from old new = new ≡ written old at from

abbrev pub IsCut : ℕ → List ℕ → List ℕ → Type 0
IsCut n old new = new ≡ take n old

abbrev pub SameFile : Image → Image → Type 0
SameFile old new = new.file ≡ old.file

abbrev pub SameJournal : Image → Image → Type 0
SameJournal old new = new.journal ≡ old.journal

-- the disk is as it was opened
pub record IsOpened (opened now : View) : Type 0 where
  pub seen : now.seen ≡ opened.seen
  pub moment : now.moment ≡ opened.moment
  pub faults : now.faults ≡ opened.faults
  pub crash : (c : Image) → now.may_leave c → opened.may_leave c
