-- What a call on a buffered stream answers, and what it leaves.
use Rattle.std.specs.Prelude.{ℕ, ◌+◌, ◌≡◌, ◌<◌, ◌≤◌, ◌⊎◌, false, true, IsErrAnd, Option, Some, Result, OnErr, OnOk}
use Rattle.cfb_format.specs.Medium.{Rises}
use Rattle.cfb_format.specs.Refused.{CountsFailure, HasReason, at_every_error}
use Rattle.cfb_format.specs.declared.error.Error.{Error}
use Rattle.cfb_format.specs.declared.error.Error.TheVariants.{Failed}
use Rattle.cfb_stream_window.specs.cfb_rules.Refusal.{Refusal, IsRefusal}
use Rattle.cfb_stream_window.specs.cfb_rules.StreamCalls.{StreamCall, StreamReply, set_len, ready}
use Rattle.cfb_stream_window.specs.cfb_rules.Runs.{Causes, Closes}
use Rattle.cfb_stream_window.specs.declared.content.ReadContents as reading
use Rattle.cfb_stream_window.specs.declared.content.Contents as writing
use Rattle.cfb_stream_window.specs.Contents.{CanHave, KeptOrFailed}
use Rattle.cfb_stream_window.specs.Touched.{faults_of}
use Rattle.cfb_stream_window.specs.Windows.{Window, LiesOver, Suits, Runs, IsCallRefused, IsLengthened, IsSettled, run_of, settled}

-- at a refusal of the input, of a file that is not sound or of one that failed earlier so much holds, and so much where bytes can't
-- be read
abbrev pub AtRefusal : Type 0 → Type 0 → Error → Type 0
AtRefusal untouched only_read = HasReason (record (at_every_error (Unit {0})) { invalid_input = untouched; unsound = untouched; failed = untouched; invalid_data = only_read })

module _ {C : Type 0} (r : reading.Ghosts C) where
  -- it is known what is stored, and the window fits it, unless the file has failed
  pub record IsOpen (content : C) (id : ℕ) (w : Window) : Type 0 where
    pub told : r.tells content
    pub suits : Suits (r.stored content id) w

  -- and it has not failed
  pub record IsReady (content : C) (id : ℕ) (w : Window) : Type 0 where
    pub told : r.tells content
    pub agrees : LiesOver (r.stored content id) w

  -- after any call the stream is open as before, with the same limits
  pub record GoesOn (old new : C) (id : ℕ) (w' : Window) : Type 0 where
    pub is_open : IsOpen new id w'
    pub limit : (r.stored new id).limit ≡ (r.stored old id).limit
    pub sound : (r.stored new id).sound ≡ (r.stored old id).sound

  -- Whatever is known of what is stored: what no call changes stays. A file that has failed stays as it is, and so does the window, and the
  -- call answers so; a file in which it was done has not failed; and where it was refused what is remembered is as it was, or the file has failed.
  pub record HeedsFlags {T : Type 0} (old : C) (id : ℕ) (w : Window) (result : Result T Error) (new : C) (w' : Window) : Type 0 where
    pub setting : r.setting new ≡ r.setting old
    pub failed : (r.stored old id).failed ≡ true → IsErrAnd result (λ e. e ≡ Failed) × (new ≡ old) × (w' ≡ w)
    pub unfailed : OnOk result ((r.stored new id).failed ≡ false)
    pub kept_or_failed : OnErr result ((r.remembered new ≡ r.remembered old) ⊎ ((r.stored new id).failed ≡ true))

  -- of a flush and of closing: where it is refused the file has failed
  pub record HeedsWritingOut {T : Type 0} (old : C) (id : ℕ) (w : Window) (result : Result T Error) (new : C) (w' : Window) : Type 0 where
    pub heeds : HeedsFlags old id w result new w'
    pub lost : OnErr result ((r.stored new id).failed ≡ true)

  -- of a stream that is only read, no call fails the file, and what is remembered is as it was
  pub record HeedsReading {T : Type 0} (old : C) (id : ℕ) (w : Window) (result : Result T Error) (new : C) (w' : Window) : Type 0 where
    pub heeds : HeedsFlags old id w result new w'
    pub same : (r.stored new id).failed ≡ (r.stored old id).failed
    pub remembered : r.remembered new ≡ r.remembered old

  -- it was refused as the rules say, and what is stored is as it was or the file has failed; what the rules themselves refuse
  -- changes nothing
  pub record IsRefusedFor (causes : Causes) (old : C) (id : ℕ) (w : Window) (call : StreamCall) (new : C) (w' : Window) (e : Error) : Type 0 where
    pub rules : IsCallRefused causes (r.stored old id) w call (r.stored new id) w' e
    pub stops : KeptOrFailed (r.stored old id) (r.stored new id)
    pub untouched : AtRefusal ((new ≡ old) × (w' ≡ w)) (r.kept new ≡ r.kept old) e

  -- where nothing is pending the medium is blamed only if its count of failures rose, and the numbers never
  abbrev pub causes_of_read : C → C → Causes
  causes_of_read old new = record { medium = Rises (r.failures old) (r.failures new); full = ⊥ }

  -- by the rules of calls on streams
  abbrev pub RunsReading : C → ℕ → Window → StreamCall → StreamReply → C → Window → Type 0
  RunsReading old id w call reply new w' = Runs (causes_of_read old new) (r.stored old id) w call reply (r.stored new id) w'

  abbrev pub IsRefusedReading : C → ℕ → Window → StreamCall → C → Window → Error → Type 0
  IsRefusedReading old id w call new w' e = IsRefusedFor (causes_of_read old new) old id w call new w' e

module _ {C : Type 0} (r : reading.Ghosts C) (g : writing.Ghosts C) where
  -- What was pending was written out, as a flush does, and then there was one change more. With nothing pending there is that change alone.
  pub record IsBetween (old : C) (id : ℕ) (w : Window) (mid new : C) : Type 0 where
    pub told : r.tells mid
    pub calm : w.pending ≡ false → mid ≡ old
    pub settles : LiesOver (r.stored old id) w → IsSettled (r.stored old id) w (r.stored mid id)
    pub before : (first : C) → g.keeps id first old → g.keeps id first mid
    pub after : (first : C) → g.keeps id first mid → g.keeps id first new
    pub first : g.tight old mid
    pub second : g.tight mid new

  abbrev pub InTurn : C → ℕ → Window → C → Type 0
  InTurn old id w new = (mid : C) × IsBetween old id w mid new

  -- and in between all of it stands in the list
  pub record WritesOutFirst (old : C) (id : ℕ) (w : Window) (new : C) : Type 0 where
    pub mid : C
    pub between : IsBetween old id w mid new
    pub settles : r.stored mid id ≡ settled (r.stored old id) w

  -- what is pending can't be written out: it goes past the end of the list, which is too long with it
  pub record LacksRoomToWriteOut (content : C) (id : ℕ) (w : Window) : Type 0 where
    pub pending : w.pending ≡ true
    pub past : (r.stored content id).size < w.size
    pub too_long : g.is_too_long content id w.size

  -- it was, and then not one byte more could be had behind the end
  pub record LacksRoomBehind (old : C) (id : ℕ) (w : Window) (new : C) : Type 0 where
    pub first : WritesOutFirst old id w new
    pub at_end : w.base + w.cursor ≡ w.size
    pub too_long : g.is_too_long first.mid id (w.size + 1)

  -- so many bytes can't be written: what is pending can't be written out, or, where they go past the window, not one of them could be had
  abbrev pub LacksRoomToWrite : C → ℕ → Window → (count : ℕ) → C → Type 0
  LacksRoomToWrite old id w count new = LacksRoomToWriteOut old id w ⊎ ((65536 ≤ count) × LacksRoomBehind old id w new)

  -- there is room to write out what is pending, and for a longer length after that: the list can have the length that it has then, and the
  -- longer one
  pub record HasRoomForBoth (content : C) (id : ℕ) (w : Window) (len : ℕ) : Type 0 where
    pub before : CanHave (r.stored content id) (g.is_too_long content id) w.size
    pub longer : CanHave (r.stored content id) (g.is_too_long content id) len

  -- it was read from and written to, under this number alone; and where this was refused all but the count of failures is as it was, or the
  -- file has failed
  pub record IsTouched {T : Type 0} (old new : C) (id : ℕ) (result : Result T Error) : Type 0 where
    pub told : r.tells new
    pub others : (first : C) → g.keeps id first old → g.keeps id first new
    pub counts : CountsFailure (faults_of r g) result (r.failures old) (r.failures new)
    pub stays : (r.stored new id).failed ≡ false → OnErr result (r.kept new ≡ r.kept old)

  -- the medium is blamed only where its count of failures rose, and the numbers only where the file is full then
  abbrev pub causes_of : C → C → Causes
  causes_of old new = record { medium = Rises (r.failures old) (r.failures new); full = g.is_full new }

  -- or, of a length, where it is too long for them
  abbrev pub causes_of_len : ℕ → ℕ → C → C → Causes
  causes_of_len id len old new = record { medium = Rises (r.failures old) (r.failures new); full = g.is_too_long new id len }

  -- by the rules of calls on streams
  abbrev pub RunsOn : C → ℕ → Window → StreamCall → StreamReply → C → Window → Type 0
  RunsOn old id w call reply new w' = Runs (causes_of old new) (r.stored old id) w call reply (r.stored new id) w'

  abbrev pub IsRefusedOn : C → ℕ → Window → StreamCall → C → Window → Error → Type 0
  IsRefusedOn old id w call new w' e = IsRefusedFor r (causes_of old new) old id w call new w' e

  -- setting a length was done, or refused
  abbrev pub RunsSettingLen : C → ℕ → Window → (len : ℕ) → C → Window → Type 0
  RunsSettingLen old id w len new w' = Runs (causes_of_len id len old new) (r.stored old id) w (set_len len) ready (r.stored new id) w'

  abbrev pub IsLengthRefusedOn : C → ℕ → Window → (len : ℕ) → C → Window → Error → Type 0
  IsLengthRefusedOn old id w len new w' e = IsRefusedFor r (causes_of_len id len old new) old id w (set_len len) new w' e

  -- closing answered this
  abbrev pub ClosesOn : C → ℕ → Window → Option Refusal → C → Type 0
  ClosesOn old id w closing new = Closes (causes_of old new) (run_of (r.stored old id) w) closing (r.stored new id).failed

  -- it was refused, since bytes could not be written out, or since the file failed earlier, which touches nothing
  pub record IsClosingRefused (old : C) (id : ℕ) (w : Window) (new : C) (e : Error) : Type 0 where
    pub refusal : Refusal
    pub is : IsRefusal refusal e
    pub closes : ClosesOn old id w (Some refusal) new
    pub untouched : AtRefusal (new ≡ old) (Unit {0}) e
