use Rattle.cfb_stream_window.specs.Windows.{Window}
use Rattle.cfb_stream_window.specs.declared.content.Contents as writing
use Rattle.cfb_stream_window.specs.declared.content.ReadContents as reading
use Rattle.cfb_format.specs.declared.error.Error.{Error}
use Rattle.std.specs.Prelude.{ℕ, ◌≡◌, Result}
use Rattle.cfb_stream_window.specs.Touched.{HasSameFlags, IsRead, HasKeptFlags, IsWritten}
use Rattle.cfb_stream_window.specs.Answers.{GoesOn, HeedsFlags, IsOpen, HeedsReading}

-- the contents were read from, and nothing else: what is there stays, and all but the count of failures
pub record ReadsContents {C T : Type 0} (r : reading.Ghosts C) (old new : C) (id : ℕ) (result : Result T Error) : Type 0 where
  pub there : r.has new id
  pub flags : HasSameFlags r old new id
  pub around : r.tells old → IsRead r old new id result

-- the contents were written to under this number, and nothing else: what is there stays, and all but this stream
pub record WritesContents {C T : Type 0} (r : reading.Ghosts C) (g : writing.Ghosts C) (old new : C) (id : ℕ) (result : Result T Error) : Type 0 where
  pub there : r.has new id
  pub flags : HasKeptFlags r old new id result
  pub around : r.tells old → IsWritten r g old new id result

-- after a call the stream is there and open as before; a failed file stays as it is, and the call answers so
pub record StaysOpen {C T : Type 0} (r : reading.Ghosts C) (old : C) (id : ℕ) (w : Window) (result : Result T Error) (new : C) (w' : Window) : Type 0 where
  pub there : r.has new id
  pub flags : HeedsFlags r old id w result new w'
  pub goes_on : IsOpen r old id w → GoesOn r old new id w'
  pub bound : w'.bound ≡ w.bound

-- the same of a stream that is only read: no call fails the file
pub record StaysOpenToRead {C T : Type 0} (r : reading.Ghosts C) (old : C) (id : ℕ) (w : Window) (result : Result T Error) (new : C) (w' : Window) : Type 0 where
  pub there : r.has new id
  pub flags : HeedsReading r old id w result new w'
  pub goes_on : IsOpen r old id w → GoesOn r old new id w'
  pub bound : w'.bound ≡ w.bound
