-- An honest medium: a list of bytes that is read and written in beginnings, and a count of failures.
use Rattle.std.specs.Prelude.{◌≡◌, ℕ, ◌+◌, ◌-◌, ◌^◌, ◌<◌, ◌≤◌, min, Bool, IsTrue, List, ◌++◌, length, take, drop, replicate, slice_index}
use Rattle.cfb_format.specs.declared.medium.MediumFault.{MediumFault}
use Rattle.cfb_format.specs.declared.medium.MediumFault.TheVariants.{Stuck}

-- ---- lists of bytes

-- n bytes from a place on, as far as the list goes
abbrev pub part : List ℕ → ℕ → ℕ → List ℕ
part bytes at n = take n (drop at bytes)

-- the bytes after a write at a place: a gap before it is filled with zeros
unfoldable pub written : List ℕ → ℕ → List ℕ → List ℕ
written bytes at from = take at (bytes ++ replicate (at - length bytes) 0) ++ from ++ drop (at + length from) bytes

-- all bytes but n from a place on are as before, and none is lost; what lies past the old end is open
pub record ChangesOnlyBytes (at n : ℕ) (old new : List ℕ) : Type 0 where
  pub no_shorter : length old ≤ length new
  pub below : (i : ℕ) → i < length old → i < at → slice_index new i ≡ slice_index old i
  pub above : (i : ℕ) → i < length old → at + n ≤ i → slice_index new i ≡ slice_index old i

-- ---- failures

-- the count of failures rose; it stops at the top of a `u64`
pub record Rises (old new : ℕ) : Type 0 where
  pub no_less : old ≤ new
  pub more : min (old + 1) (2 ^ 64 - 1) ≤ new

-- a call failed by this fault, which is one of those that the medium can give there
pub record FailsBy (can_give : MediumFault → Bool) (old new : ℕ) (fault : MediumFault) : Type 0 where
  pub can : IsTrue (can_give fault)
  pub rises : Rises old new

-- ---- reading and writing

-- A read answered n, and `into` holds what it gave: a beginning of what lies there.
-- It is a failure only if it gave nothing though it was asked for a byte and one lies there.
pub record ReadsAt (can_give : MediumFault → Bool) (bytes : List ℕ) (old new at : ℕ) (into : List ℕ) (n : ℕ) : Type 0 where
  pub gives : take n into ≡ part bytes at n
  pub within : 0 < n → at + n ≤ length bytes
  pub calm : 0 < n → new ≡ old
  pub unasked : length into ≡ 0 → new ≡ old
  pub past_end : n ≡ 0 → length bytes ≤ at → new ≡ old
  pub stuck : n ≡ 0 → 0 < length into → at < length bytes → FailsBy can_give old new Stuck

-- a write failed, and may have left any bytes in the range asked for and past the old end
pub record FailsToWriteAt (can_give : MediumFault → Bool) (bytes bytes' : List ℕ) (old new at : ℕ) (from : List ℕ) (fault : MediumFault) : Type 0 where
  pub fails : FailsBy can_give old new fault
  pub others : ChangesOnlyBytes at (length from) bytes bytes'

-- a write answered n: it put a beginning of what was given, and failed only if it took nothing of something
pub record WritesAt (can_give : MediumFault → Bool) (bytes bytes' : List ℕ) (old new at : ℕ) (from : List ℕ) (n : ℕ) : Type 0 where
  pub writes : 0 < n → bytes' ≡ written bytes at (take n from)
  pub calm : 0 < n → new ≡ old
  pub unasked : length from ≡ 0 → bytes' ≡ bytes
  pub unasked_calm : length from ≡ 0 → new ≡ old
  pub stuck : n ≡ 0 → 0 < length from → FailsToWriteAt can_give bytes bytes' old new at from Stuck
