-- Moments: how many 100 nanoseconds have passed since the beginning of 1601 (MS-CFB 2.6.1).
use Rattle.std.specs.Prelude.{◌≡◌, ℕ, suc, ◌+◌, ◌-◌, ◌*◌, ◌/◌, ◌^◌, ◌<◌, min, ℤ, pos, negsuc}

-- the beginning of 1970
abbrev pub unix_epoch : ℕ
unix_epoch = 116_444_736_000_000_000

abbrev pub last_moment : ℕ
last_moment = 0xFFFF_FFFF_FFFF_FFFF

-- the moment this long after that epoch, and at most the last one
abbrev pub moment_after : ℕ → ℕ → ℕ
moment_after seconds nanoseconds = min (unix_epoch + (seconds * 1_000_000_000 + nanoseconds) / 100) last_moment

-- the moment so many seconds before that epoch and then this many nanoseconds later, and at least the first one.
-- It is the distance from the epoch that is rounded down.
abbrev pub moment_before : ℕ → ℕ → ℕ
moment_before seconds nanoseconds = unix_epoch - (seconds * 1_000_000_000 - nanoseconds) / 100

-- the moment of a Unix time
abbrev pub moment_of_unix : ℤ → ℕ → ℕ
moment_of_unix (pos seconds) nanoseconds = moment_after seconds nanoseconds
moment_of_unix (negsuc seconds) nanoseconds = moment_before (suc seconds) nanoseconds

-- the seconds, which may be below 0, and so many hundreds of nanoseconds, less than a second, lead from the epoch to the moment
abbrev pub IsAfterSeconds : ℕ → ℤ → ℕ → Type 0
IsAfterSeconds moment (pos seconds) hundreds = moment ≡ unix_epoch + (seconds * 10_000_000 + hundreds)
IsAfterSeconds moment (negsuc seconds) hundreds = moment + suc seconds * 10_000_000 ≡ unix_epoch + hundreds

-- the Unix time of a moment
abbrev pub IsUnixTimeOf : ℕ → ℤ → ℕ → Type 0
IsUnixTimeOf moment seconds nanoseconds = (hundreds : ℕ) × (nanoseconds ≡ 100 * hundreds) × (hundreds < 10_000_000) × IsAfterSeconds moment seconds hundreds

-- the Unix time of a moment leads back to it
abbrev pub UnixTimeIsReadBack : Type 0
UnixTimeIsReadBack = (moment : ℕ) (seconds : ℤ) (nanoseconds : ℕ) → moment < 2 ^ 64 → IsUnixTimeOf moment seconds nanoseconds → moment_of_unix seconds nanoseconds ≡ moment
