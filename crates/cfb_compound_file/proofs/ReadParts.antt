-- A read of a stream that gives what can be read of it.
use Rattle.std.proofs.Common.{◌≡◌, ◌<◌, ◌≤◌, ◌+◌, ◌-◌, ℕ, List, arith, length, take}
use Rattle.std.specs.Prelude.{IfOk, Result, Ok, Err, min}
use Rattle.cfb_format.specs.declared.error.Error.{Error}
use Rattle.cfb_format.specs.Medium.{part}
use Rattle.cfb_stream_window.specs.Contents.{ReadsPart}

-- before the end of what can be read, and where there is room, some of it
pub part-read : (content into : List ℕ) (at room size : ℕ) (r : Result ℕ Error) → length content ≤ size → at < length content → 0 < room
    → IfOk r (λ n. 0 < min room (size - at) → 0 < n) → IfOk r (λ n. take n into ≡ part content at n) → IfOk r (λ n. 0 < n → at + n ≤ length content)
    → IfOk r (ReadsPart content at into)
part-read content into at room size (Ok n) most inside some positive same within =
    let p : 0 < n = positive (omega (arith, most, inside, some)) in
    record { some = omega (arith, p); inside = within p; gives = same }
part-read content into at room size (Err e) most inside some positive same within = tt
