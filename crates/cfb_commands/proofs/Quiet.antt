-- Calls on a stream that have nothing to write.
use Rattle.std.proofs.Common.{◌≡◌, ◌∙◌, ◌≤◌, ◌++◌, ℕ, Bool, true, false, List, [], ap, arith, sym, drop, length, length-append, length-take, refl, take}
use Rattle.std.specs.Prelude.{◌==◌, nat_lt, if◌then◌else◌}
use Rattle.std.proofs.lemmas.Bool.{eqb-true}
use Rattle.std.proofs.lemmas.List.{take-append-drop, take-append-le}
use Rattle.cfb_commands.specs.cfb_rules.Runs.{appending, may_leave_failed, no_work, overwriting, resizing, work_of}
use Rattle.cfb_commands.specs.cfb_rules.StreamCalls.{StreamState, set_len, write}

-- a write of no byte
pub writes_none : (s : StreamState) (bytes : List ℕ) → may_leave_failed s.pending (work_of s (write bytes)) ≡ false → length bytes ≡ 0
writes_none s bytes = go (length bytes == 0) (nat_lt s.position s.len) refl
  where
    go : (b c : Bool) → (length bytes == 0) ≡ b → may_leave_failed s.pending (if b then no_work else if c then overwriting else appending) ≡ false → length bytes ≡ 0
    go true c is quiet = eqb-true (length bytes) 0 is
    go false true is quiet = absurd (let w : true ≡ false = quiet in cc)
    go false false is quiet = absurd (let w : true ≡ false = quiet in cc)

-- a change to the present length
pub keeps_len : (s : StreamState) (len : ℕ) → may_leave_failed s.pending (work_of s (set_len len)) ≡ false → len ≡ s.len
keeps_len s len = go (len == s.len) refl
  where
    go : (b : Bool) → (len == s.len) ≡ b → may_leave_failed s.pending (if b then no_work else resizing) ≡ false → len ≡ s.len
    go true is quiet = eqb-true len s.len is
    go false is quiet = absurd (let w : true ≡ false = quiet in cc)

-- ---- what is read into

-- bytes that were lent from a list and written over stand in front of what was behind them
pub given_back : (n len : ℕ) (bytes rest : List ℕ) → n ≤ length bytes → length bytes ≤ len → take n (take len (bytes ++ rest)) ≡ take n bytes
given_back n len bytes rest within most =
    let all = bytes ++ rest in
    let inside : n ≤ length (take len all) = omega (arith, within, most, length-take len all, length-append bytes rest) in
    sym (take-append-le n (take len all) (drop len all) inside) ∙ ap (take n) (take-append-drop len all) ∙ take-append-le n bytes rest within

pub from_none : (olds news : List ℕ) → olds ≡ [] → drop (length olds) news ≡ news
from_none olds news is = ap (λ (l : List ℕ). drop (length l) news) is
