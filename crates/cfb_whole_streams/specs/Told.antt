-- What a reply tells.
use Rattle.std.specs.Prelude.{ℕ, List, [], ◌∷◌, Option, Some, None}
use Rattle.cfb_rules.specs.Calls.{Reply, done, entries, flag, one_entry, refused}
use Rattle.cfb_rules.specs.Lists.{CommandReply, replied, streamed}
use Rattle.cfb_rules.specs.Refusal.{Refusal}
use Rattle.cfb_rules.specs.StreamCalls.{StreamReply, answered, count, got, not_done, offset, ready}

-- why an operation was refused, if it was
abbrev pub refusal_of_work : StreamReply → Option Refusal
refusal_of_work (not_done refusal) = Some refusal
refusal_of_work ready = None
refusal_of_work (got bytes) = None
refusal_of_work (count n) = None
refusal_of_work (offset at) = None
refusal_of_work (answered b) = None

abbrev pub first_of : Option Refusal → Option Refusal → Option Refusal
first_of (Some refusal) other = Some refusal
first_of None other = other

-- the first refusal of the operations, or that of closing
abbrev pub first_refusal : List StreamReply → (closing : Option Refusal) → Option Refusal
first_refusal [] closing = closing
first_refusal (reply ∷ replies) closing = first_of (refusal_of_work reply) (first_refusal replies closing)

abbrev pub refusal_of_call : Reply → Option Refusal
refusal_of_call (refused refusal) = Some refusal
refusal_of_call done = None
refusal_of_call (flag b) = None
refusal_of_call (one_entry e) = None
refusal_of_call (entries es) = None

abbrev pub refusal_in : CommandReply → Option Refusal
refusal_in (replied reply) = refusal_of_call reply
refusal_in (streamed replies closing) = first_refusal replies closing

-- how many bytes an operation took, if it is a write
abbrev pub taken_by_work : StreamReply → ℕ
taken_by_work (count n) = n
taken_by_work ready = 0
taken_by_work (got bytes) = 0
taken_by_work (offset at) = 0
taken_by_work (answered b) = 0
taken_by_work (not_done refusal) = 0
