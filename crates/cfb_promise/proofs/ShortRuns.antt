-- Runs of the code's commands by their own rules are runs of the rules' commands, both ways.
use Rattle.std.proofs.Common.{◌≡◌, ◌∙◌, ℕ, List, [], ◌∷◌, Bool, true, false, refl, sym, ap, subst}
use Rattle.std.specs.Prelude.{IsTrue, Option, Some, None, Result, Ok, Err, chars, map, string_bytes}
use Rattle.std.proofs.lemmas.Option.{none-some, same_Some}
use Rattle.cfb_format.specs.declared.error.Error.{Error}
use Rattle.cfb_format.specs.declared.version.Version.{Version}
use Rattle.cfb_format.specs.Names.{Cases}
use Rattle.cfb_format.specs.Reading.{Reading, Reads}
use Rattle.cfb_format.proofs.Unique.{Reads-unique}
use Rattle.cfb_rules.specs.Calls.{Call, Reply, create_storage, create_storage_all, done, entries, entry, exists, is_storage, is_stream, flag, one_entry, read_storage, refused, remove_storage, remove_storage_all, remove_stream, set_created_time, set_modified_time, set_state_bits, set_storage_clsid, touch, walk_storage}
use Rattle.cfb_rules.specs.Calls as calls
use Rattle.cfb_rules.proofs.LegalRuns.{trees_legal}
use Rattle.cfb_rules.specs.Lists.{CallStep, CommandRuns, IsLegal, IsLegalRun, StreamCallStep, StreamCallsRun, names_at, opening_call}
use Rattle.cfb_rules.specs.Refusal.{Refusal, file_full, out_of_memory}
use Rattle.cfb_rules.specs.Runs.{opened_by_path}
use Rattle.cfb_rules.specs.StreamCalls.{StreamReply, StreamState, count, got, not_done, offset, ready}
use Rattle.cfb_commands.specs.Commands.{call_answer, command_of, command_reply_of, opening_of, refusal_of_error, refusal_of_result, stream_answer, stream_call_of, stream_reply_of}
use Rattle.cfb_commands.specs.Kinds.{AreOfKinds, IsOfKind, ReplyKind, StreamReplyKind, kind_of_answer, kind_of_command, kind_of_op}
use Rattle.cfb_commands.specs.Kinds as forms
use Rattle.cfb_commands.specs.declared.command.Command.{Command}
use Rattle.cfb_commands.specs.declared.command.Command.TheVariants as command
use Rattle.cfb_commands.specs.declared.command.Opening.TheVariants as how
use Rattle.cfb_commands.specs.declared.command.Reply.{Reply as TheReply}
use Rattle.cfb_commands.specs.declared.command.Reply.TheVariants as reply
use Rattle.cfb_commands.specs.declared.command.StreamOp.{StreamOp}
use Rattle.cfb_commands.specs.declared.command.StreamOp.TheVariants as op
use Rattle.cfb_commands.specs.declared.command.StreamReply.{StreamReply as TheAnswer}
use Rattle.cfb_commands.specs.declared.command.StreamReply.TheVariants as answer
use Rattle.cfb_promise.specs.Errors.{answer_of, told}
use Rattle.cfb_promise.specs.Files.{File, FullByCall, HasNoEntry, HasNoEntryOnTheWay, HasSoundBytes, MemoryByCall, Stands, Unfailed}
use Rattle.cfb_promise.specs.Given.{LeadsTo, LeadsToFailed}
use Rattle.cfb_promise.specs.Promise.{BreaksOff, IsGivenBack, IsTold}
use Rattle.cfb_promise.specs.Steps.{Closing, Does, OpsRun, Runs}
use Rattle.cfb_promise.specs.Steps as short
use Rattle.cfb_promise.proofs.ShortCalls.{Caused, IsSet, call_back, call_caused, call_here, closing_back, closing_here, kept_by, op_back, op_here, seen_by, set_next, setting_by}

-- ---- replies

-- a result is told in the same way
call_told : {T : Type 0} (answer : T → Reply) (result : Result T Error) → call_answer answer result ≡ told answer refused result
call_told answer (Ok x) = refl
call_told answer (Err e) = refl

stream_told : {T : Type 0} (answer : T → StreamReply) (result : Result T Error) → stream_answer answer result ≡ told answer not_done result
stream_told answer (Ok x) = refl
stream_told answer (Err e) = refl

closing_told : {T : Type 0} (result : Result T Error) → refusal_of_result result ≡ told (λ _. None) Some result
closing_told (Ok x) = refl
closing_told (Err e) = refl

-- the kinds of the operations of a stream command
abbrev kinds_in : ReplyKind → List StreamReplyKind
kinds_in (forms.streamed list) = list
kinds_in kind = []

abbrev first_kind : List StreamReplyKind → StreamReplyKind
first_kind [] = forms.nothing
first_kind (k ∷ list) = k

abbrev other_kinds : List StreamReplyKind → List StreamReplyKind
other_kinds [] = []
other_kinds (k ∷ list) = list

module _ {A : Type 0} where
  -- a reply of the operation's kind is its answer,
  said : (o : StreamOp A) (a : TheAnswer A) → kind_of_answer a ≡ kind_of_op o → answer_of o a ≡ Some (stream_reply_of a)
  said (op.Read wanted) (answer.Bytes result) e = ap Some (sym (stream_told (λ bytes. got bytes.items) result))
  said op.ReadToEnd (answer.Bytes result) e = ap Some (sym (stream_told (λ bytes. got bytes.items) result))
  said (op.Write bytes) (answer.Count result) e = ap Some (sym (stream_told count result))
  said (op.Seek to) (answer.Place result) e = ap Some (sym (stream_told offset result))
  said (op.SetLen len) (answer.Done result) e = ap Some (sym (stream_told (λ _. ready) result))
  said op.Flush (answer.Done result) e = ap Some (sym (stream_told (λ _. ready) result))
  said op.Position (answer.Place result) e = ap Some (sym (stream_told offset result))
  said op.Len (answer.Place result) e = ap Some (sym (stream_told offset result))
  said o a e = absurd (cc)

  -- and has no other one
  unsaid : (o : StreamOp A) (a : TheAnswer A) (reply : StreamReply) → answer_of o a ≡ Some reply → stream_reply_of a ≡ reply
  unsaid (op.Read wanted) (answer.Bytes result) reply e = stream_told (λ bytes. got bytes.items) result ∙ same_Some _ reply e
  unsaid op.ReadToEnd (answer.Bytes result) reply e = stream_told (λ bytes. got bytes.items) result ∙ same_Some _ reply e
  unsaid (op.Write bytes) (answer.Count result) reply e = stream_told count result ∙ same_Some _ reply e
  unsaid (op.Seek to) (answer.Place result) reply e = stream_told offset result ∙ same_Some _ reply e
  unsaid (op.SetLen len) (answer.Done result) reply e = stream_told (λ _. ready) result ∙ same_Some _ reply e
  unsaid op.Flush (answer.Done result) reply e = stream_told (λ _. ready) result ∙ same_Some _ reply e
  unsaid op.Position (answer.Place result) reply e = stream_told offset result ∙ same_Some _ reply e
  unsaid op.Len (answer.Place result) reply e = stream_told offset result ∙ same_Some _ reply e
  unsaid o a reply e = absurd (none-some reply e)

-- ---- commands

module _ {A : Type 0} where
  -- the call of a command, or of the opening of its stream
  abbrev call_of : Command A → Call
  call_of (command.CreateStorage path moment) = create_storage (chars (string_bytes path)) moment
  call_of (command.CreateStorageAll path moment) = create_storage_all (chars (string_bytes path)) moment
  call_of (command.RemoveStorage path) = remove_storage (chars (string_bytes path))
  call_of (command.RemoveStorageAll path) = remove_storage_all (chars (string_bytes path))
  call_of (command.RemoveStream path) = remove_stream (chars (string_bytes path))
  call_of (command.SetStorageClsid path clsid) = set_storage_clsid (chars (string_bytes path)) clsid
  call_of (command.SetStateBits path bits) = set_state_bits (chars (string_bytes path)) bits
  call_of (command.SetCreatedTime path moment) = set_created_time (chars (string_bytes path)) moment
  call_of (command.SetModifiedTime path moment) = set_modified_time (chars (string_bytes path)) moment
  call_of (command.Touch path moment) = touch (chars (string_bytes path)) moment
  call_of command.Flush = calls.flush
  call_of (command.Exists path) = exists (chars (string_bytes path))
  call_of (command.IsStream path) = is_stream (chars (string_bytes path))
  call_of (command.IsStorage path) = is_storage (chars (string_bytes path))
  call_of (command.Entry path) = entry (chars (string_bytes path))
  call_of (command.ReadStorage path) = read_storage (chars (string_bytes path))
  call_of (command.WalkStorage path) = walk_storage (chars (string_bytes path))
  call_of (command.Stream how path ops) = opening_call (opening_of how) (chars (string_bytes path))

module _ (cases : Cases) (version : Version) (sound : Bool) where
  abbrev Long : File → Call → Reply → File → Type 0
  Long old call reply new = CallStep (seen_by cases version sound) (kept_by cases version sound) (setting_by cases version sound) old call reply new

  -- the bytes are those of a file in which no entry is left
  none_left : (old new : File) (path : List ℕ) (moment : ℕ) → Unfailed new (HasSoundBytes cases version new) → HasNoEntryOnTheWay cases version old path moment new → Unfailed new (HasNoEntry new.reading)
  none_left old new path moment sound_now x calm =
      let between = x.2 in
      let there : HasSoundBytes cases version between = x.9.order.sound x.6 in
      subst (λ (r : Reading). HasNoEntry r) (Reads-unique cases new.bytes between.reading new.reading
      (subst (λ (b : List ℕ). Reads cases b between.reading) (sym x.5) there.reads) (sound_now calm).reads) x.7

  sound_of : (b : Bool) (new : File) → IsTrue b → IsSet cases version b new → Unfailed new (HasSoundBytes cases version new)
  sound_of true new is set = set
  sound_of false new is set = absurd (let w : false ≡ true = is in cc)

  module _ {A : Type 0} where
    abbrev Here : File → Command A → Reply → File → Type 0
    Here old command reply new = short.CallRuns cases version sound old command reply new

    -- why it blames the numbers
    full_to : (c : Command A) (old new : File) → FullByCall cases version old (call_of c) new → Unfailed new (HasNoEntry new.reading) → short.FullCall cases version sound old c new
    full_to (command.CreateStorageAll path moment) old new x lacks = x
    full_to (command.Stream how.Open path ops) old new x lacks = (x, lacks x)
    full_to (command.Stream how.Create path ops) old new x lacks = (x, lacks x)
    full_to (command.Stream how.CreateNew path ops) old new x lacks = (x, lacks x)
    full_to c old new x lacks = (x, lacks x)

    full_from : (c : Command A) (old new : File) → Unfailed new (HasSoundBytes cases version new) → short.FullCall cases version sound old c new
        → FullByCall cases version old (call_of c) new × Unfailed new (HasNoEntry new.reading)
    full_from (command.CreateStorageAll path moment) old new is x = (x, none_left old new (chars (string_bytes path)) moment is x)
    full_from (command.Stream how.Open path ops) old new is x = (x.0, λ calm. x.1)
    full_from (command.Stream how.Create path ops) old new is x = (x.0, λ calm. x.1)
    full_from (command.Stream how.CreateNew path ops) old new is x = (x.0, λ calm. x.1)
    full_from c old new is x = (x.0, λ calm. x.1)

    -- and what it leaves where memory was refused
    memory_to : (c : Command A) (old new : File) → MemoryByCall cases old (call_of c) new → short.MemoryCall cases version sound old c new
    memory_to (command.Stream how.Open path ops) old new x = x
    memory_to (command.Stream how.Create path ops) old new x = x
    memory_to (command.Stream how.CreateNew path ops) old new x = x
    memory_to c old new x = x

    memory_from : (c : Command A) (old new : File) → short.MemoryCall cases version sound old c new → MemoryByCall cases old (call_of c) new
    memory_from (command.Stream how.Open path ops) old new x = x
    memory_from (command.Stream how.Create path ops) old new x = x
    memory_from (command.Stream how.CreateNew path ops) old new x = x
    memory_from c old new x = x

    abbrev IsCaused : File → Command A → Reply → File → Type 0
    IsCaused old c reply new = IsTrue sound → Unfailed old ((reply ≡ refused file_full → short.FullCall cases version sound old c new)
        × (reply ≡ refused out_of_memory → short.MemoryCall cases version sound old c new))

    caused_to : (c : Command A) (old new : File) (reply : Reply) → Long old (call_of c) reply new → IsCaused old c reply new
    caused_to c old new reply h is calm =
        let k = call_caused cases version sound old new (call_of c) reply h is calm in
        (λ e. let x = k.0 e in full_to c old new x.0 x.1, λ e. memory_to c old new (k.1 e))

    caused_from : (c : Command A) (old new : File) (reply : Reply) → IsSet cases version sound new → IsCaused old c reply new
        → IsTrue sound → Caused cases version sound old new (call_of c) reply
    caused_from c old new reply set h is calm =
        let k = h is calm in
        (λ e. full_from c old new (sound_of sound new is set) (k.0 e), λ e. memory_from c old new (k.1 e))

    -- one call by path, or the opening of a stream
    call_to : (c : Command A) (old new : File) (reply : Reply) → Long old (call_of c) reply new → Here old c reply new
    call_to (command.Stream how.Open path ops) old new reply h =
        let c = command.Stream how.Open path ops in
        (call_here cases version sound old new (call_of c) reply h, caused_to c old new reply h)
    call_to (command.Stream how.Create path ops) old new reply h =
        let c = command.Stream how.Create path ops in
        (call_here cases version sound old new (call_of c) reply h, caused_to c old new reply h)
    call_to (command.Stream how.CreateNew path ops) old new reply h =
        let c = command.Stream how.CreateNew path ops in
        (call_here cases version sound old new (call_of c) reply h, caused_to c old new reply h)
    call_to c old new reply h = (call_here cases version sound old new (call_of c) reply h, caused_to c old new reply h)

    call_from : (c : Command A) (old new : File) (reply : Reply) → IsSet cases version sound old → Here old c reply new → Long old (call_of c) reply new
    call_from (command.Stream how.Open path ops) old new reply set h =
        let c = command.Stream how.Open path ops in
        call_back cases version sound old new (call_of c) reply set (caused_from c old new reply (set_next cases version old new sound _ _ _ _ h.0.leaves) h.1) h.0
    call_from (command.Stream how.Create path ops) old new reply set h =
        let c = command.Stream how.Create path ops in
        call_back cases version sound old new (call_of c) reply set (caused_from c old new reply (set_next cases version old new sound _ _ _ _ h.0.leaves) h.1) h.0
    call_from (command.Stream how.CreateNew path ops) old new reply set h =
        let c = command.Stream how.CreateNew path ops in
        call_back cases version sound old new (call_of c) reply set (caused_from c old new reply (set_next cases version old new sound _ _ _ _ h.0.leaves) h.1) h.0
    call_from c old new reply set h =
        call_back cases version sound old new (call_of c) reply set (caused_from c old new reply (set_next cases version old new sound _ _ _ _ h.0.leaves) h.1) h.0

    -- operations one after the other
    ops_to : (names : List (List ℕ)) (ops : List (StreamOp A)) (answers : List (TheAnswer A)) (s t : StreamState) (old new : File)
        → map kind_of_answer answers ≡ map kind_of_op ops
        → StreamCallsRun (seen_by cases version sound) (kept_by cases version sound) (setting_by cases version sound) names s old (map stream_call_of ops) (map stream_reply_of answers) t new
        → OpsRun cases version sound names s old ops answers t new
    ops_to names [] [] s t old new same h = h
    ops_to names [] (a ∷ answers) s t old new same h = h
    ops_to names (o ∷ ops) [] s t old new same h = h
    ops_to names (o ∷ ops) (a ∷ answers) s t old new same (middle, between, step, rest) = (
      stream_reply_of a,
      said o a (ap first_kind same),
      middle,
      between,
      op_here cases version sound names s middle old between (stream_reply_of a) o step,
      ops_to names ops answers middle t between new (ap other_kinds same) rest,
    )

    ops_from : (names : List (List ℕ)) (ops : List (StreamOp A)) (answers : List (TheAnswer A)) (s t : StreamState) (old new : File) → IsSet cases version sound old
        → OpsRun cases version sound names s old ops answers t new
        → StreamCallsRun (seen_by cases version sound) (kept_by cases version sound) (setting_by cases version sound) names s old (map stream_call_of ops) (map stream_reply_of answers) t new
    ops_from names [] [] s t old new set h = h
    ops_from names [] (a ∷ answers) s t old new set h = h
    ops_from names (o ∷ ops) [] s t old new set h = h
    ops_from names (o ∷ ops) (a ∷ answers) s t old new set (reply, is, middle, between, step, rest) = (
      middle,
      between,
      subst (λ (x : StreamReply). StreamCallStep (seen_by cases version sound) (kept_by cases version sound) (setting_by cases version sound) names s old (stream_call_of o) x middle between)
          (sym (unsaid o a reply is)) (op_back cases version sound names s middle old between reply o set step),
      ops_from names ops answers middle t between new (set_next cases version old between sound _ _ _ _ step.leaves) rest,
    )

    ops_set : (names : List (List ℕ)) (ops : List (StreamOp A)) (answers : List (TheAnswer A)) (s t : StreamState) (old new : File) → IsSet cases version sound old
        → OpsRun cases version sound names s old ops answers t new → IsSet cases version sound new
    ops_set names [] [] s t old new set h = subst (λ (f : File). IsSet cases version sound f) (sym h.1) set
    ops_set names [] (a ∷ answers) s t old new set h = absurd h
    ops_set names (o ∷ ops) [] s t old new set h = absurd h
    ops_set names (o ∷ ops) (a ∷ answers) s t old new set (reply, is, middle, between, step, rest) =
        ops_set names ops answers middle t between new (set_next cases version old between sound _ _ _ _ step.leaves) rest

    -- a result of a call is told in the same way
    result_to : {T : Type 0} (c : Command A) (answer : T → Reply) (result : Result T Error) (old new : File) → Long old (call_of c) (call_answer answer result) new
        → Here old c (told answer refused result) new
    result_to c answer result old new h = call_to c old new (told answer refused result) (subst (λ (x : Reply). Long old (call_of c) x new) (call_told answer result) h)

    result_from : {T : Type 0} (c : Command A) (answer : T → Reply) (result : Result T Error) (old new : File) → IsSet cases version sound old → Here old c (told answer refused result) new
        → Long old (call_of c) (call_answer answer result) new
    result_from c answer result old new set h =
        subst (λ (x : Reply). Long old (call_of c) x new) (sym (call_told answer result)) (call_from c old new (told answer refused result) set h)

    -- a command by the rules' commands
    abbrev LongCommand : File → Command A → TheReply A → File → Type 0
    LongCommand old c r new = CommandRuns (seen_by cases version sound) (kept_by cases version sound) (setting_by cases version sound) old (command_of c) (command_reply_of r) new

    -- one command
    command_to : (c : Command A) (r : TheReply A) (old new : File) → IsOfKind (kind_of_command c) r → LongCommand old c r new → Does cases version sound old c r new
    command_to (command.Stream how path ops) (reply.Stream (Ok works)) old new k h = record {
      opened = h.opened;
      opens = call_to (command.Stream how path ops) old h.opened done h.opening;
      stream = h.stream;
      worked = h.worked;
      works = ops_to (names_at (chars (string_bytes path))) ops.items works.0.items (opened_by_path cases h.opened.tree (chars (string_bytes path))) h.stream h.opened h.worked
          (k.2 ∙ sym (ap kinds_in k.1)) h.works;
      closes = subst (λ (x : Option Refusal). Closing cases version sound (names_at (chars (string_bytes path))) h.opened.tree h.stream h.worked x new) (closing_told works.1)
          (closing_here cases version sound (chars (string_bytes path)) h.opened.tree h.stream h.worked new (refusal_of_result works.1) h.closes);
    }
    command_to (command.Stream how path ops) (reply.Stream (Err e)) old new k h = call_to (command.Stream how path ops) old new (refused (refusal_of_error e)) h.1
    command_to (command.Stream how path ops) r old new k h = absurd (cc)
    command_to (command.Exists path) (reply.Flag b) old new k h = (b, refl, call_to (command.Exists path) old new (flag b) h)
    command_to (command.Exists path) (reply.Stream result) old new k h = absurd (let e = k.1 in cc)
    command_to (command.Exists path) r old new k h = absurd (cc)
    command_to (command.IsStream path) (reply.Flag b) old new k h = (b, refl, call_to (command.IsStream path) old new (flag b) h)
    command_to (command.IsStream path) (reply.Stream result) old new k h = absurd (let e = k.1 in cc)
    command_to (command.IsStream path) r old new k h = absurd (cc)
    command_to (command.IsStorage path) (reply.Flag b) old new k h = (b, refl, call_to (command.IsStorage path) old new (flag b) h)
    command_to (command.IsStorage path) (reply.Stream result) old new k h = absurd (let e = k.1 in cc)
    command_to (command.IsStorage path) r old new k h = absurd (cc)
    command_to (command.Entry path) (reply.Entry result) old new k h = (result, refl, result_to (command.Entry path) one_entry result old new h)
    command_to (command.Entry path) (reply.Stream result) old new k h = absurd (let e = k.1 in cc)
    command_to (command.Entry path) r old new k h = absurd (cc)
    command_to (command.ReadStorage path) (reply.Entries result) old new k h = (result, refl, result_to (command.ReadStorage path) (λ list. entries list.items) result old new h)
    command_to (command.ReadStorage path) (reply.Stream result) old new k h = absurd (let e = k.1 in cc)
    command_to (command.ReadStorage path) r old new k h = absurd (cc)
    command_to (command.WalkStorage path) (reply.Entries result) old new k h = (result, refl, result_to (command.WalkStorage path) (λ list. entries list.items) result old new h)
    command_to (command.WalkStorage path) (reply.Stream result) old new k h = absurd (let e = k.1 in cc)
    command_to (command.WalkStorage path) r old new k h = absurd (cc)
    command_to command.Flush (reply.Done result) old new k h = result_to command.Flush (λ _. done) result old new h
    command_to command.Flush (reply.Stream result) old new k h = absurd (let e = k.1 in cc)
    command_to command.Flush r old new k h = absurd (cc)
    command_to c (reply.Done result) old new k h = result_to c (λ _. done) result old new h
    command_to c (reply.Stream result) old new k h = absurd (let e = k.1 in cc)
    command_to c r old new k h = absurd (cc)

    command_from : (c : Command A) (r : TheReply A) (old new : File) → IsSet cases version sound old → Does cases version sound old c r new → LongCommand old c r new
    command_from (command.Stream how path ops) (reply.Stream (Ok works)) old new set h =
        let opened = set_next cases version old h.opened sound _ _ _ _ h.opens.0.leaves in
        let worked = ops_set (names_at (chars (string_bytes path))) ops.items works.0.items _ h.stream h.opened h.worked opened h.works in
        record {
          opened = h.opened;
          opening = call_from (command.Stream how path ops) old h.opened done set h.opens;
          stream = h.stream;
          worked = h.worked;
          works = ops_from (names_at (chars (string_bytes path))) ops.items works.0.items (opened_by_path cases h.opened.tree (chars (string_bytes path))) h.stream h.opened h.worked opened h.works;
          closes = closing_back cases version sound (chars (string_bytes path)) h.opened.tree h.stream h.worked new (refusal_of_result works.1) worked
              (subst (λ (x : Option Refusal). Closing cases version sound (names_at (chars (string_bytes path))) h.opened.tree h.stream h.worked x new) (sym (closing_told works.1)) h.closes);
        }
    command_from (command.Stream how path ops) (reply.Stream (Err e)) old new set h =
        ((refusal_of_error e, refl), call_from (command.Stream how path ops) old new (refused (refusal_of_error e)) set h)
    command_from (command.Stream how path ops) r old new set h = absurd h
    command_from (command.Exists path) r old new set (b, is, h) =
        subst (λ (x : TheReply A). LongCommand old (command.Exists path) x new) (sym is) (call_from (command.Exists path) old new (flag b) set h)
    command_from (command.IsStream path) r old new set (b, is, h) =
        subst (λ (x : TheReply A). LongCommand old (command.IsStream path) x new) (sym is) (call_from (command.IsStream path) old new (flag b) set h)
    command_from (command.IsStorage path) r old new set (b, is, h) =
        subst (λ (x : TheReply A). LongCommand old (command.IsStorage path) x new) (sym is) (call_from (command.IsStorage path) old new (flag b) set h)
    command_from (command.Entry path) r old new set (result, is, h) =
        subst (λ (x : TheReply A). LongCommand old (command.Entry path) x new) (sym is) (result_from (command.Entry path) one_entry result old new set h)
    command_from (command.ReadStorage path) r old new set (result, is, h) =
        subst (λ (x : TheReply A). LongCommand old (command.ReadStorage path) x new) (sym is) (result_from (command.ReadStorage path) (λ list. entries list.items) result old new set h)
    command_from (command.WalkStorage path) r old new set (result, is, h) =
        subst (λ (x : TheReply A). LongCommand old (command.WalkStorage path) x new) (sym is) (result_from (command.WalkStorage path) (λ list. entries list.items) result old new set h)
    command_from command.Flush (reply.Done result) old new set h = result_from command.Flush (λ _. done) result old new set h
    command_from command.Flush r old new set h = absurd h
    command_from c (reply.Done result) old new set h = result_from c (λ _. done) result old new set h
    command_from c r old new set h = absurd h

    call_set : (c : Command A) (reply : Reply) (old new : File) → Here old c reply new → IsSet cases version sound new
    call_set c reply old new h = set_next cases version old new sound _ _ _ _ h.0.leaves

    command_set : (c : Command A) (r : TheReply A) (old new : File) → Does cases version sound old c r new → IsSet cases version sound new
    command_set (command.Stream how path ops) (reply.Stream (Ok works)) old new h = set_next cases version h.worked new sound _ _ _ _ h.closes.leaves
    command_set (command.Stream how path ops) (reply.Stream (Err e)) old new h = call_set (command.Stream how path ops) (refused (refusal_of_error e)) old new h
    command_set (command.Stream how path ops) r old new h = absurd h
    command_set (command.Exists path) r old new (b, is, h) = call_set (command.Exists path) (flag b) old new h
    command_set (command.IsStream path) r old new (b, is, h) = call_set (command.IsStream path) (flag b) old new h
    command_set (command.IsStorage path) r old new (b, is, h) = call_set (command.IsStorage path) (flag b) old new h
    command_set (command.Entry path) r old new (result, is, h) = call_set (command.Entry path) (told one_entry refused result) old new h
    command_set (command.ReadStorage path) r old new (result, is, h) = call_set (command.ReadStorage path) (told (λ list. entries list.items) refused result) old new h
    command_set (command.WalkStorage path) r old new (result, is, h) = call_set (command.WalkStorage path) (told (λ list. entries list.items) refused result) old new h
    command_set command.Flush (reply.Done result) old new h = call_set command.Flush (told (λ _. done) refused result) old new h
    command_set command.Flush r old new h = absurd h
    command_set c (reply.Done result) old new h = call_set c (told (λ _. done) refused result) old new h
    command_set c r old new h = absurd h

    -- a list of them
    pub run_to : (cs : List (Command A)) (rs : List (TheReply A)) (old new : File) → AreOfKinds (map kind_of_command cs) rs
        → IsLegalRun (seen_by cases version sound) (kept_by cases version sound) (setting_by cases version sound) old (map command_of cs) (map command_reply_of rs) new
        → Runs cases version sound old cs rs new
    run_to [] [] old new kinds h = h
    run_to [] (r ∷ rs) old new kinds h = h
    run_to (c ∷ cs) [] old new kinds h = h
    run_to (c ∷ cs) (r ∷ rs) old new kinds (middle, step, rest) = (middle, command_to c r old middle kinds.0 step, run_to cs rs middle new kinds.1 rest)

    pub run_from : (cs : List (Command A)) (rs : List (TheReply A)) (old new : File) → IsSet cases version sound old → Runs cases version sound old cs rs new
        → IsLegalRun (seen_by cases version sound) (kept_by cases version sound) (setting_by cases version sound) old (map command_of cs) (map command_reply_of rs) new
    run_from [] [] old new set h = h
    run_from [] (r ∷ rs) old new set h = h
    run_from (c ∷ cs) [] old new set h = h
    run_from (c ∷ cs) (r ∷ rs) old new set (middle, step, rest) =
        (middle, command_from c r old middle set step, run_from cs rs middle new (command_set c r old middle step) rest)

-- ---- what the contracts say, and what is said of the rules' commands

module _ {A : Type 0} (cases : Cases) (version : Version) (first : File) (stands : Stands cases version first) (cs : List (Command A)) (rs : List (TheReply A)) where
  pub led : (given : List ℕ) → AreOfKinds (map kind_of_command cs) rs → IsGivenBack cases version first (map command_of cs) (map command_reply_of rs) given → LeadsTo cases version first cs rs given
  led given kinds h = record {
    last = h.last;
    runs = run_to cases version true cs rs first h.last kinds h.runs;
    same_bytes = h.same_bytes;
    stands = h.stands;
    accepted = h.accepted;
    tidy = h.tidy;
  }

  pub led_before : (given : List ℕ) → LeadsTo cases version first cs rs given → IsGivenBack cases version first (map command_of cs) (map command_reply_of rs) given
  led_before given h = record {
    last = h.last;
    runs = run_from cases version true cs rs first h.last (λ _. stands.sound) h.runs;
    same_bytes = h.same_bytes;
    stands = h.stands;
    accepted = h.accepted;
    tidy = h.tidy;
  }

  pub led_failed : AreOfKinds (map kind_of_command cs) rs → BreaksOff cases version first (map command_of cs) (map command_reply_of rs) → LeadsToFailed cases version true first cs rs
  led_failed kinds h = (h.last, run_to cases version true cs rs first h.last kinds h.runs, h.failed)

  pub led_failed_before : LeadsToFailed cases version true first cs rs → IsTold (map command_reply_of rs) → BreaksOff cases version first (map command_of cs) (map command_reply_of rs)
  led_failed_before h told = record { last = h.0; runs = run_from cases version true cs rs first h.0 (λ _. stands.sound) h.1; failed = h.2; told = told }

-- the replies of a run from a file to itself are legal of its tree
pub legal_before : {A : Type 0} (cases : Cases) (version : Version) (first : File) (cs : List (Command A)) (rs : List (TheReply A)) → Runs cases version false first cs rs first
    → IsLegal (setting_by cases version false) (seen_by cases version false first).state (map command_of cs) (map command_reply_of rs) (seen_by cases version false first).state
legal_before cases version first cs rs h =
    trees_legal (seen_by cases version false) (kept_by cases version false) (setting_by cases version false) first first (map command_of cs) (map command_reply_of rs)
    (run_from cases version false cs rs first first (λ _. tt) h)
