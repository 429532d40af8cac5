-- Commands and replies in memory, as the rules of calls see them.
use Rattle.std.specs.Prelude.{Vec, Option, Some, None, Result, Ok, Err, chars, map, string_bytes}
use Rattle.cfb_format.specs.declared.error.Error.{Error}
use Rattle.cfb_format.specs.declared.error.Error.TheVariants as error
use Rattle.cfb_commands.specs.cfb_rules.Calls.{Reply, create_storage, create_storage_all, done, entries, entry, exists, flag, is_storage, is_stream, one_entry, read_storage, refused, remove_storage, remove_storage_all, remove_stream, set_created_time, set_modified_time, set_state_bits, set_storage_clsid, touch, walk_storage}
use Rattle.cfb_commands.specs.cfb_rules.Calls as calls
use Rattle.cfb_commands.specs.cfb_rules.Lists.{CommandReply, by_path, creates, creates_new, on_stream, opens, replied, streamed}
use Rattle.cfb_commands.specs.cfb_rules.Lists as rules
use Rattle.cfb_commands.specs.cfb_rules.Refusal.{Refusal, already_exists, failed_earlier, file_full, invalid_data, invalid_input, medium_failed, not_found, not_sound, out_of_memory}
use Rattle.cfb_commands.specs.cfb_rules.StreamCalls.{StreamCall, ask_len, ask_position, count, got, not_done, offset, read, read_to_end, ready, seek, set_len, write}
use Rattle.cfb_commands.specs.cfb_rules.StreamCalls as streams
use Rattle.cfb_commands.specs.cfb_stream_window.Windows.{whence_of}
use Rattle.cfb_commands.specs.declared.command.Opening.{Opening}
use Rattle.cfb_commands.specs.declared.command.Opening.TheVariants as opening
use Rattle.cfb_commands.specs.declared.command.StreamOp.{StreamOp}
use Rattle.cfb_commands.specs.declared.command.StreamOp.TheVariants as op
use Rattle.cfb_commands.specs.declared.command.Command.{Command}
use Rattle.cfb_commands.specs.declared.command.Command.TheVariants as command
use Rattle.cfb_commands.specs.declared.command.StreamReply.{StreamReply}
use Rattle.cfb_commands.specs.declared.command.StreamReply.TheVariants as answer
use Rattle.cfb_commands.specs.declared.command.Reply.{Reply as TheReply}
use Rattle.cfb_commands.specs.declared.command.Reply.TheVariants as reply

-- ---- commands

abbrev pub opening_of : Opening → rules.Opening
opening_of opening.Open = opens
opening_of opening.Create = creates
opening_of opening.CreateNew = creates_new

module _ {A : Type 0} where
  abbrev pub stream_call_of : StreamOp A → StreamCall
  stream_call_of (op.Read wanted) = read wanted
  stream_call_of op.ReadToEnd = read_to_end
  stream_call_of (op.Write bytes) = write bytes.items
  stream_call_of (op.Seek to) = seek (whence_of to)
  stream_call_of (op.SetLen len) = set_len len
  stream_call_of op.Flush = streams.flush
  stream_call_of op.Position = ask_position
  stream_call_of op.Len = ask_len

  abbrev pub command_of : Command A → rules.Command
  command_of (command.CreateStorage path moment) = by_path (create_storage (chars (string_bytes path)) moment)
  command_of (command.CreateStorageAll path moment) = by_path (create_storage_all (chars (string_bytes path)) moment)
  command_of (command.RemoveStorage path) = by_path (remove_storage (chars (string_bytes path)))
  command_of (command.RemoveStorageAll path) = by_path (remove_storage_all (chars (string_bytes path)))
  command_of (command.RemoveStream path) = by_path (remove_stream (chars (string_bytes path)))
  command_of (command.SetStorageClsid path clsid) = by_path (set_storage_clsid (chars (string_bytes path)) clsid)
  command_of (command.SetStateBits path bits) = by_path (set_state_bits (chars (string_bytes path)) bits)
  command_of (command.SetCreatedTime path moment) = by_path (set_created_time (chars (string_bytes path)) moment)
  command_of (command.SetModifiedTime path moment) = by_path (set_modified_time (chars (string_bytes path)) moment)
  command_of (command.Touch path moment) = by_path (touch (chars (string_bytes path)) moment)
  command_of command.Flush = by_path calls.flush
  command_of (command.Exists path) = by_path (exists (chars (string_bytes path)))
  command_of (command.IsStream path) = by_path (is_stream (chars (string_bytes path)))
  command_of (command.IsStorage path) = by_path (is_storage (chars (string_bytes path)))
  command_of (command.Entry path) = by_path (entry (chars (string_bytes path)))
  command_of (command.ReadStorage path) = by_path (read_storage (chars (string_bytes path)))
  command_of (command.WalkStorage path) = by_path (walk_storage (chars (string_bytes path)))
  command_of (command.Stream how path ops) = on_stream (opening_of how) (chars (string_bytes path)) (map stream_call_of ops.items)

-- ---- replies

-- the kind of an error
abbrev pub refusal_of_error : Error → Refusal
refusal_of_error (error.NotFound d) = not_found
refusal_of_error (error.AlreadyExists d) = already_exists
refusal_of_error (error.InvalidInput d) = invalid_input
refusal_of_error (error.InvalidData d) = invalid_data
refusal_of_error (error.Medium f) = medium_failed
refusal_of_error error.Memory = out_of_memory
refusal_of_error error.Full = file_full
refusal_of_error error.Unsound = not_sound
refusal_of_error error.Failed = failed_earlier

-- a call on a stream answers so, or it is refused
abbrev pub stream_answer : {T : Type 0} → (T → streams.StreamReply) → Result T Error → streams.StreamReply
stream_answer answer (Ok x) = answer x
stream_answer answer (Err e) = not_done (refusal_of_error e)

-- and so does a call by path
abbrev pub call_answer : {T : Type 0} → (T → Reply) → Result T Error → Reply
call_answer answer (Ok x) = answer x
call_answer answer (Err e) = refused (refusal_of_error e)

-- why closing was refused, if it was
abbrev pub refusal_of_result : {T : Type 0} → Result T Error → Option Refusal
refusal_of_result (Ok x) = None
refusal_of_result (Err e) = Some (refusal_of_error e)

module _ {A : Type 0} where
  abbrev pub stream_reply_of : StreamReply A → streams.StreamReply
  stream_reply_of (answer.Bytes result) = stream_answer (λ bytes. got bytes.items) result
  stream_reply_of (answer.Count result) = stream_answer count result
  stream_reply_of (answer.Place result) = stream_answer offset result
  stream_reply_of (answer.Done result) = stream_answer (λ _. ready) result

  -- what was done with a stream, or why none was opened
  abbrev pub streamed_reply : {H T : Type 0} → Result (Vec (StreamReply A) H × Result T Error) Error → CommandReply
  streamed_reply (Ok works) = streamed (map stream_reply_of works.0.items) (refusal_of_result works.1)
  streamed_reply (Err e) = replied (refused (refusal_of_error e))

  abbrev pub command_reply_of : TheReply A → CommandReply
  command_reply_of (reply.Done result) = replied (call_answer (λ _. done) result)
  command_reply_of (reply.Flag b) = replied (flag b)
  command_reply_of (reply.Entry result) = replied (call_answer one_entry result)
  command_reply_of (reply.Entries result) = replied (call_answer (λ list. entries list.items) result)
  command_reply_of (reply.Stream result) = streamed_reply result
