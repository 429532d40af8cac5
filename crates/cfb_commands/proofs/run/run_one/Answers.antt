use Rattle.std.proofs.Common.{◌≡◌, Bool, List, ℕ, chars, map, refl, subst}
use Rattle.std.specs.Prelude.{◌||◌, IfErr, IfOk, string_bytes}
use Rattle.cfb_format.specs.declared.error.Error.TheVariants.{Full}
use Rattle.cfb_format.specs.declared.medium.MediumFault.{MediumFault}
use Rattle.cfb_commands.specs.cfb_rules.Calls.{create_storage, create_storage_all, done, entries, entry, exists, flag, flush, is_storage, is_stream, one_entry, read_storage, remove_storage, remove_storage_all, remove_stream, set_created_time, set_modified_time, set_state_bits, set_storage_clsid, touch, walk_storage}
use Rattle.cfb_commands.specs.cfb_rules.Lists.{on_stream}
use Rattle.cfb_commands.specs.cfb_path_changes.Answers as path
use Rattle.cfb_commands.specs.cfb_path_changes.Answers.{LacksRoomOnTheWay}
use Rattle.cfb_commands.specs.cfb_path_changes.Calls.{CallAnswers, CallAnswersInTurn}
use Rattle.cfb_commands.specs.declared.command.StreamOp.{StreamOp}
use Rattle.cfb_commands.specs.Commands.{call_answer, opening_of, stream_call_of, streamed_reply}
use Rattle.cfb_commands.specs.Kinds.{kind_of_answer, kind_of_op}
use Rattle.cfb_commands.specs.Working.{AnswersCommand}
use Rattle.cfb_commands.proofs.Asking.{asked}
use Rattle.cfb_commands.proofs.Calls.{changed, changed_in_turn, flush_keeps, or_so}
use Rattle.cfb_commands.proofs.Faults.{changes_given, flush_given, questions_given, turns_given}
use Rattle.cfb_commands.proofs.Heeding.{change_heeds, flush_heeds}
use Rattle.cfb_commands.proofs.Runs.{by_call}
use Rattle.cfb_commands.proofs.run.run_one.Goals as goal

pub returns-in-CreateStorage-clause-answers : goal.returns-in-CreateStorage-clause-answers
returns-in-CreateStorage-clause-answers g c =
    let can_give : MediumFault → Bool = λ f. g.F.ReadMedium.read_faults f || g.F.Medium.write_faults f in
    let file = c.args.file.now in
    let new = c.create_storage.new.self in
    let call = create_storage (chars (string_bytes c.in-CreateStorage.path)) c.in-CreateStorage.moment in
    rw c.in-CreateStorage.is (λ told. by_call can_give file new call (call_answer (λ _. done) c.create_storage.result)
    (changed can_give file call new c.create_storage.result
    (subst (λ (text : List ℕ). CallAnswers can_give file (create_storage (chars text) c.in-CreateStorage.moment) c.create_storage.result new) c.deref.ensures (c.create_storage.ensures.does told)) (λ e why. why)))

pub returns-in-RemoveStorage-clause-answers : goal.returns-in-RemoveStorage-clause-answers
returns-in-RemoveStorage-clause-answers g c =
    let can_give : MediumFault → Bool = λ f. g.F.ReadMedium.read_faults f || g.F.Medium.write_faults f in
    let file = c.args.file.now in
    let new = c.remove_storage.new.self in
    let call = remove_storage (chars (string_bytes c.in-RemoveStorage.path)) in
    rw c.in-RemoveStorage.is (λ told. by_call can_give file new call (call_answer (λ _. done) c.remove_storage.result)
    (changed can_give file call new c.remove_storage.result
    (subst (λ (text : List ℕ). CallAnswers can_give file (remove_storage (chars text)) c.remove_storage.result new) c.deref-in-RemoveStorage.ensures (c.remove_storage.ensures.does told)) (λ e why. why)))

pub returns-in-RemoveStorageAll-clause-answers : goal.returns-in-RemoveStorageAll-clause-answers
returns-in-RemoveStorageAll-clause-answers g c =
    let can_give : MediumFault → Bool = λ f. g.F.ReadMedium.read_faults f || g.F.Medium.write_faults f in
    let file = c.args.file.now in
    let new = c.remove_storage_all.new.self in
    let call = remove_storage_all (chars (string_bytes c.in-RemoveStorageAll.path)) in
    rw c.in-RemoveStorageAll.is (λ told. by_call can_give file new call (call_answer (λ _. done) c.remove_storage_all.result)
    (changed can_give file call new c.remove_storage_all.result
    (subst (λ (text : List ℕ). CallAnswers can_give file (remove_storage_all (chars text)) c.remove_storage_all.result new) c.deref-in-RemoveStorageAll.ensures (c.remove_storage_all.ensures.does told)) (λ e why. why)))

pub returns-in-RemoveStream-clause-answers : goal.returns-in-RemoveStream-clause-answers
returns-in-RemoveStream-clause-answers g c =
    let can_give : MediumFault → Bool = λ f. g.F.ReadMedium.read_faults f || g.F.Medium.write_faults f in
    let file = c.args.file.now in
    let new = c.remove_stream.new.self in
    let call = remove_stream (chars (string_bytes c.in-RemoveStream.path)) in
    rw c.in-RemoveStream.is (λ told. by_call can_give file new call (call_answer (λ _. done) c.remove_stream.result)
    (changed can_give file call new c.remove_stream.result
    (subst (λ (text : List ℕ). CallAnswers can_give file (remove_stream (chars text)) c.remove_stream.result new) c.deref-in-RemoveStream.ensures (c.remove_stream.ensures.does told)) (λ e why. why)))

pub returns-in-SetStorageClsid-clause-answers : goal.returns-in-SetStorageClsid-clause-answers
returns-in-SetStorageClsid-clause-answers g c =
    let can_give : MediumFault → Bool = λ f. g.F.ReadMedium.read_faults f || g.F.Medium.write_faults f in
    let file = c.args.file.now in
    let new = c.set_storage_clsid.new.self in
    let call = set_storage_clsid (chars (string_bytes c.in-SetStorageClsid.path)) c.in-SetStorageClsid.clsid in
    rw c.in-SetStorageClsid.is (λ told. by_call can_give file new call (call_answer (λ _. done) c.set_storage_clsid.result)
    (changed can_give file call new c.set_storage_clsid.result
    (subst (λ (text : List ℕ). CallAnswers can_give file (set_storage_clsid (chars text) c.in-SetStorageClsid.clsid) c.set_storage_clsid.result new) c.deref-in-SetStorageClsid.ensures (c.set_storage_clsid.ensures.does told)) (λ e why. why)))

pub returns-in-SetStateBits-clause-answers : goal.returns-in-SetStateBits-clause-answers
returns-in-SetStateBits-clause-answers g c =
    let can_give : MediumFault → Bool = λ f. g.F.ReadMedium.read_faults f || g.F.Medium.write_faults f in
    let file = c.args.file.now in
    let new = c.set_state_bits.new.self in
    let call = set_state_bits (chars (string_bytes c.in-SetStateBits.path)) c.in-SetStateBits.bits in
    rw c.in-SetStateBits.is (λ told. by_call can_give file new call (call_answer (λ _. done) c.set_state_bits.result)
    (changed can_give file call new c.set_state_bits.result
    (subst (λ (text : List ℕ). CallAnswers can_give file (set_state_bits (chars text) c.in-SetStateBits.bits) c.set_state_bits.result new) c.deref-in-SetStateBits.ensures (c.set_state_bits.ensures.does told)) (λ e why. why)))

pub returns-in-SetCreatedTime-clause-answers : goal.returns-in-SetCreatedTime-clause-answers
returns-in-SetCreatedTime-clause-answers g c =
    let can_give : MediumFault → Bool = λ f. g.F.ReadMedium.read_faults f || g.F.Medium.write_faults f in
    let file = c.args.file.now in
    let new = c.set_created_time.new.self in
    let call = set_created_time (chars (string_bytes c.in-SetCreatedTime.path)) c.in-SetCreatedTime.moment in
    rw c.in-SetCreatedTime.is (λ told. by_call can_give file new call (call_answer (λ _. done) c.set_created_time.result)
    (changed can_give file call new c.set_created_time.result
    (subst (λ (text : List ℕ). CallAnswers can_give file (set_created_time (chars text) c.in-SetCreatedTime.moment) c.set_created_time.result new) c.deref-in-SetCreatedTime.ensures (c.set_created_time.ensures.does told)) (λ e why. why)))

pub returns-in-SetModifiedTime-clause-answers : goal.returns-in-SetModifiedTime-clause-answers
returns-in-SetModifiedTime-clause-answers g c =
    let can_give : MediumFault → Bool = λ f. g.F.ReadMedium.read_faults f || g.F.Medium.write_faults f in
    let file = c.args.file.now in
    let new = c.set_modified_time.new.self in
    let call = set_modified_time (chars (string_bytes c.in-SetModifiedTime.path)) c.in-SetModifiedTime.moment in
    rw c.in-SetModifiedTime.is (λ told. by_call can_give file new call (call_answer (λ _. done) c.set_modified_time.result)
    (changed can_give file call new c.set_modified_time.result
    (subst (λ (text : List ℕ). CallAnswers can_give file (set_modified_time (chars text) c.in-SetModifiedTime.moment) c.set_modified_time.result new) c.deref-in-SetModifiedTime.ensures (c.set_modified_time.ensures.does told)) (λ e why. why)))

pub returns-in-Touch-clause-answers : goal.returns-in-Touch-clause-answers
returns-in-Touch-clause-answers g c =
    let can_give : MediumFault → Bool = λ f. g.F.ReadMedium.read_faults f || g.F.Medium.write_faults f in
    let file = c.args.file.now in
    let new = c.touch.new.self in
    let call = touch (chars (string_bytes c.in-Touch.path)) c.in-Touch.moment in
    rw c.in-Touch.is (λ told. by_call can_give file new call (call_answer (λ _. done) c.touch.result)
    (changed can_give file call new c.touch.result
    (subst (λ (text : List ℕ). CallAnswers can_give file (touch (chars text) c.in-Touch.moment) c.touch.result new) c.deref-in-Touch.ensures (c.touch.ensures.does told)) (λ e why. why)))

pub returns-in-CreateStorageAll-clause-answers : goal.returns-in-CreateStorageAll-clause-answers
returns-in-CreateStorageAll-clause-answers g c =
    let can_give : MediumFault → Bool = λ f. g.F.ReadMedium.read_faults f || g.F.Medium.write_faults f in
    let file = c.args.file.now in
    let new = c.create_storage_all.new.self in
    let path = chars (string_bytes c.in-CreateStorageAll.path) in
    rw c.in-CreateStorageAll.is (λ told. by_call can_give file new (create_storage_all path c.in-CreateStorageAll.moment) (call_answer (λ _. done) c.create_storage_all.result)
    (changed_in_turn can_give file path c.in-CreateStorageAll.moment new c.create_storage_all.result
    (subst (λ (text : List ℕ). CallAnswersInTurn can_give file (create_storage_all (chars text) c.in-CreateStorageAll.moment) c.create_storage_all.result new) c.deref-in-CreateStorageAll.ensures (c.create_storage_all.ensures.does told))
    (subst (λ (text : List ℕ). IfErr c.create_storage_all.result (λ e. e ≡ Full → LacksRoomOnTheWay file (chars text) c.in-CreateStorageAll.moment new)) c.deref-in-CreateStorageAll.ensures
    (c.create_storage_all.ensures.foreseen told))))

pub returns-in-Flush-clause-answers : goal.returns-in-Flush-clause-answers
returns-in-Flush-clause-answers g c =
    let can_give : MediumFault → Bool = λ f. g.F.ReadMedium.read_faults f || g.F.Medium.write_faults f in
    let file = c.args.file.now in
    let new = c.flush.new.self in
    rw c.in-Flush.is (λ told. by_call can_give file new flush (call_answer (λ _. done) c.flush.result)
    (flush_keeps g.F.Medium.write_faults can_give file new c.flush.result (λ f. or_so (g.F.ReadMedium.read_faults f) (g.F.Medium.write_faults f))
    (c.flush.ensures.ok told) (c.flush.ensures.same told) (c.flush.ensures.refused told)))

pub returns-in-Exists-clause-answers : goal.returns-in-Exists-clause-answers
returns-in-Exists-clause-answers g c =
    let file = c.args.file.now in
    rw c.in-Exists.is (λ told. by_call (λ f. g.F.ReadMedium.read_faults f || g.F.Medium.write_faults f) file file (exists (chars (string_bytes c.in-Exists.path))) (flag c.exists.result)
    (record { same = refl; answers = subst (λ (text : List ℕ). path.Answers file (exists (chars text)) (flag c.exists.result)) c.deref-in-Exists.ensures (c.exists.ensures.asks told) }))

pub returns-in-IsStream-clause-answers : goal.returns-in-IsStream-clause-answers
returns-in-IsStream-clause-answers g c =
    let file = c.args.file.now in
    rw c.in-IsStream.is (λ told. by_call (λ f. g.F.ReadMedium.read_faults f || g.F.Medium.write_faults f) file file (is_stream (chars (string_bytes c.in-IsStream.path))) (flag c.is_stream.result)
    (record { same = refl; answers = subst (λ (text : List ℕ). path.Answers file (is_stream (chars text)) (flag c.is_stream.result)) c.deref-in-IsStream.ensures (c.is_stream.ensures.asks told) }))

pub returns-in-IsStorage-clause-answers : goal.returns-in-IsStorage-clause-answers
returns-in-IsStorage-clause-answers g c =
    let file = c.args.file.now in
    rw c.in-IsStorage.is (λ told. by_call (λ f. g.F.ReadMedium.read_faults f || g.F.Medium.write_faults f) file file (is_storage (chars (string_bytes c.in-IsStorage.path))) (flag c.is_storage.result)
    (record { same = refl; answers = subst (λ (text : List ℕ). path.Answers file (is_storage (chars text)) (flag c.is_storage.result)) c.deref-in-IsStorage.ensures (c.is_storage.ensures.asks told) }))

pub returns-in-Entry-clause-answers : goal.returns-in-Entry-clause-answers
returns-in-Entry-clause-answers g c =
    let file = c.args.file.now in
    rw c.in-Entry.is (λ told. by_call (λ f. g.F.ReadMedium.read_faults f || g.F.Medium.write_faults f) file file (entry (chars (string_bytes c.in-Entry.path))) (call_answer one_entry c.entry.result)
    (record { same = refl; answers = subst (λ (text : List ℕ). path.Answers file (entry (chars text)) (call_answer one_entry c.entry.result)) c.deref-in-Entry.ensures (asked file (entry (chars c.deref-in-Entry.result.now)) one_entry c.entry.result (c.entry.ensures.ok told) (c.entry.ensures.refused told)) }))

pub returns-in-ReadStorage-clause-answers : goal.returns-in-ReadStorage-clause-answers
returns-in-ReadStorage-clause-answers g c =
    let file = c.args.file.now in
    rw c.in-ReadStorage.is (λ told. by_call (λ f. g.F.ReadMedium.read_faults f || g.F.Medium.write_faults f) file file (read_storage (chars (string_bytes c.in-ReadStorage.path))) (call_answer (λ list. entries list.items) c.read_list.result)
    (record { same = refl; answers = subst (λ (text : List ℕ). path.Answers file (read_storage (chars text)) (call_answer (λ list. entries list.items) c.read_list.result)) c.deref-in-ReadStorage.ensures (c.read_list.ensures.answers told) }))

pub returns-in-WalkStorage-clause-answers : goal.returns-in-WalkStorage-clause-answers
returns-in-WalkStorage-clause-answers g c =
    let file = c.args.file.now in
    rw c.in-WalkStorage.is (λ told. by_call (λ f. g.F.ReadMedium.read_faults f || g.F.Medium.write_faults f) file file (walk_storage (chars (string_bytes c.in-WalkStorage.path))) (call_answer (λ list. entries list.items) c.walk_list.result)
    (record { same = refl; answers = subst (λ (text : List ℕ). path.Answers file (walk_storage (chars text)) (call_answer (λ list. entries list.items) c.walk_list.result)) c.deref-in-WalkStorage.ensures (c.walk_list.ensures.answers told) }))

pub returns-in-Stream-clause-answers : goal.returns-in-Stream-clause-answers
returns-in-Stream-clause-answers g c =
    let can_give : MediumFault → Bool = λ f. g.F.ReadMedium.read_faults f || g.F.Medium.write_faults f in
    let file = c.args.file.now in
    let new = c.run_on_stream.new.file in
    rw c.in-Stream.is (λ told.
    subst (λ (text : List ℕ). AnswersCommand can_give file (on_stream (opening_of c.in-Stream.how) (chars text) (map stream_call_of c.in-Stream.ops.items)) (streamed_reply c.run_on_stream.result) new)
    c.deref-in-Stream.ensures
    (subst (λ (ops : List (StreamOp g.row.A.Denot)). AnswersCommand can_give file (on_stream (opening_of c.in-Stream.how) (chars c.deref-in-Stream.result.now) (map stream_call_of ops))
    (streamed_reply c.run_on_stream.result) new) c.deref-in-Stream-2.ensures.value (c.run_on_stream.ensures.answers told)))

pub returns-in-Stream-clause-of_kind : goal.returns-in-Stream-clause-of_kind
returns-in-Stream-clause-of_kind g c =
    rw c.in-Stream.is (
      map kind_of_op c.in-Stream.ops.items,
      refl,
      subst (λ (ops : List (StreamOp g.row.A.Denot)).
          IfOk c.run_on_stream.result (λ works. map kind_of_answer works.0.items ≡ map kind_of_op ops)) c.deref-in-Stream-2.ensures.value c.run_on_stream.ensures.of_kinds,
    )

pub returns-in-CreateStorage-clause-given : goal.returns-in-CreateStorage-clause-given
returns-in-CreateStorage-clause-given g c = λ told. changes_given _ c.args.file.now _ c.create_storage.result c.create_storage.new.self (c.create_storage.ensures.does told)

pub returns-in-RemoveStorage-clause-given : goal.returns-in-RemoveStorage-clause-given
returns-in-RemoveStorage-clause-given g c = λ told. changes_given _ c.args.file.now _ c.remove_storage.result c.remove_storage.new.self (c.remove_storage.ensures.does told)

pub returns-in-RemoveStorageAll-clause-given : goal.returns-in-RemoveStorageAll-clause-given
returns-in-RemoveStorageAll-clause-given g c = λ told. changes_given _ c.args.file.now _ c.remove_storage_all.result c.remove_storage_all.new.self (c.remove_storage_all.ensures.does told)

pub returns-in-RemoveStream-clause-given : goal.returns-in-RemoveStream-clause-given
returns-in-RemoveStream-clause-given g c = λ told. changes_given _ c.args.file.now _ c.remove_stream.result c.remove_stream.new.self (c.remove_stream.ensures.does told)

pub returns-in-SetStorageClsid-clause-given : goal.returns-in-SetStorageClsid-clause-given
returns-in-SetStorageClsid-clause-given g c = λ told. changes_given _ c.args.file.now _ c.set_storage_clsid.result c.set_storage_clsid.new.self (c.set_storage_clsid.ensures.does told)

pub returns-in-SetStateBits-clause-given : goal.returns-in-SetStateBits-clause-given
returns-in-SetStateBits-clause-given g c = λ told. changes_given _ c.args.file.now _ c.set_state_bits.result c.set_state_bits.new.self (c.set_state_bits.ensures.does told)

pub returns-in-SetCreatedTime-clause-given : goal.returns-in-SetCreatedTime-clause-given
returns-in-SetCreatedTime-clause-given g c = λ told. changes_given _ c.args.file.now _ c.set_created_time.result c.set_created_time.new.self (c.set_created_time.ensures.does told)

pub returns-in-SetModifiedTime-clause-given : goal.returns-in-SetModifiedTime-clause-given
returns-in-SetModifiedTime-clause-given g c = λ told. changes_given _ c.args.file.now _ c.set_modified_time.result c.set_modified_time.new.self (c.set_modified_time.ensures.does told)

pub returns-in-Touch-clause-given : goal.returns-in-Touch-clause-given
returns-in-Touch-clause-given g c = λ told. changes_given _ c.args.file.now _ c.touch.result c.touch.new.self (c.touch.ensures.does told)

pub returns-in-CreateStorageAll-clause-given : goal.returns-in-CreateStorageAll-clause-given
returns-in-CreateStorageAll-clause-given g c = λ told. turns_given _ c.args.file.now _ c.create_storage_all.result c.create_storage_all.new.self (c.create_storage_all.ensures.does told)

pub returns-in-Flush-clause-given : goal.returns-in-Flush-clause-given
returns-in-Flush-clause-given g c = λ told.
    flush_given _ g.F.Medium.write_faults c.args.file.now c.flush.result c.flush.new.self (λ f. or_so (g.F.ReadMedium.read_faults f) (g.F.Medium.write_faults f)) (c.flush.ensures.refused told)

pub returns-in-Entry-clause-given : goal.returns-in-Entry-clause-given
returns-in-Entry-clause-given g c = λ told. questions_given _ c.entry.result c.entry.ensures.kinds

pub returns-in-ReadStorage-clause-given : goal.returns-in-ReadStorage-clause-given
returns-in-ReadStorage-clause-given g c = λ told. questions_given _ c.read_list.result c.read_list.ensures.kinds

pub returns-in-WalkStorage-clause-given : goal.returns-in-WalkStorage-clause-given
returns-in-WalkStorage-clause-given g c = λ told. questions_given _ c.walk_list.result c.walk_list.ensures.kinds

pub returns-in-Entry-clause-asked : goal.returns-in-Entry-clause-asked
returns-in-Entry-clause-asked g c = c.entry.ensures.kinds

pub returns-in-ReadStorage-clause-asked : goal.returns-in-ReadStorage-clause-asked
returns-in-ReadStorage-clause-asked g c = c.read_list.ensures.kinds

pub returns-in-WalkStorage-clause-asked : goal.returns-in-WalkStorage-clause-asked
returns-in-WalkStorage-clause-asked g c = c.walk_list.ensures.kinds

pub returns-in-CreateStorage-clause-any : goal.returns-in-CreateStorage-clause-any
returns-in-CreateStorage-clause-any g c = change_heeds c.args.file.now c.create_storage.new.self c.create_storage.result c.create_storage.ensures.any

pub returns-in-CreateStorageAll-clause-any : goal.returns-in-CreateStorageAll-clause-any
returns-in-CreateStorageAll-clause-any g c = change_heeds c.args.file.now c.create_storage_all.new.self c.create_storage_all.result c.create_storage_all.ensures.any

pub returns-in-RemoveStorage-clause-any : goal.returns-in-RemoveStorage-clause-any
returns-in-RemoveStorage-clause-any g c = change_heeds c.args.file.now c.remove_storage.new.self c.remove_storage.result c.remove_storage.ensures.any

pub returns-in-RemoveStorageAll-clause-any : goal.returns-in-RemoveStorageAll-clause-any
returns-in-RemoveStorageAll-clause-any g c = change_heeds c.args.file.now c.remove_storage_all.new.self c.remove_storage_all.result c.remove_storage_all.ensures.any

pub returns-in-RemoveStream-clause-any : goal.returns-in-RemoveStream-clause-any
returns-in-RemoveStream-clause-any g c = change_heeds c.args.file.now c.remove_stream.new.self c.remove_stream.result c.remove_stream.ensures.any

pub returns-in-SetStorageClsid-clause-any : goal.returns-in-SetStorageClsid-clause-any
returns-in-SetStorageClsid-clause-any g c = change_heeds c.args.file.now c.set_storage_clsid.new.self c.set_storage_clsid.result c.set_storage_clsid.ensures.any

pub returns-in-SetStateBits-clause-any : goal.returns-in-SetStateBits-clause-any
returns-in-SetStateBits-clause-any g c = change_heeds c.args.file.now c.set_state_bits.new.self c.set_state_bits.result c.set_state_bits.ensures.any

pub returns-in-SetCreatedTime-clause-any : goal.returns-in-SetCreatedTime-clause-any
returns-in-SetCreatedTime-clause-any g c = change_heeds c.args.file.now c.set_created_time.new.self c.set_created_time.result c.set_created_time.ensures.any

pub returns-in-SetModifiedTime-clause-any : goal.returns-in-SetModifiedTime-clause-any
returns-in-SetModifiedTime-clause-any g c = change_heeds c.args.file.now c.set_modified_time.new.self c.set_modified_time.result c.set_modified_time.ensures.any

pub returns-in-Touch-clause-any : goal.returns-in-Touch-clause-any
returns-in-Touch-clause-any g c = change_heeds c.args.file.now c.touch.new.self c.touch.result c.touch.ensures.any

pub returns-in-Flush-clause-any : goal.returns-in-Flush-clause-any
returns-in-Flush-clause-any g c = flush_heeds c.args.file.now c.flush.new.self c.flush.result c.flush.ensures.unfailed c.flush.ensures.err

pub returns-in-Stream-clause-any : goal.returns-in-Stream-clause-any
returns-in-Stream-clause-any g c = record { untouched = c.run_on_stream.ensures.untouched; stays = c.run_on_stream.ensures.any }

pub returns-in-Exists-clause-any : goal.returns-in-Exists-clause-any
returns-in-Exists-clause-any g c = record { untouched = λ failed. refl; stays = refl }

pub returns-in-IsStream-clause-any : goal.returns-in-IsStream-clause-any
returns-in-IsStream-clause-any g c = record { untouched = λ failed. refl; stays = refl }

pub returns-in-IsStorage-clause-any : goal.returns-in-IsStorage-clause-any
returns-in-IsStorage-clause-any g c = record { untouched = λ failed. refl; stays = refl }

pub returns-in-Entry-clause-any : goal.returns-in-Entry-clause-any
returns-in-Entry-clause-any g c = record { untouched = λ failed. refl; stays = refl }

pub returns-in-ReadStorage-clause-any : goal.returns-in-ReadStorage-clause-any
returns-in-ReadStorage-clause-any g c = record { untouched = λ failed. refl; stays = refl }

pub returns-in-WalkStorage-clause-any : goal.returns-in-WalkStorage-clause-any
returns-in-WalkStorage-clause-any g c = record { untouched = λ failed. refl; stays = refl }
