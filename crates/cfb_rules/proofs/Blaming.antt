-- What a single step's reply can blame.
use Rattle.std.proofs.Common.{◌≡◌, ◌⊎◌, ℕ, Bool, true, false, refl, sym, subst, inl, inr}
use Rattle.std.specs.Prelude.{⊤, Option, Some, None, MatchOption, MatchBool, IsTrue}
use Rattle.cfb_rules.specs.Refusal.{Refusal, not_found, already_exists, invalid_input, invalid_data, medium_failed, out_of_memory, file_full, not_sound, failed_earlier, is_of_rules}
use Rattle.cfb_rules.specs.Calls.{Call, Reply, done, flag, one_entry, entries, refused}
use Rattle.cfb_rules.specs.Steps.{CallKind, creating, emptying, changing, flushing, opening, opening_to_read, asking, asking_freely, kind_of, kind_on}
use Rattle.cfb_rules.specs.StreamCalls.{StreamSetting, StreamCall, StreamReply, ready, got, count, offset, answered, not_done, StreamStep}
use Rattle.cfb_rules.specs.Runs.{Setting, TreeState, Causes, BlamesOneOf, MayBlame, MayBreak, HasCause, OnFailed, FollowsRules, IsBroken, CallRuns, Work, no_work, reading, moving, writing_out, overwriting, appending, resizing, work_of, CalmWorkMayBreak, PendingWorkMayBreak, WorkMayBreak, StreamRun, is_never_refused, is_served, StreamOnFailed, IsStreamBroken, StreamCallRuns, Closes}
use Rattle.cfb_rules.specs.Lists.{blame_of, reply_blame, stream_reply_blame, closing_blame}
use Rattle.cfb_rules.proofs.RuleKinds.{ReplyOfRules, Step-rules, StreamReplyOfRules, StreamStep-rules}

-- the medium, or the tables
abbrev pub blamed_by : Bool → Refusal
blamed_by true = medium_failed
blamed_by false = file_full

abbrev pub cause_by : Bool → Causes → Type 0
cause_by true causes = causes.medium
cause_by false causes = causes.full

-- no answer blames it, or one does, and it has its cause
abbrev pub Blames : Bool → Causes → ℕ → Type 0
Blames b causes k = (k ≡ 0) ⊎ ((k ≡ 1) × cause_by b causes)

-- ---- a refusal

rules_blame : (b : Bool) (causes : Causes) (r : Refusal) → is_of_rules r ≡ true → Blames b causes (blame_of (blamed_by b) r)
rules_blame true causes not_found e = inl refl
rules_blame true causes already_exists e = inl refl
rules_blame true causes invalid_input e = inl refl
rules_blame true causes invalid_data e = inl refl
rules_blame true causes not_sound e = inl refl
rules_blame false causes not_found e = inl refl
rules_blame false causes already_exists e = inl refl
rules_blame false causes invalid_input e = inl refl
rules_blame false causes invalid_data e = inl refl
rules_blame false causes not_sound e = inl refl
rules_blame b causes r e = cc

caused_blame : (b : Bool) (causes : Causes) (r : Refusal) → MayBlame causes r → Blames b causes (blame_of (blamed_by b) r)
caused_blame true causes medium_failed x = inr (refl, x)
caused_blame false causes file_full x = inr (refl, x)
caused_blame true causes r x = inl refl
caused_blame false causes r x = inl refl

broken_blame : (b : Bool) (causes : Causes) (medium memory full : Type 0) → (medium → causes.medium) → (full → causes.full) → (r : Refusal)
    → BlamesOneOf medium memory full r → Blames b causes (blame_of (blamed_by b) r)
broken_blame true causes medium memory full to_medium to_full medium_failed x = inr (refl, to_medium x)
broken_blame true causes medium memory full to_medium to_full out_of_memory x = inl refl
broken_blame true causes medium memory full to_medium to_full file_full x = inl refl
broken_blame false causes medium memory full to_medium to_full medium_failed x = inl refl
broken_blame false causes medium memory full to_medium to_full out_of_memory x = inl refl
broken_blame false causes medium memory full to_medium to_full file_full x = inr (refl, to_full x)
broken_blame b causes medium memory full to_medium to_full r x = elim x [ ]

module _ (b : Bool) (causes : Causes) where
  never_so : {X : Type 0} → ⊥ → X
  never_so x = elim x [ ]

  kind_blame : (kind : CallKind) (r : Refusal) → MayBreak causes kind r → Blames b causes (blame_of (blamed_by b) r)
  kind_blame creating r x = broken_blame b causes causes.medium ⊤ causes.full (λ m. m) (λ f. f) r x
  kind_blame emptying r x = broken_blame b causes causes.medium ⊤ ⊥ (λ m. m) never_so r x
  kind_blame changing r x = broken_blame b causes causes.medium ⊤ ⊥ (λ m. m) never_so r x
  kind_blame flushing r x = broken_blame b causes causes.medium ⊥ ⊥ (λ m. m) never_so r x
  kind_blame opening r x = broken_blame b causes causes.medium ⊤ ⊥ (λ m. m) never_so r x
  kind_blame opening_to_read r x = broken_blame b causes ⊥ ⊤ ⊥ never_so never_so r x
  kind_blame asking r x = broken_blame b causes ⊥ ⊤ ⊥ never_so never_so r x
  kind_blame asking_freely r x = broken_blame b causes ⊥ ⊥ ⊥ never_so never_so r x

  all_blame : (r : Refusal) → BlamesOneOf causes.medium ⊤ causes.full r → Blames b causes (blame_of (blamed_by b) r)
  all_blame r x = broken_blame b causes causes.medium ⊤ causes.full (λ m. m) (λ f. f) r x

  calm_blame : (work : Work) (r : Refusal) → CalmWorkMayBreak causes work r → Blames b causes (blame_of (blamed_by b) r)
  calm_blame no_work r x = never_so x
  calm_blame reading r x = broken_blame b causes causes.medium ⊤ ⊥ (λ m. m) never_so r x
  calm_blame moving r x = broken_blame b causes causes.medium ⊥ ⊥ (λ m. m) never_so r x
  calm_blame writing_out r x = broken_blame b causes causes.medium ⊥ ⊥ (λ m. m) never_so r x
  calm_blame overwriting r x = broken_blame b causes causes.medium ⊤ ⊥ (λ m. m) never_so r x
  calm_blame appending r x = all_blame r x
  calm_blame resizing r x = all_blame r x

  pending_blame : (work : Work) (r : Refusal) → PendingWorkMayBreak causes work r → Blames b causes (blame_of (blamed_by b) r)
  pending_blame no_work r x = never_so x
  pending_blame reading r x = all_blame r x
  pending_blame moving r x = all_blame r x
  pending_blame writing_out r x = all_blame r x
  pending_blame overwriting r x = all_blame r x
  pending_blame appending r x = all_blame r x
  pending_blame resizing r x = all_blame r x

  work_blame : (pending : Bool) (work : Work) (r : Refusal) → WorkMayBreak causes pending work r → Blames b causes (blame_of (blamed_by b) r)
  work_blame true work r x = pending_blame work r x
  work_blame false work r x = calm_blame work r x

  -- ---- calls by path

  rules_reply : (reply : Reply) → ReplyOfRules reply → Blames b causes (reply_blame (blamed_by b) reply)
  rules_reply done rules = inl refl
  rules_reply (flag x) rules = inl refl
  rules_reply (one_entry e) rules = inl refl
  rules_reply (entries es) rules = inl refl
  rules_reply (refused r) rules = rules_blame b causes r rules

  caused_reply : (reply : Reply) → HasCause causes reply → Blames b causes (reply_blame (blamed_by b) reply)
  caused_reply done x = inl refl
  caused_reply (flag y) x = inl refl
  caused_reply (one_entry e) x = inl refl
  caused_reply (entries es) x = inl refl
  caused_reply (refused r) x = caused_blame b causes r x

  refused_reply : (reply : Reply) (r : Refusal) → reply ≡ refused r → Blames b causes (blame_of (blamed_by b) r) → Blames b causes (reply_blame (blamed_by b) reply)
  refused_reply reply r e x = subst (λ (s : Reply). Blames b causes (reply_blame (blamed_by b) s)) (sym e) x

  earlier_reply : (reply : Reply) → reply ≡ refused failed_earlier → Blames b causes (reply_blame (blamed_by b) reply)
  earlier_reply reply e = refused_reply reply failed_earlier e (caused_blame b causes failed_earlier tt)

  failed_reply : (kind : CallKind) (reply : Reply) (new : TreeState) → OnFailed causes kind reply new → Blames b causes (reply_blame (blamed_by b) reply)
  failed_reply creating reply new h = earlier_reply reply h.0
  failed_reply emptying reply new h = earlier_reply reply h.0
  failed_reply changing reply new h = earlier_reply reply h.0
  failed_reply flushing reply new h = earlier_reply reply h.0
  failed_reply opening reply new h = earlier_reply reply h.0
  failed_reply opening_to_read reply new h = earlier_reply reply h.0
  failed_reply asking reply new h = caused_reply reply h.0
  failed_reply asking_freely reply new h = caused_reply reply h.0

  pub call_blames : (setting : Setting) (old new : TreeState) (call : Call) (reply : Reply) → CallRuns causes setting old call reply new
      → Blames b causes (reply_blame (blamed_by b) reply)
  call_blames setting old new call reply = go old.failed
    where
      unfailed : FollowsRules setting old call reply new ⊎ IsBroken causes setting old call reply new → Blames b causes (reply_blame (blamed_by b) reply)
      unfailed (inl f) = rules_reply reply (Step-rules setting.cases setting.stream.sound old.root_len old.tree new.tree call reply f.step)
      unfailed (inr x) = refused_reply reply x.0.0 x.0.2 (kind_blame (kind_on setting.cases old.tree call) x.0.0 x.0.1)

      go : (failed : Bool) → MatchBool failed (OnFailed causes (kind_of call) reply new) (FollowsRules setting old call reply new ⊎ IsBroken causes setting old call reply new)
          → Blames b causes (reply_blame (blamed_by b) reply)
      go true h = failed_reply (kind_of call) reply new h
      go false h = unfailed h

  -- ---- calls on a stream

  rules_stream_reply : (reply : StreamReply) → StreamReplyOfRules reply → Blames b causes (stream_reply_blame (blamed_by b) reply)
  rules_stream_reply ready rules = inl refl
  rules_stream_reply (got bytes) rules = inl refl
  rules_stream_reply (count n) rules = inl refl
  rules_stream_reply (offset at) rules = inl refl
  rules_stream_reply (answered x) rules = inl refl
  rules_stream_reply (not_done r) rules = rules_blame b causes r rules

  served_reply : (reply : StreamReply) → is_served reply ≡ true → Blames b causes (stream_reply_blame (blamed_by b) reply)
  served_reply ready e = inl refl
  served_reply (got bytes) e = inl refl
  served_reply (count n) e = inl refl
  served_reply (offset at) e = inl refl
  served_reply (answered x) e = inl refl
  served_reply (not_done r) e = cc

  not_done_reply : (reply : StreamReply) (r : Refusal) → reply ≡ not_done r → Blames b causes (blame_of (blamed_by b) r) → Blames b causes (stream_reply_blame (blamed_by b) reply)
  not_done_reply reply r e x = subst (λ (s : StreamReply). Blames b causes (stream_reply_blame (blamed_by b) s)) (sym e) x

  pub stream_call_blames : (setting : StreamSetting) (old new : StreamRun) (call : StreamCall) (reply : StreamReply) → StreamCallRuns causes setting old call reply new
      → Blames b causes (stream_reply_blame (blamed_by b) reply)
  stream_call_blames setting old new call reply = go old.failed
    where
      on_failed : (never : Bool) → MatchBool never (is_served reply ≡ true) (reply ≡ not_done failed_earlier) → Blames b causes (stream_reply_blame (blamed_by b) reply)
      on_failed true h = served_reply reply h
      on_failed false h = not_done_reply reply failed_earlier h (caused_blame b causes failed_earlier tt)

      unfailed : (StreamStep setting old.stream call reply new.stream × (new.failed ≡ false)) ⊎ IsStreamBroken causes setting old.stream call reply new
          → Blames b causes (stream_reply_blame (blamed_by b) reply)
      unfailed (inl f) = rules_stream_reply reply (StreamStep-rules setting old.stream new.stream call reply f.0)
      unfailed (inr x) = not_done_reply reply x.0 x.2 (work_blame old.stream.pending (work_of old.stream call) x.0 x.1)

      go : (failed : Bool)
          → MatchBool failed (StreamOnFailed call reply new) ((StreamStep setting old.stream call reply new.stream × (new.failed ≡ false)) ⊎ IsStreamBroken causes setting old.stream call reply new)
          → Blames b causes (stream_reply_blame (blamed_by b) reply)
      go true h = on_failed (is_never_refused call) h.1
      go false h = unfailed h

  pub closing_blames : (old : StreamRun) (closing : Option Refusal) (failed : Bool) → Closes causes old closing failed → Blames b causes (closing_blame (blamed_by b) closing)
  closing_blames old closing failed = go old.failed closing
    where
      go : (before : Bool) (closing : Option Refusal) → MatchBool before ((closing ≡ Some failed_earlier) × (failed ≡ true))
          (MatchOption closing (failed ≡ false) (λ r. IsTrue old.stream.pending × BlamesOneOf causes.medium ⊤ causes.full r × (failed ≡ true)))
          → Blames b causes (closing_blame (blamed_by b) closing)
      go true closing h = subst (λ (o : Option Refusal). Blames b causes (closing_blame (blamed_by b) o)) (sym h.0) (caused_blame b causes failed_earlier tt)
      go false None h = inl refl
      go false (Some r) h = all_blame r h.1
