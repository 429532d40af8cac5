-- Calls by path and on streams by the rules of the code's commands are those by the rules of calls, both ways.
use Rattle.std.proofs.Common.{◌≡◌, ◌∙◌, ◌^◌, ◌-◌, ◌<◌, ◌⊎◌, ℕ, List, Bool, true, false, refl, sym, ap, arith, length, nat_le, subst, inl, inr}
use Rattle.std.proofs.lemmas.Bool.Decides.{nat_tests}
use Rattle.std.specs.Prelude.{⊤, ◌≢◌, ◌&&◌, ◌||◌, MatchBool, MatchOption, IsTrue, Option, Some, None, is_some, if◌then◌else◌}
use Rattle.std.specs.Option.{option_map_or}
use Rattle.std.specs.declared.io.traits.SeekFrom.{SeekFrom}
use Rattle.std.specs.declared.io.traits.SeekFrom.TheVariants.{Start, End, Current}
use Rattle.cfb_format.specs.declared.version.Version.{Version}
use Rattle.cfb_format.specs.Bytes.{max_regular_sector, max_stream_len}
use Rattle.cfb_format.specs.Full.{IsFull}
use Rattle.cfb_format.specs.Meaning.{tree_of}
use Rattle.cfb_format.specs.Medium.{Rises}
use Rattle.cfb_format.specs.Names.{Cases}
use Rattle.cfb_format.specs.Reading.{Reading, root_entry}
use Rattle.cfb_format.specs.Tree.{Tree}
use Rattle.cfb_rules.specs.CallChanges.{content_changed_at, tree_after}
use Rattle.cfb_rules.specs.CallRefusals.{refusal_of, unless}
use Rattle.cfb_rules.specs.CallReplies.{reply_of}
use Rattle.cfb_rules.specs.Calls.{Call, Reply, create_storage_all, create_stream, refused}
use Rattle.cfb_rules.proofs.CallBreaks.{creation_is_full}
use Rattle.cfb_rules.specs.Lists.{CallStep, ClosingStep, Deed, FileView, IsSeenAsBefore, LacksFor, LeavesAll, LeavesFile, StreamCallStep, by_call, by_closing, by_stream_call, causes_between, names_at}
use Rattle.cfb_rules.specs.Refusal.{Refusal, failed_earlier, file_full, invalid_input, medium_failed, not_sound, out_of_memory}
use Rattle.cfb_rules.specs.Runs.{BlamesOneOf, CallBreaksOff, Causes, CallRuns, Closes, FollowsRules, HasCause, IsBroken, IsStreamBroken, Setting, StreamBreaksOff, StreamCallRuns, StreamOnFailed, StreamRun, TreeState, Work, WorkMayBreak, is_served, may_leave_failed}
use Rattle.cfb_rules.specs.Runs as rules
use Rattle.cfb_rules.specs.Steps.{CallKind, asking, asking_freely, changing, creating, emptying, flushing, is_changing, is_there, kind_of, kind_on, outcome}
use Rattle.cfb_rules.specs.StreamCalls.{Moves, Refuses, StreamReply, StreamState, StreamStep, not_done, offset}
use Rattle.cfb_rules.specs.StreamCalls as streams
use Rattle.cfb_rules.proofs.LegalRuns.{call_weaker, closing_weaker, stream_call_weaker}
use Rattle.cfb_commands.specs.Commands.{stream_call_of}
use Rattle.cfb_commands.specs.cfb_stream_window.Windows.{whence_of}
use Rattle.cfb_commands.specs.declared.command.StreamOp.{StreamOp}
use Rattle.cfb_commands.specs.declared.command.StreamOp.TheVariants as op
use Rattle.cfb_promise.specs.CallRules.{Rule}
use Rattle.cfb_promise.specs.Files.{DiffersInContent, File, FullBy, FullByCall, FullCause, GrowsTightly, HasNoEntry, HasNoRoomFor, HasNoRoomForKept, HasSoundBytes, IsOneChange, Keeps, KeepsBack, LeavesAlone, LeavesSound, MeansIt, MemoryByCall, MemoryCause, StandsAt, Unfailed, slots_for}
use Rattle.cfb_promise.specs.Files as files
use Rattle.cfb_promise.specs.Steps.{Breaks, Closing, FollowsRule, IsLeft, LeavesUnsound, OnFailed, OpRuns, refusal_in}
use Rattle.cfb_promise.specs.Steps as short
use Rattle.cfb_promise.specs.StreamRules.{CanBreak, IsAllowed, IsLeftBy, OpBreaks, OpLeavesFile, OpOnFailed, OpStep, is_second, may_write, sought, work_of}
use Rattle.cfb_promise.proofs.Blaming.{blames, can_break, can_work, may_break, may_work, stream_is_full}
use Rattle.cfb_promise.proofs.Views.{at_top, same_reading}

-- ---- what the rules see

-- the rule of a call
abbrev pub rule_from : Cases → ℕ → Tree → Call → Rule
rule_from cases n tree call =
    record { kind = kind_on cases tree call; refusal = refusal_of cases tree call; reply = reply_of cases n tree call; tree = tree_after cases call tree }

module _ (cases : Cases) (version : Version) (sound : Bool) where
  abbrev pub setting_by : Setting
  setting_by = record { cases = cases; stream = record { limit = max_stream_len version; sound = sound } }

  -- what is seen of a file by its bytes, sound or not
  abbrev pub seen_by : File → FileView
  seen_by f = record {
    state = record { tree = f.tree; root_len = (root_entry f.reading).stream_len; failed = f.failed };
    failures = 2 ^ 64 - 1;
    full = MatchBool sound (Unfailed f (IsFull max_regular_sector f.reading)) ⊤;
    no_entry = MatchBool sound (Unfailed f (HasNoEntry f.reading)) ⊤;
    too_long = λ names len. MatchBool sound (Unfailed f (HasNoRoomFor cases f.reading names len)) ⊤;
  }

  -- and what each step keeps of it
  abbrev pub kept_by : File → Deed → File → Type 0
  kept_by old deed new = MatchBool sound (Keeps cases version old deed new) (LeavesUnsound old new)

  -- a sound one is sound by its bytes
  abbrev pub IsSet : File → Type 0
  IsSet f = Unfailed f (MatchBool sound (HasSoundBytes cases version f) ⊤)

-- ---- kinds

module _ (cases : Cases) (tree : Tree) where
  -- the kind of a call by itself, and on a tree
  by_kinds : (P : CallKind → CallKind → Type 0) → ((k : CallKind) → P k k) → P creating emptying → P creating changing → (call : Call) → P (kind_of call) (kind_on cases tree call)
  by_kinds P same e c (create_stream path) = go (is_there cases tree path)
    where
      go : (b : Bool) → P creating (if b then emptying else creating)
      go true = e
      go false = same creating
  by_kinds P same e c (create_storage_all path moment) = go (is_there cases tree path)
    where
      go : (b : Bool) → P creating (if b then changing else creating)
      go true = c
      go false = same creating
  by_kinds P same e c call = same (kind_of call)

  changing_same : (call : Call) → is_changing (kind_of call) ≡ is_changing (kind_on cases tree call)
  changing_same call = by_kinds (λ k l. is_changing k ≡ is_changing l) (λ k. refl) refl refl call

-- ---- causes

-- any call that can fail may blame the medium, which is memory; and the numbers where so much lacks
abbrev lacking : Bool → File → (lacks : Type 0) → Causes
lacking sound f lacks = record { medium = ⊤; full = MatchBool sound (Unfailed f lacks) ⊤ }

-- the tree stays, and the file has not failed
abbrev IsSame : (old new : File) → Type 0
IsSame old new = (new.tree ≡ old.tree) × (new.failed ≡ false)

-- what lacks is there where it is known of a sound file, and only there
cause_from : (b : Bool) (P : Type 0) → (IsTrue b → P) → MatchBool b P ⊤
cause_from true P f = f refl
cause_from false P f = tt

cause_to : (b : Bool) (P : Type 0) → IsTrue b → MatchBool b P ⊤ → P
cause_to true P is x = x
cause_to false P is x = absurd (let w : false ≡ true = is in cc)

module _ (sound : Bool) (old new : File) where
  -- nothing is asked of the medium
  no_rise : ⊤ → Rises (2 ^ 64 - 1) (2 ^ 64 - 1)
  no_rise x = at_top

  -- what lacks once the file has failed needs no cause
  lacks_there : (P : Type 0) → new.failed ≡ true → MatchBool sound (Unfailed new P) ⊤
  lacks_there P failed = go sound
    where
      go : (b : Bool) → MatchBool b (Unfailed new P) ⊤
      go true = λ calm. absurd (let w : true ≡ false = sym failed ∙ calm in cc)
      go false = tt

has_cause : (full : Type 0) → full → (reply : Reply) → HasCause (record { medium = ⊤; full = full }) reply
has_cause full x (refused medium_failed) = tt
has_cause full x (refused file_full) = x
has_cause full x (refused refusal) = tt
has_cause full x reply = tt

-- ---- tests

both_so : (a b : Bool) → IsTrue a → IsTrue b → IsTrue (a && b)
both_so true b x y = y
both_so false b x y = x

first_so : (a b : Bool) → IsTrue (a && b) → IsTrue a
first_so true b x = refl
first_so false b x = x

and_none : (a b : Bool) → a ≡ false → (a && b) ≡ false
and_none true b e = absurd (let w : true ≡ false = e in cc)
and_none false b e = refl

and_last : (a b : Bool) → b ≡ false → (a && b) ≡ false
and_last true b e = e
and_last false b e = refl

and_true : (a : Bool) → (a && true) ≡ false → a ≡ false
and_true true e = absurd (let w : true ≡ false = e in cc)
and_true false e = refl

and_rest : (a b : Bool) → a ≡ true → (a && b) ≡ false → b ≡ false
and_rest true b e x = x
and_rest false b e x = absurd (let w : false ≡ true = e in cc)

or_left : (a b : Bool) → a ≡ true → IsTrue (a || b)
or_left true b e = refl
or_left false b e = absurd (let w : false ≡ true = e in cc)

or_right : (a b : Bool) → b ≡ true → IsTrue (a || b)
or_right true b e = refl
or_right false b e = e

or_none : (a b : Bool) → (a || b) ≡ false → (a ≡ false) × (b ≡ false)
or_none true b e = absurd (let w : true ≡ false = e in cc)
or_none false b e = (refl, e)

or_so : (a b : Bool) → a ≡ false → b ≡ false → (a || b) ≡ false
or_so true b e f = absurd (let w : true ≡ false = e in cc)
or_so false b e f = f

short_write : (n : ℕ) → nat_le 65536 n ≡ false → n < 65536
short_write n short = grind (arith, nat_tests)

not_long : (n : ℕ) → n < 65536 → nat_le 65536 n ≡ false
not_long n short = grind (arith, nat_tests)

-- what a sound file keeps
full_of : (b : Bool) (old new : File) (K P : Type 0) → (K → P) → MatchBool b K (LeavesUnsound old new) → IsTrue b → P
full_of true old new K P f k is = f k
full_of false old new K P f k is = absurd (let w : false ≡ true = is in cc)

-- ---- what a step leaves

module _ (cases : Cases) (version : Version) (old new : File) where
  -- nothing is read otherwise where nothing was written
  reading_stays : (b : Bool) (may : ℕ → Type 0) (grows : ℕ) (nothing besides : Type 0) → IsSet cases version b old
      → MatchBool b (LeavesSound cases version old new may grows nothing besides) (LeavesUnsound old new)
      → nothing → old.failed ≡ false → new.failed ≡ false → new.reading ≡ old.reading
  reading_stays true may grows nothing besides set l none was calm = same_reading cases version old new (set was) (l.order.sound calm) (l.order.stays none calm)
  reading_stays false may grows nothing besides set l none was calm = (l.1 calm).1

  sticks_by : (b : Bool) (may : ℕ → Type 0) (grows : ℕ) (nothing besides : Type 0) → MatchBool b (LeavesSound cases version old new may grows nothing besides) (LeavesUnsound old new)
      → old.failed ≡ true → new.failed ≡ true
  sticks_by true may grows nothing besides l = l.order.failed
  sticks_by false may grows nothing besides l = l.0

  pub set_next : (b : Bool) (may : ℕ → Type 0) (grows : ℕ) (nothing besides : Type 0) → MatchBool b (LeavesSound cases version old new may grows nothing besides) (LeavesUnsound old new) → IsSet cases version b new
  set_next true may grows nothing besides l = l.order.sound
  set_next false may grows nothing besides l = λ calm. tt

  was_calm : (old.failed ≡ true → new.failed ≡ true) → new.failed ≡ false → old.failed ≡ false
  was_calm sticks calm = go old.failed refl
    where
      go : (b : Bool) → old.failed ≡ b → b ≡ false
      go true e = absurd (let w : true ≡ false = sym (sticks e) ∙ calm in cc)
      go false e = refl

  -- and nothing lacks then that did not
  lacks_before : (b : Bool) (P : Reading → Type 0) → new.reading ≡ old.reading → new.failed ≡ false → MatchBool b (Unfailed new (P new.reading)) ⊤ → MatchBool b (Unfailed old (P old.reading)) ⊤
  lacks_before true P same calm x = λ _. subst P same (x calm)
  lacks_before false P same calm x = tt

  pub seen_as_before : (b : Bool) → new.reading ≡ old.reading → new.failed ≡ false → IsSeenAsBefore (seen_by cases version b old) (seen_by cases version b new)
  seen_as_before b same calm = record {
    root_len = ap (λ (r : Reading). (root_entry r).stream_len) same;
    full = lacks_before b (λ r. IsFull max_regular_sector r) same calm;
    no_entry = lacks_before b (λ r. HasNoEntry r) same calm;
    too_long = λ names len. lacks_before b (λ r. HasNoRoomFor cases r names len) same calm;
  }

-- ---- calls by path

module _ (cases : Cases) (version : Version) (sound : Bool) (old new : File) (call : Call) (reply : Reply) where
  abbrev state : File → TreeState
  state f = record { tree = f.tree; root_len = (root_entry f.reading).stream_len; failed = f.failed }

  abbrev its_rule : Rule
  its_rule = rule_from cases (root_entry old.reading).stream_len old.tree call

  abbrev no_entry : Causes
  no_entry = lacking sound new (HasNoEntry new.reading)

  abbrev Nothing : Type 0
  Nothing = ((refusal : Refusal) × (reply ≡ refused refusal)) ⊎ (is_changing its_rule.kind ≡ false)

  abbrev Grows : ℕ
  Grows = slots_for version (kind_on cases (tree_of old.bytes old.reading) call) (files.most_made call)

  abbrev Besides : Type 0
  Besides = GrowsTightly old new × MeansIt new

  abbrev May : ℕ → Type 0
  May k = files.MayLose cases old.reading call k

  outcome_same : outcome cases sound old.tree call ≡ refusal_in cases version sound its_rule
  outcome_same = ap (λ b. option_map_or (λ refusal. Some refusal) (refusal_of cases old.tree call) (if b then unless sound not_sound else None)) (changing_same cases old.tree call)

  left_here : (k : CallKind) → old.failed ≡ false → CallBreaksOff k (state old) (state new) → IsLeft k old new
  left_here flushing calm (inl s) = absurd (let w : false ≡ true = s.0 in cc)
  left_here flushing calm (inr s) = s.1
  left_here k calm (inl s) = inl (ap (λ (x : TreeState). x.tree) s.1, ap (λ (x : TreeState). x.failed) s.1 ∙ calm)
  left_here k calm (inr s) = inr s

  left_back : (k : CallKind) → (IsSame old new → state new ≡ state old) → IsLeft k old new → CallBreaksOff k (state old) (state new)
  left_back flushing up s = inr (refl, s)
  left_back k up (inl s) = inl (refl, up s)
  left_back k up (inr s) = inr s

  failed_here : (k : CallKind) → rules.OnFailed no_entry k reply (state new) → OnFailed k reply
  failed_here asking h = tt
  failed_here asking_freely h = tt
  failed_here k h = h.0

  failed_back : (k : CallKind) → new.failed ≡ true → OnFailed k reply → rules.OnFailed no_entry k reply (state new)
  failed_back asking f h = (has_cause no_entry.full (lacks_there sound old new (HasNoEntry new.reading) f) reply, f)
  failed_back asking_freely f h = (has_cause no_entry.full (lacks_there sound old new (HasNoEntry new.reading) f) reply, f)
  failed_back k f h = (h, f)

  runs_here : CallRuns no_entry (setting_by cases version sound) (state old) call reply (state new)
      → MatchBool old.failed (OnFailed its_rule.kind reply) (FollowsRule cases version sound old its_rule reply new ⊎ Breaks cases version sound old its_rule reply new)
  runs_here h = go old.failed refl h
    where
      go : (b : Bool) → old.failed ≡ b
          → MatchBool b (rules.OnFailed no_entry (kind_of call) reply (state new))
          (FollowsRules (setting_by cases version sound) (state old) call reply (state new) ⊎ IsBroken no_entry (setting_by cases version sound) (state old) call reply (state new))
          → MatchBool b (OnFailed its_rule.kind reply) (FollowsRule cases version sound old its_rule reply new ⊎ Breaks cases version sound old its_rule reply new)
      go true e x = by_kinds cases old.tree (λ k l. rules.OnFailed no_entry k reply (state new) → OnFailed l reply) failed_here (λ y. y.0) (λ y. y.0) call x
      go false e (inl f) = inl (record {
        step = subst (λ o. MatchOption o ((reply ≡ its_rule.reply) × (new.tree ≡ its_rule.tree)) (λ refusal. (reply ≡ refused refusal) × (new.tree ≡ old.tree))) outcome_same f.step;
        root_len = f.root_len;
        unfailed = f.unfailed;
      })
      go false e (inr x) = inr (record {
        refusal = x.0.0;
        can = can_break no_entry its_rule.kind x.0.0 x.0.1;
        told = x.0.2;
        allowed = elim x.0.3 [
          | inl m ↦ inl (m.0, (ap (λ (s : TreeState). s.tree) m.1, ap (λ (s : TreeState). s.failed) m.1 ∙ e))
          | inr o ↦ inr (sym outcome_same ∙ o)
        ];
        left = by_kinds cases old.tree (λ k l. CallBreaksOff k (state old) (state new) → IsLeft l old new) (λ k. left_here k e) (left_here emptying e) (left_here changing e) call x.1;
      })

  runs_back : (IsSame old new → Nothing → old.failed ≡ false → state new ≡ state old) → (old.failed ≡ true → new.failed ≡ true)
      → (old.failed ≡ false → reply ≡ refused file_full → no_entry.full)
      → MatchBool old.failed (OnFailed its_rule.kind reply) (FollowsRule cases version sound old its_rule reply new ⊎ Breaks cases version sound old its_rule reply new)
      → CallRuns no_entry (setting_by cases version sound) (state old) call reply (state new)
  runs_back up sticks lacks h = go old.failed refl h
    where
      go : (b : Bool) → old.failed ≡ b
          → MatchBool b (OnFailed its_rule.kind reply) (FollowsRule cases version sound old its_rule reply new ⊎ Breaks cases version sound old its_rule reply new)
          → MatchBool b (rules.OnFailed no_entry (kind_of call) reply (state new))
          (FollowsRules (setting_by cases version sound) (state old) call reply (state new) ⊎ IsBroken no_entry (setting_by cases version sound) (state old) call reply (state new))
      go true e x = by_kinds cases old.tree (λ k l. OnFailed l reply → rules.OnFailed no_entry k reply (state new)) (λ k. failed_back k (sticks e)) (λ y. (y, sticks e)) (λ y. (y, sticks e)) call x
      go false e (inl f) = inl (record {
        step = subst (λ o. MatchOption o ((reply ≡ its_rule.reply) × (new.tree ≡ its_rule.tree)) (λ refusal. (reply ≡ refused refusal) × (new.tree ≡ old.tree))) (sym outcome_same) f.step;
        root_len = f.root_len;
        unfailed = f.unfailed;
      })
      go false e (inr x) = inr (
        (
          x.refusal,
          may_break no_entry its_rule.kind x.refusal tt (λ is. lacks e (x.told ∙ ap (λ (q : Refusal). refused q) is)) x.can,
          x.told,
          elim x.allowed [
            | inl m ↦ inl (m.0, up m.1 (inl (x.refusal, x.told)) e)
            | inr o ↦ inr (outcome_same ∙ o)
          ],
        ),
        by_kinds cases old.tree (λ k l. IsLeft l old new → CallBreaksOff k (state old) (state new)) (λ k. left_back k (λ s. up s (inl (x.refusal, x.told)) e))
            (left_back emptying (λ s. up s (inl (x.refusal, x.told)) e)) (left_back changing (λ s. up s (inl (x.refusal, x.told)) e)) call x.left,
      )

  nothing_here : LeavesAll call reply → Nothing
  nothing_here (inl r) = inl r
  nothing_here (inr e) = inr (sym (changing_same cases old.tree call) ∙ e)

  nothing_back : Nothing → LeavesAll call reply
  nothing_back (inl r) = inl r
  nothing_back (inr e) = inr (changing_same cases old.tree call ∙ e)

  leaves_here : (b : Bool) → MatchBool b (Keeps cases version old (by_call call reply) new) (LeavesUnsound old new)
      → MatchBool b (LeavesSound cases version old new May Grows Nothing Besides) (LeavesUnsound old new)
  leaves_here true k = record {
    order = record {
      failed = k.order.failed;
      others = k.order.others;
      header = k.order.header;
      sound = k.order.sound;
      parts = k.order.parts;
      lost = k.order.lost;
      entries = k.order.entries;
      stays = λ none. k.order.stays (nothing_back none);
    };
    besides = λ calm. (k.tight tt calm, k.means tt calm);
  }
  leaves_here false k = k

  -- what is said where it blames the numbers, or memory
  abbrev pub Caused : Type 0
  Caused = old.failed ≡ false → (reply ≡ refused file_full → FullByCall cases version old call new × Unfailed new (HasNoEntry new.reading))
      × (reply ≡ refused out_of_memory → MemoryByCall cases old call new)

  leaves_back : (b : Bool) → (IsTrue b → Caused) → MatchBool b (LeavesSound cases version old new May Grows Nothing Besides) (LeavesUnsound old new)
      → MatchBool b (Keeps cases version old (by_call call reply) new) (LeavesUnsound old new)
  leaves_back true caused l = record {
    order = record {
      failed = l.order.failed;
      others = l.order.others;
      header = l.order.header;
      sound = l.order.sound;
      parts = l.order.parts;
      lost = l.order.lost;
      entries = l.order.entries;
      stays = λ none. l.order.stays (nothing_here none);
    };
    tight = λ one calm. (l.besides calm).0;
    content = λ calm. tt;
    means = λ is calm. (l.besides calm).1;
    full = λ e calm. ((caused refl calm).0 e).0;
    memory = λ e calm. (caused refl calm).1 e;
    kept_back = λ no. absurd no;
  }
  leaves_back false caused l = l

  abbrev pub LongCall : Type 0
  LongCall = CallStep (seen_by cases version sound) (kept_by cases version sound) (setting_by cases version sound) old call reply new

  abbrev pub ShortCall : Type 0
  ShortCall = short.CallStep cases version sound old its_rule May Grows reply new

  pub call_here : LongCall → ShortCall
  call_here h = record {
    runs = runs_here (call_weaker (causes_between (seen_by cases version sound old) (seen_by cases version sound new) no_entry.full) no_entry (λ x. tt) (λ x. x)
        (setting_by cases version sound) (state old) (state new) call reply h.runs);
    leaves = leaves_here sound h.kept;
  }

  pub call_caused : LongCall → IsTrue sound → Caused
  call_caused h is calm =
      let k = full_of sound old new (Keeps cases version old (by_call call reply) new)
      (FullCause cases version old (by_call call reply) new × MemoryCause cases old (by_call call reply) new) (λ k. (k.full, k.memory)) h.kept is in
      let long : Causes = causes_between (seen_by cases version sound old) (seen_by cases version sound new) no_entry.full in (
        λ e. (
          k.0 e calm,
          cause_to sound (Unfailed new (HasNoEntry new.reading)) is
              (creation_is_full long (setting_by cases version sound) (state old) (state new) call
              (subst (λ (x : Reply). CallRuns long (setting_by cases version sound) (state old) call x (state new)) e h.runs) calm).1,
        ),
        λ e. k.1 e calm,
      )

  pub call_back : IsSet cases version sound old → (IsTrue sound → Caused) → ShortCall → LongCall
  call_back set caused h =
      let sticks = sticks_by cases version old new sound May Grows Nothing Besides h.leaves in
      let same = reading_stays cases version old new sound May Grows Nothing Besides set h.leaves in
      record {
        runs = call_weaker no_entry (causes_between (seen_by cases version sound old) (seen_by cases version sound new) no_entry.full) (no_rise sound old new) (λ x. x)
            (setting_by cases version sound) (state old) (state new) call reply
            (runs_back (λ s none was j. record { tree = s.0 j; root_len = (root_entry (same none was s.1 j)).stream_len; failed = (s.1 ∙ sym was) j }) sticks
            (λ was e. cause_from sound (Unfailed new (HasNoEntry new.reading)) (λ is. ((caused is was).0 e).1)) h.runs);
        stays = λ none calm. seen_as_before cases version old new sound (same (nothing_here none) (was_calm cases version old new sticks calm) calm) calm;
        counted = λ none. refl;
        kept = leaves_back sound caused h.leaves;
      }

-- ---- operations on a stream

-- a reply that is served is no refusal
no_refusal : (reply : StreamReply) → is_served reply ≡ true → (refusal : Refusal) → reply ≢ not_done refusal
no_refusal reply is refusal e = let w : false ≡ true = sym (ap is_served e) ∙ is in cc

served : (reply : StreamReply) → ((refusal : Refusal) → reply ≢ not_done refusal) → is_served reply ≡ true
served (not_done refusal) never = absurd (never refusal refl)
served reply never = refl

sought_same : (s : StreamState) (to : SeekFrom) → streams.sought s (whence_of to) ≡ sought s to
sought_same s (Start at) = refl
sought_same s (End distance) = refl
sought_same s (Current distance) = refl

module _ (cases : Cases) (version : Version) (sound : Bool) (names : List (List ℕ)) (s t : StreamState) (old new : File) (reply : StreamReply) where
  abbrev limits : streams.StreamSetting
  limits = record { limit = max_stream_len version; sound = sound }

  abbrev run_now : StreamRun
  run_now = record { stream = t; failed = new.failed }

  module _ {A : Type 0} where
    step_here : (o : StreamOp A) → StreamStep limits s (stream_call_of o) reply t → OpStep limits s o reply t
    step_here (op.Seek to) h = subst (λ w. MatchOption w (Refuses invalid_input s reply t) (λ at. (reply ≡ offset at) × Moves s t at 0)) (sought_same s to) h
    step_here o h = h

    step_back : (o : StreamOp A) → OpStep limits s o reply t → StreamStep limits s (stream_call_of o) reply t
    step_back (op.Seek to) h = subst (λ w. MatchOption w (Refuses invalid_input s reply t) (λ at. (reply ≡ offset at) × Moves s t at 0)) (sym (sought_same s to)) h
    step_back o h = h

    work_same : (o : StreamOp A) → rules.work_of s (stream_call_of o) ≡ work_of s o
    work_same (op.Seek to) = refl
    work_same o = refl

    allowed_here : (o : StreamOp A) → rules.IsAllowed limits s (stream_call_of o) → IsAllowed limits s o
    allowed_here (op.Seek to) h = subst (λ w. is_some w ≡ true) (sought_same s to) h
    allowed_here o h = h

    allowed_back : (o : StreamOp A) → IsAllowed limits s o → rules.IsAllowed limits s (stream_call_of o)
    allowed_back (op.Seek to) h = subst (λ w. is_some w ≡ true) (sym (sought_same s to)) h
    allowed_back o h = h

    failed_op : (o : StreamOp A) → StreamOnFailed (stream_call_of o) reply run_now → OpOnFailed o reply
    failed_op op.Position h = no_refusal reply h.1
    failed_op op.Len h = no_refusal reply h.1
    failed_op o h = h.1

    failed_op_back : (o : StreamOp A) → new.failed ≡ true → OpOnFailed o reply → StreamOnFailed (stream_call_of o) reply run_now
    failed_op_back op.Position f h = (f, served reply h)
    failed_op_back op.Len f h = (f, served reply h)
    failed_op_back o f h = (f, h)

    -- what lacks where the numbers are blamed
    abbrev lacks_of : StreamOp A → Causes
    lacks_of o = record { medium = ⊤; full = LacksFor (seen_by cases version sound new) names (stream_call_of o) }

    -- a short write with nothing pending keeps its bytes back
    abbrev IsKept : StreamOp A → Type 0
    IsKept o = KeepsBack (by_stream_call names s (stream_call_of o) reply t) → LeavesAlone old new

    -- what may be written to the file is what the rules say, but for such a write
    writes_here : (o : StreamOp A) → IsKept o → old.failed ≡ false → new.failed ≡ true → IsTrue (may_leave_failed s.pending (work_of s o)) → IsTrue (may_write s o)
    writes_here (op.Write bytes) kept was failed may = go s.pending refl (nat_le 65536 (length bytes.items)) refl
      where
        go : (p : Bool) → s.pending ≡ p → (b : Bool) → nat_le 65536 (length bytes.items) ≡ b → IsTrue (may_leave_failed s.pending (work_of s (op.Write bytes)) && (s.pending || nat_le 65536 (length bytes.items)))
        go true e b f = both_so _ _ may (or_left s.pending (nat_le 65536 (length bytes.items)) e)
        go false e true f = both_so _ _ may (or_right s.pending (nat_le 65536 (length bytes.items)) f)
        go false e false f = absurd (let w : true ≡ false = sym failed ∙ (kept (e, short_write (length bytes.items) f)).calm was in cc)
    writes_here o kept was failed may = may

    writes_back : (o : StreamOp A) → IsTrue (may_write s o) → IsTrue (may_leave_failed s.pending (work_of s o))
    writes_back (op.Write bytes) may = first_so _ _ may
    writes_back o may = may

    op_left_here : (o : StreamOp A) (r : Refusal) → IsKept o → old.failed ≡ false → StreamBreaksOff s (work_of s o) r run_now → IsLeftBy s o r t new.failed
    op_left_here o r kept was (inl x) = inl (x.0, ap (λ (z : StreamRun). z.stream) x.1, ap (λ (z : StreamRun). z.failed) x.1)
    op_left_here o r kept was (inr x) = inr (writes_here o kept was x.1 x.0, x.1)

    op_left_back : (o : StreamOp A) (r : Refusal) → IsLeftBy s o r t new.failed → StreamBreaksOff s (work_of s o) r run_now
    op_left_back o r (inl x) = inl (x.0, λ j. record { stream = x.1 j; failed = x.2 j })
    op_left_back o r (inr x) = inr (writes_back o x.0, x.1)

    broken_op : (o : StreamOp A) → IsKept o → old.failed ≡ false → IsStreamBroken (lacks_of o) limits s (stream_call_of o) reply run_now → OpBreaks limits s o reply t new.failed
    broken_op o kept was x = (
      x.0,
      subst (λ (w : Work). CanBreak s.pending w x.0) (work_same o) (can_work (lacks_of o) s.pending (rules.work_of s (stream_call_of o)) x.0 x.1),
      x.2,
      op_left_here o x.0 kept was (subst (λ (w : Work). StreamBreaksOff s w x.0 run_now) (work_same o) x.3),
      allowed_here o x.4,
    )

    broken_op_back : (o : StreamOp A) → (reply ≡ not_done file_full → (lacks_of o).full) → OpBreaks limits s o reply t new.failed → IsStreamBroken (lacks_of o) limits s (stream_call_of o) reply run_now
    broken_op_back o full x = (
      x.0,
      subst (λ (w : Work). WorkMayBreak (lacks_of o) s.pending w x.0) (sym (work_same o))
          (may_work (lacks_of o) s.pending (work_of s o) x.0 tt (λ is. full (x.2 ∙ ap (λ (q : Refusal). not_done q) is)) x.1),
      x.2,
      subst (λ (w : Work). StreamBreaksOff s w x.0 run_now) (sym (work_same o)) (op_left_back o x.0 x.3),
      allowed_back o x.4,
    )

    runs_op : (o : StreamOp A) → (old.failed ≡ false → IsStreamBroken (lacks_of o) limits s (stream_call_of o) reply run_now → IsKept o)
        → StreamCallRuns (lacks_of o) limits (record { stream = s; failed = old.failed }) (stream_call_of o) reply run_now
        → MatchBool old.failed (OpOnFailed o reply) ((OpStep limits s o reply t × (new.failed ≡ false)) ⊎ OpBreaks limits s o reply t new.failed)
    runs_op o kept h = go old.failed refl h
      where
        go : (b : Bool) → old.failed ≡ b → MatchBool b (StreamOnFailed (stream_call_of o) reply run_now)
            ((StreamStep limits s (stream_call_of o) reply t × (new.failed ≡ false)) ⊎ IsStreamBroken (lacks_of o) limits s (stream_call_of o) reply run_now)
            → MatchBool b (OpOnFailed o reply) ((OpStep limits s o reply t × (new.failed ≡ false)) ⊎ OpBreaks limits s o reply t new.failed)
        go true e x = failed_op o x
        go false e (inl x) = inl (step_here o x.0, x.1)
        go false e (inr x) = inr (broken_op o (kept e x) e x)

    runs_op_back : (o : StreamOp A) → (old.failed ≡ true → new.failed ≡ true) → (old.failed ≡ false → reply ≡ not_done file_full → (lacks_of o).full)
        → MatchBool old.failed (OpOnFailed o reply) ((OpStep limits s o reply t × (new.failed ≡ false)) ⊎ OpBreaks limits s o reply t new.failed)
        → StreamCallRuns (lacks_of o) limits (record { stream = s; failed = old.failed }) (stream_call_of o) reply run_now
    runs_op_back o sticks full h = go old.failed refl h
      where
        go : (b : Bool) → old.failed ≡ b → MatchBool b (OpOnFailed o reply) ((OpStep limits s o reply t × (new.failed ≡ false)) ⊎ OpBreaks limits s o reply t new.failed)
            → MatchBool b (StreamOnFailed (stream_call_of o) reply run_now)
            ((StreamStep limits s (stream_call_of o) reply t × (new.failed ≡ false)) ⊎ IsStreamBroken (lacks_of o) limits s (stream_call_of o) reply run_now)
        go true e x = failed_op_back o (sticks e) x
        go false e (inl x) = inl (step_back o x.0, x.1)
        go false e (inr x) = inr (broken_op_back o (full e) x)

    -- where an operation had nothing to write, or was a short write with nothing pending
    idle_here : (o : StreamOp A) → IsKept o → Unfailed new (LeavesFile s (stream_call_of o) reply → new.bytes ≡ old.bytes) → OpLeavesFile s o reply → Unfailed new (new.bytes ≡ old.bytes)
    idle_here o kept stays (inl r) calm = stays calm (inl r)
    idle_here (op.Write bytes) kept stays (inr e) calm = go (may_leave_failed s.pending (work_of s (op.Write bytes))) refl
      where
        go : (b : Bool) → may_leave_failed s.pending (work_of s (op.Write bytes)) ≡ b → new.bytes ≡ old.bytes
        go false f = stays calm (inr f)
        go true f =
            let none = or_none s.pending (nat_le 65536 (length bytes.items)) (and_rest _ _ f e) in
            (kept (none.0, short_write (length bytes.items) none.1)).same calm
    idle_here o kept stays (inr e) calm = stays calm (inr (ap (may_leave_failed s.pending) (work_same o) ∙ e))

    file_here : (o : StreamOp A) → LeavesFile s (stream_call_of o) reply → OpLeavesFile s o reply
    file_here o (inl r) = inl r
    file_here (op.Write bytes) (inr e) = inr (and_none _ _ e)
    file_here o (inr e) = inr (ap (may_leave_failed s.pending) (sym (work_same o)) ∙ e)

    -- whether it is one change
    one_here : (o : StreamOp A) → is_second s o ≡ false → IsOneChange (by_stream_call names s (stream_call_of o) reply t)
    one_here (op.Write bytes) e = e
    one_here (op.SetLen len) e = and_none s.pending true e
    one_here o e = and_last s.pending false refl

    one_back : (o : StreamOp A) → IsOneChange (by_stream_call names s (stream_call_of o) reply t) → is_second s o ≡ false
    one_back (op.Write bytes) e = e
    one_back (op.SetLen len) e = and_true s.pending e
    one_back o e = refl

    module _ (o : StreamOp A) where
      abbrev At : ℕ → Type 0
      At k = StandsAt cases old.reading names k

      abbrev Idle : Type 0
      Idle = OpLeavesFile s o reply

      abbrev Differs : Type 0
      Differs = (is_second s o ≡ false → GrowsTightly old new) × DiffersInContent cases names old new

      abbrev its_deed : Deed
      its_deed = by_stream_call names s (stream_call_of o) reply t

      op_leaves_here : (b : Bool) → MatchBool b (Keeps cases version old its_deed new) (LeavesUnsound old new)
          → MatchBool b (LeavesSound cases version old new At 0 Idle Differs) (LeavesUnsound old new)
      op_leaves_here true k = record {
        order = record {
          failed = k.order.failed;
          others = k.order.others;
          header = k.order.header;
          sound = k.order.sound;
          parts = k.order.parts;
          lost = k.order.lost;
          entries = k.order.entries;
          stays = λ none. idle_here o k.kept_back (λ calm leaves. k.order.stays leaves calm) none;
        };
        besides = λ calm. (λ one. k.tight (one_here o one) calm, k.content calm);
      }
      op_leaves_here false k = k

      -- a file that is not sound refuses a write by the rules
      kept_so : (b : Bool) → sound ≡ b → MatchBool b (Keeps cases version old its_deed new) (LeavesUnsound old new)
          → IsStreamBroken (lacks_of o) limits s (stream_call_of o) reply run_now → IsKept o
      kept_so true e k x = k.kept_back
      kept_so false e k x = λ is. absurd (unsound_writes o is (sym e) x)
        where
          unsound_writes : (q : StreamOp A) → KeepsBack (by_stream_call names s (stream_call_of q) reply t) → false ≡ sound
              → IsStreamBroken (lacks_of q) limits s (stream_call_of q) reply run_now → ⊥
          unsound_writes (op.Write bytes) is f y = let w : false ≡ true = f ∙ y.4.1 in cc
          unsound_writes q is f y = is

      op_full : (x : StreamOp A) → FullBy cases version old names s (stream_call_of x) new → LacksFor (seen_by cases version true new) names (stream_call_of x)
          → short.FullFor cases version sound names s old x new
      op_full (op.SetLen len) y lacks = (y, lacks y)
      op_full (op.Write bytes) y lacks = (y, lacks)
      op_full x y lacks = (y, lacks)

      op_full_back : (x : StreamOp A) → short.FullFor cases version sound names s old x new
          → FullBy cases version old names s (stream_call_of x) new × LacksFor (seen_by cases version true new) names (stream_call_of x)
      op_full_back (op.SetLen len) y = (y.0, λ calm. y.1)
      op_full_back (op.Write bytes) y = y
      op_full_back x y = y

      -- what is seen of a sound file lacks
      lacks_to : (b : Bool) → IsTrue b → (x : StreamOp A) → LacksFor (seen_by cases version b new) names (stream_call_of x) → LacksFor (seen_by cases version true new) names (stream_call_of x)
      lacks_to true is x y = y
      lacks_to false is x y = absurd (let w : false ≡ true = is in cc)

      lacks_from : (b : Bool) (x : StreamOp A) → (IsTrue b → LacksFor (seen_by cases version true new) names (stream_call_of x)) → LacksFor (seen_by cases version b new) names (stream_call_of x)
      lacks_from true x y = y refl
      lacks_from false (op.SetLen len) y = tt
      lacks_from false x y = tt

      -- a short write with nothing pending fails no file
      keeps_back : (x : StreamOp A) → KeepsBack (by_stream_call names s (stream_call_of x) reply t) → may_write s x ≡ false
      keeps_back (op.Write bytes) is = and_last _ _ (or_so s.pending (nat_le 65536 (length bytes.items)) is.0 (not_long (length bytes.items) is.1))
      keeps_back x is = absurd is

      left_alone : MatchBool old.failed (OpOnFailed o reply) ((OpStep limits s o reply t × (new.failed ≡ false)) ⊎ OpBreaks limits s o reply t new.failed)
          → (Idle → Unfailed new (new.bytes ≡ old.bytes)) → IsKept o
      left_alone runs stays is = record { calm = λ was. go old.failed was runs; same = stays (inr (keeps_back o is)) }
        where
          go : (b : Bool) → b ≡ false → MatchBool b (OpOnFailed o reply) ((OpStep limits s o reply t × (new.failed ≡ false)) ⊎ OpBreaks limits s o reply t new.failed)
              → new.failed ≡ false
          go true e x = absurd (let w : true ≡ false = e in cc)
          go false e (inl x) = x.1
          go false e (inr x) = elim x.3 [
            | inl y ↦ y.2
            | inr y ↦ absurd (let w : false ≡ true = sym (keeps_back o is) ∙ y.0 in cc)
          ]

      op_leaves_back : (b : Bool) → (IsTrue b → reply ≡ not_done file_full → Unfailed old (short.FullFor cases version sound names s old o new))
          → MatchBool old.failed (OpOnFailed o reply) ((OpStep limits s o reply t × (new.failed ≡ false)) ⊎ OpBreaks limits s o reply t new.failed)
          → MatchBool b (LeavesSound cases version old new At 0 Idle Differs) (LeavesUnsound old new)
          → MatchBool b (Keeps cases version old its_deed new) (LeavesUnsound old new)
      op_leaves_back true full runs l = record {
        order = record {
          failed = l.order.failed;
          others = l.order.others;
          header = l.order.header;
          sound = l.order.sound;
          parts = l.order.parts;
          lost = l.order.lost;
          entries = l.order.entries;
          stays = λ none. l.order.stays (file_here o none);
        };
        tight = λ one calm. (l.besides calm).0 (one_back o one);
        content = λ calm. (l.besides calm).1;
        means = λ no. absurd no;
        full = λ e calm. (op_full_back o (full refl e calm)).0;
        memory = tt;
        kept_back = left_alone runs l.order.stays;
      }
      op_leaves_back false full runs l = l

      pub op_here : StreamCallStep (seen_by cases version sound) (kept_by cases version sound) (setting_by cases version sound) names s old (stream_call_of o) reply t new
          → OpRuns cases version sound names s old o reply t new
      op_here h =
          let runs = stream_call_weaker
          (causes_between (seen_by cases version sound old) (seen_by cases version sound new) (LacksFor (seen_by cases version sound new) names (stream_call_of o))) (lacks_of o)
          (λ x. tt) (λ x. x) limits (record { stream = s; failed = old.failed }) run_now (stream_call_of o) reply h.runs in
          record {
            runs = runs_op o (λ was x. kept_so sound refl h.kept x) runs;
            leaves = op_leaves_here sound h.kept;
            full = λ is e was. op_full o (full_of sound old new (Keeps cases version old its_deed new) (FullCause cases version old its_deed new) (λ k. k.full) h.kept is e was)
                (lacks_to sound is o (stream_is_full (lacks_of o) limits (record { stream = s; failed = old.failed }) run_now (stream_call_of o) reply e was runs));
          }

      pub op_back : IsSet cases version sound old → OpRuns cases version sound names s old o reply t new
          → StreamCallStep (seen_by cases version sound) (kept_by cases version sound) (setting_by cases version sound) names s old (stream_call_of o) reply t new
      op_back set h =
          let sticks = sticks_by cases version old new sound At 0 Idle Differs h.leaves in
          record {
            runs = stream_call_weaker (lacks_of o)
                (causes_between (seen_by cases version sound old) (seen_by cases version sound new) (LacksFor (seen_by cases version sound new) names (stream_call_of o)))
                (no_rise sound old new) (λ x. x) limits (record { stream = s; failed = old.failed }) run_now (stream_call_of o) reply
                (runs_op_back o sticks (λ was e. lacks_from sound o (λ is. (op_full_back o (h.full is e was)).1)) h.runs);
            stays = λ none calm. seen_as_before cases version old new sound
                (reading_stays cases version old new sound At 0 Idle Differs set h.leaves (file_here o none) (was_calm cases version old new sticks calm) calm) calm;
            counted = λ none. refl;
            kept = op_leaves_back sound h.full h.runs h.leaves;
          }

-- ---- closing

module _ (cases : Cases) (version : Version) (sound : Bool) (path : List ℕ) (tree : Tree) (s : StreamState) (old new : File) (closing : Option Refusal) where
  abbrev At' : ℕ → Type 0
  At' k = StandsAt cases old.reading (names_at path) k

  abbrev Done : Type 0
  Done = GrowsTightly old new × DiffersInContent cases (names_at path) old new × MeansIt new

  abbrev full : Causes
  full = lacking sound new (IsFull max_regular_sector new.reading)

  abbrev IsClosed : Type 0
  IsClosed = new.tree ≡ (if sound then content_changed_at cases s.content (names_at path) tree else tree)

  abbrev stream_then : StreamRun
  stream_then = record { stream = s; failed = old.failed }

  closes_here : Closes full stream_then closing new.failed → MatchBool old.failed (closing ≡ Some failed_earlier)
      (MatchOption closing (new.failed ≡ false) (λ refusal. IsTrue s.pending × BlamesOneOf ⊤ ⊤ ⊤ refusal × (new.failed ≡ true)))
  closes_here h = go old.failed closing h
    where
      go : (b : Bool) (o : Option Refusal) → MatchBool b ((o ≡ Some failed_earlier) × (new.failed ≡ true))
          (MatchOption o (new.failed ≡ false) (λ refusal. IsTrue s.pending × BlamesOneOf full.medium ⊤ full.full refusal × (new.failed ≡ true)))
          → MatchBool b (o ≡ Some failed_earlier) (MatchOption o (new.failed ≡ false) (λ refusal. IsTrue s.pending × BlamesOneOf ⊤ ⊤ ⊤ refusal × (new.failed ≡ true)))
      go true o x = x.0
      go false None x = x
      go false (Some refusal) x = (x.0, blames full.medium ⊤ full.full ⊤ ⊤ ⊤ refusal (λ y. tt) (λ y. y) (λ e y. tt) x.1, x.2)

  closes_back : (old.failed ≡ true → new.failed ≡ true) → MatchBool old.failed (closing ≡ Some failed_earlier)
      (MatchOption closing (new.failed ≡ false) (λ refusal. IsTrue s.pending × BlamesOneOf ⊤ ⊤ ⊤ refusal × (new.failed ≡ true))) → Closes full stream_then closing new.failed
  closes_back sticks h = go old.failed refl closing h
    where
      go : (b : Bool) → old.failed ≡ b → (o : Option Refusal)
          → MatchBool b (o ≡ Some failed_earlier) (MatchOption o (new.failed ≡ false) (λ refusal. IsTrue s.pending × BlamesOneOf ⊤ ⊤ ⊤ refusal × (new.failed ≡ true)))
          → MatchBool b ((o ≡ Some failed_earlier) × (new.failed ≡ true))
          (MatchOption o (new.failed ≡ false) (λ refusal. IsTrue s.pending × BlamesOneOf full.medium ⊤ full.full refusal × (new.failed ≡ true)))
      go true e o x = (x, sticks e)
      go false e None x = x
      go false e (Some refusal) x = (
        x.0,
        blames ⊤ ⊤ ⊤ full.medium ⊤ full.full refusal (λ y. tt) (λ y. y) (λ e y. lacks_there sound old new (IsFull max_regular_sector new.reading) x.2) x.1,
        x.2,
      )

  unless_failed : (X : Type 0) → MatchBool new.failed ⊤ X → Unfailed new X
  unless_failed X h = go new.failed refl h
    where
      go : (b : Bool) → new.failed ≡ b → MatchBool b ⊤ X → new.failed ≡ false → X
      go true e x calm = absurd (let w : true ≡ false = sym e ∙ calm in cc)
      go false e x calm = x

  unless_failed_back : (X : Type 0) → Unfailed new X → MatchBool new.failed ⊤ X
  unless_failed_back X h = go new.failed refl
    where
      go : (b : Bool) → new.failed ≡ b → MatchBool b ⊤ X
      go true e = tt
      go false e = h e

  closing_leaves : (b : Bool) → MatchBool b (Keeps cases version old (by_closing (names_at path) s closing) new) (LeavesUnsound old new)
      → MatchBool b (LeavesSound cases version old new At' 0 (s.pending ≡ false) Done) (LeavesUnsound old new)
  closing_leaves true k = record { order = k.order; besides = λ calm. (k.tight tt calm, k.content calm, k.means tt calm) }
  closing_leaves false k = k

  closing_leaves_back : (b : Bool) → (IsTrue b → closing ≡ Some file_full → Unfailed old (HasNoRoomForKept cases old (names_at path) s)) → MatchBool b (LeavesSound cases version old new At' 0 (s.pending ≡ false) Done) (LeavesUnsound old new)
      → MatchBool b (Keeps cases version old (by_closing (names_at path) s closing) new) (LeavesUnsound old new)
  closing_leaves_back true why l = record {
    order = l.order;
    tight = λ one calm. (l.besides calm).0;
    content = λ calm. (l.besides calm).1;
    means = λ is calm. (l.besides calm).2;
    full = why refl;
    memory = tt;
    kept_back = λ no. absurd no;
  }
  closing_leaves_back false why l = l

  pub closing_here : ClosingStep (seen_by cases version sound) (kept_by cases version sound) (setting_by cases version sound) path tree s old closing new
      → Closing cases version sound (names_at path) tree s old closing new
  closing_here h = record {
    closes = closes_here (closing_weaker (causes_between (seen_by cases version sound old) (seen_by cases version sound new) full.full) full (λ x. tt) (λ x. x) stream_then closing new.failed h.closes);
    closed = unless_failed IsClosed h.closed;
    leaves = closing_leaves sound h.kept;
    full = full_of sound old new (Keeps cases version old (by_closing (names_at path) s closing) new) (closing ≡ Some file_full → Unfailed old (HasNoRoomForKept cases old (names_at path) s)) (λ k. k.full) h.kept;
  }

  pub closing_back : IsSet cases version sound old → Closing cases version sound (names_at path) tree s old closing new
      → ClosingStep (seen_by cases version sound) (kept_by cases version sound) (setting_by cases version sound) path tree s old closing new
  closing_back set h =
      let sticks = sticks_by cases version old new sound At' 0 (s.pending ≡ false) Done h.leaves in
      record {
        closes = closing_weaker full (causes_between (seen_by cases version sound old) (seen_by cases version sound new) full.full) (no_rise sound old new) (λ x. x) stream_then closing new.failed
            (closes_back sticks h.closes);
        closed = unless_failed_back IsClosed h.closed;
        stays = λ none calm. seen_as_before cases version old new sound
            (reading_stays cases version old new sound At' 0 (s.pending ≡ false) Done set h.leaves none (was_calm cases version old new sticks calm) calm) calm;
        counted = λ none. refl;
        kept = closing_leaves_back sound h.full h.leaves;
      }
