-- Lists of commands: what is blamed in them, and that they are legal of their trees.
use Rattle.std.proofs.Common.{◌≡◌, ◌≤◌, ◌<◌, ◌+◌, ◌-◌, ◌^◌, ◌⊎◌, ℕ, List, [], ◌∷◌, Bool, true, false, refl, sym, ◌∙◌, ap, subst, inl, inr, arith, lit≤}
use Rattle.std.specs.Prelude.{⊤, Option, Some, None, MatchOption, MatchBool, IsTrue}
use Rattle.cfb_format.specs.Medium.{Rises}
use Rattle.cfb_format.specs.Tree.{Tree}
use Rattle.cfb_rules.specs.Refusal.{Refusal, medium_failed, file_full, out_of_memory, failed_earlier}
use Rattle.cfb_rules.specs.Calls.{Call, Reply, done, refused}
use Rattle.cfb_rules.specs.Steps.{CallKind, creating, emptying, changing, flushing, opening, opening_to_read, asking, asking_freely, kind_of, kind_on}
use Rattle.cfb_rules.specs.StreamCalls.{StreamSetting, StreamState, StreamCall, set_len, StreamReply, StreamStep}
use Rattle.cfb_rules.specs.Runs.{Setting, TreeState, Causes, BlamesOneOf, MayBlame, MayBreak, HasCause, OnFailed, FollowsRules, IsBroken, CallRuns, Work, no_work, reading, moving, writing_out, overwriting, appending, resizing, work_of, CalmWorkMayBreak, PendingWorkMayBreak, WorkMayBreak, StreamRun, StreamOnFailed, IsStreamBroken, StreamCallRuns, Closes}
use Rattle.cfb_rules.specs.Lists.{Opening, Command, by_path, on_stream, CommandReply, replied, streamed, opening_call, FileView, causes_between, LacksFor, IsSeenAsBefore, Deed, names_at, CallStep, stream_in, StreamCallStep, StreamCallsRun, ClosingStep, StreamedRun, CommandRuns, IsLegalRun, tree_alone, anything, reply_blame, stream_reply_blame, stream_replies_blame, closing_blame, command_blame, blame_in}
use Rattle.cfb_rules.specs.Laws.{FullIsFoundFirst, MediumIsBlamedAsItFailed, CalmMediumIsNotBlamed, UnblamedMediumIsCalm, RoomIsNotBlamed, TreesOfRunsAreLegal}
use Rattle.cfb_rules.proofs.CallBreaks.{creation_is_full}
use Rattle.cfb_rules.proofs.Blaming.{blamed_by, Blames, call_blames, stream_call_blames, closing_blames}

-- ---- a sum over the steps of a list

module _ {S : Type 0} (seen : S → FileView) (promised : S → Deed → S → Type 0) (setting : Setting) (b : Bool) (Sums : S → S → ℕ → Type 0) where
  -- what a sum has to be, and what each step gives to it
  pub record Summing : Type 0 where
    pub none : (s : S) → Sums s s 0
    pub join : (s t u : S) (k l : ℕ) → Sums s t k → Sums t u l → Sums s u (k + l)
    pub call : (old new : S) (call : Call) (reply : Reply) → CallStep seen promised setting old call reply new → Sums old new (reply_blame (blamed_by b) reply)
    pub stream_call : (names : List (List ℕ)) (s t : StreamState) (old new : S) (call : StreamCall) (reply : StreamReply)
        → StreamCallStep seen promised setting names s old call reply t new → Sums old new (stream_reply_blame (blamed_by b) reply)
    pub closing : (path : List ℕ) (tree : Tree) (s : StreamState) (old new : S) (closing : Option Refusal)
        → ClosingStep seen promised setting path tree s old closing new → Sums old new (closing_blame (blamed_by b) closing)

  module _ (m : Summing) where
    calls_sum : (names : List (List ℕ)) (calls : List StreamCall) (replies : List StreamReply) (s t : StreamState) (old new : S)
        → StreamCallsRun seen promised setting names s old calls replies t new → Sums old new (stream_replies_blame (blamed_by b) replies)
    calls_sum names [] [] s t old new h = subst (λ (u : S). Sums old u 0) (sym h.1) (m.none old)
    calls_sum names [] (reply ∷ replies) s t old new h = elim h [ ]
    calls_sum names (call ∷ calls) [] s t old new h = elim h [ ]
    calls_sum names (call ∷ calls) (reply ∷ replies) s t old new (middle, between, step, rest) =
        m.join old between new (stream_reply_blame (blamed_by b) reply) (stream_replies_blame (blamed_by b) replies)
        (m.stream_call names s middle old between call reply step) (calls_sum names calls replies middle t between new rest)

    streamed_sum : (old new : S) (how : Opening) (path : List ℕ) (calls : List StreamCall) (replies : List StreamReply) (closing : Option Refusal)
        → StreamedRun seen promised setting old how path calls replies closing new → Sums old new (stream_replies_blame (blamed_by b) replies + closing_blame (blamed_by b) closing)
    streamed_sum old new how path calls replies closing h =
        let first : Sums old h.opened 0 = m.call old h.opened (opening_call how path) done h.opening in
        let works = calls_sum (names_at path) calls replies _ h.stream h.opened h.worked h.works in
        let all = m.join old h.worked new (0 + stream_replies_blame (blamed_by b) replies) (closing_blame (blamed_by b) closing)
        (m.join old h.opened h.worked 0 (stream_replies_blame (blamed_by b) replies) first works)
        (m.closing path (seen h.opened).state.tree h.stream h.worked new closing h.closes) in
        subst (λ k. Sums old new (k + closing_blame (blamed_by b) closing)) (zero_plus (stream_replies_blame (blamed_by b) replies)) all
      where
        zero_plus : (k : ℕ) → 0 + k ≡ k
        zero_plus k = omega arith

    command_sum : (old new : S) (command : Command) (reply : CommandReply) → CommandRuns seen promised setting old command reply new → Sums old new (command_blame (blamed_by b) reply)
    command_sum old new (by_path call) (replied reply) h = m.call old new call reply h
    command_sum old new (by_path call) (streamed replies closing) h = elim h [ ]
    command_sum old new (on_stream how path calls) (replied reply) h = m.call old new (opening_call how path) reply h.1
    command_sum old new (on_stream how path calls) (streamed replies closing) h = streamed_sum old new how path calls replies closing h

    pub list_sum : (commands : List Command) (replies : List CommandReply) (old new : S) → IsLegalRun seen promised setting old commands replies new → Sums old new (blame_in (blamed_by b) replies)
    list_sum [] [] old new h = subst (λ (u : S). Sums old u 0) (sym h) (m.none old)
    list_sum [] (reply ∷ replies) old new h = elim h [ ]
    list_sum (command ∷ commands) [] old new h = elim h [ ]
    list_sum (command ∷ commands) (reply ∷ replies) old new (middle, step, rest) =
        m.join old middle new (command_blame (blamed_by b) reply) (blame_in (blamed_by b) replies)
        (command_sum old middle command reply step) (list_sum commands replies middle new rest)

-- ---- the medium

-- the count rose by at least k, unless it stands at its top
pub record Counts (old new k : ℕ) : Type 0 where
  pub no_less : old ≤ new
  pub more : new < 2 ^ 64 - 1 → old + k ≤ new

counts-then : (a b c k l : ℕ) → Counts a b k → Counts b c l → Counts a c (k + l)
counts-then a b c k l f g = record {
  no_less = omega (arith, f.no_less, g.no_less);
  more = λ low.
      let first = f.more (omega (arith, g.no_less, low)) in
      let second = g.more low in
      omega (arith, first, second);
}

counts-one : (causes : Causes) (old new k : ℕ) → (causes.medium → Rises old new) → (k ≡ 0 → new ≡ old) → Blames true causes k → Counts old new k
counts-one causes old new k rises calm (inl none) = let same = calm none in record { no_less = omega (arith, same); more = λ low. omega (arith, none, same) }
counts-one causes old new k rises calm (inr one) =
    let r = rises one.1 in
    let no_less = r.no_less in
    let risen = r.more in
    let e = one.0 in
    record { no_less = no_less; more = λ low. omega (arith, e, risen, low) }

module _ {S : Type 0} (seen : S → FileView) (promised : S → Deed → S → Type 0) (setting : Setting) where
  abbrev Failing : S → S → ℕ → Type 0
  Failing old new k = Counts (seen old).failures (seen new).failures k

  pub medium_sums : Summing seen promised setting true Failing
  medium_sums = record {
    none = λ s. record { no_less = omega arith; more = λ low. omega arith };
    join = λ s t u k l. counts-then (seen s).failures (seen t).failures (seen u).failures k l;
    call = λ old new call reply h.
        counts-one (causes_between (seen old) (seen new) (seen new).no_entry) (seen old).failures (seen new).failures (reply_blame (blamed_by true) reply) (λ r. r) h.counted
        (call_blames true (causes_between (seen old) (seen new) (seen new).no_entry) setting (seen old).state (seen new).state call reply h.runs);
    stream_call = λ names s t old new call reply h.
        counts-one (causes_between (seen old) (seen new) (LacksFor (seen new) names call)) (seen old).failures (seen new).failures (stream_reply_blame (blamed_by true) reply) (λ r. r) h.counted
        (stream_call_blames true (causes_between (seen old) (seen new) (LacksFor (seen new) names call)) setting.stream (stream_in seen promised setting s old) (stream_in seen promised setting t new) call reply h.runs);
    closing = λ path tree s old new closing h.
        counts-one (causes_between (seen old) (seen new) (seen new).full) (seen old).failures (seen new).failures (closing_blame (blamed_by true) closing) (λ r. r) h.counted
        (closing_blames true (causes_between (seen old) (seen new) (seen new).full) (stream_in seen promised setting s old) closing (seen new).state.failed h.closes);
  }

pub medium_blamed : {S : Type 0} (seen : S → FileView) (promised : S → Deed → S → Type 0) → MediumIsBlamedAsItFailed seen promised
medium_blamed seen promised setting old new commands replies h =
    (list_sum seen promised setting true (λ a c k. Counts (seen a).failures (seen c).failures k) (medium_sums seen promised setting) commands replies old new h).more

pub calm_medium : {S : Type 0} (seen : S → FileView) (promised : S → Deed → S → Type 0) → CalmMediumIsNotBlamed seen promised
calm_medium seen promised setting old new commands replies h low same =
    let sum = medium_blamed seen promised setting old new commands replies h low in
    omega (arith, sum, same)

-- where no answer of a list blames the medium
module _ {S : Type 0} (seen : S → FileView) (promised : S → Deed → S → Type 0) (setting : Setting) where
  abbrev Calming : S → S → ℕ → Type 0
  Calming old new k = k ≡ 0 → (seen new).failures ≡ (seen old).failures

  calm_sums : Summing seen promised setting true Calming
  calm_sums = record {
    none = λ s e. refl;
    join = λ s t u k l first then e. then (omega (arith, e)) ∙ first (omega (arith, e));
    call = λ old new call reply h. h.counted;
    stream_call = λ names s t old new call reply h. h.counted;
    closing = λ path tree s old new closing h. h.counted;
  }

pub unblamed_calm : {S : Type 0} (seen : S → FileView) (promised : S → Deed → S → Type 0) → UnblamedMediumIsCalm seen promised
unblamed_calm seen promised setting old new commands replies h =
    list_sum seen promised setting true (λ a c k. k ≡ 0 → (seen c).failures ≡ (seen a).failures) (calm_sums seen promised setting) commands replies old new h

-- ---- the tables

nothing_lacks : (view : FileView) → (view.full → ⊥) → ((names : List (List ℕ)) (len : ℕ) → view.too_long names len → ⊥) → (names : List (List ℕ)) (call : StreamCall) → LacksFor view names call → ⊥
nothing_lacks view room none names (set_len len) x = none names len x
nothing_lacks view room none names call x = room x

blames-none : (causes : Causes) (k : ℕ) → (causes.full → ⊥) → Blames false causes k → k ≡ 0
blames-none causes k none (inl e) = e
blames-none causes k none (inr x) = absurd (none x.1)

module _ {S : Type 0} (seen : S → FileView) (promised : S → Deed → S → Type 0) (setting : Setting) (room : (file : S) → (seen file).full → ⊥)
    (entry : (file : S) → (seen file).no_entry → ⊥) (short : (file : S) (names : List (List ℕ)) (len : ℕ) → (seen file).too_long names len → ⊥) where
  abbrev Blameless : S → S → ℕ → Type 0
  Blameless old new k = k ≡ 0

  pub room_sums : Summing seen promised setting false Blameless
  room_sums = record {
    none = λ s. refl;
    join = λ s t u k l e f. omega (arith, e, f);
    call = λ old new call reply h.
        blames-none (causes_between (seen old) (seen new) (seen new).no_entry) (reply_blame (blamed_by false) reply) (entry new)
        (call_blames false (causes_between (seen old) (seen new) (seen new).no_entry) setting (seen old).state (seen new).state call reply h.runs);
    stream_call = λ names s t old new call reply h.
        blames-none (causes_between (seen old) (seen new) (LacksFor (seen new) names call)) (stream_reply_blame (blamed_by false) reply)
        (nothing_lacks (seen new) (room new) (short new) names call)
        (stream_call_blames false (causes_between (seen old) (seen new) (LacksFor (seen new) names call)) setting.stream (stream_in seen promised setting s old) (stream_in seen promised setting t new) call reply h.runs);
    closing = λ path tree s old new closing h.
        blames-none (causes_between (seen old) (seen new) (seen new).full) (closing_blame (blamed_by false) closing) (room new)
        (closing_blames false (causes_between (seen old) (seen new) (seen new).full) (stream_in seen promised setting s old) closing (seen new).state.failed h.closes);
  }

pub room_unblamed : {S : Type 0} (seen : S → FileView) (promised : S → Deed → S → Type 0) → RoomIsNotBlamed seen promised
room_unblamed seen promised setting old new commands replies room entry short h =
    list_sum seen promised setting false (λ a c k. k ≡ 0) (room_sums seen promised setting room entry short) commands replies old new h

-- a refusal for fullness left all as before, and so the tables lacked it before
pub full_first : {S : Type 0} (seen : S → FileView) (promised : S → Deed → S → Type 0) → FullIsFoundFirst seen promised
full_first seen promised setting old new call h before after =
    (h.stays (inl (file_full, refl)) after).no_entry (creation_is_full (causes_between (seen old) (seen new) (seen new).no_entry) setting (seen old).state (seen new).state call h.runs before).1

-- ---- with other causes

blames_weaker : (medium memory full medium' memory' full' : Type 0) → (medium → medium') → (memory → memory') → (full → full') → (r : Refusal)
    → BlamesOneOf medium memory full r → BlamesOneOf medium' memory' full' r
blames_weaker a b c a' b' c' f g h medium_failed x = f x
blames_weaker a b c a' b' c' f g h out_of_memory x = g x
blames_weaker a b c a' b' c' f g h file_full x = h x
blames_weaker a b c a' b' c' f g h r x = elim x [ ]

module _ (c d : Causes) (medium : c.medium → d.medium) (full : c.full → d.full) where
  all_weaker : (r : Refusal) → BlamesOneOf c.medium ⊤ c.full r → BlamesOneOf d.medium ⊤ d.full r
  all_weaker = blames_weaker c.medium ⊤ c.full d.medium ⊤ d.full medium (λ x. x) full

  medium_weaker : (memory : Type 0) (r : Refusal) → BlamesOneOf c.medium memory ⊥ r → BlamesOneOf d.medium memory ⊥ r
  medium_weaker memory = blames_weaker c.medium memory ⊥ d.medium memory ⊥ medium (λ x. x) (λ x. x)

  kind_weaker : (kind : CallKind) (r : Refusal) → MayBreak c kind r → MayBreak d kind r
  kind_weaker creating r x = all_weaker r x
  kind_weaker emptying r x = medium_weaker ⊤ r x
  kind_weaker changing r x = medium_weaker ⊤ r x
  kind_weaker flushing r x = medium_weaker ⊥ r x
  kind_weaker opening r x = medium_weaker ⊤ r x
  kind_weaker opening_to_read r x = x
  kind_weaker asking r x = x
  kind_weaker asking_freely r x = x

  blame_weaker : (r : Refusal) → MayBlame c r → MayBlame d r
  blame_weaker medium_failed x = medium x
  blame_weaker file_full x = full x
  blame_weaker r x = x

  cause_weaker : (reply : Reply) → HasCause c reply → HasCause d reply
  cause_weaker (refused r) x = blame_weaker r x
  cause_weaker reply x = x

  failed_weaker : (kind : CallKind) (reply : Reply) (new : TreeState) → OnFailed c kind reply new → OnFailed d kind reply new
  failed_weaker creating reply new h = h
  failed_weaker emptying reply new h = h
  failed_weaker changing reply new h = h
  failed_weaker flushing reply new h = h
  failed_weaker opening reply new h = h
  failed_weaker opening_to_read reply new h = h
  failed_weaker asking reply new h = (cause_weaker reply h.0, h.1)
  failed_weaker asking_freely reply new h = (cause_weaker reply h.0, h.1)

  -- a call that runs with some causes runs with weaker ones
  pub call_weaker : (setting : Setting) (old new : TreeState) (call : Call) (reply : Reply) → CallRuns c setting old call reply new → CallRuns d setting old call reply new
  call_weaker setting old new call reply = go old.failed
    where
      unfailed : FollowsRules setting old call reply new ⊎ IsBroken c setting old call reply new → FollowsRules setting old call reply new ⊎ IsBroken d setting old call reply new
      unfailed (inl f) = inl f
      unfailed (inr x) = inr ((x.0.0, kind_weaker (kind_on setting.cases old.tree call) x.0.0 x.0.1, x.0.2, x.0.3), x.1)

      go : (failed : Bool) → MatchBool failed (OnFailed c (kind_of call) reply new) (FollowsRules setting old call reply new ⊎ IsBroken c setting old call reply new)
          → MatchBool failed (OnFailed d (kind_of call) reply new) (FollowsRules setting old call reply new ⊎ IsBroken d setting old call reply new)
      go true h = failed_weaker (kind_of call) reply new h
      go false h = unfailed h

  calm_weaker : (work : Work) (r : Refusal) → CalmWorkMayBreak c work r → CalmWorkMayBreak d work r
  calm_weaker no_work r x = x
  calm_weaker reading r x = medium_weaker ⊤ r x
  calm_weaker moving r x = medium_weaker ⊥ r x
  calm_weaker writing_out r x = medium_weaker ⊥ r x
  calm_weaker overwriting r x = medium_weaker ⊤ r x
  calm_weaker appending r x = all_weaker r x
  calm_weaker resizing r x = all_weaker r x

  pending_weaker : (work : Work) (r : Refusal) → PendingWorkMayBreak c work r → PendingWorkMayBreak d work r
  pending_weaker no_work r x = x
  pending_weaker reading r x = all_weaker r x
  pending_weaker moving r x = all_weaker r x
  pending_weaker writing_out r x = all_weaker r x
  pending_weaker overwriting r x = all_weaker r x
  pending_weaker appending r x = all_weaker r x
  pending_weaker resizing r x = all_weaker r x

  work_weaker : (pending : Bool) (work : Work) (r : Refusal) → WorkMayBreak c pending work r → WorkMayBreak d pending work r
  work_weaker true work r x = pending_weaker work r x
  work_weaker false work r x = calm_weaker work r x

  pub stream_call_weaker : (setting : StreamSetting) (old new : StreamRun) (call : StreamCall) (reply : StreamReply)
      → StreamCallRuns c setting old call reply new → StreamCallRuns d setting old call reply new
  stream_call_weaker setting old new call reply = go old.failed
    where
      unfailed : (StreamStep setting old.stream call reply new.stream × (new.failed ≡ false)) ⊎ IsStreamBroken c setting old.stream call reply new
          → (StreamStep setting old.stream call reply new.stream × (new.failed ≡ false)) ⊎ IsStreamBroken d setting old.stream call reply new
      unfailed (inl f) = inl f
      unfailed (inr x) = inr (x.0, work_weaker old.stream.pending (work_of old.stream call) x.0 x.1, x.2, x.3, x.4)

      go : (failed : Bool)
          → MatchBool failed (StreamOnFailed call reply new) ((StreamStep setting old.stream call reply new.stream × (new.failed ≡ false)) ⊎ IsStreamBroken c setting old.stream call reply new)
          → MatchBool failed (StreamOnFailed call reply new) ((StreamStep setting old.stream call reply new.stream × (new.failed ≡ false)) ⊎ IsStreamBroken d setting old.stream call reply new)
      go true h = h
      go false h = unfailed h

  pub closing_weaker : (old : StreamRun) (closing : Option Refusal) (failed : Bool) → Closes c old closing failed → Closes d old closing failed
  closing_weaker old closing failed = go old.failed closing
    where
      go : (before : Bool) (closing : Option Refusal)
          → MatchBool before ((closing ≡ Some failed_earlier) × (failed ≡ true))
          (MatchOption closing (failed ≡ false) (λ r. IsTrue old.stream.pending × BlamesOneOf c.medium ⊤ c.full r × (failed ≡ true)))
          → MatchBool before ((closing ≡ Some failed_earlier) × (failed ≡ true))
          (MatchOption closing (failed ≡ false) (λ r. IsTrue old.stream.pending × BlamesOneOf d.medium ⊤ d.full r × (failed ≡ true)))
      go true closing h = h
      go false None h = h
      go false (Some r) h = (h.0, all_weaker r h.1, h.2)

-- ---- trees alone

at_top : Rises (2 ^ 64 - 1) (2 ^ 64 - 1)
at_top = record { no_less = lit≤ tt; more = lit≤ tt }

anything_lacks : (state : TreeState) (names : List (List ℕ)) (call : StreamCall) → LacksFor (tree_alone state) names call
anything_lacks state names (set_len len) = tt
anything_lacks state names call = tt

module _ {S : Type 0} (seen : S → FileView) (promised : S → Deed → S → Type 0) (setting : Setting) where
  seen_before : (old new : FileView) → IsSeenAsBefore old new → IsSeenAsBefore (tree_alone old.state) (tree_alone new.state)
  seen_before old new h = record { root_len = h.root_len; full = λ x. x; no_entry = λ x. x; too_long = λ names len x. x }

  tree_call : (old new : S) (call : Call) (reply : Reply) → CallStep seen promised setting old call reply new → CallStep tree_alone anything setting (seen old).state call reply (seen new).state
  tree_call old new call reply h = record {
    runs = call_weaker (causes_between (seen old) (seen new) (seen new).no_entry) (causes_between (tree_alone (seen old).state) (tree_alone (seen new).state) ⊤) (λ x. at_top) (λ x. tt)
        setting (seen old).state (seen new).state call reply h.runs;
    stays = λ leaves calm. seen_before (seen old) (seen new) (h.stays leaves calm);
    counted = λ none. refl;
    kept = tt;
  }

  tree_stream_call : (names : List (List ℕ)) (s t : StreamState) (old new : S) (call : StreamCall) (reply : StreamReply)
      → StreamCallStep seen promised setting names s old call reply t new → StreamCallStep tree_alone anything setting names s (seen old).state call reply t (seen new).state
  tree_stream_call names s t old new call reply h = record {
    runs = stream_call_weaker (causes_between (seen old) (seen new) (LacksFor (seen new) names call)) (causes_between (tree_alone (seen old).state) (tree_alone (seen new).state) (LacksFor (tree_alone (seen new).state) names call))
        (λ x. at_top) (λ x. anything_lacks (seen new).state names call) setting.stream (stream_in seen promised setting s old) (stream_in seen promised setting t new) call reply h.runs;
    stays = λ leaves calm. seen_before (seen old) (seen new) (h.stays leaves calm);
    counted = λ none. refl;
    kept = tt;
  }

  tree_stream_calls : (names : List (List ℕ)) (calls : List StreamCall) (replies : List StreamReply) (s t : StreamState) (old new : S)
      → StreamCallsRun seen promised setting names s old calls replies t new → StreamCallsRun tree_alone anything setting names s (seen old).state calls replies t (seen new).state
  tree_stream_calls names [] [] s t old new h = (h.0, ap (λ (u : S). (seen u).state) h.1)
  tree_stream_calls names [] (reply ∷ replies) s t old new h = h
  tree_stream_calls names (call ∷ calls) [] s t old new h = h
  tree_stream_calls names (call ∷ calls) (reply ∷ replies) s t old new (middle, between, step, rest) =
      (middle, (seen between).state, tree_stream_call names s middle old between call reply step, tree_stream_calls names calls replies middle t between new rest)

  tree_closing : (path : List ℕ) (tree : Tree) (s : StreamState) (old new : S) (closing : Option Refusal)
      → ClosingStep seen promised setting path tree s old closing new → ClosingStep tree_alone anything setting path tree s (seen old).state closing (seen new).state
  tree_closing path tree s old new closing h = record {
    closes = closing_weaker (causes_between (seen old) (seen new) (seen new).full) (causes_between (tree_alone (seen old).state) (tree_alone (seen new).state) ⊤) (λ x. at_top) (λ x. tt)
        (stream_in seen promised setting s old) closing (seen new).state.failed h.closes;
    closed = h.closed;
    stays = λ calm unfailed. seen_before (seen old) (seen new) (h.stays calm unfailed);
    counted = λ none. refl;
    kept = tt;
  }

  tree_command : (old new : S) (command : Command) (reply : CommandReply) → CommandRuns seen promised setting old command reply new
      → CommandRuns tree_alone anything setting (seen old).state command reply (seen new).state
  tree_command old new (by_path call) (replied reply) h = tree_call old new call reply h
  tree_command old new (by_path call) (streamed replies closing) h = h
  tree_command old new (on_stream how path calls) (replied reply) h = (h.0, tree_call old new (opening_call how path) reply h.1)
  tree_command old new (on_stream how path calls) (streamed replies closing) h = record {
    opened = (seen h.opened).state;
    opening = tree_call old h.opened (opening_call how path) done h.opening;
    stream = h.stream;
    worked = (seen h.worked).state;
    works = tree_stream_calls (names_at path) calls replies _ h.stream h.opened h.worked h.works;
    closes = tree_closing path (seen h.opened).state.tree h.stream h.worked new closing h.closes;
  }

  tree_list : (commands : List Command) (replies : List CommandReply) (old new : S) → IsLegalRun seen promised setting old commands replies new
      → IsLegalRun tree_alone anything setting (seen old).state commands replies (seen new).state
  tree_list [] [] old new h = ap (λ (u : S). (seen u).state) h
  tree_list [] (reply ∷ replies) old new h = h
  tree_list (command ∷ commands) [] old new h = h
  tree_list (command ∷ commands) (reply ∷ replies) old new (middle, step, rest) =
      ((seen middle).state, tree_command old middle command reply step, tree_list commands replies middle new rest)

pub trees_legal : {S : Type 0} (seen : S → FileView) (promised : S → Deed → S → Type 0) → TreesOfRunsAreLegal seen promised
trees_legal seen promised setting old new commands replies h = tree_list seen promised setting commands replies old new h
