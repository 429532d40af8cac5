-- The rules refuse by kinds of their own.
use Rattle.std.proofs.Common.{◌≡◌, ◌≤◌, ◌+◌, ℕ, List, [], ◌∷◌, Bool, true, false, refl, sym, subst}
use Rattle.std.specs.Prelude.{⊤, Option, Some, None, MatchOption, MatchBool, length, drop, min, nat_lt, nat_le, if◌then◌else◌, ◌==◌, ◌||◌, ◌&&◌}
use Rattle.std.specs.List.{list_all}
use Rattle.std.specs.Option.{option_map_or}
use Rattle.cfb_format.specs.Medium.{part}
use Rattle.cfb_format.specs.Names.{Cases, is_valid_name}
use Rattle.cfb_format.specs.Path.{names_of_path, path_of_names, child_path}
use Rattle.cfb_format.specs.Tree.{Tree, Object, a_storage, a_stream, Found, object_named}
use Rattle.cfb_rules.specs.Refusal.{Refusal, not_found, already_exists, invalid_input, invalid_data, not_sound, is_of_rules}
use Rattle.cfb_rules.specs.Calls.{Call, create_storage, create_storage_all, create_stream, create_new_stream, open_stream, open_read_stream, remove_storage, remove_storage_all, remove_stream, set_storage_clsid, set_state_bits, set_created_time, set_modified_time, touch, flush, exists, is_stream, is_storage, root_entry, read_root_storage, walk, entry, read_storage, walk_storage, Reply, done, flag, one_entry, entries, refused}
use Rattle.cfb_rules.specs.CallChanges.{tree_after}
use Rattle.cfb_rules.specs.CallRefusals.{unless, always, never, is_a_storage, is_a_stream, is_empty_storage, parent_refusal, place_refusal, creation_refusal, way_refusal, all_creation_refusal, object_refusal, inner_refusal, path_refusal, refusal_of}
use Rattle.cfb_rules.specs.CallReplies.{object_entry, listed_object, walked_object, entry_reply, read_reply, walk_reply, path_reply, reply_of}
use Rattle.cfb_rules.specs.Finding.{root_of, found_at, last_name, parent_names, object_at}
use Rattle.cfb_rules.specs.Steps.{is_changing, kind_of, outcome, unsound_refusal, Step}
use Rattle.cfb_rules.specs.StreamCalls.{StreamSetting, StreamState, StreamCall, read, fill_buf, consume, read_to_end, write, seek, set_len, flush, ask_len, ask_position, ask_is_empty, StreamReply, ready, got, count, offset, answered, not_done, Becomes, Moves, Serves, ReadsOn, ReadToEnd, Write, Wrote, Whence, sought, Seek, SetLen, StreamStep, resized}

-- ---- calls by path

abbrev OfRules : Option Refusal → Type 0
OfRules None = ⊤
OfRules (Some r) = is_of_rules r ≡ true

unless_rules : (b : Bool) (r : Refusal) → is_of_rules r ≡ true → OfRules (unless b r)
unless_rules true r e = tt
unless_rules false r e = e

parent_rules : (o : Option Object) → OfRules (parent_refusal o)
parent_rules None = refl
parent_rules (Some object) = unless_rules (is_a_storage object) invalid_input refl

place_rules : (may_stay : Object → Bool) (here parent : Option Object) → OfRules (place_refusal may_stay here parent)
place_rules may_stay None parent = parent_rules parent
place_rules may_stay (Some object) parent = unless_rules (may_stay object) already_exists refl

object_rules : (test : Object → Bool) (o : Option Object) → OfRules (object_refusal test o)
object_rules test None = refl
object_rules test (Some object) = unless_rules (test object) invalid_input refl

if_rules : (b : Bool) (o : Option Refusal) → OfRules o → OfRules (if b then o else Some invalid_input)
if_rules true o rules = rules
if_rules false o rules = refl

path_rules : (rule : List (List ℕ) → Option Refusal) (path : List ℕ) → ((names : List (List ℕ)) → OfRules (rule names)) → OfRules (path_refusal rule path)
path_rules rule path rules = go (names_of_path path)
  where
    go : (o : Option (List (List ℕ))) → OfRules (option_map_or rule o (Some invalid_input))
    go None = refl
    go (Some names) = rules names

module _ (cases : Cases) where
  way_rules : (names : List (List ℕ)) (object : Object) → OfRules (way_refusal cases object names)
  way_rules names (a_stream info) = refl
  way_rules [] (a_storage info inside) = tt
  way_rules (name ∷ names) (a_storage info inside) = go (object_named cases name inside) (λ object. way_rules names object)
    where
      go : (c : Option Found) → ((object : Object) → OfRules (way_refusal cases object names)) → OfRules (option_map_or (λ (x : Found). way_refusal cases x.object names) c None)
      go None more = tt
      go (Some x) more = more x.object

  module _ (tree : Tree) where
    creation_rules : (may_stay : Object → Bool) (names : List (List ℕ)) → OfRules (creation_refusal cases tree may_stay names)
    creation_rules may_stay [] = refl
    creation_rules may_stay (name ∷ names) =
        if_rules (is_valid_name (last_name (name ∷ names))) (place_refusal may_stay (object_at cases tree (name ∷ names)) (object_at cases tree (parent_names (name ∷ names))))
        (place_rules may_stay (object_at cases tree (name ∷ names)) (object_at cases tree (parent_names (name ∷ names))))

    all_rules : (names : List (List ℕ)) → OfRules (all_creation_refusal cases tree names)
    all_rules names = if_rules (list_all is_valid_name names) (way_refusal cases (root_of tree).object names) (way_rules names (root_of tree).object)

    inner_rules : (test : Object → Bool) (names : List (List ℕ)) → OfRules (inner_refusal cases tree test names)
    inner_rules test [] = refl
    inner_rules test (name ∷ names) = object_rules test (object_at cases tree (name ∷ names))

    -- a rule on the object at the names
    at_object : (test : Object → Bool) (path : List ℕ) → OfRules (path_refusal (λ names. object_refusal test (object_at cases tree names)) path)
    at_object test path = path_rules (λ names. object_refusal test (object_at cases tree names)) path (λ names. object_rules test (object_at cases tree names))

    refusal_rules : (call : Call) → OfRules (refusal_of cases tree call)
    refusal_rules (create_storage path moment) = path_rules (creation_refusal cases tree never) path (creation_rules never)
    refusal_rules (create_storage_all path moment) = path_rules (all_creation_refusal cases tree) path all_rules
    refusal_rules (create_stream path) = path_rules (creation_refusal cases tree is_a_stream) path (creation_rules is_a_stream)
    refusal_rules (create_new_stream path) = path_rules (creation_refusal cases tree never) path (creation_rules never)
    refusal_rules (open_stream path) = at_object is_a_stream path
    refusal_rules (open_read_stream path) = at_object is_a_stream path
    refusal_rules (remove_storage path) = path_rules (inner_refusal cases tree is_empty_storage) path (inner_rules is_empty_storage)
    refusal_rules (remove_storage_all path) = at_object always path
    refusal_rules (remove_stream path) = at_object is_a_stream path
    refusal_rules (set_storage_clsid path clsid) = at_object is_a_storage path
    refusal_rules (set_state_bits path bits) = at_object always path
    refusal_rules (set_created_time path moment) = at_object always path
    refusal_rules (set_modified_time path moment) = at_object always path
    refusal_rules (touch path moment) = at_object always path
    refusal_rules flush = tt
    refusal_rules (exists path) = tt
    refusal_rules (is_stream path) = tt
    refusal_rules (is_storage path) = tt
    refusal_rules root_entry = tt
    refusal_rules read_root_storage = tt
    refusal_rules walk = tt
    refusal_rules (entry path) = at_object always path
    refusal_rules (read_storage path) = at_object is_a_storage path
    refusal_rules (walk_storage path) = at_object always path

    unsound_rules : (sound : Bool) (call : Call) → OfRules (unsound_refusal sound call)
    unsound_rules sound call = go (is_changing (kind_of call))
      where
        go : (b : Bool) → OfRules (if b then unless sound not_sound else None)
        go true = unless_rules sound not_sound refl
        go false = tt

    outcome_rules : (sound : Bool) (call : Call) → OfRules (outcome cases sound tree call)
    outcome_rules sound call = go (refusal_of cases tree call) (refusal_rules call)
      where
        go : (o : Option Refusal) → OfRules o → OfRules (option_map_or (λ (r : Refusal). Some r) o (unsound_refusal sound call))
        go None rules = unsound_rules sound call
        go (Some r) rules = rules

-- a refusal in the reply is of a kind of the rules
abbrev pub ReplyOfRules : Reply → Type 0
ReplyOfRules done = ⊤
ReplyOfRules (flag b) = ⊤
ReplyOfRules (one_entry e) = ⊤
ReplyOfRules (entries es) = ⊤
ReplyOfRules (refused r) = is_of_rules r ≡ true

module _ (cases : Cases) (n : ℕ) (tree : Tree) where
  found_reply : (f : Found → Reply) (o : Option Found) → ((x : Found) → ReplyOfRules (f x)) → ReplyOfRules (option_map_or f o (refused not_found))
  found_reply f None rules = refl
  found_reply f (Some x) rules = rules x

  entry_rules : (names : List (List ℕ)) → ReplyOfRules (entry_reply cases n tree names)
  entry_rules [] = tt
  entry_rules (name ∷ names) =
      found_reply (λ (x : Found). one_entry (object_entry (path_of_names (name ∷ names)) x.name x.object)) (found_at cases tree (name ∷ names)) (λ x. tt)

  read_rules : (names : List (List ℕ)) → ReplyOfRules (read_reply cases tree names)
  read_rules names = found_reply (λ (x : Found). entries (listed_object (path_of_names names) x.object)) (found_at cases tree names) (λ x. tt)

  walk_rules : (names : List (List ℕ)) → ReplyOfRules (walk_reply cases n tree names)
  walk_rules [] = tt
  walk_rules (name ∷ names) =
      found_reply (λ (x : Found). entries (walked_object (child_path (path_of_names (parent_names (name ∷ names))) x.name) x.name x.object))
      (found_at cases tree (name ∷ names)) (λ x. tt)

  path_reply_rules : (rule : List (List ℕ) → Reply) (path : List ℕ) → ((names : List (List ℕ)) → ReplyOfRules (rule names)) → ReplyOfRules (path_reply rule path)
  path_reply_rules rule path rules = go (names_of_path path)
    where
      go : (o : Option (List (List ℕ))) → ReplyOfRules (option_map_or rule o (refused invalid_input))
      go None = refl
      go (Some names) = rules names

  reply_rules : (call : Call) → ReplyOfRules (reply_of cases n tree call)
  reply_rules (create_storage path moment) = tt
  reply_rules (create_storage_all path moment) = tt
  reply_rules (create_stream path) = tt
  reply_rules (create_new_stream path) = tt
  reply_rules (open_stream path) = tt
  reply_rules (open_read_stream path) = tt
  reply_rules (remove_storage path) = tt
  reply_rules (remove_storage_all path) = tt
  reply_rules (remove_stream path) = tt
  reply_rules (set_storage_clsid path clsid) = tt
  reply_rules (set_state_bits path bits) = tt
  reply_rules (set_created_time path moment) = tt
  reply_rules (set_modified_time path moment) = tt
  reply_rules (touch path moment) = tt
  reply_rules flush = tt
  reply_rules (exists path) = tt
  reply_rules (is_stream path) = tt
  reply_rules (is_storage path) = tt
  reply_rules root_entry = tt
  reply_rules read_root_storage = tt
  reply_rules walk = tt
  reply_rules (entry path) = path_reply_rules (entry_reply cases n tree) path entry_rules
  reply_rules (read_storage path) = path_reply_rules (read_reply cases tree) path read_rules
  reply_rules (walk_storage path) = path_reply_rules (walk_reply cases n tree) path walk_rules

pub Step-rules : (cases : Cases) (sound : Bool) (n : ℕ) (tree tree' : Tree) (call : Call) (reply : Reply) → Step cases sound n tree call reply tree' → ReplyOfRules reply
Step-rules cases sound n tree tree' call reply = go (outcome cases sound tree call) (outcome_rules cases tree sound call)
  where
    go : (o : Option Refusal) → OfRules o
        → MatchOption o ((reply ≡ reply_of cases n tree call) × (tree' ≡ tree_after cases call tree)) (λ r. (reply ≡ refused r) × (tree' ≡ tree)) → ReplyOfRules reply
    go None rules h = subst ReplyOfRules (sym h.0) (reply_rules cases n tree call)
    go (Some r) rules h = subst ReplyOfRules (sym h.0) rules

-- ---- calls on a stream

abbrev pub StreamReplyOfRules : StreamReply → Type 0
StreamReplyOfRules ready = ⊤
StreamReplyOfRules (got bytes) = ⊤
StreamReplyOfRules (count n) = ⊤
StreamReplyOfRules (offset at) = ⊤
StreamReplyOfRules (answered b) = ⊤
StreamReplyOfRules (not_done r) = is_of_rules r ≡ true

module _ (setting : StreamSetting) (old new : StreamState) (reply : StreamReply) where
  -- the reply is this one
  by : (answer : StreamReply) → reply ≡ answer → StreamReplyOfRules answer → StreamReplyOfRules reply
  by answer e rules = subst StreamReplyOfRules (sym e) rules

  reads_rules : (nothing_wanted : Bool) (position_after ahead_after : ℕ → ℕ) (most : ℕ) → ReadsOn nothing_wanted position_after ahead_after most old reply new → StreamReplyOfRules reply
  reads_rules nothing_wanted position_after ahead_after most = go (nothing_wanted || old.position == old.len) (nat_lt old.position (length old.content))
    where
      go : (b c : Bool) → MatchBool b ((reply ≡ got []) × Moves old new old.position 0)
          (MatchBool c (Serves position_after ahead_after most old reply new) ((reply ≡ not_done invalid_data) × (new ≡ old))) → StreamReplyOfRules reply
      go true c h = by (got []) h.0 tt
      go false true (n, least, most', fits, e, moves) = by (got (part old.content old.position n)) e tt
      go false false h = by (not_done invalid_data) h.0 refl

  to_end_rules : ReadToEnd old reply new → StreamReplyOfRules reply
  to_end_rules = go (nat_lt old.position old.len && nat_lt (length old.content) old.len)
    where
      go : (b : Bool) → MatchBool b ((reply ≡ not_done invalid_data) × (new ≡ old)) ((reply ≡ got (drop old.position old.content)) × Moves old new old.len 0) → StreamReplyOfRules reply
      go true h = by (not_done invalid_data) h.0 refl
      go false h = by (got (drop old.position old.content)) h.0 tt

  write_rules : (bytes : List ℕ) → Write setting bytes old reply new → StreamReplyOfRules reply
  write_rules bytes = go (length bytes == 0) (nat_le setting.limit old.position) setting.sound
    where
      go : (a b c : Bool) → MatchBool a ((reply ≡ count 0) × Moves old new old.position 0)
          (MatchBool b ((reply ≡ not_done invalid_input) × (new ≡ old))
          (MatchBool c ((n : ℕ) × (1 ≤ n) × (n ≤ length bytes) × (old.position + n ≤ setting.limit) × (reply ≡ count n) × Wrote bytes n old new)
          ((reply ≡ not_done not_sound) × (new ≡ old)))) → StreamReplyOfRules reply
      go true b c h = by (count 0) h.0 tt
      go false true c h = by (not_done invalid_input) h.0 refl
      go false false true (n, least, most, fits, e, wrote) = by (count n) e tt
      go false false false h = by (not_done not_sound) h.0 refl

  seek_rules : (whence : Whence) → Seek whence old reply new → StreamReplyOfRules reply
  seek_rules whence = go (sought old whence)
    where
      go : (o : Option ℕ) → MatchOption o ((reply ≡ not_done invalid_input) × (new ≡ old)) (λ at. (reply ≡ offset at) × Moves old new at 0) → StreamReplyOfRules reply
      go None h = by (not_done invalid_input) h.0 refl
      go (Some at) h = by (offset at) h.0 tt

  set_len_rules : (len : ℕ) → SetLen setting len old reply new → StreamReplyOfRules reply
  set_len_rules len = go (len == old.len) (nat_lt setting.limit len) setting.sound
    where
      go : (a b c : Bool) → MatchBool a ((reply ≡ ready) × Moves old new old.position 0)
          (MatchBool b ((reply ≡ not_done invalid_input) × (new ≡ old))
          (MatchBool c ((reply ≡ ready) × Becomes old new len (resized old.content len) (min old.position len) 0 × (new.pending ≡ false))
          ((reply ≡ not_done not_sound) × (new ≡ old)))) → StreamReplyOfRules reply
      go true b c h = by ready h.0 tt
      go false true c h = by (not_done invalid_input) h.0 refl
      go false false true h = by ready h.0 tt
      go false false false h = by (not_done not_sound) h.0 refl

  step_rules : (call : StreamCall) → StreamStep setting old call reply new → StreamReplyOfRules reply
  step_rules (read wanted) h = reads_rules (wanted == 0) (λ n. old.position + n) (λ n. 0) wanted h
  step_rules fill_buf h = reads_rules false (λ n. old.position) (λ n. n) (length old.content) h
  step_rules (consume amount) h = by ready h.0 tt
  step_rules read_to_end h = to_end_rules h
  step_rules (write bytes) h = write_rules bytes h
  step_rules (seek whence) h = seek_rules whence h
  step_rules (set_len len) h = set_len_rules len h
  step_rules flush h = by ready h.0 tt
  step_rules ask_len h = by (offset old.len) h.0 tt
  step_rules ask_position h = by (offset old.position) h.0 tt
  step_rules ask_is_empty h = by (answered (old.len == 0)) h.0 tt

pub StreamStep-rules : (setting : StreamSetting) (old new : StreamState) (call : StreamCall) (reply : StreamReply) → StreamStep setting old call reply new → StreamReplyOfRules reply
StreamStep-rules setting old new call reply = step_rules setting old new reply call
