-- Worked examples of calls by path.
use Rattle.std.proofs.Common.{◌≡◌, ℕ, List, [], ◌∷◌, Bool, true, false, refl, replicate, length, map, inl, lit≤, inr, ap, ◌++◌}
use Rattle.std.specs.Prelude.{codes, Option, Some, None, ⊤}
use Rattle.cfb_format.specs.declared.objtype.ObjType.TheVariants.{Storage, Stream}
use Rattle.cfb_format.specs.Names.{default_cases}
use Rattle.cfb_format.specs.Path.{names_of_path}
use Rattle.cfb_rules.specs.Refusal.{not_found, already_exists, invalid_input, not_sound, medium_failed, out_of_memory, failed_earlier}
use Rattle.cfb_format.specs.Tree.{Tree, nothing, storage, stream}
use Rattle.cfb_format.specs.Created.{empty_tree}
use Rattle.cfb_rules.specs.Calls.{Call, create_storage, create_storage_all, create_stream, create_new_stream, remove_storage, remove_storage_all, remove_stream, set_state_bits, set_created_time, set_modified_time, touch, exists, walk, entry, read_storage, walk_storage, Reply, done, flag, entries, one_entry, refused, EntryInfo}
use Rattle.cfb_rules.specs.Steps.{outcome}
use Rattle.cfb_rules.specs.CallChanges.{tree_after}
use Rattle.cfb_rules.specs.CallReplies.{reply_of}
use Rattle.cfb_rules.specs.StreamCalls.{StreamState, read, write, seek, set_len, read_to_end, ask_position, from_start, got, count, offset, ready, not_done}
use Rattle.cfb_rules.specs.Runs.{Setting, TreeState}
use Rattle.cfb_rules.specs.Lists.{Deed, FileView, IsLegal, IsLegalRun, IsSeenAsBefore, tree_alone, Command, by_path, on_stream, creates_new, replied, streamed, opens, blame_in}
use Rattle.cfb_rules.specs.Finding.{parent_names, last_name}

abbrev run : List Call → Tree → Tree
run [] tree = tree
run (call ∷ calls) tree = run calls (tree_after default_cases call tree)

abbrev with_s : Tree
with_s = run (create_stream (codes "/s") ∷ []) empty_tree

abbrev refusal : Tree → Call → Option Reply
refusal tree call = elim (outcome default_cases true tree call) [ None ↦ None | Some e ↦ Some (refused e) ]

pub under_stream : refusal with_s (create_stream (codes "/s/x")) ≡ Some (refused invalid_input)
unfolding names_of_path
under_stream = refl

pub under_nothing : refusal with_s (create_stream (codes "/s/x/y")) ≡ Some (refused not_found)
unfolding names_of_path
under_nothing = refl

pub the_root : refusal with_s (create_storage (codes "/") 0) ≡ Some (refused already_exists)
unfolding names_of_path
the_root = refl

pub over_stream : refusal with_s (create_storage (codes "/S") 0) ≡ Some (refused already_exists)
unfolding names_of_path
over_stream = refl

pub again : refusal with_s (create_stream (codes "/S")) ≡ None
unfolding names_of_path
again = refl

pub wrong_name : refusal with_s (create_storage (codes "/a:b") 0) ≡ Some (refused invalid_input)
unfolding names_of_path
wrong_name = refl

pub unsound : outcome default_cases false with_s (remove_stream (codes "/s")) ≡ Some not_sound
unfolding names_of_path
unsound = refl

-- a wrong name comes before a parent that is missing
pub name_first : refusal with_s (create_storage (codes "/t/a:b") 0) ≡ Some (refused invalid_input)
unfolding names_of_path
name_first = refl

-- a way that leaves the root comes before all else
pub path_first : refusal with_s (create_storage (codes "/../s") 0) ≡ Some (refused invalid_input)
unfolding names_of_path
path_first = refl

-- the rules come before soundness, which is asked even where nothing would change
pub rules_first : outcome default_cases false with_s (create_storage (codes "/s") 0) ≡ Some already_exists
unfolding names_of_path
rules_first = refl

pub unsound_root : outcome default_cases false with_s (create_storage_all (codes "/") 0) ≡ Some not_sound
unfolding names_of_path
unsound_root = refl

pub all_of_root : refusal with_s (create_storage_all (codes "/") 0) ≡ None
unfolding names_of_path
all_of_root = refl

-- a stream on the way
pub all_over_stream : refusal with_s (create_storage_all (codes "/s/x/y") 0) ≡ Some (refused already_exists)
unfolding names_of_path
all_over_stream = refl

pub all_names : refusal with_s (create_storage_all (codes "/s/x:/y") 0) ≡ Some (refused invalid_input)
unfolding names_of_path
all_names = refl

-- removing: the root, a stream, nothing there
pub remove_root : refusal with_s (remove_storage (codes "/")) ≡ Some (refused invalid_input)
unfolding names_of_path
remove_root = refl

pub remove_wrong_kind : refusal with_s (remove_storage (codes "/s")) ≡ Some (refused invalid_input)
unfolding names_of_path
remove_wrong_kind = refl

pub remove_missing : refusal with_s (remove_storage (codes "/t")) ≡ Some (refused not_found)
unfolding names_of_path
remove_missing = refl

pub remove_root_as_stream : refusal with_s (remove_stream (codes "/")) ≡ Some (refused invalid_input)
unfolding names_of_path
remove_root_as_stream = refl

pub remove_all_of_stream : refusal with_s (remove_storage_all (codes "/s")) ≡ None
unfolding names_of_path
remove_all_of_stream = refl

-- in the order 3, 1, 2, then a storage with a stream
abbrev several : Tree
several = run (create_stream (codes "/3") ∷ create_stream (codes "/1") ∷ create_stream (codes "/2") ∷ create_storage (codes "/S") 0 ∷ create_stream (codes "/s/k") ∷ []) empty_tree

abbrev paths : Reply → List (List ℕ)
paths (entries es) = map (λ e. e.path) es
paths done = []
paths (flag b) = []
paths (one_entry e) = e.path ∷ []
paths (refused e) = []

pub walk_all : paths (reply_of default_cases 0 several walk) ≡ codes "/" ∷ codes "/1" ∷ codes "/2" ∷ codes "/3" ∷ codes "/S" ∷ codes "/S/k" ∷ []
unfolding names_of_path
walk_all = refl

pub walk_s : paths (reply_of default_cases 0 several (walk_storage (codes "/s"))) ≡ codes "/S" ∷ codes "/S/k" ∷ []
unfolding names_of_path
walk_s = refl

pub read_s : paths (reply_of default_cases 0 several (read_storage (codes "/s"))) ≡ codes "/s/k" ∷ []
unfolding names_of_path
read_s = refl

pub walk_removed : paths (reply_of default_cases 0 (run (remove_storage_all (codes "/S") ∷ remove_stream (codes "/2") ∷ []) several) walk) ≡ codes "/" ∷ codes "/1" ∷ codes "/3" ∷ []
unfolding names_of_path
walk_removed = refl

-- settings of a storage
abbrev marked : Tree
marked = run (create_storage_all (codes "/p/q") 0 ∷ set_state_bits (codes "/p") 7 ∷ set_created_time (codes "/p") 1 ∷ set_modified_time (codes "/p") 2 ∷ touch (codes "/p") 3 ∷ touch (codes "/") 9 ∷ []) empty_tree

pub entry_p : reply_of default_cases 0 marked (entry (codes "/p"))
    ≡ one_entry (record { name = codes "p"; path = codes "/p"; obj_type = Storage; len = 0; clsid = replicate 16 0; state_bits = 7; created = 1; modified = 3 })
unfolding names_of_path
entry_p = refl

pub entry_q : reply_of default_cases 0 marked (exists (codes "p/q/../Q")) ≡ flag true
unfolding names_of_path
entry_q = refl

pub root_untouched : marked.root ≡ empty_tree.root
unfolding names_of_path
root_untouched = refl

-- names that no path reaches
abbrev strange : Tree
strange = record { root = empty_tree.root; objects = stream [] (record { state_bits = 0; len = 0; content = [] }) (stream (codes "..") (record { state_bits = 0; len = 0; content = [] }) nothing) }

pub strange_walk : paths (reply_of default_cases 0 strange walk) ≡ codes "/" ∷ codes "/" ∷ codes "/.." ∷ []
strange_walk = refl

pub strange_entry : refusal strange (entry (codes "/..")) ≡ Some (refused invalid_input)
unfolding names_of_path
strange_entry = refl

pub emptied : tree_after default_cases (remove_storage_all (codes "/")) strange ≡ empty_tree
unfolding names_of_path
emptied = refl

-- ---- a run

abbrev setting : Setting
setting = record { cases = default_cases; stream = record { limit = 0xFFFF_FFFF; sound = true } }

abbrev tree1 : Tree
tree1 = run (create_storage (codes "/s") 0 ∷ []) empty_tree

abbrev tree2 : Tree
tree2 = run (create_new_stream (codes "/s/x") ∷ []) tree1

abbrev tree3 : Tree
tree3 = record {
  root = empty_tree.root;
  objects = storage (codes "s") (record { clsid = replicate 16 0; state_bits = 0; created = 0; modified = 0 })
      (stream (codes "x") (record { state_bits = 0; len = 1; content = codes "a" }) nothing) nothing;
}

abbrev unfailed : Tree → TreeState
unfailed tree = record { tree = tree; root_len = 0; failed = false }

abbrev at : List ℕ → ℕ → Bool → StreamState
at content position pending = record { len = length content; content = content; position = position; ahead = 0; pending = pending }

abbrev commands : List Command
commands = by_path (create_storage (codes "/s") 0)
    ∷ on_stream creates_new (codes "/s/x") (write (codes "abc") ∷ seek (from_start 1) ∷ read 5 ∷ read 5 ∷ set_len 1 ∷ ask_position ∷ read_to_end ∷ [])
    ∷ by_path (entry (codes "/S/X")) ∷ []

abbrev x_info : EntryInfo
x_info = record { name = codes "x"; path = codes "/S/X"; obj_type = Stream; len = 1; clsid = replicate 16 0; state_bits = 0; created = 0; modified = 0 }

-- between trees alone nothing lacks
alike : {t u : Tree} → IsSeenAsBefore (tree_alone (unfailed t)) (tree_alone (unfailed u))
alike = record { root_len = refl; full = λ x. x; no_entry = λ x. x; too_long = λ names len x. x }

pub a_run : IsLegal setting (unfailed empty_tree) commands
    (replied done
    ∷ streamed (count 3 ∷ offset 1 ∷ got (codes "bc") ∷ got [] ∷ ready ∷ offset 1 ∷ got [] ∷ []) None
    ∷ replied (one_entry x_info) ∷ [])
    (unfailed tree3)
unfolding names_of_path
a_run = (
  unfailed tree1,
  record { runs = inl (record { step = (refl, refl); root_len = inr refl; unfailed = refl }); stays = λ leaves calm. alike; counted = λ none. refl; kept = tt },
  (
    unfailed tree3,
    record {
      opened = unfailed tree2;
      opening = record { runs = inl (record { step = (refl, refl); root_len = inr refl; unfailed = refl }); stays = λ leaves calm. alike; counted = λ none. refl; kept = tt };
      stream = at (codes "a") 1 false;
      worked = unfailed tree2;
      works = (
        at (codes "abc") 3 true,
        unfailed tree2,
        record { runs = inl ((3, lit≤ tt, lit≤ tt, lit≤ tt, refl, record { len = refl; content = refl; position = refl; ahead = refl }), refl); stays = λ leaves calm. alike; counted = λ none. refl; kept = tt },
        (
          at (codes "abc") 1 true,
          unfailed tree2,
          record { runs = inl ((refl, record { len = refl; content = refl; position = refl; ahead = refl; pending = λ h. h }), refl); stays = λ leaves calm. alike; counted = λ none. refl; kept = tt },
          (
            at (codes "abc") 3 true,
            unfailed tree2,
            record { runs = inl ((2, lit≤ tt, lit≤ tt, lit≤ tt, refl, record { len = refl; content = refl; position = refl; ahead = refl; pending = λ h. h }), refl); stays = λ leaves calm. alike; counted = λ none. refl; kept = tt },
            (
              at (codes "abc") 3 true,
              unfailed tree2,
              record { runs = inl ((refl, record { len = refl; content = refl; position = refl; ahead = refl; pending = λ h. h }), refl); stays = λ leaves calm. alike; counted = λ none. refl; kept = tt },
              (
                at (codes "a") 1 false,
                unfailed tree2,
                record { runs = inl ((refl, record { len = refl; content = refl; position = refl; ahead = refl; pending = λ h. cc }, refl), refl); stays = λ leaves calm. alike; counted = λ none. refl; kept = tt },
                (
                  at (codes "a") 1 false,
                  unfailed tree2,
                  record { runs = inl ((refl, refl), refl); stays = λ leaves calm. alike; counted = λ none. refl; kept = tt },
                  (
                    at (codes "a") 1 false,
                    unfailed tree2,
                    record { runs = inl ((refl, record { len = refl; content = refl; position = refl; ahead = refl; pending = λ h. h }), refl); stays = λ leaves calm. alike; counted = λ none. refl; kept = tt },
                    (refl, refl),
                  ),
                ),
              ),
            ),
          ),
        ),
      );
      closes = record { closes = refl; closed = refl; stays = λ leaves calm. alike; counted = λ none. refl; kept = tt };
    },
    (
      unfailed tree3,
      record { runs = inl (record { step = (refl, refl); root_len = inr refl; unfailed = refl }); stays = λ leaves calm. alike; counted = λ none. refl; kept = tt },
      refl,
    ),
  ),
)

-- ---- a run that breaks off

-- a file that is never full, with its count of failures
pub record Watched : Type 0 where
  pub state : TreeState
  pub failures : ℕ

abbrev seen_as : Watched → FileView
seen_as file = record { state = file.state; failures = file.failures; full = ⊥; no_entry = ⊥; too_long = λ names len. ⊥ }

-- and of which nothing more is promised
abbrev anything_at_all : Watched → Deed → Watched → Type 0
anything_at_all old deed new = ⊤

unchanged : {file : Watched} → IsSeenAsBefore (seen_as file) (seen_as file)
unchanged = record { root_len = refl; full = λ x. x; no_entry = λ x. x; too_long = λ names len x. x }

abbrev calm : Watched
calm = record { state = unfailed tree2; failures = 0 }

abbrev broken : Watched
broken = record { state = record { tree = tree1; root_len = 64; failed = true }; failures = 1 }

-- memory is refused once and nothing is changed; then the medium fails in a write, the file is failed, and what comes after is told so
pub a_broken_run : IsLegalRun seen_as anything_at_all setting calm
    (by_path (create_storage (codes "/t") 0)
    ∷ on_stream opens (codes "/s/X") (write (codes "abc") ∷ ask_position ∷ read 1 ∷ [])
    ∷ by_path (remove_stream (codes "/s/x")) ∷ by_path walk ∷ [])
    (replied (refused out_of_memory)
    ∷ streamed (not_done medium_failed ∷ offset 7 ∷ not_done failed_earlier ∷ []) (Some failed_earlier)
    ∷ replied (refused failed_earlier) ∷ replied done ∷ [])
    broken
unfolding names_of_path
a_broken_run = (
  calm,
  record { runs = inr ((out_of_memory, tt, refl, inl (refl, refl)), inl (refl, refl)); stays = λ leaves unfailed. unchanged; counted = λ none. refl; kept = tt },
  (
    broken,
    record {
      opened = calm;
      opening = record { runs = inl (record { step = (refl, refl); root_len = inr refl; unfailed = refl }); stays = λ leaves unfailed. unchanged; counted = λ none. refl; kept = tt };
      stream = at [] 0 false;
      worked = broken;
      works = (
        at [] 0 false,
        broken,
        record { runs = inr (medium_failed, record { no_less = lit≤ tt; more = lit≤ tt }, refl, inr (refl, refl), (lit≤ tt, refl)); stays = λ leaves unfailed. absurd (cc); counted = λ none. absurd (cc); kept = tt },
        (
          at [] 0 false,
          broken,
          record { runs = (refl, refl); stays = λ leaves unfailed. unchanged; counted = λ none. refl; kept = tt },
          (
            at [] 0 false,
            broken,
            record { runs = (refl, refl); stays = λ leaves unfailed. unchanged; counted = λ none. refl; kept = tt },
            (refl, refl),
          ),
        ),
      );
      closes = record { closes = (refl, refl); closed = tt; stays = λ leaves unfailed. unchanged; counted = λ none. refl; kept = tt };
    },
    (
      broken,
      record { runs = (refl, refl); stays = λ leaves unfailed. unchanged; counted = λ none. refl; kept = tt },
      (
        broken,
        record { runs = (tt, refl); stays = λ leaves unfailed. unchanged; counted = λ none. refl; kept = tt },
        refl,
      ),
    ),
  ),
)

-- it blames the medium as often as the count rose
pub blamed_once : blame_in medium_failed
    (replied (refused out_of_memory)
    ∷ streamed (not_done medium_failed ∷ offset 7 ∷ not_done failed_earlier ∷ []) (Some failed_earlier)
    ∷ replied (refused failed_earlier) ∷ replied done ∷ []) ≡ 1
blamed_once = refl

pub parents_at : (above : List (List ℕ)) (name : List ℕ) → parent_names (above ++ name ∷ []) ≡ above
parents_at [] name = refl
parents_at (a ∷ []) name = refl
parents_at (a ∷ b ∷ rest) name = ap (λ (names : List (List ℕ)). a ∷ names) (parents_at (b ∷ rest) name)

pub last_at : (above : List (List ℕ)) (name : List ℕ) → last_name (above ++ name ∷ []) ≡ name
last_at [] name = refl
last_at (a ∷ []) name = refl
last_at (a ∷ b ∷ rest) name = last_at (b ∷ rest) name
