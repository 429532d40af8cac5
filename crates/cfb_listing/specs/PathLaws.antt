-- Laws of the paths that are told: `entry` finds them.
use Rattle.std.specs.Prelude.{ℕ, ◌≡◌, List, Some, Bool, true, false, map}
use Rattle.std.specs.List.{list_all, list_any, All}
use Rattle.cfb_format.specs.Names.{Cases}
use Rattle.cfb_format.specs.Path.{names_of_path, is_plain_name}
use Rattle.cfb_format.specs.Tree.{Tree, IsOrdered}
use Rattle.cfb_format.specs.Meaning.{Means}
use Rattle.cfb_rules.specs.Calls.{EntryInfo, entry, one_entry, entries}
use Rattle.cfb_rules.specs.CallReplies.{read_reply, walk_reply}
use Rattle.cfb_rules.specs.Steps.{Step}
use Rattle.cfb_listing.specs.Reached.{Reached, reached_from, is_lost_in_paths}

-- what a walk reaches is told by it, one after another. With no names it is the walk of the whole tree
abbrev pub ReachedIsWalked : Type 0
ReachedIsWalked = (cases : Cases) (root_len : ℕ) (tree : Tree) (names : List (List ℕ)) (list : List EntryInfo)
    → walk_reply cases root_len tree names ≡ entries list → map (λ (r : Reached). r.told) (reached_from cases root_len tree names) ≡ list

-- `entry` answers at the path that was told just what was told
abbrev pub IsFoundByPath : Cases → Bool → ℕ → Tree → EntryInfo → Type 0
IsFoundByPath cases sound root_len tree told = Step cases sound root_len tree (entry told.path) (one_entry told) tree

-- where the names of each storage rise, it does so of a walked object if all names on the way are plain
abbrev pub PlainWalkedAreFound : Type 0
PlainWalkedAreFound = (cases : Cases) (sound : Bool) (root_len : ℕ) (tree : Tree) (names : List (List ℕ)) → IsOrdered cases tree.objects
    → All (λ (r : Reached). list_all is_plain_name r.names ≡ true → IsFoundByPath cases sound root_len tree r.told) (reached_from cases root_len tree names)

-- so in a file that opens, whatever path was asked: unless a name on the way is empty, `.` or `..`
abbrev pub WalkedAreFound : Type 0
WalkedAreFound = (cases : Cases) (bytes : List ℕ) (sound : Bool) (root_len : ℕ) (tree : Tree) (path : List ℕ) (names : List (List ℕ))
    → Means cases bytes tree → names_of_path path ≡ Some names
    → All (λ (r : Reached). list_any is_lost_in_paths r.names ≡ false → IsFoundByPath cases sound root_len tree r.told) (reached_from cases root_len tree names)

-- the same of the objects that are listed of a storage, if their own names are plain
abbrev pub PlainListedAreFound : Type 0
PlainListedAreFound = (cases : Cases) (sound : Bool) (root_len : ℕ) (tree : Tree) (path : List ℕ) (names : List (List ℕ)) (list : List EntryInfo)
    → IsOrdered cases tree.objects → names_of_path path ≡ Some names → read_reply cases tree names ≡ entries list
    → All (λ (e : EntryInfo). is_plain_name e.name ≡ true → IsFoundByPath cases sound root_len tree e) list

abbrev pub ListedAreFound : Type 0
ListedAreFound = (cases : Cases) (bytes : List ℕ) (sound : Bool) (root_len : ℕ) (tree : Tree) (path : List ℕ) (names : List (List ℕ)) (list : List EntryInfo)
    → Means cases bytes tree → names_of_path path ≡ Some names → read_reply cases tree names ≡ entries list
    → All (λ (e : EntryInfo). is_lost_in_paths e.name ≡ false → IsFoundByPath cases sound root_len tree e) list

-- the names that a path says are plain
abbrev pub PathsSayPlainNames : Type 0
PathsSayPlainNames = (path : List ℕ) (names : List (List ℕ)) → names_of_path path ≡ Some names → list_all is_plain_name names ≡ true
