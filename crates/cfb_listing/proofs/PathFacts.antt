-- Worked examples of the paths that a walk tells.
use Rattle.std.proofs.Common.{◌≡◌, ℕ, List, [], ◌∷◌, true, refl, map}
use Rattle.std.specs.Prelude.{codes, Some}
use Rattle.cfb_format.specs.Names.{default_cases}
use Rattle.cfb_format.specs.Path.{names_of_path}
use Rattle.cfb_format.specs.Tree.{Tree, StreamInfo, nothing, storage, stream}
use Rattle.cfb_format.specs.Created.{empty_tree}
use Rattle.cfb_rules.specs.Calls.{entry}
use Rattle.cfb_rules.specs.Refusal.{not_found}
use Rattle.cfb_rules.specs.Steps.{outcome}
use Rattle.cfb_listing.specs.Reached.{Reached, reached_from}

abbrev empty_stream : StreamInfo
empty_stream = record { state_bits = 0; len = 0; content = [] }

abbrev names_from : Tree → List (List ℕ) → List (List (List ℕ))
names_from tree names = map (λ (r : Reached). r.names) (reached_from default_cases 0 tree names)

abbrev paths_from : Tree → List (List ℕ) → List (List ℕ)
paths_from tree names = map (λ (r : Reached). r.told.path) (reached_from default_cases 0 tree names)

-- a storage with a stream, asked in other letters: the names are the stored ones
abbrev with_stream : Tree
with_stream = record { root = empty_tree.root; objects = storage (codes "S") empty_tree.root (stream (codes "k") empty_stream nothing) nothing }

pub all_names : names_from with_stream [] ≡ [] ∷ (codes "S" ∷ []) ∷ (codes "S" ∷ codes "k" ∷ []) ∷ []
all_names = refl

pub names_below : names_from with_stream (codes "s" ∷ []) ≡ (codes "S" ∷ []) ∷ (codes "S" ∷ codes "k" ∷ []) ∷ []
names_below = refl

-- but the asked ones of the parents
pub names_asked : names_from with_stream (codes "s" ∷ codes "K" ∷ []) ≡ (codes "s" ∷ codes "k" ∷ []) ∷ []
names_asked = refl

-- a stream in a storage without a name: its path says another one, at which nothing stands
abbrev nameless : Tree
nameless = record { root = empty_tree.root; objects = storage [] empty_tree.root (stream (codes "x") empty_stream nothing) nothing }

pub lost_paths : paths_from nameless [] ≡ codes "/" ∷ codes "/" ∷ codes "/x" ∷ []
lost_paths = refl

pub lost : outcome default_cases true nameless (entry (codes "/x")) ≡ Some not_found
unfolding names_of_path
lost = refl
