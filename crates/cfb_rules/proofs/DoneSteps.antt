-- What is known of a call that was done.
use Rattle.std.proofs.Common.{◌≡◌, ℕ, List, Bool, true, false, refl, sym, ◌∙◌, ap}
use Rattle.std.specs.Prelude.{Option, Some, None, MatchOption, if◌then◌else◌}
use Rattle.std.specs.Option.{option_map_or}
use Rattle.cfb_format.specs.Names.{Cases}
use Rattle.cfb_format.specs.Path.{names_of_path}
use Rattle.cfb_format.specs.Tree.{Tree, Object}
use Rattle.cfb_rules.specs.Refusal.{Refusal, invalid_input}
use Rattle.cfb_rules.specs.Calls.{Call, done, refused}
use Rattle.cfb_rules.specs.CallChanges.{at_path, tree_after}
use Rattle.cfb_rules.specs.CallRefusals.{unless, object_refusal, path_refusal, refusal_of}
use Rattle.cfb_rules.specs.CallReplies.{reply_of}
use Rattle.cfb_rules.specs.Laws.{IsDone}
use Rattle.cfb_rules.specs.Steps.{outcome, unsound_refusal, Step}

pub no_refusal : (o : Option Refusal) (rest : Option Refusal) → option_map_or (λ (r : Refusal). Some r) o rest ≡ None → o ≡ None
no_refusal None rest e = refl
no_refusal (Some r) rest e = cc

-- the rule of a path's names
pub rule_of : (rule : List (List ℕ) → Option Refusal) (path : List ℕ) (names : List (List ℕ)) → names_of_path path ≡ Some names → path_refusal rule path ≡ None → rule names ≡ None
rule_of rule path names at allowed = sym (ap (λ (o : Option (List (List ℕ))). option_map_or rule o (Some invalid_input)) at) ∙ allowed

-- the change at a path's names
pub change_of : (change : List (List ℕ) → Tree → Tree) (path : List ℕ) (names : List (List ℕ)) (tree : Tree) → names_of_path path ≡ Some names → at_path change path tree ≡ change names tree
change_of change path names tree at = ap (λ (o : Option (List (List ℕ))). option_map_or (λ ns. change ns tree) o tree) at

-- a call that was done isn't refused, and its change is made
pub done_step : (cases : Cases) (sound : Bool) (n : ℕ) (tree tree' : Tree) (call : Call) → Step cases sound n tree call done tree'
    → (refusal_of cases tree call ≡ None) × (tree' ≡ tree_after cases call tree)
done_step cases sound n tree tree' call = go (outcome cases sound tree call) refl
  where
    go : (o : Option Refusal) → outcome cases sound tree call ≡ o
        → MatchOption o ((done ≡ reply_of cases n tree call) × (tree' ≡ tree_after cases call tree)) (λ r. (done ≡ refused r) × (tree' ≡ tree))
        → (refusal_of cases tree call ≡ None) × (tree' ≡ tree_after cases call tree)
    go None e h = (no_refusal (refusal_of cases tree call) (unsound_refusal sound call) e, h.1)
    go (Some r) e h = cc

module _ (cases : Cases) (call : List ℕ → Call) (names : List (List ℕ)) (tree tree' : Tree) where
  -- where the rule of the call is known
  pub done_rule : (rule : List (List ℕ) → Option Refusal) → ((path : List ℕ) → refusal_of cases tree (call path) ≡ path_refusal rule path)
      → IsDone cases call names tree tree' → rule names ≡ None
  done_rule rule is d =
      let step = done_step cases d.sound d.root_len tree tree' (call d.path) d.step in
      rule_of rule d.path names d.named (sym (is d.path) ∙ step.0)

  -- and where its change is
  pub done_change : (change : List (List ℕ) → Tree → Tree) → ((path : List ℕ) → tree_after cases (call path) tree ≡ at_path change path tree)
      → IsDone cases call names tree tree' → tree' ≡ change names tree
  done_change change is d =
      let step = done_step cases d.sound d.root_len tree tree' (call d.path) d.step in
      step.1 ∙ is d.path ∙ change_of change d.path names tree d.named

-- what a rule on an object lets pass
pub allowed_test : (b : Bool) (r : Refusal) → unless b r ≡ None → b ≡ true
allowed_test true r e = refl
allowed_test false r e = cc

pub allowed_object : (test : Object → Bool) (o : Option Object) → object_refusal test o ≡ None → (object : Object) × (o ≡ Some object) × (test object ≡ true)
allowed_object test None e = cc
allowed_object test (Some object) e = (object, refl, allowed_test (test object) invalid_input e)

pub allowed_name : (b : Bool) (o : Option Refusal) → (if b then o else Some invalid_input) ≡ None → o ≡ None
allowed_name true o e = e
allowed_name false o e = cc
