-- Calls by path: refused ones change nothing, and each has one outcome.
use Rattle.std.proofs.Common.{◌≡◌, ℕ, Bool, true, false, refl, sym, ◌∙◌, ap}
use Rattle.std.specs.Prelude.{Option, Some, None, MatchOption}
use Rattle.cfb_format.specs.Names.{Cases}
use Rattle.cfb_format.specs.Tree.{Tree}
use Rattle.cfb_rules.specs.Refusal.{Refusal}
use Rattle.cfb_rules.specs.Calls.{Call, create_storage, create_storage_all, create_stream, create_new_stream, remove_storage, remove_storage_all, remove_stream, set_storage_clsid, set_state_bits, set_created_time, set_modified_time, touch, Reply, done, flag, one_entry, entries, refused}
use Rattle.cfb_rules.specs.Steps.{outcome, Step}
use Rattle.cfb_rules.specs.CallChanges.{tree_after}
use Rattle.cfb_rules.specs.CallReplies.{reply_of}

-- ---- refused calls

abbrev is_done : Reply → Bool
is_done done = true
is_done (flag b) = false
is_done (one_entry e) = false
is_done (entries es) = false
is_done (refused r) = false

not_done : {X : Type 0} (r : Refusal) → refused r ≡ done → X
not_done r e = let f : false ≡ true = ap is_done e in cc

-- a call that changes the tree answers that it is done
unrefused : (cases : Cases) (n : ℕ) (tree tree' : Tree) (call : Call) (r : Refusal) → refused r ≡ reply_of cases n tree call → tree' ≡ tree_after cases call tree → tree' ≡ tree
unrefused cases n tree tree' (create_storage p m) r e h = not_done r e
unrefused cases n tree tree' (create_storage_all p m) r e h = not_done r e
unrefused cases n tree tree' (create_stream p) r e h = not_done r e
unrefused cases n tree tree' (create_new_stream p) r e h = not_done r e
unrefused cases n tree tree' (remove_storage p) r e h = not_done r e
unrefused cases n tree tree' (remove_storage_all p) r e h = not_done r e
unrefused cases n tree tree' (remove_stream p) r e h = not_done r e
unrefused cases n tree tree' (set_storage_clsid p x) r e h = not_done r e
unrefused cases n tree tree' (set_state_bits p x) r e h = not_done r e
unrefused cases n tree tree' (set_created_time p x) r e h = not_done r e
unrefused cases n tree tree' (set_modified_time p x) r e h = not_done r e
unrefused cases n tree tree' (touch p x) r e h = not_done r e
unrefused cases n tree tree' call r e h = h

pub Step-refused : (cases : Cases) (sound : Bool) (n : ℕ) (tree tree' : Tree) (call : Call) (r : Refusal) → Step cases sound n tree call (refused r) tree' → tree' ≡ tree
Step-refused cases sound n tree tree' call r = go (outcome cases sound tree call)
  where
    go : (o : Option Refusal) → MatchOption o ((refused r ≡ reply_of cases n tree call) × (tree' ≡ tree_after cases call tree)) (λ s. (refused r ≡ refused s) × (tree' ≡ tree)) → tree' ≡ tree
    go None h = unrefused cases n tree tree' call r h.0 h.1
    go (Some s) h = h.1

-- ---- one outcome

pub Step-some : (cases : Cases) (sound : Bool) (n : ℕ) (tree : Tree) (call : Call) → (reply : Reply) × (tree' : Tree) × Step cases sound n tree call reply tree'
Step-some cases sound n tree call = go (outcome cases sound tree call)
  where
    go : (o : Option Refusal) → (reply : Reply) × (tree' : Tree) × MatchOption o ((reply ≡ reply_of cases n tree call) × (tree' ≡ tree_after cases call tree)) (λ s. (reply ≡ refused s) × (tree' ≡ tree))
    go None = (reply_of cases n tree call, tree_after cases call tree, (refl, refl))
    go (Some s) = (refused s, tree, (refl, refl))

pub Step-one : (cases : Cases) (sound : Bool) (n : ℕ) (tree t u : Tree) (call : Call) (r s : Reply) → Step cases sound n tree call r t → Step cases sound n tree call s u → (r ≡ s) × (t ≡ u)
Step-one cases sound n tree t u call r s = go (outcome cases sound tree call)
  where
    go : (o : Option Refusal) → MatchOption o ((r ≡ reply_of cases n tree call) × (t ≡ tree_after cases call tree)) (λ x. (r ≡ refused x) × (t ≡ tree))
        → MatchOption o ((s ≡ reply_of cases n tree call) × (u ≡ tree_after cases call tree)) (λ x. (s ≡ refused x) × (u ≡ tree)) → (r ≡ s) × (t ≡ u)
    go None h k = (h.0 ∙ sym k.0, h.1 ∙ sym k.1)
    go (Some x) h k = (h.0 ∙ sym k.0, h.1 ∙ sym k.1)
