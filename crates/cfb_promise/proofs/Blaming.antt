-- Which refusals beside the rules an operation or a call can answer, where nothing is asked of them, and where it is.
use Rattle.std.proofs.Common.{◌≡◌, Bool, true, false, refl, sym, subst, ◌⊎◌, inl, inr}
use Rattle.std.specs.Prelude.{MatchBool, ⊤}
use Rattle.cfb_rules.specs.Refusal.{Refusal, file_full, is_of_rules, medium_failed, out_of_memory}
use Rattle.cfb_rules.specs.Runs.{BlamesOneOf, Causes, IsStreamBroken, MayBreak, StreamCallRuns, StreamOnFailed, StreamRun, Work, WorkMayBreak, appending, moving, no_work, resizing, work_of, writing_out}
use Rattle.cfb_rules.specs.Steps.{CallKind, asking, asking_freely, creating, flushing, opening_to_read}
use Rattle.cfb_rules.specs.StreamCalls.{StreamCall, StreamReply, StreamSetting, StreamStep, not_done}
use Rattle.cfb_rules.proofs.RuleKinds.{StreamStep-rules}
use Rattle.cfb_promise.specs.CallRules.{CallCanBreak}
use Rattle.cfb_promise.specs.StreamRules.{CanBreak}

-- one of the three, by other causes
pub blames : (m k f m' k' f' : Type 0) (r : Refusal) → (m → m') → (k → k') → (r ≡ file_full → f → f') → BlamesOneOf m k f r → BlamesOneOf m' k' f' r
blames m k f m' k' f' medium_failed a b c x = a x
blames m k f m' k' f' out_of_memory a b c x = b x
blames m k f m' k' f' file_full a b c x = c refl x
blames m k f m' k' f' r a b c x = x

module _ (c : Causes) where
  -- ---- calls by path

  pub can_break : (kind : CallKind) (r : Refusal) → MayBreak c kind r → CallCanBreak kind r
  can_break creating r x = blames c.medium ⊤ c.full ⊤ ⊤ ⊤ r (λ y. tt) (λ y. y) (λ e y. tt) x
  can_break flushing r x = blames c.medium ⊥ ⊥ ⊤ ⊥ ⊥ r (λ y. tt) (λ y. y) (λ e y. y) x
  can_break opening_to_read r x = x
  can_break asking r x = x
  can_break asking_freely r x = x
  can_break kind r x = blames c.medium ⊤ ⊥ ⊤ ⊤ ⊥ r (λ y. tt) (λ y. y) (λ e y. y) x

  pub may_break : (kind : CallKind) (r : Refusal) → c.medium → (r ≡ file_full → c.full) → CallCanBreak kind r → MayBreak c kind r
  may_break creating r m f x = blames ⊤ ⊤ ⊤ c.medium ⊤ c.full r (λ y. m) (λ y. y) (λ e y. f e) x
  may_break flushing r m f x = blames ⊤ ⊥ ⊥ c.medium ⊥ ⊥ r (λ y. m) (λ y. y) (λ e y. y) x
  may_break opening_to_read r m f x = x
  may_break asking r m f x = x
  may_break asking_freely r m f x = x
  may_break kind r m f x = blames ⊤ ⊤ ⊥ c.medium ⊤ ⊥ r (λ y. m) (λ y. y) (λ e y. y) x

  -- ---- operations on a stream

  pub can_work : (pending : Bool) (work : Work) (r : Refusal) → WorkMayBreak c pending work r → CanBreak pending work r
  can_work true no_work r x = x
  can_work true work r x = blames c.medium ⊤ c.full ⊤ ⊤ ⊤ r (λ y. tt) (λ y. y) (λ e y. tt) x
  can_work false no_work r x = x
  can_work false moving r x = blames c.medium ⊥ ⊥ ⊤ ⊥ ⊥ r (λ y. tt) (λ y. y) (λ e y. y) x
  can_work false writing_out r x = blames c.medium ⊥ ⊥ ⊤ ⊥ ⊥ r (λ y. tt) (λ y. y) (λ e y. y) x
  can_work false appending r x = blames c.medium ⊤ c.full ⊤ ⊤ ⊤ r (λ y. tt) (λ y. y) (λ e y. tt) x
  can_work false resizing r x = blames c.medium ⊤ c.full ⊤ ⊤ ⊤ r (λ y. tt) (λ y. y) (λ e y. tt) x
  can_work false work r x = blames c.medium ⊤ ⊥ ⊤ ⊤ ⊥ r (λ y. tt) (λ y. y) (λ e y. y) x

  pub may_work : (pending : Bool) (work : Work) (r : Refusal) → c.medium → (r ≡ file_full → c.full) → CanBreak pending work r → WorkMayBreak c pending work r
  may_work true no_work r m f x = x
  may_work true work r m f x = blames ⊤ ⊤ ⊤ c.medium ⊤ c.full r (λ y. m) (λ y. y) (λ e y. f e) x
  may_work false no_work r m f x = x
  may_work false moving r m f x = blames ⊤ ⊥ ⊥ c.medium ⊥ ⊥ r (λ y. m) (λ y. y) (λ e y. y) x
  may_work false writing_out r m f x = blames ⊤ ⊥ ⊥ c.medium ⊥ ⊥ r (λ y. m) (λ y. y) (λ e y. y) x
  may_work false appending r m f x = blames ⊤ ⊤ ⊤ c.medium ⊤ c.full r (λ y. m) (λ y. y) (λ e y. f e) x
  may_work false resizing r m f x = blames ⊤ ⊤ ⊤ c.medium ⊤ c.full r (λ y. m) (λ y. y) (λ e y. f e) x
  may_work false work r m f x = blames ⊤ ⊤ ⊥ c.medium ⊤ ⊥ r (λ y. m) (λ y. y) (λ e y. y) x

  full_work : (pending : Bool) (work : Work) → WorkMayBreak c pending work file_full → c.full
  full_work true no_work x = absurd x
  full_work true work x = x
  full_work false appending x = x
  full_work false resizing x = x
  full_work false work x = absurd x

  -- where the numbers are blamed on a file that had not failed, they lack
  pub stream_is_full : (setting : StreamSetting) (old new : StreamRun) (call : StreamCall) (reply : StreamReply) → reply ≡ not_done file_full → old.failed ≡ false
      → StreamCallRuns c setting old call reply new → c.full
  stream_is_full setting old new call reply told calm runs = go old.failed calm (subst (λ (x : StreamReply). StreamCallRuns c setting old call x new) told runs)
    where
      not_full : is_of_rules file_full ≡ true → ⊥
      not_full e = let w : false ≡ true = e in cc

      same : (r : Refusal) → not_done file_full ≡ not_done r → file_full ≡ r
      same r e = cc

      go : (failed : Bool) → failed ≡ false
          → MatchBool failed (StreamOnFailed call (not_done file_full) new)
          ((StreamStep setting old.stream call (not_done file_full) new.stream × (new.failed ≡ false)) ⊎ IsStreamBroken c setting old.stream call (not_done file_full) new)
          → c.full
      go true e h = absurd (let w : true ≡ false = e in cc)
      go false e (inl f) = absurd (not_full (StreamStep-rules setting old.stream new.stream call (not_done file_full) f.0))
      go false e (inr x) = full_work old.stream.pending (work_of old.stream call)
          (subst (λ (q : Refusal). WorkMayBreak c old.stream.pending (work_of old.stream call) q) (sym (same x.0 x.2)) x.1)
