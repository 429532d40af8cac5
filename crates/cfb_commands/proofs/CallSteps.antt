-- A call by path, as a step of a run.
use Rattle.std.proofs.Common.{◌≡◌, ◌∙◌, ℕ, Bool, true, false, refl, sym, ap, subst, inl, inr, arith}
use Rattle.std.specs.Prelude.{◌==◌, if◌then◌else◌}
use Rattle.cfb_format.specs.declared.error.Error.{Error}
use Rattle.cfb_format.specs.declared.error.Error.TheVariants.{NotFound, AlreadyExists, InvalidInput, InvalidData, Medium, Memory, Full, Unsound, Failed}
use Rattle.cfb_format.specs.declared.medium.MediumFault.{MediumFault}
use Rattle.cfb_format.specs.Refused.{CountsError, HasReason, at_every_error}
use Rattle.cfb_format.specs.Tree.{Tree}
use Rattle.cfb_commands.specs.cfb_rules.Calls.{Call, Reply, create_storage_all, done, entries, flag, one_entry, refused, remove_storage_all, remove_stream}
use Rattle.cfb_commands.specs.cfb_rules.Lists.{CallStep, LeavesAll, blame_of, reply_blame}
use Rattle.cfb_commands.specs.cfb_rules.Refusal.{IsRefusal, Refusal, already_exists, failed_earlier, file_full, invalid_data, invalid_input, medium_failed, not_found, not_sound, out_of_memory, refusal_number}
use Rattle.cfb_commands.specs.cfb_rules.Runs.{CallRuns, Setting}
use Rattle.cfb_commands.specs.cfb_rules.Steps.{CallKind, asking, asking_freely, changing, creating, emptying, flushing, is_changing, kind_of, opening, opening_to_read}
use Rattle.cfb_commands.specs.cfb_agreement.Changes.{StaysOrFails}
use Rattle.cfb_commands.specs.cfb_agreement.Files.{Agrees, FileState, IsAsBefore, SameSetting, failures_of, is_failed}
use Rattle.cfb_commands.specs.cfb_path_changes.Answers.{ForMemory, IsRefusedBy, IsRefusedInTurn, MeansTree, RunsOn, StopsInTurn, causes_of_call, setting_of, state_with}
use Rattle.cfb_commands.specs.Promised.{IsAnswered, CallKeeps, Changes, RefusesChange, IsKeptBy, promised}
use Rattle.cfb_commands.specs.Seen.{seen_as, standing_at}
use Rattle.cfb_commands.proofs.Before.{same_before, seen_before, setting_same, stayed}
use Rattle.cfb_commands.proofs.cfb_volume.Settings.{setting-same}

-- ---- errors by their kinds

-- where the medium is not blamed its count of failures did not rise
pub uncounted : (can_give : MediumFault → Bool) (old new : ℕ) (refusal : Refusal) (e : Error) → IsRefusal refusal e → CountsError can_give old new e
    → blame_of medium_failed refusal ≡ 0 → new ≡ old
uncounted can_give old new refusal (Medium f) is counts none =
    let one : ℕ = 1 in
    let w : one ≡ 0 = subst (λ (n : ℕ). ◌≡◌ {A = ℕ} (if n == 5 then 1 else 0) 0) (sym is) none in
    absurd (omega (arith, w))
uncounted can_give old new refusal (NotFound d) is counts none = counts
uncounted can_give old new refusal (AlreadyExists d) is counts none = counts
uncounted can_give old new refusal (InvalidInput d) is counts none = counts
uncounted can_give old new refusal (InvalidData d) is counts none = counts
uncounted can_give old new refusal Memory is counts none = counts
uncounted can_give old new refusal Full is counts none = counts
uncounted can_give old new refusal Unsound is counts none = counts
uncounted can_give old new refusal Failed is counts none = counts

-- where memory lacked all is as before, or the file has failed
stays_for_memory : (old new : FileState) (call : Call) → ForMemory call old new → StaysOrFails old new
stays_for_memory old new (create_storage_all path moment) stays = stays
stays_for_memory old new (remove_storage_all path) stays = stays
stays_for_memory old new (remove_stream path) (inl same) = inl (same_before old new same)
stays_for_memory old new (remove_stream path) (inr failed) = inr failed.0
stays_for_memory old new call same = inl (same_before old new same)

refused_before : (old new : FileState) (call : Call) (e : Error)
    → HasReason (record (at_every_error (new ≡ old)) { medium = λ f. StaysOrFails old new; memory = ForMemory call old new; full = StopsInTurn old new }) e
    → is_failed new ≡ false → IsAsBefore old new
refused_before old new call (Medium f) why calm = stayed old new why calm
refused_before old new call Memory why calm = stayed old new (stays_for_memory old new call why) calm
refused_before old new call Full why calm = stayed old new why.1 calm
refused_before old new call (NotFound d) why calm = same_before old new why
refused_before old new call (AlreadyExists d) why calm = same_before old new why
refused_before old new call (InvalidInput d) why calm = same_before old new why
refused_before old new call (InvalidData d) why calm = same_before old new why
refused_before old new call Unsound why calm = same_before old new why
refused_before old new call Failed why calm = same_before old new why

-- where nothing has changed, all is as before or the file has failed
less_said : (old new : FileState) (call : Call) (e : Error) → HasReason (record (at_every_error (new ≡ old)) { medium = λ f. StaysOrFails old new; memory = ForMemory call old new; full = new ≡ old }) e
    → HasReason (record (at_every_error (new ≡ old)) { medium = λ f. StaysOrFails old new; memory = ForMemory call old new; full = StopsInTurn old new }) e
less_said old new call (Medium f) why = why
less_said old new call Memory why = why
less_said old new call Full why = (λ _. why, inl (same_before old new why))
less_said old new call (NotFound d) why = why
less_said old new call (AlreadyExists d) why = why
less_said old new call (InvalidInput d) why = why
less_said old new call (InvalidData d) why = why
less_said old new call Unsound why = why
less_said old new call Failed why = why

at_once : (can_give : MediumFault → Bool) (old : FileState) (call : Call) (new : FileState) (e : Error) → IsRefusedBy can_give old call new e → IsRefusedInTurn can_give old call new e
at_once can_give old call new e why = record {
  refusal = why.refusal;
  is = why.is;
  runs = why.runs;
  stays = less_said old new call e why.stays;
  order = why.order;
  balanced = why.balanced;
  spares = why.spares;
  quiet = why.quiet;
  unsound = why.unsound;
  counts = why.counts;
}

-- what every refused call promises
pub in_turn : (can_give : MediumFault → Bool) (old : FileState) (call : Call) (new : FileState) (e : Error) → RefusesChange can_give old call new e → IsRefusedInTurn can_give old call new e
in_turn can_give old (create_storage_all path moment) new e why = why.0
in_turn can_give old call new e why = at_once can_give old call new e why

-- a refusal is known by its number
by_number : ℕ → Refusal
by_number n =
    if n == 1 then not_found else if n == 2 then already_exists else if n == 3 then invalid_input else if n == 4 then invalid_data
    else if n == 5 then medium_failed else if n == 6 then out_of_memory else if n == 7 then file_full else if n == 8 then not_sound else failed_earlier

number_back : (r : Refusal) → by_number (refusal_number r) ≡ r
unfolding by_number
number_back not_found = refl
number_back already_exists = refl
number_back invalid_input = refl
number_back invalid_data = refl
number_back medium_failed = refl
number_back out_of_memory = refl
number_back file_full = refl
number_back not_sound = refl
number_back failed_earlier = refl

pub same_refusal : (r s : Refusal) → refusal_number r ≡ refusal_number s → r ≡ s
same_refusal r s same = sym (number_back r) ∙ ap by_number same ∙ number_back s

-- ---- what a call keeps

module _ (can_give : MediumFault → Bool) (old new : FileState) (call : Call) where
  change_runs : (reply : Reply) → Changes can_give old call reply new → RunsOn (causes_of_call old new) old call reply new
  change_runs done k = k.runs
  change_runs (refused refusal) (e, is, why) =
      let k = in_turn can_give old call new e why in
      subst (λ (r : Refusal). RunsOn (causes_of_call old new) old call (refused r) new) (same_refusal k.refusal refusal (sym k.is ∙ is)) k.runs
  change_runs (flag b) k = absurd k
  change_runs (one_entry e) k = absurd k
  change_runs (entries es) k = absurd k

  change_counts : (reply : Reply) → Changes can_give old call reply new → reply_blame medium_failed reply ≡ 0 → failures_of new ≡ failures_of old
  change_counts done k none = k.calm
  change_counts (refused refusal) (e, is, why) none =
      uncounted can_give (failures_of old) (failures_of new) refusal e is (in_turn can_give old call new e why).counts none
  change_counts (flag b) k none = absurd k
  change_counts (one_entry e) k none = absurd k
  change_counts (entries es) k none = absurd k

  -- where it was refused, or was not to change the file
  change_before : (reply : Reply) → Changes can_give old call reply new → (is_changing (kind_of call) ≡ false → reply ≡ done → new ≡ old)
      → LeavesAll call reply → is_failed new ≡ false → IsAsBefore old new
  change_before done k same (inl (r, bad)) calm = absurd (cc)
  change_before done k same (inr asks) calm = same_before old new (same asks refl)
  change_before (refused refusal) (e, is, why) same leaves calm = refused_before old new call e (in_turn can_give old call new e why).stays calm
  change_before (flag b) k same leaves calm = absurd k
  change_before (one_entry e) k same leaves calm = absurd k
  change_before (entries es) k same leaves calm = absurd k

  -- a change of the file is one
  changes_it : (kind : CallKind) → kind_of call ≡ kind → is_changing kind ≡ true → (reply : Reply) → is_changing (kind_of call) ≡ false → reply ≡ done → new ≡ old
  changes_it kind is changes reply asks is_done = absurd (let w : true ≡ false = sym changes ∙ sym (ap is_changing is) ∙ asks in cc)

  module _ (reply : Reply) where
    -- what the step of a run needs
    record Does : Type 0 where
      runs : RunsOn (causes_of_call old new) old call reply new
      before : LeavesAll call reply → is_failed new ≡ false → IsAsBefore old new
      counts : reply_blame medium_failed reply ≡ 0 → failures_of new ≡ failures_of old

    does_change : Changes can_give old call reply new → (is_changing (kind_of call) ≡ false → reply ≡ done → new ≡ old) → Does
    does_change k same = record { runs = change_runs reply k; before = change_before reply k same; counts = change_counts reply k }

    does_ask : IsAnswered old call reply new → Does
    does_ask k = record {
      runs = subst (λ (z : FileState). RunsOn (causes_of_call old z) old call reply z) (sym k.same) k.answers;
      before = λ leaves calm. same_before old new k.same;
      counts = λ none. ap (λ (z : FileState). failures_of z) k.same;
    }

    does : (kind : CallKind) → kind_of call ≡ kind → IsKeptBy can_give kind old call reply new → Does
    does creating is k = does_change k (changes_it creating is refl reply)
    does emptying is k = does_change k (changes_it emptying is refl reply)
    does changing is k = does_change k (changes_it changing is refl reply)
    does flushing is k = does_change k.changes (λ asks. k.same)
    does opening is k = does_ask k
    does opening_to_read is k = does_ask k
    does asking is k = does_ask k
    does asking_freely is k = does_ask k

-- ---- the setting stays

module _ (can_give : MediumFault → Bool) (old new : FileState) (call : Call) where
  change_setting : (reply : Reply) → Changes can_give old call reply new → SameSetting old new
  change_setting done k = k.order.setting
  change_setting (refused refusal) (e, is, why) = (in_turn can_give old call new e why).order.setting
  change_setting (flag b) k = absurd k
  change_setting (one_entry e) k = absurd k
  change_setting (entries es) k = absurd k

  ask_setting : (reply : Reply) → IsAnswered old call reply new → SameSetting old new
  ask_setting reply k = subst (λ (z : FileState). SameSetting old z) (sym k.same) (setting-same old)

  setting_by : (kind : CallKind) (reply : Reply) → IsKeptBy can_give kind old call reply new → SameSetting old new
  setting_by creating reply k = change_setting reply k
  setting_by emptying reply k = change_setting reply k
  setting_by changing reply k = change_setting reply k
  setting_by flushing reply k = change_setting reply k.changes
  setting_by opening reply k = ask_setting reply k
  setting_by opening_to_read reply k = ask_setting reply k
  setting_by asking reply k = ask_setting reply k
  setting_by asking_freely reply k = ask_setting reply k

  pub keeps_setting : (reply : Reply) → CallKeeps can_give old call reply new → SameSetting old new
  keeps_setting reply k = setting_by (kind_of call) reply k

-- ---- the step

module _ (can_give : MediumFault → Bool) (first old new : FileState) (tree : Tree) (call : Call) (reply : Reply) where
  stepped : SameSetting first old → CallKeeps can_give old call reply new → Does can_give old new call reply → Agrees new → MeansTree old tree
      → (after : Tree) × MeansTree new after × CallStep seen_as (promised can_give) (setting_of first) (standing_at old tree) call reply (standing_at new after)
  unfolding RunsOn
  stepped same keeps d agrees means =
      let r = d.runs tree means in (
        r.0,
        r.1,
        record {
          runs = subst (λ (s : Setting). CallRuns (causes_of_call old new) s (state_with old tree) call reply (state_with new r.0)) (setting_same first old same) r.2;
          stays = λ leaves calm. seen_before old new tree r.0 (d.before leaves calm);
          counted = d.counts;
          kept = record { keeps = keeps; agrees = agrees; means = λ _. r.1 };
        },
      )

pub call_step : (can_give : MediumFault → Bool) (first old new : FileState) (tree : Tree) (call : Call) (reply : Reply)
    → SameSetting first old → CallKeeps can_give old call reply new → Agrees new → MeansTree old tree
    → (after : Tree) × MeansTree new after × CallStep seen_as (promised can_give) (setting_of first) (standing_at old tree) call reply (standing_at new after)
call_step can_give first old new tree call reply same keeps =
    stepped can_give first old new tree call reply same keeps (does can_give old new call reply (kind_of call) refl keeps)

-- where a call was refused, or was not to change the file, all is as before but the count of failures
pub call_before : (can_give : MediumFault → Bool) (old new : FileState) (call : Call) (reply : Reply) → CallKeeps can_give old call reply new
    → LeavesAll call reply → is_failed new ≡ false → IsAsBefore old new
call_before can_give old new call reply keeps = (does can_give old new call reply (kind_of call) refl keeps).before
