use Rattle.std.proofs.lemmas.Grind.{common_steps}
use Rattle.std.proofs.Common.{ℕ, [], sym, ap, rules, arith}
use Rattle.std.specs.Prelude.{Some, ◌||◌}
use Rattle.std.proofs.lemmas.Option.{MatchOption-at_none, MatchOption-at_some}
use Rattle.cfb_format.specs.Refused.{IsBreak}
use Rattle.cfb_volume.proofs.cfb_directory.DirectoryRefusals.{err_map}
use Rattle.cfb_volume.proofs.cfb_entries.Changed.{on-ok}
use Rattle.cfb_volume.specs.Clearing.{ClearingBreaksOff}
use Rattle.cfb_volume.proofs.Balances.{balanced-but}
use Rattle.cfb_volume.proofs.RemovedStorages.{same-grows}
use Rattle.cfb_volume.proofs.Steps.{after-both, at-none, at-some, counts-both, none-at-some, on-refused, some-at-none}
use Rattle.cfb_agreement.specs.Files.{failures_of}
use Rattle.cfb_volume.proofs.volume.Volume.remove_all.Goals as goal

pub remove_with_all-requires-clause-child : goal.remove_with_all-requires-clause-child
remove_with_all-requires-clause-child g c = MatchOption-at_some _ _ (c.in-Some.storage, c.in-Some.name) c.in-Some.is c.requires.place

-- ---- an object in a storage

pub returns-in-Some-clause-tree : goal.returns-in-Some-clause-tree
returns-in-Some-clause-tree g c told holds = on-ok c.remove_with_all.result (λ w. at-some _ c.args.parent (c.in-Some.storage, c.in-Some.name) c.in-Some.is (w.tree told holds)) c.remove_with_all.ensures.removed

pub returns-in-Some-clause-root_tree : goal.returns-in-Some-clause-root_tree
returns-in-Some-clause-root_tree g c told holds = on-ok c.remove_with_all.result (λ w. none-at-some _ c.args.parent (c.in-Some.storage, c.in-Some.name) c.in-Some.is) c.remove_with_all.ensures.removed

pub returns-in-Some-clause-takes : goal.returns-in-Some-clause-takes
returns-in-Some-clause-takes g c = record {
  takes_none = on-ok c.remove_with_all.result (λ w. w.same_length) c.remove_with_all.ensures.removed;
  slots = on-ok c.remove_with_all.result (λ w. record { slots = w.longer; fat = w.same_length }) c.remove_with_all.ensures.removed;
  grows = on-ok c.remove_with_all.result (λ w. same-grows c.args.self.now.base c.remove_with_all.new.self.base w.same_length) c.remove_with_all.ensures.removed;
}

pub returns-in-Some-clause-ends : goal.returns-in-Some-clause-ends
returns-in-Some-clause-ends g c = record {
  setting = after-both (ClearingBreaksOff g.F.ReadMedium.tells (λ f. g.F.ReadMedium.read_faults f || g.F.Medium.write_faults f) c.args.self.now c.remove_with_all.new.self) c.remove_with_all.result c.remove_with_all.ensures.removed c.remove_with_all.ensures.refused (λ w. w.setting) (λ e b. b.setting);
  ended = on-ok c.remove_with_all.result (λ w. w.unfailed) c.remove_with_all.ensures.removed;
  in_memory = on-refused (ClearingBreaksOff g.F.ReadMedium.tells (λ f. g.F.ReadMedium.read_faults f || g.F.Medium.write_faults f) c.args.self.now c.remove_with_all.new.self) c.remove_with_all.result c.remove_with_all.ensures.refused (λ e b. b.in_memory);
  agrees = λ told holds down. after-both (ClearingBreaksOff g.F.ReadMedium.tells (λ f. g.F.ReadMedium.read_faults f || g.F.Medium.write_faults f) c.args.self.now c.remove_with_all.new.self) c.remove_with_all.result c.remove_with_all.ensures.removed c.remove_with_all.ensures.refused (λ w. w.holds told holds) (λ e b. b.agrees told holds down);
  refused = λ told holds. on-refused (ClearingBreaksOff g.F.ReadMedium.tells (λ f. g.F.ReadMedium.read_faults f || g.F.Medium.write_faults f) c.args.self.now c.remove_with_all.new.self) c.remove_with_all.result c.remove_with_all.ensures.refused (λ e b. b.refused told holds);
  counts = λ told. counts-both (ClearingBreaksOff g.F.ReadMedium.tells (λ f. g.F.ReadMedium.read_faults f || g.F.Medium.write_faults f) c.args.self.now c.remove_with_all.new.self) (λ f. g.F.ReadMedium.read_faults f || g.F.Medium.write_faults f) (failures_of c.args.self.now) (failures_of c.remove_with_all.new.self) c.remove_with_all.result c.remove_with_all.ensures.removed c.remove_with_all.ensures.refused (λ w. w.counted told) (λ e b. b.counts told);
}

pub returns-in-Some-clause-keeps : goal.returns-in-Some-clause-keeps
returns-in-Some-clause-keeps g c = record {
  others = first_of (search rules, grind (arith, common_steps));
  header = λ told holds. after-both (ClearingBreaksOff g.F.ReadMedium.tells (λ f. g.F.ReadMedium.read_faults f || g.F.Medium.write_faults f) c.args.self.now c.remove_with_all.new.self) c.remove_with_all.result c.remove_with_all.ensures.removed c.remove_with_all.ensures.refused (λ w. w.header told holds) (λ e b. b.header told holds);
  balanced = λ told. on-ok c.remove_with_all.result (λ w. w.balanced told) c.remove_with_all.ensures.removed;
  parts = λ told holds. on-ok c.remove_with_all.result (λ w. w.parts told holds) c.remove_with_all.ensures.removed;
}

pub returns-in-Some-clause-err : goal.returns-in-Some-clause-err
returns-in-Some-clause-err g c told holds = err_map (ClearingBreaksOff g.F.ReadMedium.tells (λ f. g.F.ReadMedium.read_faults f || g.F.Medium.write_faults f) c.args.self.now c.remove_with_all.new.self) (IsBreak ⊥) (λ e b. b.err told holds) c.remove_with_all.result c.remove_with_all.ensures.refused

-- ---- the root

pub returns-in-None-clause-tree : goal.returns-in-None-clause-tree
returns-in-None-clause-tree g c told holds = on-ok c.empty_storage.result (λ w. some-at-none _ c.args.parent c.in-None.is) c.empty_storage.ensures.emptied

pub returns-in-None-clause-root_tree : goal.returns-in-None-clause-root_tree
returns-in-None-clause-root_tree g c told holds =
    let zero = MatchOption-at_none _ _ c.in-None.is c.requires.place in
    let order = c.entries-entries.ensures.in_order in
    on-ok c.empty_storage.result (λ w. at-none c.args.parent c.in-None.is (w.tree told holds [] order.outline order.is (ap (λ (k : ℕ). Some k) (sym zero)))) c.empty_storage.ensures.emptied

pub returns-in-None-clause-keeps : goal.returns-in-None-clause-keeps
returns-in-None-clause-keeps g c = record {
  others = first_of (search rules, grind (arith, common_steps));
  header = λ told holds. after-both (ClearingBreaksOff g.F.ReadMedium.tells (λ f. g.F.ReadMedium.read_faults f || g.F.Medium.write_faults f) c.args.self.now c.empty_storage.new.self) c.empty_storage.result c.empty_storage.ensures.emptied c.empty_storage.ensures.refused (λ w. w.header told holds) (λ e b. b.header told holds);
  balanced = λ told. on-ok c.empty_storage.result (λ w. balanced-but c.args.self.now.base c.empty_storage.new.self.base c.args.top w.childless w.balanced) c.empty_storage.ensures.emptied;
  parts = λ told holds. on-ok c.empty_storage.result (λ w. w.parts told holds) c.empty_storage.ensures.emptied;
}

pub returns-in-None-clause-takes : goal.returns-in-None-clause-takes
returns-in-None-clause-takes g c = record {
  takes_none = first_of (search rules, grind (arith, common_steps));
  slots = on-ok c.empty_storage.result (λ w. record { slots = w.longer; fat = w.same_length }) c.empty_storage.ensures.emptied;
  grows = on-ok c.empty_storage.result (λ w. same-grows c.args.self.now.base c.empty_storage.new.self.base w.same_length) c.empty_storage.ensures.emptied;
}

pub returns-in-None-clause-ends : goal.returns-in-None-clause-ends
returns-in-None-clause-ends g c = record {
  setting = after-both (ClearingBreaksOff g.F.ReadMedium.tells (λ f. g.F.ReadMedium.read_faults f || g.F.Medium.write_faults f) c.args.self.now c.empty_storage.new.self) c.empty_storage.result c.empty_storage.ensures.emptied c.empty_storage.ensures.refused (λ w. w.setting) (λ e b. b.setting);
  ended = first_of (search rules, grind (arith, common_steps));
  in_memory = on-refused (ClearingBreaksOff g.F.ReadMedium.tells (λ f. g.F.ReadMedium.read_faults f || g.F.Medium.write_faults f) c.args.self.now c.empty_storage.new.self) c.empty_storage.result c.empty_storage.ensures.refused (λ e b. b.in_memory);
  agrees = λ told holds down. after-both (ClearingBreaksOff g.F.ReadMedium.tells (λ f. g.F.ReadMedium.read_faults f || g.F.Medium.write_faults f) c.args.self.now c.empty_storage.new.self) c.empty_storage.result c.empty_storage.ensures.emptied c.empty_storage.ensures.refused (λ w. w.holds told holds) (λ e b. b.agrees told holds down);
  refused = λ told holds. on-refused (ClearingBreaksOff g.F.ReadMedium.tells (λ f. g.F.ReadMedium.read_faults f || g.F.Medium.write_faults f) c.args.self.now c.empty_storage.new.self) c.empty_storage.result c.empty_storage.ensures.refused (λ e b. b.refused told holds);
  counts = first_of (search rules, grind (arith, common_steps));
}

pub returns-in-None-clause-err : goal.returns-in-None-clause-err
returns-in-None-clause-err g c told holds = err_map (ClearingBreaksOff g.F.ReadMedium.tells (λ f. g.F.ReadMedium.read_faults f || g.F.Medium.write_faults f) c.args.self.now c.empty_storage.new.self) (IsBreak ⊥) (λ e b. b.err told holds) c.empty_storage.result c.empty_storage.ensures.refused
