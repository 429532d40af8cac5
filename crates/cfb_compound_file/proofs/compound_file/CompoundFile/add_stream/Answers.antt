use Rattle.std.proofs.Common.{◌≡◌, ◌∙◌, ◌||◌, chars, ap, subst, sym, ℕ, [], max, true, false}
use Rattle.std.proofs.lemmas.Result.{err_from_is_err_and}
use Rattle.cfb_compound_file.specs.cfb_content.Contents.{len_of}
use Rattle.cfb_compound_file.specs.cfb_rules.Calls.{done}
use Rattle.cfb_stream_window.specs.Buffers.{Buffered}
use Rattle.cfb_stream_window.specs.Windows.{window_over}
use Rattle.cfb_path_changes.specs.Adding.{creation}
use Rattle.cfb_path_changes.specs.Answers.{IsDoneBy, IsRefusedBy}
use Rattle.cfb_path_changes.proofs.Heeding.{heeds_change, heeds_refused}
use Rattle.cfb_path_changes.proofs.NewObjects.{creation_asks, creation_rule}
use Rattle.cfb_path_changes.proofs.Refusing.{refused_for_memory}
use Rattle.cfb_compound_file.proofs.Beginning.{begins_at, stream_kind}
use Rattle.cfb_compound_file.proofs.Fitting.{fitting}
use Rattle.cfb_compound_file.proofs.OpenStreams.{rest_at_once}
use Rattle.cfb_compound_file.proofs.compound_file.CompoundFile.add_stream.Goals as goal

pub returns-in_err-place-clause-refused : goal.returns-in_err-place-clause-refused
returns-in_err-place-clause-refused g c =
    let p = err_from_is_err_and c.from_residual.result c.from_residual.ensures.1 in
    rw (← c.self.view_is, p.1, p.2) (λ told. c.in_err-place.ensures.refused told 0)

pub returns-in_err-buffer-clause-refused : goal.returns-in_err-buffer-clause-refused
returns-in_err-buffer-clause-refused g c =
    let p = err_from_is_err_and c.from_residual-in_err-buffer.result c.from_residual-in_err-buffer.ensures.1 in
    let path = chars c.args.path.now in
    rw (← c.self.view_is, p.1, p.2) (λ told. refused_for_memory (creation_rule c.args.what) path (creation c.args.what 0 path) (creation_asks c.args.what 0 path) _ c.self.inside.volume
    c.in_ok-place.ensures.ok.unfailed c.in_err-buffer.field-0.0 c.in_err-buffer.ensures.refused)

pub returns-in_err-entry-clause-refused : goal.returns-in_err-entry-clause-refused
returns-in_err-entry-clause-refused g c =
    let p = err_from_is_err_and c.from_residual-in_err-entry.result c.from_residual-in_err-entry.ensures.1 in
    let path = chars c.args.path.now in
    rw (← c.self.view_is, p.1, p.2) (λ told. subst (λ (m : ℕ). IsRefusedBy (λ f. g.F.ReadMedium.read_faults f || g.F.Medium.write_faults f) c.self.inside.volume (creation c.args.what m path)
    c.fill_place.new.volume c.in_err-entry.field-0.0) c.zero.ensures (c.in_err-entry.ensures.refused told path c.in_ok-place.ensures.ok))

pub returns-clause-created : goal.returns-clause-created
returns-clause-created g c =
    let filled = c.in_ok-entry.ensures.filled c.requires.stream in
    let place = c.in_ok-place.ensures.ok in
    let path = chars c.args.path.now in
    let new = c.fill_place.new.volume in
    let entry = c.in_ok-entry.entry in
    let stands = filled.stands path place in
    let window = c.over-window.ensures.value ∙ ap (λ (b : Buffered). window_over (len_of new.base entry) b) c.in_ok-buffer.ensures.ok in
    let agrees = c.fill_place.ensures.ends.agrees in
    record {
      does = λ told. rw c.self.view_is at (subst (λ (m : ℕ). IsDoneBy c.self.inside.volume (creation c.args.what m path) done new) c.zero.ensures (c.in_ok-entry.ensures.runs told path place));
      agrees = agrees;
      was_sound = rw c.self.view_is at place.sound;
      was_unfailed = rw c.self.view_is at place.unfailed;
      setting = rw c.self.view_is at c.fill_place.ensures.ends.setting;
      unfailed = filled.unfailed;
      window = window ∙ ap (λ (n : ℕ). window_over n (record { filled = []; cursor = 0; room = 1024; bound = max 1024 c.args.self.now.buffer_limit })) filled.empty;
      suits = λ told. (c.over-window.ensures.is_open told (fitting new entry filled.unfailed (agrees told filled.unfailed) filled.stream)).suits;
      stands = stands;
      begins = λ told. begins_at new path entry c.args.self.now.buffer_limit _ window filled.unfailed (agrees told) stands (stream_kind new entry filled.stream);
      rest = rest_at_once entry new filled.stream;
    }

-- ---- over any medium

pub returns-in_err-place-clause-any : goal.returns-in_err-place-clause-any
returns-in_err-place-clause-any g c =
    let p = err_from_is_err_and c.from_residual.result c.from_residual.ensures.1 in
    rw (← c.self.view_is, p.1, p.2) (heeds_refused c.self.inside.volume _ tt (λ failed. c.in_err-place.ensures.failed failed))

pub returns-in_err-buffer-clause-any : goal.returns-in_err-buffer-clause-any
returns-in_err-buffer-clause-any g c =
    let p = err_from_is_err_and c.from_residual-in_err-buffer.result c.from_residual-in_err-buffer.ensures.1 in
    let at = c.in_ok-place.ensures.ok in
    rw (← c.self.view_is, p.1, p.2) (heeds_refused c.self.inside.volume _ tt (λ failed. absurd (let w : false ≡ true = sym at.unfailed ∙ failed in cc)))

pub returns-in_err-entry-clause-any : goal.returns-in_err-entry-clause-any
returns-in_err-entry-clause-any g c =
    let p = err_from_is_err_and c.from_residual-in_err-entry.result c.from_residual-in_err-entry.ensures.1 in
    let at = c.in_ok-place.ensures.ok in
    rw (← c.self.view_is, p.1, p.2) (heeds_change c.self.inside.volume _ c.fill_place.new.volume at.unfailed at.sound c.fill_place.ensures.ends.setting tt c.in_err-entry.ensures.ends.in_memory)

pub returns-clause-any : goal.returns-clause-any
returns-clause-any g c =
    let at = c.in_ok-place.ensures.ok in
    rw (← c.self.view_is) (heeds_change c.self.inside.volume _ c.fill_place.new.volume at.unfailed at.sound c.fill_place.ensures.ends.setting c.in_ok-entry.ensures.ends.ended tt)
