use Rattle.std.proofs.Common.{refl, chars, rules, true}
use Rattle.std.specs.Prelude.{IsTrue}
use Rattle.std.proofs.lemmas.Result.{err_from_is_err_and}
use Rattle.cfb_compound_file.specs.cfb_rules.Calls.{open_stream}
use Rattle.cfb_compound_file.proofs.RefusedKinds.{memory_not_opened, memory_opens, not_found_not_opened, not_found_opens}
use Rattle.cfb_compound_file.proofs.OpenStreams.{rest_at_once}
use Rattle.cfb_compound_file.proofs.Beginning.{begins_at}
use Rattle.cfb_compound_file.proofs.OpenedStreams.{found_answers, memory_answers, not_found_answers}
use Rattle.cfb_compound_file.proofs.compound_file.CompoundFile.open_stream.Goals as goal

pub returns-in_err-entry : goal.returns-in_err-entry
returns-in_err-entry g c = let p = err_from_is_err_and c.from_residual.result c.from_residual.ensures.1 in rw (p.1, p.2) (
  (
    refl,
    (λ w. tt),
    (
      refl,
      λ told. not_found_answers c.args.self.now (chars c.args.path.now) (open_stream (chars c.args.path.now)) (c.in_err-entry.ensures.agrees told)
          (λ cases sound root_len tree reply step. step) (λ causes s failed. (refl, failed)) c.in_err-entry.field-0.0 c.in_err-entry.ensures.refused,
    ),
  ),
  (tt, (tt, ((λ told. tt), ((λ told. tt), (not_found_opens c.args.self.now (chars c.args.path.now) c.in_err-entry.field-0.0 c.in_err-entry.ensures.refused, not_found_not_opened c.args.self.now (chars c.args.path.now) c.in_err-entry.field-0.0 c.in_err-entry.ensures.refused))))),
)

pub returns-in_err-window : goal.returns-in_err-window
returns-in_err-window g c = let p = err_from_is_err_and c.from_residual-in_err-window.result c.from_residual-in_err-window.ensures.1 in rw (p.1, p.2) (
  (
    refl,
    (λ w. tt),
    (
      refl,
      λ told. memory_answers c.args.self.now (chars c.args.path.now) (open_stream (chars c.args.path.now)) (c.in_ok-entry.ensures.agrees told)
          (λ cases sound root_len tree reply step. step) (λ causes s failed. (refl, failed)) c.in_err-window.field-0.0 c.in_err-window.ensures.refused
          c.in_ok-entry.ensures.found.unfailed (λ tree. tt) (let stays : IsTrue true = search rules in stays),
    ),
  ),
  (tt, (tt, ((λ told. tt), ((λ told. tt), (memory_opens c.in_err-window.field-0.0 c.in_err-window.ensures.refused, memory_not_opened c.args.self.now (chars c.args.path.now) c.in_err-window.field-0.0 c.in_ok-entry.ensures.found.unfailed c.in_err-window.ensures.refused))))),
)

pub returns : goal.returns
returns g c =
    let found = c.in_ok-entry.ensures.found in (
      (refl, (λ w. refl), tt),
      (
        refl,
        (
          record { file = refl; window = c.in_ok-window.ensures.value; stands = found.stands; rest = rest_at_once c.in_ok-entry.entry c.args.self.now found.stream },
          (
            (λ told. found_answers c.args.self.now (chars c.args.path.now) (open_stream (chars c.args.path.now)) (c.in_ok-entry.ensures.agrees told)
                (λ cases sound root_len tree reply step. step) (λ causes s failed. (refl, failed)) c.in_ok-entry.entry found),
            (
              (λ told. begins_at c.args.self.now (chars c.args.path.now) c.in_ok-entry.entry _ _ c.in_ok-window.ensures.value found.unfailed (c.in_ok-entry.ensures.agrees told) found.stands found.kind),
              (tt, found.unfailed),
            ),
          ),
        ),
      ),
    )
