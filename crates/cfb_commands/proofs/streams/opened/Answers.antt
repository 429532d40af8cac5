use Rattle.std.proofs.Common.{Bool, refl, chars, true, false}
use Rattle.std.specs.Prelude.{◌||◌}
use Rattle.cfb_format.specs.declared.medium.MediumFault.{MediumFault}
use Rattle.cfb_compound_file.specs.Streams.{open_of}
use Rattle.cfb_commands.proofs.cfb_volume.InMemory.{same-as-in-memory}
use Rattle.cfb_commands.proofs.Faults.{makings_given, openings_given}
use Rattle.cfb_commands.proofs.Openings.{creates_not, creates_ok, on_error, opens_not, opens_ok}
use Rattle.cfb_commands.proofs.streams.opened.Goals as goal

pub returns-in-Open : goal.returns-in-Open
returns-in-Open g c =
    let at = chars c.args.path.now in
    let old = c.args.file.now in
    let can_give : MediumFault → Bool = λ f. g.F.ReadMedium.read_faults f || g.F.Medium.write_faults f in
    rw c.in-Open.is (
      (
        refl,
        c.open_stream.follows.holds,
        on_error c.open_stream.result _ _ c.open_stream.follows.holds-at-none (λ e h. (same-as-in-memory old _ h.0, λ told. opens_not can_give old _ at e h.0 (h.1 told))),
      ),
      (
        c.open_stream.ensures.lent,
        (
          (λ told. opens_ok can_give old at (λ s. open_of s) c.open_stream.result (c.is_failed-is_failed.ensures.agrees told) c.open_stream.ensures.opened (c.open_stream.ensures.runs told)
              (c.open_stream.ensures.begins told)),
          (λ told. openings_given can_give c.open_stream.result c.open_stream.ensures.kinds),
        ),
      ),
    )

pub returns-in-Create : goal.returns-in-Create
returns-in-Create g c =
    let at = chars c.args.path.now in
    let old = c.args.file.now in
    let can_give : MediumFault → Bool = λ f. g.F.ReadMedium.read_faults f || g.F.Medium.write_faults f in
    rw c.in-Create.is (
      (
        refl,
        c.create_stream.follows.holds,
        on_error c.create_stream.result _ _ c.create_stream.follows.holds-at-none (λ e h. (h.0.stays, λ told. creates_not can_give old _ at e true (h.1 told))),
      ),
      (
        c.create_stream.ensures.lent,
        (
          (λ told. creates_ok can_give old at (λ s. open_of s) _ true c.create_stream.result told c.create_stream.ensures.created),
          (λ told. makings_given can_give _ _ old _ _ c.create_stream.result told c.create_stream.follows.holds-at-none),
        ),
      ),
    )

pub returns-in-CreateNew : goal.returns-in-CreateNew
returns-in-CreateNew g c =
    let at = chars c.args.path.now in
    let old = c.args.file.now in
    let can_give : MediumFault → Bool = λ f. g.F.ReadMedium.read_faults f || g.F.Medium.write_faults f in
    rw c.in-CreateNew.is (
      (
        refl,
        c.create_new_stream.follows.holds,
        on_error c.create_new_stream.result _ _ c.create_new_stream.follows.holds-at-none (λ e h. (h.0.stays, λ told. creates_not can_give old _ at e false (h.1 told))),
      ),
      (
        c.create_new_stream.ensures.lent,
        (
          (λ told. creates_ok can_give old at (λ s. open_of s) _ false c.create_new_stream.result told c.create_new_stream.ensures.created),
          (λ told. makings_given can_give _ _ old _ _ c.create_new_stream.result told c.create_new_stream.follows.holds-at-none),
        ),
      ),
    )
