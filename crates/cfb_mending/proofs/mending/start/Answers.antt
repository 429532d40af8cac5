use Rattle.std.proofs.Common.{List, ℕ, sym, ◌∙◌, ap, subst}
use Rattle.cfb_format.specs.Bytes.{sector_count, word_at}
use Rattle.cfb_format.specs.declared.validate.Validation.TheVariants.{Permissive}
use Rattle.cfb_format.specs.declared.version.Version.{Version}
use Rattle.cfb_format.specs.Header.{AcceptsHeader, HasFixedFields}
use Rattle.cfb_format.proofs.HeaderStart.{header_at_start}
use Rattle.cfb_mending.proofs.mending.start.Goals as goal

pub returns-clause-version : goal.returns-clause-version
returns-clause-version g c told =
    let bytes = g.F.ReadMedium.bytes c.length.new.self in
    let first = subst (λ (b : List ℕ). AcceptsHeader Permissive b c.in_ok-header.header) (c.in_ok-read_whole.ensures.ok told) c.in_ok-header.ensures.ok in
    let whole = (header_at_start Permissive bytes c.in_ok-header.header).0 first in
    subst (λ (v : Version). HasFixedFields (g.F.ReadMedium.bytes c.args.medium.now) v) (sym c.of.ensures.version)
    (subst (λ (b : List ℕ). HasFixedFields b c.in_ok-header.header.version) (c.in_ok-len.ensures.same told) whole.header.fixed)

pub returns-clause-sectors : goal.returns-clause-sectors
returns-clause-sectors g c told =
    let bytes = g.F.ReadMedium.bytes c.args.medium.now in
    c.of.ensures.sectors bytes (c.in_ok-len.ensures.honest told).0 ∙ ap (λ (v : Version). sector_count v bytes) (sym c.of.ensures.version)

pub returns-clause-counted : goal.returns-clause-counted
returns-clause-counted g c told =
    let bytes = g.F.ReadMedium.bytes c.length.new.self in
    let first = subst (λ (b : List ℕ). AcceptsHeader Permissive b c.in_ok-header.header) (c.in_ok-read_whole.ensures.ok told) c.in_ok-header.ensures.ok in
    let whole = (header_at_start Permissive bytes c.in_ok-header.header).0 first in
    whole.header.num_fat_sectors ∙ ap (λ (b : List ℕ). word_at b 44) (c.in_ok-len.ensures.same told)
