use Rattle.std.proofs.Common.{◌≡◌, ◌∙◌, ap, sym, subst, take, length, arith, IsTrue, false, List, ℕ}
use Rattle.std.proofs.lemmas.Result.{err_from_is_err_and}
use Rattle.cfb_format.specs.declared.header.Header.{Header}
use Rattle.cfb_format.specs.Bytes.{sector_len}
use Rattle.cfb_format.specs.Header.{AcceptsHeader}
use Rattle.cfb_reading.proofs.PartRefusals.{refused-bytes}
use Rattle.cfb_opening.specs.Known.{AcceptsNoHead}
use Rattle.cfb_opening.proofs.head.read_head.Goals as goal

pub returns-in_err-header-clause-err : goal.returns-in_err-header-clause-err
returns-in_err-header-clause-err g c =
    let bytes = g.F.ReadMedium.bytes c.args.medium.now in
    let none : IsTrue g.F.ReadMedium.tells → AcceptsNoHead c.args.validation bytes =
    λ told h has.
    let first : c.read_exact_at.new.into ≡ take 512 bytes = c.in_ok-read_exact_at.ensures.ok told ∙ ap (take 512) (c.in_ok-len.ensures.same told) in
    c.in_err-header.ensures.refused.1 h (subst (λ (b : List ℕ). AcceptsHeader c.args.validation b h) (sym first) ((c.header_is_at_the_start.ensures.start c.args.validation bytes h).1 has.header)) in
    let p = err_from_is_err_and c.from_residual-in_err-header.result c.from_residual-in_err-header.ensures.1 in
    rw (p.1, p.2) (refused-bytes g.F.ReadMedium.tells g.F.ReadMedium.read_faults _ c.in_err-header.field-0.0 c.in_err-header.ensures.refused.0 none)

-- what was read of the header holds of the whole file
pub returns-then-not-has_length-clause-err : goal.returns-then-not-has_length-clause-err
returns-then-not-has_length-clause-err g c =
    let bytes = g.F.ReadMedium.bytes c.args.medium.now in
    let header = c.in_ok-header.header in
    let none : IsTrue g.F.ReadMedium.tells → AcceptsNoHead c.args.validation bytes =
    λ told h has.
    let first : c.read_exact_at.new.into ≡ take 512 bytes = c.in_ok-read_exact_at.ensures.ok told ∙ ap (take 512) (c.in_ok-len.ensures.same told) in
    let there : AcceptsHeader c.args.validation bytes header =
    (c.header_is_at_the_start.ensures.start c.args.validation bytes header).0 (subst (λ b. AcceptsHeader c.args.validation b header) first c.in_ok-header.ensures.ok) in
    let len : c.in_ok-len.len ≡ length bytes = (c.in_ok-len.ensures.honest told).0 in
    let same : sector_len h.version ≡ sector_len header.version =
    ap (λ (k : Header). sector_len k.version) (c.header_is_at_the_start.ensures.unique bytes h header has.header.header there.header) in
    let fits : IsTrue c.has_length.result = c.has_length.ensures.1 (omega (arith, same, len, has.len.sector), omega (arith, same, len, has.len.most)) in
    let not : c.has_length.result ≡ false = c.if-not-has_length.true in cc in
    refused-bytes g.F.ReadMedium.tells g.F.ReadMedium.read_faults _ c.invalid-then-not-has_length.result c.invalid-then-not-has_length.ensures none

pub returns-clause-ok : goal.returns-clause-ok
returns-clause-ok g c told =
    let bytes = g.F.ReadMedium.bytes c.args.medium.now in
    let header = c.in_ok-header.header in
    let first : c.read_exact_at.new.into ≡ take 512 bytes = c.in_ok-read_exact_at.ensures.ok told ∙ ap (take 512) (c.in_ok-len.ensures.same told) in
    let there : AcceptsHeader c.args.validation bytes header =
    (c.header_is_at_the_start.ensures.start c.args.validation bytes header).0 (subst (λ b. AcceptsHeader c.args.validation b header) first c.in_ok-header.ensures.ok) in
    let len : c.in_ok-len.len ≡ length bytes = (c.in_ok-len.ensures.honest told).0 in
    let fits = c.has_length.ensures.0 c.if-not-has_length.false in
    record {
      header = there;
      len = record { header = omega (arith, len, c.if-len.false); sector = omega (arith, len, fits.0); most = omega (arith, len, fits.1) };
    }
