use Rattle.std.proofs.Common.{arith, inl, refl, rules, subst, sym}
use Rattle.std.proofs.lemmas.Result.{err_from_is_err_and}
use Rattle.cfb_commands.specs.cfb_agreement.Files.{FileState}
use Rattle.cfb_copies.specs.Copies.{IsMadeCopy, MeansTheSame}
use Rattle.cfb_c.specs.declared.held.Kept.TheVariants.{File}
use Rattle.cfb_c.proofs.Told.{holds_copy}
use Rattle.cfb_c.proofs.bytes.copy_into.Goals as goal

pub returns-in_err-copied : goal.returns-in_err-copied
returns-in_err-copied c =
    let p = err_from_is_err_and c.from_residual.result c.from_residual.ensures.1 in
    rw (c.in-File.is, p.1, p.2, ← c.file.view_is) (record { reads = c.copy_to.ensures.reads.reads; answer = inl (c.in_err-copied.ensures.err refl refl, refl) })

pub returns-then-hold-eq0 : goal.returns-then-hold-eq0
returns-then-hold-eq0 c =
    rw (c.in-File.is, ← c.file.view_is) (record {
      reads = c.copy_to.ensures.reads.reads;
      answer = holds_copy c.file.inside.inner (File c.new-2.result) c.hold.result c.hold.new.self.value (grind (arith, c.if-hold-eq0.true)) c.hold.ensures
          (subst (λ (copy : FileState). IsMadeCopy 0 copy × MeansTheSame c.file.inside.inner copy) (sym c.new-2.ensures) (search rules, c.in_ok-copied.ensures.tree refl refl));
    })
