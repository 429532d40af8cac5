use Rattle.std.proofs.Common.{◌∙◌, ap, ℕ}
use Rattle.std.specs.Prelude.{Option, chars, is_some}
use Rattle.cfb_compound_file.proofs.Told.{exists-answered}
use Rattle.cfb_compound_file.proofs.compound_file.CompoundFile.exists.Goals as goal

pub returns : goal.returns
returns g c = record {
  asks = rw (← c.self.view_is) (λ told. exists-answered c.self.inside.volume (chars c.args.path.now) c.is_some.result (c.self.invariant told)
      (λ o is. c.is_some.ensures ∙ ap (λ (x : Option ℕ). is_some x) (c.number_at.ensures.found o is)));
}
