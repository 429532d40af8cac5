use Rattle.std.proofs.Common.{◌∙◌, ap, false}
use Rattle.std.specs.Prelude.{Option, chars}
use Rattle.std.specs.Option.{option_map_or}
use Rattle.cfb_format.specs.declared.objtype.ObjType.{ObjType}
use Rattle.cfb_compound_file.specs.cfb_outline.Families.{is_stream_kind}
use Rattle.cfb_compound_file.proofs.Told.{stream-answered}
use Rattle.cfb_compound_file.proofs.compound_file.CompoundFile.is_stream.Goals as goal

pub returns : goal.returns
returns g c = record {
  asks = λ told. stream-answered c.args.self.now (chars c.args.path.now) c.is_of_stream.result (c.kind_at.ensures.agrees told)
      (λ o is. c.is_of_stream.ensures ∙ ap (λ (x : Option ObjType). option_map_or is_stream_kind x false) (c.kind_at.ensures.kind o is));
}
