use Rattle.cfb_lines.proofs.Classes.{parsed_or_not}
use Rattle.cfb_lines.proofs.numbers.class_in.Goals as goal

pub returns : goal.returns
returns c = parsed_or_not c.args.text.now c.try_parse.result c.ok.result c.ok.ensures.value c.try_parse.ensures.ok c.try_parse.ensures.bytes
