use Rattle.std.proofs.Common.{◌≡◌, arith, chars, rules, subst}
use Rattle.std.proofs.lemmas.Grind.{common_steps}
use Rattle.cfb_commands.specs.cfb_agreement.Files.{FileState}
use Rattle.cfb_c.specs.Pieces.{ReadsPiece}
use Rattle.cfb_c.proofs.open_file.OpenFile.read.Goals as goal

pub returns-clause-reads : goal.returns-clause-reads
returns-clause-reads c =
    let same : c.if-into-room.self-inside.inner ≡ c.args.self.now = first_of (search rules, grind (arith, common_steps)) in
    subst (λ (file : FileState). ReadsPiece file (chars c.args.path.now) c.args.at c.read_piece.new.into c.in_ok-count.count) same c.in_ok-count.ensures.reads
