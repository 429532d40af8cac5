use Rattle.std.proofs.Common.{◌≡◌, length}
use denote.Text.{Utf8}
use denote.Shadow.{shadow}
use Rattle.std.specs.Str.{chars}
use Rattle.cfb_codecs.specs.Parents.{has_parents}
use Rattle.cfb_codecs.proofs.path.says_parents.Given as goal

abbrev pub invariant-loop-left : goal.invariant-loop-left
invariant-loop-left l = record {
  text : shadow (Utf8 l.left);
  same : has_parents (chars l.path) ≡ has_parents (chars l.left);
}

abbrev pub decreases-loop-left : goal.decreases-loop-left
decreases-loop-left l = length l.left
