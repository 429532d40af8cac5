use Rattle.std.proofs.Common.{◌≡◌, ◌≤◌, false, length}
use denote.Text.{Utf8}
use denote.Shadow.{shadow}
use Rattle.std.specs.Str.{chars}
use Rattle.cfb_format.specs.Path.{names_left}
use Rattle.cfb_codecs.specs.Parents.{has_parents}
use Rattle.cfb_codecs.proofs.path.next_plain.Given as goal

abbrev pub invariant-loop-left : goal.invariant-loop-left
invariant-loop-left l = record {
  text : shadow (Utf8 l.left);
  same : names_left (chars l.path) ≡ names_left (chars l.left);
  plain : has_parents (chars l.left) ≡ false;
  within : length l.left ≤ length l.path;
}

abbrev pub decreases-loop-left : goal.decreases-loop-left
decreases-loop-left l = length l.left
