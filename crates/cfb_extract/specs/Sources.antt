-- What stays of a source.
use Rattle.std.specs.Prelude.{◌≡◌}
use Rattle.cfb_extract.specs.declared.source.Source as source

-- it was at most read from
pub record StaysSource {S : Type 0} (s : source.Ghosts S) (old new : S) : Type 0 where
  pub listed : s.listed new ≡ s.listed old
  pub told : s.tells old → s.tells new
  pub kept : s.tells old → s.kept new ≡ s.kept old
  pub content : s.tells old → s.content new ≡ s.content old
