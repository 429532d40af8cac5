-- The versions as text.
use Rattle.std.specs.Prelude.{ℕ, List, [], ◌∷◌}
use Rattle.cfb_format.specs.declared.version.Version.{Version}
use Rattle.cfb_format.specs.declared.version.Version.TheVariants.{V3, V4}

-- the major version as text: the digit 3 or 4
abbrev pub version_text : Version → List ℕ
version_text V3 = 51 ∷ []
version_text V4 = 52 ∷ []
