-- Streams that cannot be read to their ends, as they are told.
use Rattle.std.specs.Prelude.{List, chars, map, string_bytes}
use Rattle.cfb_extract.specs.declared.cut.Cut.{Cut}
use Rattle.cfb_extract.specs.Extracted.{CutInfo}

abbrev pub cut_info : {A : Type 0} → Cut A → CutInfo
cut_info cut = record { path = chars (string_bytes cut.path); got = cut.got; len = cut.len }

abbrev pub told_cuts : {A : Type 0} → List (Cut A) → List CutInfo
told_cuts cuts = map cut_info cuts
