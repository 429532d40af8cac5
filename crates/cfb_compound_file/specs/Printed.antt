-- The texts by which open streams are printed.
use Rattle.std.specs.Prelude.{ℕ, ◌+◌, List, ◌++◌, codes}
use Rattle.std.specs.Fmt.{decimal}
use Rattle.cfb_stream_window.specs.Windows.{Window}

-- a kind of stream, its length, and the place of the next byte
abbrev pub stream_text : List ℕ → Window → List ℕ
stream_text kind w = kind ++ (codes " { len: " ++ (decimal w.size ++ (codes ", position: " ++ (decimal (w.base + w.cursor) ++ codes " }"))))
