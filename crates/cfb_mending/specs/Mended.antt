-- The bytes of a file some of whose words are read as others, and which goes on in zeros.
use Rattle.std.specs.Prelude.{ℕ, ◌+◌, ◌-◌, ◌%◌, List, [], ◌∷◌, ◌++◌, ◌&&◌, length, replicate, nat_le, nat_lt, slice_index, if◌then◌else◌}
use Rattle.std.specs.Int.{to_le_bytes, w32}
use Rattle.cfb_mending.specs.declared.patches.Patch.{Patch}

-- the byte at a place, which is b without the patch
abbrev pub byte_with : Patch → ℕ → ℕ → ℕ
byte_with p place b = if nat_le p.at place && nat_lt place p.«end» then slice_index (to_le_bytes w32 p.word) ((place - p.at) % 4) else b

-- the bytes that stand from a place on, with it
unfoldable pub bytes_with : Patch → ℕ → List ℕ → List ℕ
bytes_with p place [] = []
bytes_with p place (b ∷ bytes) = byte_with p place b ∷ bytes_with p (place + 1) bytes

-- with all of them, in turn
abbrev pub mended_from : List Patch → ℕ → List ℕ → List ℕ
mended_from [] place bytes = bytes
mended_from (p ∷ patches) place bytes = mended_from patches place (bytes_with p place bytes)

-- zeros behind the end, up to this length
abbrev pub padded : ℕ → List ℕ → List ℕ
padded least bytes = bytes ++ replicate (least - length bytes) 0

-- the bytes of the whole file
abbrev pub mended : List Patch → ℕ → List ℕ → List ℕ
mended patches least bytes = mended_from patches 0 (padded least bytes)
