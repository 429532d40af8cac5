-- What can be read of a stream, by the pieces of its chain.
use Rattle.std.proofs.Common.{◌≡◌, ◌≤◌, ◌<◌, ◌+◌, ◌*◌, ◌/◌, ◌%◌, min, ℕ, List, [], Bool, true, false, refl, sym, ◌∙◌, ap, length, take, arith, length-take}
use Rattle.std.specs.Prelude.{if◌then◌else◌, Option, Some, None, option_and_then, slice_get, slice_index, nat_lt, unwrap_or}
use Rattle.std.proofs.lemmas.Bool.{ltb-true, ltb-false, le-ltb}
use Rattle.std.proofs.lemmas.Option.{slice_get-get_or, slice_get_past}
use Rattle.cfb_format.specs.declared.version.Version.{Version}
use Rattle.cfb_format.specs.Bytes.{sector_len, sector_start}
use Rattle.cfb_format.specs.Content.{in_file, is_large, mini_chain, mini_sector_len, mini_stream_chain, place_in_chain, place_in_mini_chain, place_in_stream, placed_from, readable, sector_chain}
use Rattle.cfb_format.specs.DirectoryEntry.{Entry}
use Rattle.cfb_format.specs.Reading.{Reading}
use Rattle.cfb_format.proofs.MiniPlaces.{mini_quotient, mini_rest}
use Rattle.cfb_soundness.specs.Layout.{pieces_along}
use Rattle.cfb_soundness.specs.Places.{mini_start, place_by}
use Rattle.cfb_soundness.proofs.Layouts.{large-lies}
use Rattle.cfb_soundness.proofs.PiecesAlong.{placed-pieces_along, read-pieces}

-- where a mini sector begins: at the file's end where the mini stream has no room for it
abbrev pub start_by : Version → ℕ → List ℕ → ℕ → ℕ
start_by v size root m = if nat_lt (mini_sector_len * m / sector_len v) (length root) then mini_start v root m else size

past : (bytes : List ℕ) (o : ℕ) → in_file bytes (length bytes + o) ≡ None
past bytes o = ap (λ b. if b then Some (length bytes + o) else None) (le-ltb (length bytes + o) (length bytes) (omega arith))

mini_at : (v : Version) (bytes : List ℕ) (root : Option (List ℕ)) (m o : ℕ) → o < 64
    → option_and_then (λ l. place_in_chain v bytes l (64 * m + o)) root ≡ in_file bytes (start_by v (length bytes) (unwrap_or root []) m + o)
mini_at v bytes None m o h = sym (past bytes o) ∙ ap (λ (s : ℕ). in_file bytes (s + o)) (sym none_room)
  where
    none_room : start_by v (length bytes) [] m ≡ length bytes
    none_room = ap (λ (b : Bool). if b then mini_start v [] m else length bytes) (le-ltb (64 * m / sector_len v) 0 (omega arith))
mini_at v bytes (Some root) m o h = (λ j. option_and_then (λ i. in_file bytes (sector_start v i + mini_rest v m o h j)) (slice_get root (mini_quotient v m o h j)))
    ∙ go (nat_lt (64 * m / sector_len v) (length root)) refl
  where
    go : (b : Bool) → nat_lt (64 * m / sector_len v) (length root) ≡ b
        → option_and_then (λ i. in_file bytes (sector_start v i + (64 * m % sector_len v + o))) (slice_get root (64 * m / sector_len v))
        ≡ in_file bytes ((if b then mini_start v root m else length bytes) + o)
    go true e =
        let got : slice_get root (64 * m / sector_len v) ≡ Some (slice_index root (64 * m / sector_len v)) =
        slice_get-get_or root (64 * m / sector_len v) 0 (ltb-true (64 * m / sector_len v) (length root) e) in
        let same : sector_start v (slice_index root (64 * m / sector_len v)) + (64 * m % sector_len v + o) ≡ mini_start v root m + o = omega arith in
        ap (option_and_then (λ i. in_file bytes (sector_start v i + (64 * m % sector_len v + o)))) got ∙ ap (in_file bytes) same
    go false e =
        ap (option_and_then (λ i. in_file bytes (sector_start v i + (64 * m % sector_len v + o)))) (slice_get_past root (64 * m / sector_len v) (ltb-false (64 * m / sector_len v) (length root) e))
        ∙ sym (past bytes o)

pub small-read : (bytes : List ℕ) (r : Reading) (e : Entry) (list : List ℕ) → is_large e ≡ false → mini_chain r e ≡ Some list
    → length (readable bytes r e) ≡ min e.stream_len (length (pieces_along mini_sector_len (start_by r.header.version (length bytes) (unwrap_or (mini_stream_chain r) [])) bytes list))
small-read bytes r e list small chain =
    ap length ((λ j. placed_from bytes (λ k. places k j) 0 e.stream_len)
    ∙ placed-pieces_along mini_sector_len (omega arith) (start_by r.header.version (length bytes) (unwrap_or (mini_stream_chain r) [])) bytes list e.stream_len 0 (omega arith))
    ∙ length-take e.stream_len (pieces_along mini_sector_len (start_by r.header.version (length bytes) (unwrap_or (mini_stream_chain r) [])) bytes list)
  where
    go : (k : ℕ) (o : Option ℕ)
        → option_and_then (λ m. option_and_then (λ l. place_in_chain r.header.version bytes l (64 * m + k % 64)) (mini_stream_chain r)) o
        ≡ option_and_then (λ m. in_file bytes (start_by r.header.version (length bytes) (unwrap_or (mini_stream_chain r) []) m + k % 64)) o
    go k None = refl
    go k (Some m) = mini_at r.header.version bytes (mini_stream_chain r) m (k % 64) (omega arith)

    places : (k : ℕ) → place_in_stream bytes r e k ≡ place_by mini_sector_len (start_by r.header.version (length bytes) (unwrap_or (mini_stream_chain r) [])) bytes list k
    places k = (λ j. if small j then option_and_then (λ l. place_in_chain r.header.version bytes l k) (sector_chain r e)
        else option_and_then (λ l. place_in_mini_chain bytes r l k) (chain j))
        ∙ go k (slice_get list (k / 64))

pub large-read : (bytes : List ℕ) (r : Reading) (e : Entry) (list : List ℕ) → is_large e ≡ true → sector_chain r e ≡ Some list
    → length (readable bytes r e) ≡ min e.stream_len (length (pieces_along (sector_len r.header.version) (sector_start r.header.version) bytes list))
large-read bytes r e list large chain =
    ap length (read-pieces bytes r e (sector_len r.header.version) (sector_start r.header.version) list (large-lies r e list record { large = large; chain = chain }))
    ∙ length-take e.stream_len (pieces_along (sector_len r.header.version) (sector_start r.header.version) bytes list)
