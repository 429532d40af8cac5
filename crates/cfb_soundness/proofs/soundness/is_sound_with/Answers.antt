use Rattle.std.proofs.Common.{◌≡◌, ℕ, List, [], ◌++◌, ◌<◌, ◌≤◌, ◌*◌, true, false, length, refl, sym, ap, subst, arith}
use Rattle.std.specs.Prelude.{IsSome, Some, Option, nat_eq, flat_map, unwrap_or}
use Rattle.std.specs.List.{IsDistinct}
use Rattle.std.proofs.lemmas.List.{length-map}
use Rattle.cfb_format.specs.Content.{mini_stream_chain, mini_sector_len}
use Rattle.cfb_format.specs.Bytes.{sector_len}
use Rattle.cfb_codecs.specs.EntryModel.{entry_of}
use Rattle.cfb_format.specs.Siblings.{entry_at}
use Rattle.cfb_format.specs.Soundness.{mini_stream_sectors, KeepsLoose}
use Rattle.cfb_soundness.specs.Marks.{HoldsMarks}
use Rattle.cfb_soundness.specs.Parts.{parts_reading, tables_and_directory}
use Rattle.cfb_soundness.specs.Streams.{own_sectors, own_mini_sectors, StreamsFit}
use Rattle.cfb_soundness.proofs.Decision.{known-parts, decided-sound, decided-parts}
use Rattle.cfb_soundness.proofs.MarkLemmas.{true_false, fresh-from, holds-more}
use Rattle.cfb_soundness.proofs.StreamLemmas.{some-is}
use Rattle.cfb_soundness.proofs.soundness.is_sound_with.Goals as goal
use Rattle.cfb_format.proofs.Members.{distinct-left}

pub returns-then-not-covers-clause-exact : goal.returns-then-not-covers-clause-exact
returns-then-not-covers-clause-exact g c = λ cases bytes r reads are. (
  λ h. let f : false ≡ true = h in cc,
  λ sound.
      let s = decided-parts c.args.parts.now cases bytes r reads are sound in
      absurd (true_false _ (c.covers.ensures.1 s.covers) c.if-not-covers.true),
)

pub returns-then-not-mark_tables-clause-exact : goal.returns-then-not-mark_tables-clause-exact
returns-then-not-mark_tables-clause-exact g c = λ cases bytes r reads are. (
  λ h. let f : false ≡ true = h in cc,
  λ sound.
      let r0 = parts_reading c.args.parts.now in
      let s = decided-parts c.args.parts.now cases bytes r reads are sound in
      let k = known-parts c.args.parts.now cases bytes r reads are in
      absurd (c.mark_tables.ensures.refused c.if-not-mark_tables.true c.requires.unmarked
      (λ i m. subst (λ (n : ℕ). i < n) (sym c.requires.marks) (k.below i m))
      (distinct-left (tables_and_directory r0) (mini_stream_sectors r0)
      (distinct-left (tables_and_directory r0 ++ mini_stream_sectors r0) (flat_map (λ i. own_sectors r0 (entry_at r0.entries i)) c.args.parts.now.streams.now) s.fit.sectors))),
)

pub returns-in_default-clause-exact : goal.returns-in_default-clause-exact
returns-in_default-clause-exact g c = λ cases bytes r reads are. (
  λ h. let f : false ≡ true = h in cc,
  λ sound.
      let r0 = parts_reading c.args.parts.now in
      let s = decided-parts c.args.parts.now cases bytes r reads are sound in
      let k = known-parts c.args.parts.now cases bytes r reads are in
      let root = some-is (mini_stream_chain r0) s.mini_stream in
      let none = rw c.in_default.is at c.in_ok-root.ensures.none in
      let entries : 0 < length c.args.parts.now.entries.now = let e = k.some_entry in let n = length-map c.args.parts.now.entries.now entry_of in omega (arith, e, n) in
      let tables = c.mark_tables.ensures.marked c.if-not-mark_tables.false c.requires.unmarked in
      let distinct : IsDistinct nat_eq (tables_and_directory r0 ++ mini_stream_sectors r0) =
      distinct-left (tables_and_directory r0 ++ mini_stream_sectors r0) (flat_map (λ i. own_sectors r0 (entry_at r0.entries i)) c.args.parts.now.streams.now) s.fit.sectors in
      let is : mini_stream_sectors r0 ≡ root.0 = ap (λ (o : Option (List ℕ)). unwrap_or o []) root.1 in
      absurd (none entries root.0 root.1 (fresh-from (tables_and_directory r0) root.0 c.mark_tables.new.marks tables (subst (λ (z : List ℕ). IsDistinct nat_eq (tables_and_directory r0 ++ z)) is distinct))),
)

pub returns-then-not-has_room-clause-exact : goal.returns-then-not-has_room-clause-exact
returns-then-not-has_room-clause-exact g c = λ cases bytes r reads are. (
  λ h. let f : false ≡ true = h in cc,
  λ sound.
      let r0 = parts_reading c.args.parts.now in
      let s = decided-parts c.args.parts.now cases bytes r reads are sound in
      let root = c.in-Some.root.items in
      let chain : mini_stream_chain r0 ≡ Some root = rw c.in-Some.is at c.in_ok-root.ensures.chain in
      let is : mini_stream_sectors r0 ≡ root = ap (λ (o : Option (List ℕ)). unwrap_or o []) chain in
      let size : c.len.result ≡ length (mini_stream_sectors r0) = let n = c.len.ensures in let k = c.in-Some.root.ok.0 in let m = ap length is in omega (arith, n, k, m) in
      absurd (true_false _ (c.has_room.ensures.1 (subst (λ (n : ℕ). length r0.minifat * mini_sector_len ≤ n * sector_len r0.header.version) (sym size) s.room)) c.if-not-has_room.true),
)

pub returns-then-not-branch-clause-exact : goal.returns-then-not-branch-clause-exact
returns-then-not-branch-clause-exact g c = λ cases bytes r reads are. (
  λ h. let f : false ≡ true = h in cc,
  λ sound.
      let r0 = parts_reading c.args.parts.now in
      let s = decided-parts c.args.parts.now cases bytes r reads are sound in
      let root = c.in-Some.root.items in
      let chain : mini_stream_chain r0 ≡ Some root = rw c.in-Some.is at c.in_ok-root.ensures.chain in
      let is : mini_stream_sectors r0 ≡ root = ap (λ (o : Option (List ℕ)). unwrap_or o []) chain in
      let tables = c.mark_tables.ensures.marked c.if-not-mark_tables.false c.requires.unmarked in
      let base : HoldsMarks (tables_and_directory r0 ++ root) c.mark_mini_stream.new.marks =
      holds-more (tables_and_directory r0) root c.mark_tables.new.marks c.mark_mini_stream.new.marks tables
      (rw c.in-Some.is at c.in_ok-root.ensures.fresh) (rw c.in-Some.is at c.in_ok-root.ensures.marked) in
      let fit = subst (λ (z : List ℕ). StreamsFit bytes r0 c.args.parts.now.streams.now (tables_and_directory r0 ++ z) []) is s.fit in
      absurd (true_false _ ((c.in_ok-mark_streams.ensures.fit bytes (tables_and_directory r0 ++ root) [] (sym are.len) base c.requires.mini_unmarked).1 fit) c.if-not-branch.true),
)

pub returns-then-not-keeps_loose-clause-exact : goal.returns-then-not-keeps_loose-clause-exact
returns-then-not-keeps_loose-clause-exact g c = λ cases bytes r reads are. (
  λ h. let f : false ≡ true = h in cc,
  λ sound.
      let r0 = parts_reading c.args.parts.now in
      let s = decided-parts c.args.parts.now cases bytes r reads are sound in
      let root = c.in-Some.root.items in
      let chain : mini_stream_chain r0 ≡ Some root = rw c.in-Some.is at c.in_ok-root.ensures.chain in
      let is : mini_stream_sectors r0 ≡ root = ap (λ (o : Option (List ℕ)). unwrap_or o []) chain in
      let tables = c.mark_tables.ensures.marked c.if-not-mark_tables.false c.requires.unmarked in
      let base : HoldsMarks (tables_and_directory r0 ++ root) c.mark_mini_stream.new.marks =
      holds-more (tables_and_directory r0) root c.mark_tables.new.marks c.mark_mini_stream.new.marks tables
      (rw c.in-Some.is at c.in_ok-root.ensures.fresh) (rw c.in-Some.is at c.in_ok-root.ensures.marked) in
      let used : List ℕ = tables_and_directory r0 ++ root ++ flat_map (λ i. own_sectors r0 (entry_at r0.entries i)) c.args.parts.now.streams.now in
      let all : HoldsMarks used c.mark_streams.new.marks = c.in_ok-mark_streams.ensures.marked (tables_and_directory r0 ++ root) base c.if-not-branch.false in
      let loose : KeepsLoose r0.fat used = subst (λ (z : List ℕ). KeepsLoose r0.fat (tables_and_directory r0 ++ z ++ flat_map (λ i. own_sectors r0 (entry_at r0.entries i)) c.args.parts.now.streams.now)) is s.loose in
      absurd (true_false _ ((c.keeps_loose.ensures used all).1 loose) c.if-not-keeps_loose.true),
)

pub returns-clause-exact : goal.returns-clause-exact
returns-clause-exact g c = λ cases bytes r reads are.
    let r0 = parts_reading c.args.parts.now in
    let root = c.in-Some.root.items in
    let chain : mini_stream_chain r0 ≡ Some root = rw c.in-Some.is at c.in_ok-root.ensures.chain in
    let is : mini_stream_sectors r0 ≡ root = ap (λ (o : Option (List ℕ)). unwrap_or o []) chain in
    let tables = c.mark_tables.ensures.marked c.if-not-mark_tables.false c.requires.unmarked in
    let base : HoldsMarks (tables_and_directory r0 ++ root) c.mark_mini_stream.new.marks =
    holds-more (tables_and_directory r0) root c.mark_tables.new.marks c.mark_mini_stream.new.marks tables
    (rw c.in-Some.is at c.in_ok-root.ensures.fresh) (rw c.in-Some.is at c.in_ok-root.ensures.marked) in
    let used : List ℕ = tables_and_directory r0 ++ root ++ flat_map (λ i. own_sectors r0 (entry_at r0.entries i)) c.args.parts.now.streams.now in
    let all : HoldsMarks used c.mark_streams.new.marks = c.in_ok-mark_streams.ensures.marked (tables_and_directory r0 ++ root) base c.if-not-branch.false in
    let mini_used : List ℕ = flat_map (λ i. own_mini_sectors r0 (entry_at r0.entries i)) c.args.parts.now.streams.now in
    let all_mini : HoldsMarks mini_used c.mark_streams.new.mini_marks = c.in_ok-mark_streams.ensures.mini_marked [] c.requires.mini_unmarked c.if-not-branch.false in
    let fit = (c.in_ok-mark_streams.ensures.fit bytes (tables_and_directory r0 ++ root) [] (sym are.len) base c.requires.mini_unmarked).0 c.if-not-branch.false in
    let size : c.len.result ≡ length (mini_stream_sectors r0) = let n = c.len.ensures in let k = c.in-Some.root.ok.0 in let m = ap length is in omega (arith, n, k, m) in
    let room = c.has_room.ensures.0 c.if-not-has_room.false in (
      λ h. decided-sound c.args.parts.now cases bytes r reads are c.if-not-parts.false record {
        covers = c.covers.ensures.0 c.if-not-covers.false;
        mini_stream = subst IsSome (sym chain) refl;
        fit = subst (λ (z : List ℕ). StreamsFit bytes r0 c.args.parts.now.streams.now (tables_and_directory r0 ++ z) []) (sym is) fit;
        room = subst (λ (n : ℕ). length r0.minifat * mini_sector_len ≤ n * sector_len r0.header.version) size room;
        loose = subst (λ (z : List ℕ). KeepsLoose r0.fat (tables_and_directory r0 ++ z ++ flat_map (λ i. own_sectors r0 (entry_at r0.entries i)) c.args.parts.now.streams.now)) (sym is)
            ((c.keeps_loose.ensures used all).0 c.if-not-keeps_loose.false);
        mini_loose = (c.keeps_loose-2.ensures mini_used all_mini).0 h;
      },
      λ sound. (c.keeps_loose-2.ensures mini_used all_mini).1 (decided-parts c.args.parts.now cases bytes r reads are sound).mini_loose,
    )
