use Rattle.std.proofs.Common.{◌≡◌, ℕ, List, nat_eq, length}
use Rattle.std.specs.Prelude.{Contains}
use Rattle.std.specs.List.{IsDistinct}
use Rattle.cfb_format.specs.Soundness.{mini_stream_sectors, streams, used_mini_sectors, used_sectors}
use Rattle.cfb_soundness.proofs.MarkLemmas.{holds-none}
use Rattle.cfb_flaws.specs.declared.owner.Owner.TheVariants.{Difat, Minifat as MinifatOwner, MiniStream}
use Rattle.cfb_flaws.specs.declared.owner.Table.TheVariants.{Fat, Minifat}
use Rattle.cfb_flaws.specs.Flaws.{Covers, OwnsIn, OwnTheirMembers, on_covers, on_mini_sectors, on_sectors}
use Rattle.cfb_flaws.proofs.Apart.{mini-sectors-once, sectors-once}
use Rattle.cfb_flaws.proofs.Growing.{grows, grows-on, grows-then, then-grows, told-both}
use Rattle.cfb_flaws.proofs.Tellings.{told-map, told-then}
use Rattle.cfb_flaws.proofs.flaws.tell_uses.Goals as goal

pub tell_listed_twice-requires-clause-unmarked : goal.tell_listed_twice-requires-clause-unmarked
tell_listed_twice-requires-clause-unmarked g c =
    rw c.deref_mut.ensures.value (holds-none (length c.args.known.now.parts.now.fat.now) c.in_ok-listed.listed.items (c.in_ok-listed.ensures.items_if_clones_equal (λ y e. e)))

pub returns-clause-covers : goal.returns-clause-covers
returns-clause-covers g c = λ cases bytes r reads knows.
    let f0 = c.args.found.now.items in
    let f1 = c.tell_coverage.new.found.items in
    let f2 = c.tell_listed_twice.new.found.items in
    let f3 = c.tell_difat.new.found.items in
    let f4 = c.tell_roots.new.found.items in
    let f5 = c.tell_shared_streams.new.found.items in
    let f6 = c.tell_shared_streams-2.new.found.items in
    let covers = c.in_ok-tell_coverage.ensures.told cases bytes r reads knows in
    let once = c.in_ok-tell_listed_twice.ensures.told cases bytes r reads knows in
    let difat = c.in_ok-tell_difat.ensures.told cases bytes r reads knows in
    let minifat = c.in_ok-tell_roots.ensures.minifat cases bytes r reads knows in
    let root = c.in_ok-tell_roots.ensures.mini_stream cases bytes r reads knows in
    let streams_own = c.in_ok-tell_shared_streams.ensures.told cases bytes r reads knows in
    let minis_own = c.in_ok-tell_shared_streams-2.ensures.told cases bytes r reads knows in
    let t1 : Type 0 = IsDistinct nat_eq r.fat_sectors in
    let t2 : Type 0 = OwnsIn Fat r Difat r.difat_sectors in
    let t3 : Type 0 = OwnsIn Fat r MinifatOwner r.minifat_sectors in
    let t4 : Type 0 = OwnsIn Fat r MiniStream (mini_stream_sectors r) in
    let t5 : Type 0 = OwnTheirMembers Fat r (streams r) in
    let t6 : Type 0 = OwnTheirMembers Minifat r (streams r) in
    let g1 = grows bytes r on_covers (Covers bytes r) f0 f1 covers in
    let g2 = grows bytes r on_sectors t1 f1 f2 once in
    let g3 = grows bytes r on_sectors t2 f2 f3 difat in
    let g4 = grows bytes r on_sectors t3 f3 f4 minifat in
    let g5 = grows bytes r on_sectors t5 f4 f5 streams_own in
    let g6 = grows bytes r on_mini_sectors t6 f5 f6 minis_own in
    then-grows bytes r on_covers (Covers bytes r) f0 f1 f6 covers
    (grows-on bytes r f1 f2 f6 g2 (grows-on bytes r f2 f3 f6 g3 (grows-on bytes r f3 f4 f6 g4 (grows-on bytes r f4 f5 f6 g5 g6))))

pub returns-clause-sectors : goal.returns-clause-sectors
returns-clause-sectors g c = λ cases bytes r reads knows.
    let f0 = c.args.found.now.items in
    let f1 = c.tell_coverage.new.found.items in
    let f2 = c.tell_listed_twice.new.found.items in
    let f3 = c.tell_difat.new.found.items in
    let f4 = c.tell_roots.new.found.items in
    let f5 = c.tell_shared_streams.new.found.items in
    let f6 = c.tell_shared_streams-2.new.found.items in
    let covers = c.in_ok-tell_coverage.ensures.told cases bytes r reads knows in
    let once = c.in_ok-tell_listed_twice.ensures.told cases bytes r reads knows in
    let difat = c.in_ok-tell_difat.ensures.told cases bytes r reads knows in
    let minifat = c.in_ok-tell_roots.ensures.minifat cases bytes r reads knows in
    let root = c.in_ok-tell_roots.ensures.mini_stream cases bytes r reads knows in
    let streams_own = c.in_ok-tell_shared_streams.ensures.told cases bytes r reads knows in
    let minis_own = c.in_ok-tell_shared_streams-2.ensures.told cases bytes r reads knows in
    let t1 : Type 0 = IsDistinct nat_eq r.fat_sectors in
    let t2 : Type 0 = OwnsIn Fat r Difat r.difat_sectors in
    let t3 : Type 0 = OwnsIn Fat r MinifatOwner r.minifat_sectors in
    let t4 : Type 0 = OwnsIn Fat r MiniStream (mini_stream_sectors r) in
    let t5 : Type 0 = OwnTheirMembers Fat r (streams r) in
    let t6 : Type 0 = OwnTheirMembers Minifat r (streams r) in
    let g1 = grows bytes r on_covers (Covers bytes r) f0 f1 covers in
    let g2 = grows bytes r on_sectors t1 f1 f2 once in
    let g3 = grows bytes r on_sectors t2 f2 f3 difat in
    let g4 = grows bytes r on_sectors t3 f3 f4 minifat in
    let g5 = grows bytes r on_sectors t5 f4 f5 streams_own in
    let g6 = grows bytes r on_mini_sectors t6 f5 f6 minis_own in
    let two = told-then bytes r on_sectors t1 t2 (t1 × t2) f1 f2 f3 (λ a b. (a, b)) once difat in
    let both = told-both bytes r on_sectors t3 t4 (t3 × t4) f3 f4 (λ a b. (a, b)) minifat root in
    let four = told-then bytes r on_sectors (t1 × t2) (t3 × t4) ((t1 × t2) × (t3 × t4)) f1 f3 f4 (λ a b. (a, b)) two both in
    let all = told-then bytes r on_sectors ((t1 × t2) × (t3 × t4)) t5 (IsDistinct nat_eq (used_sectors r)) f1 f4 f5
    (λ a b. sectors-once cases bytes r reads a.0.0 a.0.1 a.1.0 a.1.1 b) four streams_own in
    grows-then bytes r on_sectors (IsDistinct nat_eq (used_sectors r)) f0 f1 f6 g1 (then-grows bytes r on_sectors (IsDistinct nat_eq (used_sectors r)) f1 f5 f6 all g6)

pub returns-clause-mini_sectors : goal.returns-clause-mini_sectors
returns-clause-mini_sectors g c = λ cases bytes r reads knows.
    let f0 = c.args.found.now.items in
    let f1 = c.tell_coverage.new.found.items in
    let f2 = c.tell_listed_twice.new.found.items in
    let f3 = c.tell_difat.new.found.items in
    let f4 = c.tell_roots.new.found.items in
    let f5 = c.tell_shared_streams.new.found.items in
    let f6 = c.tell_shared_streams-2.new.found.items in
    let covers = c.in_ok-tell_coverage.ensures.told cases bytes r reads knows in
    let once = c.in_ok-tell_listed_twice.ensures.told cases bytes r reads knows in
    let difat = c.in_ok-tell_difat.ensures.told cases bytes r reads knows in
    let minifat = c.in_ok-tell_roots.ensures.minifat cases bytes r reads knows in
    let root = c.in_ok-tell_roots.ensures.mini_stream cases bytes r reads knows in
    let streams_own = c.in_ok-tell_shared_streams.ensures.told cases bytes r reads knows in
    let minis_own = c.in_ok-tell_shared_streams-2.ensures.told cases bytes r reads knows in
    let t1 : Type 0 = IsDistinct nat_eq r.fat_sectors in
    let t2 : Type 0 = OwnsIn Fat r Difat r.difat_sectors in
    let t3 : Type 0 = OwnsIn Fat r MinifatOwner r.minifat_sectors in
    let t4 : Type 0 = OwnsIn Fat r MiniStream (mini_stream_sectors r) in
    let t5 : Type 0 = OwnTheirMembers Fat r (streams r) in
    let t6 : Type 0 = OwnTheirMembers Minifat r (streams r) in
    let g1 = grows bytes r on_covers (Covers bytes r) f0 f1 covers in
    let g2 = grows bytes r on_sectors t1 f1 f2 once in
    let g3 = grows bytes r on_sectors t2 f2 f3 difat in
    let g4 = grows bytes r on_sectors t3 f3 f4 minifat in
    let g5 = grows bytes r on_sectors t5 f4 f5 streams_own in
    let g6 = grows bytes r on_mini_sectors t6 f5 f6 minis_own in
    grows-then bytes r on_mini_sectors (IsDistinct nat_eq (used_mini_sectors r)) f0 f5 f6
    (grows-on bytes r f0 f1 f5 g1 (grows-on bytes r f1 f2 f5 g2 (grows-on bytes r f2 f3 f5 g3 (grows-on bytes r f3 f4 f5 g4 g5))))
    (told-map bytes r on_mini_sectors t6 (IsDistinct nat_eq (used_mini_sectors r)) f5 f6 (mini-sectors-once cases bytes r reads) minis_own)
