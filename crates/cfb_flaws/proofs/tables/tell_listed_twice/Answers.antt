use Rattle.std.proofs.Common.{◌≡◌, ◌<◌, ◌≤◌, ◌+◌, ◌++◌, ℕ, List, length, take, get_or, refl, sym, ◌∙◌, ap, subst, arith}
use Rattle.std.specs.Prelude.{Contains, nat_eq}
use Rattle.std.specs.List.{IsDistinct}
use Rattle.std.proofs.lemmas.List.{take_all}
use Rattle.std.proofs.lemmas.List.Elements.{Contains-append_left}
use Rattle.cfb_format.specs.Reading.{Reading}
use Rattle.cfb_format.proofs.Members.{Contains-nil}
use Rattle.cfb_soundness.proofs.Decision.{known as known-of}
use Rattle.cfb_flaws.specs.Flaws.{on_sectors}
use Rattle.cfb_flaws.specs.Telling.{Told}
use Rattle.cfb_flaws.proofs.Counting.{listed-more, listed-next, once-none}
use Rattle.cfb_flaws.proofs.Sharing.{member-at}
use Rattle.cfb_flaws.proofs.Tellings.{told-same}
use Rattle.cfb_flaws.proofs.tables.tell_listed_twice.Goals as goal

pub loop-number-init : goal.loop-number-init
loop-number-init g c = record {
  listed = record { len = c.requires.len; marked = λ i m. absurd (Contains-nil i m); only = c.requires.unmarked.only };
  told = λ cases bytes r reads knows.
      told-same bytes r on_sectors (IsDistinct nat_eq (take 0 c.args.known.now.parts.now.fat_sectors.now)) c.args.found.now.items (once-none c.args.known.now.parts.now.fat_sectors.now);
}

pub returns-then-at-listed-clause-told : goal.returns-then-at-listed-clause-told
returns-then-at-listed-clause-told g c = λ cases bytes r reads knows.
    let list = c.args.known.now.parts.now.fat_sectors.now in
    let l = c.loop-number in
    let x = get_or list l.number-index 0 in
    let m = member-at list r.fat_sectors l.number-index c.loop-number-test.true knows.parts.fat_sectors in
    let below = (known-of cases bytes r reads).below x
    (Contains-append_left (r.fat_sectors ++ r.difat_sectors ++ r.directory) r.minifat_sectors x
    (Contains-append_left (r.fat_sectors ++ r.difat_sectors) r.directory x (Contains-append_left r.fat_sectors r.difat_sectors x m))) in
    let n = ap length knows.parts.fat in
    let len = l.invariant.listed.len in
    absurd (omega (arith, below, n, len, c.if-at-listed.true))

pub loop-number-preserved : goal.loop-number-preserved
loop-number-preserved g c =
    let list = c.args.known.now.parts.now.fat_sectors.now in
    let l = c.loop-number in
    let lt = c.loop-number-test.true in
    let x = get_or list l.number-index 0 in
    let below : x < length l.listed = omega (arith, c.if-at-listed.false) in
    record {
      listed = listed-more list l.number-index l.listed (length c.args.known.now.parts.now.fat.now) lt below l.invariant.listed;
      told = λ cases bytes r reads knows.
          listed-next bytes r list knows.parts.fat_sectors l.number-index lt l.listed (length c.args.known.now.parts.now.fat.now) l.invariant.listed
          c.args.found.now.items l.found.items c.tell_listed.new.found.items (l.invariant.told cases bytes r reads knows)
          c.in_ok-tell_listed.ensures.again c.in_ok-tell_listed.ensures.once;
    }

pub returns-clause-told : goal.returns-clause-told
returns-clause-told g c = λ cases bytes r reads knows.
    let list = c.args.known.now.parts.now.fat_sectors.now in
    let l = c.loop-number in
    let all : take l.number-index list ≡ r.fat_sectors = take_all l.number-index list c.loop-number-test.false ∙ knows.parts.fat_sectors in
    subst (λ (z : List ℕ). Told on_sectors (IsDistinct nat_eq z) bytes r c.args.found.now.items l.found.items) all (l.invariant.told cases bytes r reads knows)
