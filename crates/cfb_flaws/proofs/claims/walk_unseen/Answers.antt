use Rattle.std.proofs.Common.{◌≡◌, ◌<◌, ℕ, List, inl, inr, [], ◌∷◌, ◌++◌, length, refl, ◌∙◌, ap, subst, arith}
use Rattle.std.proofs.lemmas.List.{length-append}
use Rattle.std.proofs.lemmas.List.Elements.{Contains-append_cases}
use Rattle.cfb_soundness.specs.Marks.{AreFresh}
use Rattle.cfb_soundness.proofs.MarkLemmas.{fresh-none, marked-none, fresh-more, marked-more, fresh-few}
use Rattle.cfb_flaws.proofs.Paths.{path-push}
use Rattle.cfb_flaws.proofs.claims.walk_unseen.Goals as goal
use Rattle.cfb_flaws.proofs.claims.walk_unseen.Goals.{then-sector-gt-MAX_REGULAR_SECTOR-via-then-sector-gt-MAX_REGULAR_SECTOR, then-sector-gt-MAX_REGULAR_SECTOR-via-else-sector-gt-MAX_REGULAR_SECTOR+then-at-table, then-sector-gt-MAX_REGULAR_SECTOR-via-else-sector-gt-MAX_REGULAR_SECTOR+else-at-table+then-seen-at}
use Rattle.cfb_format.proofs.Members.{Contains-nil, Contains-one}
use Rattle.cfb_format.proofs.Walks.{le-regular}

pub loop-sector-init : goal.loop-sector-init
loop-sector-init g c = rw c.new-path.ensures.items record {
  fresh = fresh-none c.args.seen.now;
  marked = marked-none c.args.seen.now;
  below = λ i m. absurd (Contains-nil i m);
  is_path = refl;
}

pub returns-then-sector-gt-MAX_REGULAR_SECTOR-clause-stops : goal.returns-then-sector-gt-MAX_REGULAR_SECTOR-clause-stops
returns-then-sector-gt-MAX_REGULAR_SECTOR-clause-stops g c = λ ne le lt.
    elim c.then-sector-gt-MAX_REGULAR_SECTOR.branch [
      | then-sector-gt-MAX_REGULAR_SECTOR-via-then-sector-gt-MAX_REGULAR_SECTOR w ↦ absurd (omega (arith, le, w.if-sector-gt-MAX_REGULAR_SECTOR.true))
      | then-sector-gt-MAX_REGULAR_SECTOR-via-else-sector-gt-MAX_REGULAR_SECTOR+then-at-table w ↦ absurd (omega (arith, lt, w.if-at-table.true))
      | then-sector-gt-MAX_REGULAR_SECTOR-via-else-sector-gt-MAX_REGULAR_SECTOR+else-at-table+then-seen-at w ↦ w.if-seen-at.true
    ]

pub loop-sector-smaller : goal.loop-sector-smaller
loop-sector-smaller g c =
    let l = c.loop-sector in
    let x = l.sector in
    let below : x < length c.args.table.now = omega (arith, c.if-at-table.false) in
    let fresh = fresh-more c.args.seen.now l.seen l.path.items x (omega (arith, below, l.auto.seen, c.requires)) l.invariant.fresh l.invariant.marked c.if-seen-at.false in
    let few = fresh-few c.args.seen.now (l.path.items ++ x ∷ []) (length c.args.table.now) fresh
    (λ i m. elim (Contains-append_cases l.path.items (x ∷ []) i m) [ inl a ↦ l.invariant.below i a | inr r ↦ subst (λ (k : ℕ). k < length c.args.table.now) (Contains-one x i r) below ]) in
    let both = length-append l.path.items (x ∷ []) in
    omega (arith, few, both, c.in_ok-push.ensures.len, l.path.ok.0)

pub loop-sector-preserved : goal.loop-sector-preserved
loop-sector-preserved g c =
    let l = c.loop-sector in
    let x = l.sector in
    let below : x < length c.args.table.now = omega (arith, c.if-at-table.false) in
    let marks_below : x < length l.seen = omega (arith, below, l.auto.seen, c.requires) in
    rw c.in_ok-push.ensures.items record {
      fresh = fresh-more c.args.seen.now l.seen l.path.items x marks_below l.invariant.fresh l.invariant.marked c.if-seen-at.false;
      marked = marked-more c.args.seen.now l.seen l.path.items x marks_below l.invariant.fresh l.invariant.marked;
      below = λ i m. elim (Contains-append_cases l.path.items (x ∷ []) i m) [ inl a ↦ l.invariant.below i a | inr r ↦ subst (λ (k : ℕ). k < length c.args.table.now) (Contains-one x i r) below ];
      is_path = path-push c.args.table.now c.args.start l.path.items x l.invariant.is_path c.loop-sector-test.true below (le-regular x (omega (arith, c.if-sector-gt-MAX_REGULAR_SECTOR.false)));
    }
