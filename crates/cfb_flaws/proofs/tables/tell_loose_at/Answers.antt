use Rattle.std.proofs.Common.{◌≡◌, ◌<◌, ◌≤◌, ℕ, List, false, true, length, get_or, refl, sym, ◌∙◌, ap, subst, arith}
use Rattle.std.specs.Prelude.{slice_index}
use Rattle.cfb_flaws.specs.declared.flaw.Flaw.TheVariants.{Loose}
use Rattle.cfb_flaws.specs.declared.owner.Owner.{Owner}
use Rattle.cfb_flaws.specs.Claims.{words_in}
use Rattle.cfb_flaws.specs.Flaws.{IsLoosePair, loose_in}
use Rattle.cfb_flaws.specs.Owners.{is_unused, owner_at}
use Rattle.cfb_flaws.specs.Telling.{owners_of}
use Rattle.cfb_flaws.proofs.Ends.{pair-broken, pair-ended, pair-loose, pair-used}
use Rattle.cfb_flaws.proofs.Tellings.{told-one, told-same}
use Rattle.cfb_flaws.proofs.tables.tell_loose_at.Goals as goal

pub returns-then-next-gt-MAX_REGULAR_SECTOR-clause-told : goal.returns-then-next-gt-MAX_REGULAR_SECTOR-clause-told
returns-then-next-gt-MAX_REGULAR_SECTOR-clause-told g c = λ cases bytes r reads knows.
    let t = c.args.table in
    let known = c.args.known.now in
    let w : c.words_of.result.now ≡ words_in t known.parts.now = c.words_of.ensures in
    let next = get_or c.words_of.result.now c.args.number 0 in
    told-same bytes r (loose_in t) (IsLoosePair t r c.args.number) c.args.found.now.items
    (pair-ended known cases bytes r reads knows t c.args.number next c.requires (ap (λ (z : List ℕ). slice_index z c.args.number) (sym w))
    (omega (arith, c.if-next-gt-MAX_REGULAR_SECTOR.true)))

pub returns-then-not-is_unused-clause-told : goal.returns-then-not-is_unused-clause-told
returns-then-not-is_unused-clause-told g c = λ cases bytes r reads knows.
    let t = c.args.table in
    let known = c.args.known.now in
    let w : c.words_of.result.now ≡ words_in t known.parts.now = c.words_of.ensures in
    let o : c.owners_in-owners.result.now ≡ owners_of t known = c.owners_in-owners.ensures in
    let next = get_or c.words_of.result.now c.args.number 0 in
    let used : is_unused (owner_at (owners_of t known) c.args.number) ≡ false =
    ap (λ (z : List Owner). is_unused (owner_at z c.args.number)) (sym o) ∙ ap is_unused (sym c.owner_at.ensures) ∙ sym c.is_unused.ensures ∙ c.if-not-is_unused.true in
    told-same bytes r (loose_in t) (IsLoosePair t r c.args.number) c.args.found.now.items
    (pair-used known cases bytes r reads knows t c.args.number next c.requires (ap (λ (z : List ℕ). slice_index z c.args.number) (sym w)) used)

pub returns-then-is_unused-clause-told : goal.returns-then-is_unused-clause-told
returns-then-is_unused-clause-told g c = λ cases bytes r reads knows.
    let t = c.args.table in
    let known = c.args.known.now in
    let w : c.words_of.result.now ≡ words_in t known.parts.now = c.words_of.ensures in
    let o : c.owners_in-owners.result.now ≡ owners_of t known = c.owners_in-owners.ensures in
    let next = get_or c.words_of.result.now c.args.number 0 in
    let free : is_unused (owner_at (owners_of t known) next) ≡ true =
    ap (λ (z : List Owner). is_unused (owner_at z next)) (sym o) ∙ ap is_unused (sym c.owner_at-owner.ensures) ∙ sym c.is_unused-2.ensures ∙ c.if-is_unused.true in
    told-same bytes r (loose_in t) (IsLoosePair t r c.args.number) c.args.found.now.items
    (pair-loose known cases bytes r reads knows t c.args.number next c.requires (ap (λ (z : List ℕ). slice_index z c.args.number) (sym w))
    (omega (arith, c.if-next-gt-MAX_REGULAR_SECTOR.false)) free)

pub returns-clause-told : goal.returns-clause-told
returns-clause-told g c = λ cases bytes r reads knows.
    let t = c.args.table in
    let known = c.args.known.now in
    let w : c.words_of.result.now ≡ words_in t known.parts.now = c.words_of.ensures in
    let o : c.owners_in-owners.result.now ≡ owners_of t known = c.owners_in-owners.ensures in
    let next = get_or c.words_of.result.now c.args.number 0 in
    let free : is_unused (owner_at (owners_of t known) c.args.number) ≡ true =
    ap (λ (z : List Owner). is_unused (owner_at z c.args.number)) (sym o) ∙ ap is_unused (sym c.owner_at.ensures) ∙ sym c.is_unused.ensures ∙ c.if-not-is_unused.false in
    let used : is_unused c.owner_at-owner.result ≡ false = sym c.is_unused-2.ensures ∙ c.if-is_unused.false in
    rw c.in_ok-push.ensures.items
    (told-one bytes r (IsLoosePair t r c.args.number) c.args.found.now.items (Loose t c.args.number next c.owner_at-owner.result)
    (pair-broken known cases bytes r reads knows t c.args.number next c.requires (ap (λ (z : List ℕ). slice_index z c.args.number) (sym w))
    c.owner_at-owner.result (c.owner_at-owner.ensures ∙ ap (λ (z : List Owner). owner_at z next) o) (omega (arith, c.if-next-gt-MAX_REGULAR_SECTOR.false)) free used))
