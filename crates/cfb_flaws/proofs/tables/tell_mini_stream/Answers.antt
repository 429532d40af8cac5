use Rattle.std.proofs.Common.{◌≡◌, ◌≢◌, ℕ, List, [], true, false, refl, sym, ◌∙◌, ap, subst}
use Rattle.std.specs.Prelude.{IsSome, None}
use Rattle.cfb_format.specs.Content.{mini_stream_chain}
use Rattle.cfb_format.specs.Reading.{root_entry}
use Rattle.cfb_format.specs.Soundness.{mini_stream_sectors}
use Rattle.cfb_flaws.specs.declared.flaw.Break.{Break}
use Rattle.cfb_flaws.specs.declared.flaw.Flaw.TheVariants.{Broken}
use Rattle.cfb_flaws.specs.declared.owner.Owner.TheVariants.{MiniStream}
use Rattle.cfb_flaws.specs.declared.owner.Table.TheVariants.{Fat}
use Rattle.cfb_flaws.specs.Flaws.{BreaksAt, on_mini_stream}
use Rattle.cfb_flaws.proofs.Counting.{none-empty, root-from, root-start, some-at-end, some-where-any}
use Rattle.cfb_flaws.proofs.Tellings.{told-one, told-same}
use Rattle.cfb_flaws.proofs.Truths.{mini-stream-none}
use Rattle.cfb_flaws.proofs.tables.tell_mini_stream.Goals as goal

pub returns-then-start-clause-told : goal.returns-then-start-clause-told
returns-then-start-clause-told g c = λ cases bytes r reads knows.
    let start = c.start_of_mini_stream-start.result in
    told-same bytes r on_mini_stream (IsSome (mini_stream_chain r)) c.args.found.now.items
    (some-at-end r.fat start (mini_stream_chain r) (root-from c.args.known.now.parts.now cases bytes r reads knows.parts start c.start_of_mini_stream-start.ensures.chain) c.if-start.true)

pub returns-then-not-is_empty-clause-told : goal.returns-then-not-is_empty-clause-told
returns-then-not-is_empty-clause-told g c = λ cases bytes r reads knows.
    told-same bytes r on_mini_stream (IsSome (mini_stream_chain r)) c.args.found.now.items
    (some-where-any (mini_stream_chain r) c.root_in-root.result.now (c.root_in-root.ensures ∙ knows.root) (sym c.is_empty.ensures ∙ c.if-not-is_empty.true))

pub returns-clause-told : goal.returns-clause-told
returns-clause-told g c = λ cases bytes r reads knows.
    let known = c.args.known.now in
    let start = c.start_of_mini_stream-start.result in
    let none : mini_stream_sectors r ≡ [] = none-empty c.root_in-root.result.now (mini_stream_sectors r) (c.root_in-root.ensures ∙ knows.root) (sym c.is_empty.ensures ∙ c.if-not-is_empty.false) in
    let from = root-from known.parts.now cases bytes r reads knows.parts start c.start_of_mini_stream-start.ensures.chain in
    let at : start ≡ (root_entry r).start_sector = root-start known.parts.now cases bytes r reads knows.parts start (c.start_of_mini_stream-start.ensures.start c.if-start.false) in
    let place = c.break_of-place.result.0 in
    let there : BreaksAt r.fat (root_entry r).start_sector place =
    subst (λ (p : List ℕ × ℕ). BreaksAt p.0 p.1 place) (λ i. (knows.parts.fat i, at i)) c.break_of-place.ensures in
    rw c.in_ok-push.ensures.items
    (told-one bytes r (IsSome (mini_stream_chain r)) c.args.found.now.items (Broken Fat MiniStream place)
    (mini-stream-none r start from c.if-start.false none, refl, there))
