use Rattle.std.proofs.Common.{◌≡◌, ℕ, List, [], false, refl, sym, ◌∙◌, subst}
use Rattle.std.specs.Prelude.{All}
use Rattle.cfb_soundness.proofs.MarkLemmas.{true_false}
use Rattle.cfb_flaws.specs.Each.{AnswersEach}
use Rattle.cfb_flaws.proofs.Growing.{most-sound, none-told, sound-each}
use Rattle.cfb_flaws.proofs.Pointing.{into-none, none-into}
use Rattle.cfb_flaws.proofs.flaws.flaws_of.Goals as goal

pub returns-then-is_sound-clause-exact : goal.returns-then-is_sound-clause-exact
returns-then-is_sound-clause-exact g c = λ cases bytes r reads are iff raw. ((λ e. iff.0 c.if-is_sound.true), λ s. c.new-found.ensures.items)

pub returns-then-is_sound-clause-told : goal.returns-then-is_sound-clause-told
returns-then-is_sound-clause-told g c = λ cases bytes r reads are iff raw. rw c.new-found.ensures.items (none-told bytes r)

pub returns-then-is_sound-clause-each : goal.returns-then-is_sound-clause-each
returns-then-is_sound-clause-each g c = λ cases bytes r reads are iff raw.
    let s = iff.0 c.if-is_sound.true in
    sound-each bytes r c.new-found.result.items s (into-none bytes r s.pointers)

pub tell_flaws-requires : goal.tell_flaws-requires
tell_flaws-requires g c = c.new-found.ensures.items

pub returns-clause-exact : goal.returns-clause-exact
returns-clause-exact g c = λ cases bytes r reads are iff raw. (
  (λ e.
      let each : AnswersEach bytes r [] = subst (AnswersEach bytes r) e (c.in_ok-tell_flaws.ensures.each cases bytes r reads are (raw c.if-is_sound.false)) in
      most-sound bytes r each.most (none-into bytes r each)),
  λ s. absurd (true_false c.args.is_sound (iff.1 s) c.if-is_sound.false),
)

pub returns-clause-told : goal.returns-clause-told
returns-clause-told g c = λ cases bytes r reads are iff raw. c.in_ok-tell_flaws.ensures.told cases bytes r reads are (raw c.if-is_sound.false)

pub returns-clause-each : goal.returns-clause-each
returns-clause-each g c = λ cases bytes r reads are iff raw. c.in_ok-tell_flaws.ensures.each cases bytes r reads are (raw c.if-is_sound.false)
