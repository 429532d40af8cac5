use Rattle.std.proofs.Common.{◌≡◌, ◌≤◌, ◌/◌, ◌*◌, ◌∙◌, min, ℕ, List, length, ap, arith}
use Rattle.cfb_format.specs.Bytes.{sector_len}
use Rattle.cfb_flaws.specs.declared.flaw.Flaw.TheVariants.{TooLittleRoom}
use Rattle.cfb_flaws.specs.Flaws.{HasRoom, on_mini_room}
use Rattle.cfb_flaws.proofs.Counting.{most_words}
use Rattle.cfb_flaws.proofs.Covering.{has-room, little-left}
use Rattle.cfb_flaws.proofs.Tellings.{told-one, told-same}
use Rattle.cfb_flaws.proofs.tables.tell_room.Goals as goal

pub returns-then-room-named-clause-told : goal.returns-then-room-named-clause-told
returns-then-room-named-clause-told g c = λ cases bytes r reads knows.
    let e = ap (λ (n : ℕ). n / 64) c.sector_len-sector_len.ensures in
    let per = c.sector_len-sector_len.result / 64 in
    let w : c.saturating_mul-room.result ≡ min (length c.args.known.now.root.items * per) most_words = c.saturating_mul-room.ensures ∙ ap (λ (z : List ℕ). min (length z * per) most_words) c.root_in-root.ensures in
    told-same bytes r on_mini_room (HasRoom r) c.args.found.now.items
    (has-room c.args.known.now cases bytes r reads knows per c.saturating_mul-room.result e w
    (omega (arith, c.if-room-named.true)))

pub returns-clause-told : goal.returns-clause-told
returns-clause-told g c = λ cases bytes r reads knows.
    let e = ap (λ (n : ℕ). n / 64) c.sector_len-sector_len.ensures in
    let per = c.sector_len-sector_len.result / 64 in
    let w : c.saturating_mul-room.result ≡ min (length c.args.known.now.root.items * per) most_words = c.saturating_mul-room.ensures ∙ ap (λ (z : List ℕ). min (length z * per) most_words) c.root_in-root.ensures in
    rw c.in_ok-push.ensures.items
    (told-one bytes r (HasRoom r) c.args.found.now.items (TooLittleRoom c.saturating_mul-room.result (length c.args.known.now.parts.now.minifat.now))
    (little-left c.args.known.now cases bytes r reads knows per c.saturating_mul-room.result e w
    (omega (arith, c.if-room-named.false)) (omega arith)))
