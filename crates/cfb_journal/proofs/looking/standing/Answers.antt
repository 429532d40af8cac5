use Rattle.std.proofs.Common.{◌≡◌, ◌∙◌, inr, ap, sym, refl, subst, length, take, drop, List, ℕ, IsTrue, nat_le, arith}
use Rattle.std.proofs.lemmas.Bool.{and_parts}
use Rattle.std.proofs.lemmas.List.{take_rest, get_or_past}
use Rattle.cfb_format.specs.Bytes.{long_at}
use Rattle.cfb_journal.specs.Journal.{are_whole, is_whole, stamped}
use Rattle.cfb_journal.specs.Seen.{looked}
use Rattle.cfb_journal.proofs.Files.{damaged_body, foreign_sized, foreign_base, sound_shut, sound_changing, sound_whole}
use Rattle.cfb_journal.proofs.LaidFrames.{looked_shut, looked_committed, looked_changing}
use Rattle.cfb_journal.proofs.looking.standing.Goals as goal
use Rattle.cfb_journal.proofs.looking.standing.Goals.{then-journal-lt18-via-then-journal-lt18, then-journal-lt18-via-else-journal-lt18+then-journal-ne1}

zero_one : ◌≡◌ {A = ℕ} 0 1 → ⊥
zero_one e = omega arith

pub returns-then-journal-lt18-clause-stands : goal.returns-then-journal-lt18-clause-stands
returns-then-journal-lt18-clause-stands c file is =
    let j = c.args.journal.now in
    looked_shut file j c.args.len is
    (elim c.then-journal-lt18.branch [
      | then-journal-lt18-via-then-journal-lt18 w ↦ λ e. zero_one (sym (get_or_past j 17 0 (omega (arith, w.if-journal-lt18.true))) ∙ e)
      | then-journal-lt18-via-else-journal-lt18+then-journal-ne1 w ↦ λ e. w.if-journal-ne1.true e
    ])

pub returns-then-journal-lt18-clause-sound : goal.returns-then-journal-lt18-clause-sound
returns-then-journal-lt18-clause-sound c =
    let j = c.args.journal.now in
    sound_shut j
    (elim c.then-journal-lt18.branch [
      | then-journal-lt18-via-then-journal-lt18 w ↦ λ e. zero_one (sym (get_or_past j 17 0 (omega (arith, w.if-journal-lt18.true))) ∙ e)
      | then-journal-lt18-via-else-journal-lt18+then-journal-ne1 w ↦ λ e. w.if-journal-ne1.true e
    ])

pub returns-then-not-is_body-clause-stands : goal.returns-then-not-is_body-clause-stands
returns-then-not-is_body-clause-stands c file is =
    let j = c.args.journal.now in
    damaged_body (record { file = file; journal = j }) c.if-journal-ne1.false c.if-journal-eq1.true (ap is_whole (sym (take_rest j 18)) ∙ sym c.is_body.ensures ∙ c.if-not-is_body.true)

pub returns-then-u64_at-len-clause-stands : goal.returns-then-u64_at-len-clause-stands
returns-then-u64_at-len-clause-stands c file is =
    let j = c.args.journal.now in
    let body = take_rest j 18 in
    let whole = subst (λ (b : List ℕ). IsTrue (is_whole b)) body (sym c.is_body.ensures ∙ c.if-not-is_body.false) in
    (foreign_sized (record { file = file; journal = j }) c.if-journal-ne1.false c.if-journal-eq1.true whole
    (λ e. c.if-u64_at-len.true (c.u64_at.ensures ∙ ap (λ (b : List ℕ). long_at b 0) body ∙ e ∙ sym is))).other

pub returns-then-u64_at-len-clause-refused : goal.returns-then-u64_at-len-clause-refused
returns-then-u64_at-len-clause-refused c =
    let j = c.args.journal.now in
    inr (refl, sound_whole j c.if-journal-ne1.false c.if-journal-eq1.true (subst (λ (b : List ℕ). IsTrue (is_whole b)) (take_rest j 18) (sym c.is_body.ensures ∙ c.if-not-is_body.false)))

pub returns-then-journal-eq1-clause-stands : goal.returns-then-journal-eq1-clause-stands
returns-then-journal-eq1-clause-stands c file is =
    let j = c.args.journal.now in
    let body = take_rest j 18 in
    let whole = subst (λ (b : List ℕ). IsTrue (is_whole b)) body (sym c.is_body.ensures ∙ c.if-not-is_body.false) in
    let sized = sym (c.u64_at.ensures ∙ ap (λ (b : List ℕ). long_at b 0) body) ∙ c.if-u64_at-len.false in
    let count = c.u64_at-then-journal-eq1.ensures ∙ ap (λ (b : List ℕ). long_at b 16) body in
    let stamp = c.u64_at-then-journal-eq1-2.ensures ∙ ap (λ (b : List ℕ). long_at b 8) body in
    looked_committed file j c.args.len is c.if-journal-ne1.false c.if-journal-eq1.true whole sized
    ∙ ap (λ k. stamped k (looked j (long_at (drop 18 j) 16) c.args.len file)) (sym stamp)
    ∙ ap (λ k. stamped c.u64_at-then-journal-eq1-2.result (looked j k c.args.len file)) (sym count)

pub returns-then-journal-eq1-clause-whole : goal.returns-then-journal-eq1-clause-whole
returns-then-journal-eq1-clause-whole c =
    let j = c.args.journal.now in
    let body = take_rest j 18 in
    let whole = subst (λ (b : List ℕ). IsTrue (is_whole b)) body (sym c.is_body.ensures ∙ c.if-not-is_body.false) in
    let sized = sym (c.u64_at.ensures ∙ ap (λ (b : List ℕ). long_at b 0) body) ∙ c.if-u64_at-len.false in
    let count = c.u64_at-then-journal-eq1.ensures ∙ ap (λ (b : List ℕ). long_at b 16) body in
    subst (λ n. IsTrue (are_whole n c.u64_at-then-journal-eq1.result (drop 24 (drop 18 j)))) sized
    (subst (λ k. IsTrue (are_whole (long_at (drop 18 j) 0) k (drop 24 (drop 18 j)))) (sym count) (and_parts (nat_le 24 (length (drop 18 j))) _ whole).1)

pub returns-then-journal-eq1-clause-sound : goal.returns-then-journal-eq1-clause-sound
returns-then-journal-eq1-clause-sound c =
    let j = c.args.journal.now in
    sound_whole j c.if-journal-ne1.false c.if-journal-eq1.true (subst (λ (b : List ℕ). IsTrue (is_whole b)) (take_rest j 18) (sym c.is_body.ensures ∙ c.if-not-is_body.false))

pub returns-then-base-len-clause-stands : goal.returns-then-base-len-clause-stands
returns-then-base-len-clause-stands c file is =
    (foreign_base (record { file = file; journal = c.args.journal.now }) c.if-journal-ne1.false c.if-journal-eq1.false (omega (arith, c.u64_at-base.ensures, is, c.if-base-len.true))).other

pub returns-then-base-len-clause-refused : goal.returns-then-base-len-clause-refused
returns-then-base-len-clause-refused c = inr (refl, sound_changing c.args.journal.now c.if-journal-ne1.false c.if-journal-eq1.false)

pub returns-clause-stands : goal.returns-clause-stands
returns-clause-stands c file is =
    looked_changing file c.args.journal.now c.args.len c.u64_at-base.result is c.if-journal-ne1.false c.if-journal-eq1.false c.u64_at-base.ensures (omega (arith, c.if-base-len.false))
    ∙ ap (λ k. stamped k (take c.u64_at-base.result file)) (sym c.u64_at-2.ensures)

pub returns-clause-sound : goal.returns-clause-sound
returns-clause-sound c = sound_changing c.args.journal.now c.if-journal-ne1.false c.if-journal-eq1.false
