use Rattle.std.proofs.Common.{◌≡◌, ◌<◌, ◌+◌, ℕ, List, [], ◌∷◌, ◌++◌, length, take, get_or, refl, sym, ◌∙◌, ap, subst, arith, add-one}
use Rattle.std.proofs.Math.Seq.{take-suc}
use Rattle.std.proofs.lemmas.List.{take_all}
use Rattle.std.specs.Prelude.{slice_index_or}
use Rattle.cfb_format.specs.DirectoryEntry.{Entry}
use Rattle.cfb_format.specs.Siblings.{entry_at}
use Rattle.cfb_codecs.specs.EntryModel.{entry_of}
use Rattle.cfb_soundness.specs.Parts.{parts_reading}
use Rattle.cfb_soundness.proofs.StreamLemmas.{entry-there, entry-past}
use Rattle.cfb_flaws.specs.Claims.{ClaimedInTurn, IsKnown, members_in, words_in}
use Rattle.cfb_flaws.proofs.Composing.{turn-more}
use Rattle.cfb_flaws.proofs.owners.claim_streams.Goals as goal

pub loop-number-init : goal.loop-number-init
loop-number-init g c = record {
  owners = c.requires.owners;
  seen = c.requires.seen;
  claimed = λ k. record { len = refl; each = λ i lt. refl };
  known = λ k. k;
}

pub loop-number-preserved : goal.loop-number-preserved
loop-number-preserved g c =
    let list = c.args.parts.now.streams.now in
    let r = parts_reading c.args.parts.now in
    let l = c.loop-number in
    let k = l.number-index in
    let x = get_or list k 0 in
    let more : take (k + 1) list ≡ take k list ++ x ∷ [] = ap (λ (n : ℕ). take n list) (add-one k) ∙ take-suc list k 0 c.loop-number-test.true in
    rw more record {
      owners = c.claim_stream.auto.owners ∙ l.invariant.owners;
      seen = c.claim_stream.auto.seen ∙ l.invariant.seen;
      claimed = λ known. turn-more c.args.owners.now l.owners c.claim_stream.new.owners (λ i. members_in c.args.table r (entry_at r.entries i)) (take k list) x
          (l.invariant.claimed known) (c.in_ok-claim_stream.ensures.claimed (l.invariant.known known));
      known = λ known. c.in_ok-claim_stream.ensures.known (l.invariant.known known);
    }

pub returns-clause-claimed : goal.returns-clause-claimed
returns-clause-claimed g c = λ known.
    let list = c.args.parts.now.streams.now in
    let all : take c.loop-number.number-index list ≡ list = take_all c.loop-number.number-index list c.loop-number-test.false in
    rw all at (c.loop-number.invariant.claimed known)
