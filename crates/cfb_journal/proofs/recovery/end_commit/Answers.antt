use Rattle.std.proofs.Common.{◌∙◌, ◌-◌, ap, sym, subst, length, take, drop, List, ℕ, IsTrue}
use Rattle.std.proofs.Math.Seq.{take-length}
use Rattle.std.proofs.lemmas.List.{take_rest}
use Rattle.cfb_format.specs.Bytes.{long_at}
use Rattle.cfb_journal.specs.Disk.{Image}
use Rattle.cfb_journal.specs.Journal.{Frame, applied, frames_in, frames_of, is_whole}
use Rattle.cfb_journal.specs.Stamp.{stamp_of}
use Rattle.cfb_journal.proofs.Files.{foreign_commit}
use Rattle.cfb_journal.proofs.Ending.{ends_foreign}
use Rattle.cfb_journal.proofs.recovery.end_commit.Goals as goal

pub returns-then-found-u64_at : goal.returns-then-found-u64_at
returns-then-found-u64_at g c tells =
    let v0 = g.D.Disk.view c.args.disk.now in
    let file = v0.seen.file in
    let body = c.args.body.now in
    let same = ap (λ k. frames_of k (take (length body - 24) (drop 24 body))) c.u64_at.ensures ∙ ap (frames_of (long_at body 16)) (take_rest body 24) in
    let stamp = c.in_ok-found.ensures.stamp tells ∙ ap (λ (fs : List Frame). stamp_of (applied fs (take c.args.len file))) same
    ∙ ap (λ (f : List ℕ). stamp_of (applied (frames_in body) f)) (ap (λ n. take n file) (c.requires.len tells) ∙ take-length file) in
    let behind = c.requires.body tells in
    ends_foreign c.args.len v0 (g.D.Disk.view c.stamp_on.new.disk)
    (foreign_commit v0.seen (c.requires.change tells) (c.requires.commit tells) (subst (λ (b : List ℕ). IsTrue (is_whole b)) behind c.requires.whole)
    (ap (λ (b : List ℕ). long_at b 0) (sym behind) ∙ sym c.requires.sized ∙ c.requires.len tells)
    (λ e. c.if-found-u64_at.true (stamp ∙ ap (λ (b : List ℕ). stamp_of (applied (frames_in b) file)) behind ∙ e ∙ sym (c.u64_at-2.ensures ∙ ap (λ (b : List ℕ). long_at b 8) behind))))
    (c.in_ok-found.ensures.looks tells)

pub finish_commit-requires-clause-of : goal.finish_commit-requires-clause-of
finish_commit-requires-clause-of g c tells =
    let file = (g.D.Disk.view c.args.disk.now).seen.file in
    let body = c.args.body.now in
    let same = ap (λ k. frames_of k (take (length body - 24) (drop 24 body))) c.u64_at.ensures ∙ ap (frames_of (long_at body 16)) (take_rest body 24) in
    let stamp = c.in_ok-found.ensures.stamp tells ∙ ap (λ (fs : List Frame). stamp_of (applied fs (take c.args.len file))) same
    ∙ ap (λ (f : List ℕ). stamp_of (applied (frames_in body) f)) (ap (λ n. take n file) (c.requires.len tells) ∙ take-length file) in
    let still = sym (c.in_ok-found.ensures.looks tells).seen in
    record {
      whole = c.requires.whole;
      sized = sym c.requires.sized ∙ c.requires.len tells ∙ ap (λ (i : Image). length i.file) still;
      stamp_is = sym c.u64_at-2.ensures ∙ sym c.if-found-u64_at.false ∙ stamp ∙ ap (λ (i : Image). stamp_of (applied (frames_in body) i.file)) still;
    }
