use Rattle.std.proofs.Common.{refl, sym, ◌∙◌, ap, append-nil, take, ◌++◌, List, ℕ, arith}
use Rattle.cfb_format.specs.Bytes.{word_bytes}
use Rattle.cfb_format.proofs.Writing.{put_before, put_after, word_bytes-take}
use Rattle.cfb_format.proofs.bytes.put_words.Goals as goal

pub loop-word-init : goal.loop-word-init
unfolding word_bytes
loop-word-init c = record { end = omega arith; before = sym (append-nil (take c.args.at c.args.into.now)); after = refl }

pub loop-word-preserved : goal.loop-word-preserved
loop-word-preserved c =
    let before = c.loop-word.invariant in
    let put = c.put-end.ensures in
    record {
      end = omega arith;
      before = put_before c.args.into.now c.loop-word.into c.put-end.new.into c.loop-word.end c.put-end.result c.args.at _ _ before.before put.before
          ∙ ap (λ (xs : List ℕ). take c.args.at c.args.into.now ++ xs) (ap (λ (ys : List ℕ). word_bytes (take c.loop-word.word-index c.args.words.now) ++ ys) c.to_le_bytes.ensures
          ∙ sym (word_bytes-take c.args.words.now c.loop-word.word-index c.loop-word-test.true));
      after = put_after c.args.into.now c.loop-word.into c.put-end.new.into c.loop-word.end c.put-end.result (omega arith) before.after put.after;
    }
