-- A stream that is read piece by piece, and a source that is read from.
use Rattle.std.proofs.Common.{◌≡◌, ℕ, ◌+◌, List, ◌++◌, refl, sym, ◌∙◌, ap, subst, take, drop}
use Rattle.std.proofs.Math.Seq.{take-add}
use Rattle.cfb_extract.specs.declared.source.Source as source
use Rattle.cfb_extract.specs.Items.{Item, IsLonger}
use Rattle.cfb_extract.specs.Pieces.{ReadsPiece}
use Rattle.cfb_extract.specs.Sources.{StaysSource}
use Rattle.cfb_extract.proofs.Longer.{longer-more}

-- one more piece
pub longer-piece : (content into piece : List ℕ) (at n : ℕ) (a b c : List Item) → ReadsPiece content at into n → piece ≡ take n into → IsLonger (take at content) a b → IsLonger piece b c
    → IsLonger (take (at + n) content) a c
longer-piece content into piece at n a b c reads is one other =
    subst (λ (xs : List ℕ). IsLonger xs a c) (ap (λ (ys : List ℕ). take at content ++ ys) (is ∙ reads.gives) ∙ sym (take-add at n content)) (longer-more (take at content) piece a b c one other)

module _ {S : Type 0} (s : source.Ghosts S) where
  pub stays-none : (a : S) → StaysSource s a a
  stays-none a = record { listed = refl; told = λ t. t; kept = λ t. refl; content = λ t. refl }

  pub stays-then : (a b c : S) → StaysSource s a b → StaysSource s b c → StaysSource s a c
  stays-then a b c one other = record {
    listed = other.listed ∙ one.listed;
    told = λ t. other.told (one.told t);
    kept = λ t. other.kept (one.told t) ∙ one.kept t;
    content = λ t. other.content (one.told t) ∙ one.content t;
  }
