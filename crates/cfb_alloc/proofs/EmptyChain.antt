-- Freeing the empty chain.
use Rattle.std.proofs.Common.{◌≡◌, ℕ, [], refl}
use Rattle.std.specs.Prelude.{Some}
use Rattle.cfb_format.specs.Chain.{chain_from}
use Rattle.cfb_tables.specs.Tables.{TableState, GivesBackChain}
use Rattle.cfb_alloc.proofs.ChainView.{found_chain}
use Rattle.cfb_format.proofs.Members.{Contains-nil}

pub none_freed : (t : TableState) (s : ℕ) → chain_from t.fat s ≡ Some [] → GivesBackChain [] s t t
none_freed t s e = (
  [],
  found_chain t.fat s [] e,
  record {
    given = record { same_length = refl; ended = λ i m. absurd (Contains-nil i m); free = λ i m. absurd (Contains-nil i m); only = λ i out. refl };
    rest = refl;
  },
)
