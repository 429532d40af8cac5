-- What is left of a list behind its end.
use Rattle.std.proofs.Common.{◌≡◌, ◌≤◌, ℕ, List, [], drop, length}
use Rattle.std.proofs.lemmas.List.{drop_all}

-- nothing
pub past_end : (bytes : List ℕ) (n : ℕ) → length bytes ≤ n → drop n bytes ≡ []
past_end bytes n past = drop_all n bytes past
