-- Pieces of a stream that are put behind each other, the first of them so long that the stream never moves.
use Rattle.std.proofs.Common.{◌≡◌, ◌+◌, ◌-◌, ◌<◌, ◌≤◌, ◌⊎◌, inl, inr, ℕ, ◌∙◌, min, arith}
use Rattle.std.proofs.lemmas.Bool.{cases_lt}
use Rattle.cfb_format.specs.Content.{mini_stream_cutoff}
use Rattle.cfb_copies.specs.cfb_content.Contents.{len_of}
use Rattle.cfb_copies.specs.cfb_resizing.Turning.{LeavesNoMinis}
use Rattle.cfb_copies.specs.cfb_agreement.Files.{FileState}

-- so many bytes are there: none, so many that they lie in sectors, or all
abbrev pub IsSettled : ℕ → ℕ → Type 0
IsSettled len at = (at ≡ 0) ⊎ (mini_stream_cutoff ≤ at) ⊎ (at ≡ len)

pub settles : (len at n room : ℕ) → n ≡ min (len - at) room → mini_stream_cutoff ≤ room → at ≤ len → IsSettled len (at + n)
settles len at n room least enough within = elim (cases_lt (at + n) len) [
  | inl less ↦ inr (inl (omega (arith, least, enough, less)))
  | inr most ↦ inr (inr (omega (arith, least, within, most)))
]

pub leaves_none : (file : FileState) (to len at more : ℕ) → len_of file.base to ≡ at → IsSettled len at → at < len → LeavesNoMinis file.base to (len_of file.base to + more)
leaves_none file to len at more end (inl none) less = inl (end ∙ none)
leaves_none file to len at more end (inr (inl large)) less = inr (inl (omega (arith, end, large)))
leaves_none file to len at more end (inr (inr all)) less = absurd (omega (arith, all, less))
