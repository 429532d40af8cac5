use Rattle.std.proofs.Common.{ℕ, ◌∙◌, ◌++◌, ◌≤◌, List, ap, arith, flat_map, length, refl, string_bytes}
use Rattle.std.proofs.lemmas.List.{take_all}
use Rattle.cfb_lines.specs.Fields.{hex_pair}
use Rattle.cfb_lines.proofs.Written.{small_bytes}
use Rattle.cfb_lines.proofs.writing.push_hex.Goals as goal

pub returns : goal.returns
returns g c =
    let past : length c.args.bytes.now ≤ c.loop-byte.byte-index = omega arith in (
      flat_map hex_pair c.args.bytes.now,
      c.loop-byte.invariant ∙ ap (λ (bytes : List ℕ). string_bytes c.args.text.now ++ flat_map hex_pair bytes) (take_all c.loop-byte.byte-index c.args.bytes.now past),
      (refl, small_bytes c.args.bytes.now (λ k less. (c.type_inv.bytes k).fits)),
    )
