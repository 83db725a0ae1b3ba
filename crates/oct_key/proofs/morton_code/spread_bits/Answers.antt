use Rattle.std.proofs.Common.{rules, ℕ, ◌<◌, ap, sym, ◌∙◌}
use Rattle.oct_key.specs.Morton.{interleaved}
use Rattle.oct_key.proofs.Spreads.{bytes_spread, nibbles_spread, pairs_spread, bits_spread}
use Rattle.oct_key.proofs.Interleavings.{interleaved_one}
use Rattle.oct_key.proofs.morton_code.spread_bits.Goals as goal

pub returns-clause-exact : goal.returns-clause-exact
returns-clause-exact c =
    let below : c.from-n.result < 65536 = search rules in
    rw (
      bytes_spread c.from-n.result below,
      nibbles_spread c.from-n.result,
      pairs_spread c.from-n.result,
      bits_spread c.from-n.result,
    )
    (sym (interleaved_one 16 c.from-n.result)
    ∙ ap (λ (n : ℕ). interleaved 16 n 0 0) (search rules))
