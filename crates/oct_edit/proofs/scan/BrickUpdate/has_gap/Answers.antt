use Rattle.std.proofs.Common.{◌≡◌, rules}
use Rattle.oct_key.specs.Block.{Cube}
use Rattle.oct_edit.specs.Bricks.{listed_one, FillsBlock}
use Rattle.oct_edit.specs.Parts.{IsUpdateIn}
use Rattle.oct_edit.proofs.BrickGaps.{octet_gap, octet_full, octet_number, some_bit, none_bits}
use Rattle.oct_edit.proofs.Expansions.{on_false}
use Rattle.oct_edit.proofs.scan.BrickUpdate.has_gap.Goals as goal

pub octet_bits-octet-requires : goal.octet_bits-octet-requires
octet_bits-octet-requires c =
    octet_number c.args.self.now.brick.scanned c.requires.some c.requires.fits

pub returns-clause-none : goal.returns-clause-none
returns-clause-none c =
    on_false {X = (b : Cube) → b.depth ≡ 15 → IsUpdateIn b (listed_one c.args.self.now)
    → FillsBlock b (listed_one c.args.self.now)} _
    (λ none b deep inside. octet_full b c.args.self.now.brick c.octet_bits-octet.result
    c.args.self.now.hit c.args.self.now.miss deep c.requires inside c.octet_bits-octet.ensures
    (none_bits _ none))

pub returns-clause-some : goal.returns-clause-some
returns-clause-some c some b deep inside =
    octet_gap b c.args.self.now.brick c.octet_bits-octet.result c.args.self.now.hit
    c.args.self.now.miss deep c.requires inside c.octet_bits-octet.ensures (search rules)
    (some_bit _ some)
