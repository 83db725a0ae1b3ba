use Rattle.std.proofs.Common.{◌⊎◌, ◌↔◌, subst, bit_or}
use Rattle.oct_brick.specs.Masks.{HasCode}
use Rattle.oct_brick.proofs.Bits.{or_both}
use Rattle.oct_brick.proofs.Makers.{joined_brick}
use Rattle.oct_brick.proofs.brick.Brick.joined.Goals as goal

pub returns-clause-scanned : goal.returns-clause-scanned
returns-clause-scanned c =
    λ k. subst (λ d. HasCode c.args.self.code (bit_or c.args.self.scanned c.args.other.scanned) k
    ↔ (HasCode c.args.self.code c.args.self.scanned k ⊎ HasCode d c.args.other.scanned k))
    c.requires (or_both c.args.self.code c.args.self.scanned c.args.other.scanned k)

pub returns-clause-hits : goal.returns-clause-hits
returns-clause-hits c =
    λ k. subst (λ d. HasCode c.args.self.code (bit_or c.args.self.hits c.args.other.hits) k
    ↔ (HasCode c.args.self.code c.args.self.hits k ⊎ HasCode d c.args.other.hits k))
    c.requires (or_both c.args.self.code c.args.self.hits c.args.other.hits k)

pub returns-clause-brick : goal.returns-clause-brick
returns-clause-brick c = λ one other. joined_brick c.args.self c.args.other c.requires one other
