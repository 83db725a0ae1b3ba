use Rattle.oct_scan.proofs.Parts.{ok_so}
use Rattle.oct_scan.proofs.Tabled.{pile_all, pile_more}
use Rattle.oct_scan.proofs.table.BrickTable.push.Goals as goal

pub returns-clause-scanned : goal.returns-clause-scanned
returns-clause-scanned c =
    ok_so c.push.result (pile_more (λ b. b.scanned) c.args.self.now c.self.inside.pile
    c.push.new.self c.self.inside.places.items c.args.brick c.self.view_is)
    c.push.ensures.scanned

pub returns-clause-hits : goal.returns-clause-hits
returns-clause-hits c =
    ok_so c.push.result (pile_more (λ b. b.hits) c.args.self.now c.self.inside.pile
    c.push.new.self c.self.inside.places.items c.args.brick c.self.view_is)
    c.push.ensures.hits

pub returns-clause-bricks : goal.returns-clause-bricks
returns-clause-bricks c =
    ok_so c.push.result (pile_all c.args.self.now c.self.inside.pile c.push.new.self
    c.self.inside.places.items c.self.view_is c.requires.bricks)
    c.push.ensures.bricks
