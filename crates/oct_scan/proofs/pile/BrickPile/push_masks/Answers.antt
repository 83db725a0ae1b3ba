use Rattle.std.proofs.Common.{◌≡◌, ◌<◌, length, refl, sym, subst, All, rules}
use Rattle.std.proofs.lemmas.List.Elements.{All-set}
use Rattle.oct_brick.specs.Bricks.{IsBrick}
use Rattle.oct_scan.proofs.FewBricks.{few_joined, merged_more}
use Rattle.oct_scan.proofs.Piling.{joined_from, pushed_bricks}
use Rattle.oct_scan.proofs.pile.BrickPile.push_masks.Goals as goal

pub invariant_of-self : goal.invariant_of-self
invariant_of-self c =
    let l : c.find-at.result < length c.self.inside.bricks.items = search rules in
    let same : c.index-known.result.now.code ≡ c.joined.result.code = search rules in
    few_joined c.self.inside.merged c.self.inside.bricks.items c.find-at.result
    c.index-known.result.now c.joined.result l c.index-known.ensures same c.self.invariant

pub returns-then-known-brick-clause-bricks : goal.returns-then-known-brick-clause-bricks
returns-then-known-brick-clause-bricks c =
    let l : c.find-at.result < length c.self.inside.bricks.items = search rules in
    let all : All IsBrick c.self.inside.bricks.items =
    subst (All IsBrick) (sym c.self.view_is) c.requires.bricks in
    let known : IsBrick c.index-known.result.now = subst IsBrick (sym c.index-known.ensures)
    (all c.find-at.result c.index-known.result.now l) in
    All-set IsBrick c.self.inside.bricks.items c.find-at.result c.joined.result
    (c.joined.ensures.brick known c.requires.brick) all

pub returns-then-known-brick-clause-scanned : goal.returns-then-known-brick-clause-scanned
returns-then-known-brick-clause-scanned c =
    let l : c.find-at.result < length c.self.inside.bricks.items = search rules in
    joined_from (λ b. b.scanned) c.args.self.now c.self.inside.bricks.items c.find-at.result
    c.index-known.result.now
    (record { code = c.args.code; scanned = c.args.scanned; hits = c.args.hits })
    c.joined.result c.self.view_is l c.index-known.ensures c.joined.ensures.scanned

pub returns-then-known-brick-clause-hits : goal.returns-then-known-brick-clause-hits
returns-then-known-brick-clause-hits c =
    let l : c.find-at.result < length c.self.inside.bricks.items = search rules in
    joined_from (λ b. b.hits) c.args.self.now c.self.inside.bricks.items c.find-at.result
    c.index-known.result.now
    (record { code = c.args.code; scanned = c.args.scanned; hits = c.args.hits })
    c.joined.result c.self.view_is l c.index-known.ensures c.joined.ensures.hits

pub returns-clause-scanned : goal.returns-clause-scanned
returns-clause-scanned c =
    merged_more (λ b. b.scanned) c.args.self.now c.self.inside.bricks.items
    c.make_room.new.bricks.items c.push.new.self.items
    (record { code = c.args.code; scanned = c.args.scanned; hits = c.args.hits }) c.self.view_is
    c.in_ok-make_room.ensures.scanned c.in_ok-push.ensures.items

pub returns-clause-hits : goal.returns-clause-hits
returns-clause-hits c =
    merged_more (λ b. b.hits) c.args.self.now c.self.inside.bricks.items
    c.make_room.new.bricks.items c.push.new.self.items
    (record { code = c.args.code; scanned = c.args.scanned; hits = c.args.hits }) c.self.view_is
    c.in_ok-make_room.ensures.hits c.in_ok-push.ensures.items

pub returns-clause-bricks : goal.returns-clause-bricks
returns-clause-bricks c =
    pushed_bricks c.make_room.new.bricks.items c.make_room.new.bricks.items c.push.new.self.items
    (record { code = c.args.code; scanned = c.args.scanned; hits = c.args.hits }) refl
    c.in_ok-push.ensures.items c.in_ok-make_room.ensures.bricks c.requires.brick
