use Rattle.std.proofs.Common.{rules, ◌≡◌, ◌∙◌, ◌+◌, ◌-◌, ◌≤◌, Some, refl, sym, ap, subst, arith}
use Rattle.std.proofs.Common.{drop}
use Rattle.std.specs.Prelude.{is_some, Ok}
use Rattle.std.proofs.lemmas.Int.{to_z-of_z}
use mir.Val.{SFits}
use mir.Syntax.{w32}
use Rattle.oct_key.specs.Block.{child_of}
use Rattle.oct_odds.specs.Update.{IsWithin}
use Rattle.oct_arena.specs.Entries.{spare}
use Rattle.oct_tree.proofs.Paths.{place_block}
use Rattle.oct_tree.proofs.Links.{place_in_map}
use Rattle.oct_tree.proofs.Within.{place_by_block}
use Rattle.oct_odds.specs.Odds.{Odds}
use Rattle.oct_snap.specs.Nodes.{group_total}
use Rattle.oct_snap.specs.Reading.{Found, read_node}
use Rattle.oct_snap.proofs.Exact.{ok_is}
use Rattle.oct_snap.proofs.FoundNodes.{eight_are, node_one}
use Rattle.oct_tree.proofs.Fillings.{slot_asked}
use Rattle.oct_snap.proofs.Fillings.{filling_all, put_filled, left_absent}
use Rattle.oct_snap.proofs.FirstBytes.{node_inside, value_of_node, parted_of_node}
use Rattle.oct_snap.proofs.NodeFills.{under_first, child_ahead, under_next, under_all}
use Rattle.oct_snap.proofs.NodeFills.{whole_several, unknown_filled, value_filled, parted_filled}
use Rattle.oct_snap.proofs.NodeFills.{eight_room}
use Rattle.oct_snap.proofs.filling.+fill_node.Goals as goal

pub bounds-bytes-at : goal.bounds-bytes-at
bounds-bytes-at t c =
    let (f, is, room) = c.requires.node_there in
    node_inside c.args.tree.now.odds (16 - c.args.depth) c.args.at c.args.bytes.now f is

pub returns-then-bytes-at-eq-UNKNOWN-clause-filled
    : goal.returns-then-bytes-at-eq-UNKNOWN-clause-filled
returns-then-bytes-at-eq-UNKNOWN-clause-filled t c = λ f b is at.
    unknown_filled c.args.tree.now c.args.tree.now b c.args.tree.now.odds c.args.depth
    (16 - c.args.depth) c.args.bytes.now c.args.at f
    c.if-bytes-at-eq-UNKNOWN.true is
    (left_absent c.args.tree.now c.args.p b c.requires.linked c.requires.place at
    c.requires.absent)

pub number_at-value-requires : goal.number_at-value-requires
number_at-value-requires t c =
    let (f, is, room) = c.requires.node_there in
    let inside =
    (value_of_node c.args.tree.now.odds (16 - c.args.depth) c.args.at c.args.bytes.now f
    c.if-bytes-at-eq-VALUE.true is).inside in
    omega (arith, inside)

pub set_place-requires-clause-within : goal.set_place-requires-clause-within
set_place-requires-clause-within t c =
    let (f, is, room) = c.requires.node_there in
    let fits : SFits w32 c.number_at-value.result = search rules in
    subst (λ n. IsWithin c.args.tree.now.odds (Some n))
    (sym (to_z-of_z w32 c.number_at-value.result fits ∙ c.number_at-value.ensures))
    (value_of_node c.args.tree.now.odds (16 - c.args.depth) c.args.at c.args.bytes.now f
    c.if-bytes-at-eq-VALUE.true is).within

pub returns-then-bytes-at-eq-VALUE-clause-filled : goal.returns-then-bytes-at-eq-VALUE-clause-filled
returns-then-bytes-at-eq-VALUE-clause-filled t c = λ f b is at.
    (let fits : SFits w32 c.number_at-value.result = search rules in
    value_filled c.args.tree.now c.set_place.new.self b c.args.tree.now.odds c.args.depth
    c.args.bytes.now c.args.at _ f
    (to_z-of_z w32 c.number_at-value.result fits ∙ c.number_at-value.ensures)
    (value_of_node c.args.tree.now.odds (16 - c.args.depth) c.args.at c.args.bytes.now f
    c.if-bytes-at-eq-VALUE.true is)
    (put_filled c.args.tree.now c.set_place.new.self c.args.p _ b _ c.requires.linked
    c.set_place.ensures.linked c.requires.place at refl
    (c.set_place.ensures.values b at)
    (c.set_place.ensures.outside b at) c.set_place.ensures.written))

pub split-id-requires-clause-depth : goal.split-id-requires-clause-depth
split-id-requires-clause-depth t c = λ b at.
    (let (f, is, room) = c.requires.node_there in
    let low = (parted_of_node c.args.tree.now.odds c.args.depth c.args.at c.args.bytes.now f
    c.if-bytes-at-eq-UNKNOWN.false c.if-bytes-at-eq-VALUE.false is).low in
    let deep = c.requires.block b at in
    omega (arith, low, deep))

pub split-id-requires-clause-room : goal.split-id-requires-clause-room
split-id-requires-clause-room t c =
    let (f, is, room) = c.requires.node_there in
    let p = parted_of_node c.args.tree.now.odds c.args.depth c.args.at c.args.bytes.now f
    c.if-bytes-at-eq-UNKNOWN.false c.if-bytes-at-eq-VALUE.false is in
    let enough = eight_room c.args.tree.now.odds c.args.depth c.args.bytes.now c.args.at _ f p room
    in
    omega (arith, enough)

pub loop-i-init : goal.loop-i-init
loop-i-init t c = record {
  under = λ g b is at.
      (let (f, there, room) = c.requires.node_there in
      let inside =
      node_inside c.args.tree.now.odds (16 - c.args.depth) c.args.at c.args.bytes.now f there in
      under_first c.args.tree.now c.split-id.new.self c.args.p c.split-id.result _ b
      c.args.tree.now.odds c.args.depth c.args.bytes.now
      (c.args.at + 1) g c.split-id.ensures.linked c.split-id.ensures.split c.requires.absent at
      (omega (arith, inside)) is);
  linked = c.split-id.ensures.linked;
}

pub fill_node-next-requires : goal.fill_node-next-requires
fill_node-next-requires t c =
    let (f, is, room) = c.requires.node_there in
    let p = parted_of_node c.args.tree.now.odds c.args.depth c.args.at c.args.bytes.now f
    c.if-bytes-at-eq-UNKNOWN.false c.if-bytes-at-eq-VALUE.false is in
    let enough = eight_room c.args.tree.now.odds c.args.depth c.args.bytes.now c.args.at _ f p room
    in
    let (b, at) = place_block c.args.tree.now c.args.p c.requires.place in
    let s = c.loop-i.invariant.under p.eight b p.read at in
    let a = slot_asked c.args.tree.now c.loop-i.tree c.args.p c.split-id.result b c.args.depth
    c.loop-i.i _ (c.requires.block b at)
    c.loop-i-test.true c.requires.place s.filling.part in
    let ahead = child_ahead c.args.tree.now c.loop-i.tree c.args.p c.split-id.result b
    c.args.tree.now.odds c.args.depth c.args.bytes.now
    c.loop-i.next c.loop-i.i p.eight enough c.loop-i-test.true s in
    let low = p.low in (
      search rules,
      (
        a.place,
        (
          a.depth,
          (
            omega (arith, low),
            (
              a.absent,
              (
                c.loop-i.invariant.linked,
                (
                  s.within,
                  (
                    ahead.one,
                    subst (λ (o : Odds). read_node o (16 - (c.args.depth + 1)) c.loop-i.next
                        (drop c.loop-i.next c.args.bytes.now) ≡ Ok ahead.one)
                        (sym s.filling.part.outside.odds) ahead.first,
                    ahead.enough,
                  ),
                ),
              ),
            ),
          ),
        ),
      ),
    )

pub loop-i-preserved : goal.loop-i-preserved
loop-i-preserved t c = record {
  under = λ g b is at.
      (let (f, there, room) = c.requires.node_there in
      let p = parted_of_node c.args.tree.now.odds c.args.depth c.args.at c.args.bytes.now f
      c.if-bytes-at-eq-UNKNOWN.false c.if-bytes-at-eq-VALUE.false there in
      let enough =
      eight_room c.args.tree.now.odds c.args.depth c.args.bytes.now c.args.at _ f p room in
      let same = ok_is p.eight g (sym p.read ∙ is) in
      let s = c.loop-i.invariant.under g b is at in
      let deep = c.requires.block b at in
      let low = p.low in
      let a = slot_asked c.args.tree.now c.loop-i.tree c.args.p c.split-id.result b c.args.depth
      c.loop-i.i _ deep
      c.loop-i-test.true c.requires.place s.filling.part in
      let ahead = child_ahead c.args.tree.now c.loop-i.tree c.args.p c.split-id.result b
      c.args.tree.now.odds c.args.depth c.args.bytes.now
      c.loop-i.next c.loop-i.i g
      (subst (λ (g : Found). 1 + group_total g.nodes ≤ spare c.args.tree.now.groups) same
      enough) c.loop-i-test.true s in
      under_next c.args.tree.now c.loop-i.tree c.fill_node-next.new.tree c.args.p c.split-id.result
      b c.args.tree.now.odds c.args.depth
      c.args.bytes.now c.loop-i.next c.loop-i.i c.fill_node-next.result g deep (omega (arith, low))
      c.loop-i-test.true c.requires.linked
      c.fill_node-next.ensures.linked s ahead
      (c.fill_node-next.ensures.filled ahead.one (child_of b c.loop-i.i)
      (subst (λ (o : Odds). read_node o (16 - (c.args.depth + 1)) c.loop-i.next
      (drop c.loop-i.next c.args.bytes.now) ≡ Ok ahead.one)
      (sym s.filling.part.outside.odds) ahead.first) a.block));
  linked = c.fill_node-next.ensures.linked;
}

pub settle-requires-clause-place : goal.settle-requires-clause-place
settle-requires-clause-place t c =
    let (f, is, room) = c.requires.node_there in
    let p = parted_of_node c.args.tree.now.odds c.args.depth c.args.at c.args.bytes.now f
    c.if-bytes-at-eq-UNKNOWN.false c.if-bytes-at-eq-VALUE.false is in
    let (b, at) = place_block c.args.tree.now c.args.p c.requires.place in
    let s = c.loop-i.invariant.under p.eight b p.read at in
    place_by_block c.args.tree.now c.loop-i.tree c.args.p b c.requires.place s.filling.part.block

pub settle-requires-clause-inner : goal.settle-requires-clause-inner
settle-requires-clause-inner t c =
    let (f, is, room) = c.requires.node_there in
    let p = parted_of_node c.args.tree.now.odds c.args.depth c.args.at c.args.bytes.now f
    c.if-bytes-at-eq-UNKNOWN.false c.if-bytes-at-eq-VALUE.false is in
    let (b, at) = place_block c.args.tree.now c.args.p c.requires.place in
    let s = c.loop-i.invariant.under p.eight b p.read at in
    ap is_some s.filling.part.link

pub returns-clause-filled : goal.returns-clause-filled
returns-clause-filled t c = λ f b is at.
    (let p = parted_of_node c.args.tree.now.odds c.args.depth c.args.at c.args.bytes.now f
    c.if-bytes-at-eq-UNKNOWN.false c.if-bytes-at-eq-VALUE.false is in
    let s = c.loop-i.invariant.under p.eight b p.read at in
    let deep = c.requires.block b at in
    let low = p.low in
    let all = under_all c.args.tree.now c.loop-i.tree c.args.p c.split-id.result b
    c.args.tree.now.odds c.args.depth c.args.bytes.now
    c.loop-i.next c.loop-i.i p.eight (omega arith) s in
    let h = 16 - (c.args.depth + 1) in
    let are = eight_are c.args.tree.now.odds h (read_node c.args.tree.now.odds h)
    (node_one c.args.tree.now.odds h) (c.args.at + 1) _ p.eight p.read in
    let ok = place_in_map c.args.tree.now c.requires.linked c.args.p b c.requires.place at in
    parted_filled c.args.tree.now c.settle.new.self b c.args.tree.now.odds c.args.depth
    c.args.bytes.now c.args.at c.loop-i.next f p
    all.next all.rest all.within
    (filling_all c.args.tree.now c.loop-i.tree c.settle.new.self c.args.p c.split-id.result b _ _
    c.settle.result
    (omega (arith, deep, low)) c.requires.linked c.requires.place all.filling
    (whole_several c.args.tree.now c.loop-i.tree c.args.p c.split-id.result b c.args.tree.now.odds
    c.args.depth c.args.bytes.now
    c.loop-i.next p.eight deep (omega (arith, low)) ok are p.varied all)
    c.settle.ensures.linked c.settle.ensures.values c.settle.ensures.outside c.settle.ensures.when
    c.settle.ensures.collapsed
    c.settle.ensures.renewed))
