use Rattle.std.proofs.Common.{◌≡◌, ◌∙◌, ◌≤◌, refl, sym, subst}
use Rattle.std.specs.Prelude.{Ok, Result}
use Rattle.oct_key.specs.Block.{root_block}
use Rattle.oct_odds.specs.Odds.{odds_of}
use Rattle.oct_arena.specs.Entries.{spare}
use Rattle.oct_snap.specs.declared.fault.SnapFault.{SnapFault}
use Rattle.oct_snap.specs.declared.head.FieldsRead.{FieldsRead}
use Rattle.oct_snap.specs.Nodes.{Nodes, group_total}
use Rattle.oct_snap.specs.Reading.{Snapshot, read_fields, read_snapshot}
use Rattle.oct_snap.specs.Checked.{IsFieldsRead, AreFieldsRead}
use Rattle.oct_snap.proofs.WholeFills.{HasFilled, same_snapshot, whole_read, fields_are}
use Rattle.oct_snap.proofs.WholeFills.{fields_there, node_there, has_filled}
use Rattle.oct_snap.proofs.filling.fill.Goals as goal
use Rattle.oct_snap.proofs.filling.fill.Goals.{After-fill_node}

pub unreachable-requires : goal.unreachable-requires
unreachable-requires c =
    let (s, is, same, room) = c.requires.accepted in
    fields_there c.args.tree.now.odds (odds_of c.odds.result) c.args.bytes.now s
    c.in_default.field-0 is c.odds.ensures
    (subst (λ (r : Result FieldsRead SnapFault). AreFieldsRead c.args.bytes.now
    (read_fields (odds_of c.odds.result) c.args.bytes.now) r)
    c.in_default.is c.read_fields.ensures)

fields : (c : After-fill_node) (s : Snapshot)
    → read_snapshot c.args.tree.now.odds c.args.bytes.now ≡ Ok s
    → IsFieldsRead c.args.bytes.now s.head c.in-Ok.fields
fields c s is =
    fields_are c.args.tree.now.odds (odds_of c.odds.result) c.args.bytes.now s c.in-Ok.fields is
    c.odds.ensures c.in-Ok.ensures

after : (c : After-fill_node) (s : Snapshot)
    → read_snapshot c.args.tree.now.odds c.args.bytes.now ≡ Ok s
    → HasFilled c.args.tree.now c.fill_node.new.tree s
after c s is =
    let (q, it, same, room) = c.requires.accepted in
    let e : q ≡ s = same_snapshot q s (sym it ∙ is) in
    let w = whole_read c.args.tree.now.odds c.args.bytes.now s is in
    has_filled c.args.tree.now c.fill_node.new.tree c.args.bytes.now s w.one c.fill_node.result
    c.shape.ensures.shaped c.shape.ensures.linked
    c.fill_node.ensures.linked c.requires.unknown w.nodes
    (c.fill_node.ensures.filled w.one root_block
    (node_there c.args.tree.now.odds c.args.bytes.now s c.in-Ok.fields.start w
    (subst (λ (s : Snapshot). s.head.odds ≡ c.args.tree.now.odds) e same) (fields c s is).start)
    refl)

any : (c : After-fill_node) → (s : Snapshot) × HasFilled c.args.tree.now c.fill_node.new.tree s
any c = (let (s, is, same, room) = c.requires.accepted in (s, after c s is))

pub fill_node-requires-clause-inside : goal.fill_node-requires-clause-inside
fill_node-requires-clause-inside c =
    let (s, is, same, room) = c.requires.accepted in
    (fields_are c.args.tree.now.odds (odds_of c.odds.result) c.args.bytes.now s c.in-Ok.fields is
    c.odds.ensures c.in-Ok.ensures).within

pub fill_node-requires-clause-node_there : goal.fill_node-requires-clause-node_there
fill_node-requires-clause-node_there c =
    let (s, is, same, room) = c.requires.accepted in
    let w = whole_read c.args.tree.now.odds c.args.bytes.now s is in
    let f = fields_are c.args.tree.now.odds (odds_of c.odds.result) c.args.bytes.now s
    c.in-Ok.fields is c.odds.ensures c.in-Ok.ensures in (
      w.one,
      node_there c.args.tree.now.odds c.args.bytes.now s c.in-Ok.fields.start w same f.start,
      subst (λ (n : Nodes). group_total n ≤ spare c.args.tree.now.groups) (sym w.nodes) room,
    )

pub note-requires : goal.note-requires
note-requires c =
    let (s, now) = any (goal.at.note-requires c).After-fill_node in
    record { fresh = λ _. now.fresh; pruned = λ _. now.pruned }

-- and stays as
noted : (c : goal.After-note) (s : Snapshot) → HasFilled c.args.tree.now c.fill_node.new.tree s
    → HasFilled c.args.tree.now c.note.new.self s
noted c s now = subst (λ u. HasFilled c.args.tree.now u s) (sym c.note.ensures.same) now

noted_any : (c : goal.After-note)
    → (s : Snapshot) × HasFilled c.args.tree.now c.fill_node.new.tree s
    → (s : Snapshot) × HasFilled c.args.tree.now c.note.new.self s
noted_any c (s, now) = (s, noted c s now)

pub returns-clause-values : goal.returns-clause-values
returns-clause-values c = λ s is.
    (noted c s (after (goal.at.returns-clause-values c).After-fill_node s is)).values

pub returns-clause-groups : goal.returns-clause-groups
returns-clause-groups c = λ s is.
    (noted c s (after (goal.at.returns-clause-groups c).After-fill_node s is)).groups

pub returns-clause-fresh : goal.returns-clause-fresh
returns-clause-fresh c =
    (noted_any c (any (goal.at.returns-clause-fresh c).After-fill_node)).1.fresh

pub returns-clause-pruned : goal.returns-clause-pruned
returns-clause-pruned c =
    (noted_any c (any (goal.at.returns-clause-pruned c).After-fill_node)).1.pruned

pub returns-clause-spare : goal.returns-clause-spare
returns-clause-spare c =
    (noted_any c (any (goal.at.returns-clause-spare c).After-fill_node)).1.spare

pub returns-clause-length : goal.returns-clause-length
returns-clause-length c =
    (noted_any c (any (goal.at.returns-clause-length c).After-fill_node)).1.length

pub returns-clause-res : goal.returns-clause-res
returns-clause-res c =
    (noted_any c (any (goal.at.returns-clause-res c).After-fill_node)).1.res

pub returns-clause-odds : goal.returns-clause-odds
returns-clause-odds c =
    (noted_any c (any (goal.at.returns-clause-odds c).After-fill_node)).1.odds
