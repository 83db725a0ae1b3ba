use Rattle.std.proofs.Common.{rules, ◌≡◌, ◌-◌, ◌∙◌, sym, ap, subst, None, arith}
use Rattle.oct_key.proofs.Interleavings.{digit_of_morton}
use Rattle.oct_key.specs.Morton.{morton_of}
use Rattle.oct_key.specs.Voxel.{IsInMap}
use Rattle.oct_arena.specs.Entries.{node_at}
use Rattle.oct_arena.specs.Nodes.{link_of}
use Rattle.oct_tree.specs.Descents.{digits_from}
use Rattle.oct_tree.specs.Tree.{Tree, IsLinked, reach}
use Rattle.oct_tree.proofs.Parts.{tree_of}
use Rattle.oct_tree.proofs.Paths.{reach_zero, reach_suc, not_inner, stays, step_live, step_linked}
use Rattle.oct_tree.proofs.Over.{IsNodeOver, reached_node}
use Rattle.oct_tree.proofs.tree.OccTree.node_over.Goals as goal

-- the node so far is what the tree comes to on the way to the voxel
pub loop-level-init : goal.loop-level-init
loop-level-init c =
    (c.new-way.ensures ∙ ap (digits_from 0) c.morton.ensures.exact, sym (reach_zero _ _))

pub node-node-requires-clause-live : goal.node-node-requires-clause-live
node-node-requires-clause-live c =
    let t =
    tree_of c.self.inside.arena c.self.inside.root c.self.inside.res c.self.inside.odds in
    step_live t c.args.k c.self.invariant.linked c.loop-level._level c.in-Inner.id.number
    (ap link_of (sym c.loop-level.invariant.1 ∙ c.in-Inner.is))

pub loop-level-preserved : goal.loop-level-preserved
loop-level-preserved c =
    let t =
    tree_of c.self.inside.arena c.self.inside.root c.self.inside.res c.self.inside.odds in
    let way = c.loop-level.invariant.0 in (
      c.step.ensures.onward c.loop-level._level (morton_of c.args.k) way,
      c.node-node.ensures.exact
          ∙ ap (node_at c.self.inside.arena c.in-Inner.id.number)
          (c.step.ensures.child c.loop-level._level (morton_of c.args.k) (omega arith) way
          ∙ digit_of_morton c.loop-level._level c.args.k (omega arith))
          ∙ sym (step_linked t.groups _ c.in-Inner.id.number _
          (ap link_of (sym c.loop-level.invariant.1 ∙ c.in-Inner.is)))
          ∙ sym (reach_suc t c.loop-level._level c.args.k),
    )

pub returns-in_default : goal.returns-in_default
returns-in_default c =
    let t =
    tree_of c.self.inside.arena c.self.inside.root c.self.inside.res c.self.inside.odds in
    let here = c.loop-level.invariant.1 in
    let none : link_of (reach t c.loop-level._level c.args.k) ≡ None =
    not_inner _ (λ v id h. c.in_default.not-Inner v id (here ∙ h)) in
    let voxel : IsInMap c.args.k = record {
      x = search rules;
      y = search rules;
      z = search rules;
    } in
    let same : c.loop-level.node ≡ reach t c.args.depth c.args.k =
    here
    ∙ sym (stays t c.args.k c.loop-level._level (c.args.depth - c.loop-level._level) c.args.depth
    (omega arith) none) in
    let exact : c.loop-level.node ≡ reach c.args.self.now c.args.depth c.args.k =
    same ∙ ap (λ (s : Tree). reach s c.args.depth c.args.k) c.self.view_is in
    let linked : IsLinked c.args.self.now = subst IsLinked c.self.view_is c.self.invariant.linked in
    let all = reached_node c.args.self.now c.args.k linked voxel c.args.depth c.requires _ exact in
    record {
      exact = exact;
      stands = all.stands;
      only = all.only;
      values = all.values;
      home = all.home;
      linked = linked;
    }

exact : (c : goal.After-loop-level)
    → c.loop-level.node ≡ reach c.args.self.now c.args.depth c.args.k
exact c =
    let t =
    tree_of c.self.inside.arena c.self.inside.root c.self.inside.res c.self.inside.odds in
    let whole : c.loop-level._level ≡ c.args.depth = omega arith in
    c.loop-level.invariant.1
    ∙ ap (λ n. reach t n c.args.k) whole
    ∙ ap (λ (s : Tree). reach s c.args.depth c.args.k) c.self.view_is

all : (c : goal.After-loop-level)
    → IsNodeOver c.args.self.now c.args.k c.args.depth c.loop-level.node
all c =
    let voxel : IsInMap c.args.k = record {
      x = search rules;
      y = search rules;
      z = search rules;
    } in
    let linked : IsLinked c.args.self.now = subst IsLinked c.self.view_is c.self.invariant.linked in
    reached_node c.args.self.now c.args.k linked voxel c.args.depth c.requires _ (exact c)

pub returns-clause-exact : goal.returns-clause-exact
returns-clause-exact c = exact c

pub returns-clause-stands : goal.returns-clause-stands
returns-clause-stands c = (all c).stands

pub returns-clause-only : goal.returns-clause-only
returns-clause-only c = (all c).only

pub returns-clause-values : goal.returns-clause-values
returns-clause-values c = (all c).values

pub returns-clause-home : goal.returns-clause-home
returns-clause-home c = (all c).home
