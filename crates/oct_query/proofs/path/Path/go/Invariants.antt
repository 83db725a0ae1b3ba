use Rattle.std.proofs.Common.{◌≡◌, ℕ, ◌≤◌, length}
use Rattle.std.specs.Prelude.{slice_index_or}
use Rattle.oct_arena.specs.declared.node.Node.{Node}
use Rattle.oct_tree.specs.Tree.{reach}
use Rattle.oct_query.proofs.path.Path.go.Given as goal

abbrev pub invariant-loop-level : goal.invariant-loop-level
invariant-loop-level l = record {
  room : length l.self.nodes ≡ 17;
  nodes : (j : ℕ) (d : Node) → j ≤ l.level → slice_index_or l.self.nodes j d ≡ reach l.tree j l.k;
  node : l.node ≡ reach l.tree l.level l.k;
}
