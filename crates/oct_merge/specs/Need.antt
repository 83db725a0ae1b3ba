-- How many groups a merge may take.
use Rattle.std.specs.Prelude.{ℕ, Bool, false, not, Option, Some, None, count_by}
use Rattle.oct_arena.specs.declared.node.Group.{Group}
use Rattle.oct_arena.specs.Entries.{Groups, has_home}
use Rattle.oct_tree.specs.Tree.{Tree}

-- whether an entry has a group whose home no live group of the others has
abbrev pub is_missing : Groups → Option Group → Bool
is_missing gs None = false
is_missing gs (Some g) = not (has_home gs g.home)

-- how many live groups of the second tree have a home that is the home of no live group of the
-- first
unfoldable pub merge_need : Tree → Tree → ℕ
merge_need into other = count_by (is_missing into.groups) other.groups
