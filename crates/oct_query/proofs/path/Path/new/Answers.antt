use Rattle.oct_query.proofs.Ways.{path_start}
use Rattle.oct_query.proofs.path.Path.new.Goals as goal

pub returns : goal.returns
returns c = path_start c.args.tree.now _ _ c.root.ensures.linked c.root.ensures.exact
