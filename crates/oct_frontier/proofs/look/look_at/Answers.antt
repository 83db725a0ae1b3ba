use Rattle.std.proofs.Common.{◌∙◌, ◌∷◌, [], sym, ap, arith}
use Rattle.oct_frontier.proofs.Looks.{look_beyond, look_closed, look_voxel}
use Rattle.oct_frontier.proofs.look.look_at.Goals as goal
use Rattle.oct_frontier.proofs.look.look_at.Goals.{then-not-meets-via-then-not-meets}
use Rattle.oct_frontier.proofs.look.look_at.Goals.{then-not-meets-via-else-not-meets+then-not-is_open}

pub returns-then-not-meets : goal.returns-then-not-meets
returns-then-not-meets c = elim c.then-not-meets.branch [
  | then-not-meets-via-then-not-meets w ↦
      look_beyond c.args.tree.now c.args.lo c.args.hi c.args.patch.now.block c.child-block.result
      c.args.i
      c.child-block.ensures.exact (λ meets. (let is = c.meets.ensures.1 meets in cc))
  | then-not-meets-via-else-not-meets+then-not-is_open w ↦
      look_closed c.args.tree.now c.args.lo c.args.hi c.args.patch.now c.args.i
      c.requires.patch c.requires.depth (omega arith)
      (λ is_open. (let is = w.is_open.ensures.1 is_open in cc))
]

pub returns-then-block-eq16 : goal.returns-then-block-eq16
returns-then-block-eq16 c =
    look_voxel c.args.tree.now c.args.lo c.args.hi c.args.patch.now c.child-block.result c.args.i
    c.requires.patch c.requires.depth
    (omega arith) c.child-block.ensures.exact c.if-block-eq16.true (c.meets.ensures.0 (cc))
    (c.is_open.ensures.0 (cc)) ∙ ap (λ k. k ∷ []) (sym c.voxel_of.ensures)
