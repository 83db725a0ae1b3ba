use Rattle.std.proofs.Common.{◌∙◌, arith}
use Rattle.std.proofs.lemmas.List.{length-set}
use Rattle.oct_arena.specs.declared.node.Node.TheVariants.{Absent}
use Rattle.oct_shift.specs.Moving.{IsRootNode}
use Rattle.oct_shift.proofs.Puts.{put_next}
use Rattle.oct_shift.proofs.Rows.{root_row}
use Rattle.oct_shift.proofs.row.Row.whole_map.Goals as goal

pub loop-j-preserved : goal.loop-j-preserved
loop-j-preserved c =
    let long = c.loop-j.invariant.long in
    let test = c.loop-j-test.true in
    record {
      done = put_next (IsRootNode c.args.tree.now c.args.offset) c.loop-j.nodes c.loop-j.j
          c.from.result c.root_node.result Absent c.from.ensures (omega (arith, long, test))
          c.loop-j.invariant.done c.root_node.ensures;
      long = length-set c.loop-j.nodes c.from.result c.root_node.result ∙ long;
    }

pub returns : goal.returns
returns c = root_row c.args.tree.now c.args.offset _ (λ j lj.
    c.loop-j.invariant.done j (let end = c.loop-j.auto.j-end in omega arith))
