use Rattle.std.proofs.Common.{◌<◌, ap, sym, ◌∙◌, length, map, arith}
use Rattle.octofix.proofs.Fronts.{front_more, front_whole}
use Rattle.octofix.proofs.Walks.{given_at, left_behind, not_over}
use Rattle.octofix.specs.Buffers.{filled}
use Rattle.octofix.specs.Points.{key_told}
use Rattle.octofix.proofs.rays.put_walk.Goals as goal

pub unreachable-requires : goal.unreachable-requires
unreachable-requires c =
    let same = ap length (c.new.ensures.computed ∙ sym c.new-walk.ensures.computed) in
    not_over c.new-walk.result c.loop-i.walk c.loop-i.i (omega arith) c.loop-i.invariant.rest
    c.in_default.ensures.steps.0

pub loop-i-preserved : goal.loop-i-preserved
loop-i-preserved c =
    let same = ap length (c.new.ensures.computed ∙ sym c.new-walk.ensures.computed) in
    let within : c.loop-i.i < length c.new-walk.result = omega arith in
    let gives = c.in-Some.ensures.steps in
    record {
      rest = left_behind c.new-walk.result c.loop-i.walk c.next.new.self c.loop-i.i c.in-Some.key
          within c.loop-i.invariant.rest gives;
      keys = front_more key_told c.new-walk.result c.args.keys.now c.loop-i.keys c.loop-i.i
          c.in-Some.key c.of.result within (omega arith) c.loop-i.invariant.keys
          (c.of.ensures ∙ ap key_told (given_at c.new-walk.result c.loop-i.walk c.next.new.self
          c.loop-i.i c.in-Some.key within c.loop-i.invariant.rest gives));
    }

pub returns-clause-keys : goal.returns-clause-keys
returns-clause-keys c =
    let same = ap length (c.new.ensures.computed ∙ sym c.new-walk.ensures.computed) in
    front_whole key_told c.new-walk.result c.args.keys.now c.loop-i.keys c.loop-i.i (omega arith)
    (omega arith) c.loop-i.invariant.keys
    ∙ ap (λ voxels. filled c.args.keys.now (map key_told voxels)) c.new-walk.ensures.computed
