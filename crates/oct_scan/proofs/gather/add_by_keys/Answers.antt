use Rattle.std.proofs.Common.{false, refl, arith, rules}
use Rattle.std.specs.Prelude.{IsSome}
use Rattle.oct_key.specs.Voxel.{key_at}
use Rattle.oct_scan.specs.declared.beam.PlacedBeam.{PlacedBeam}
use Rattle.oct_scan.proofs.Holding.{all_none}
use Rattle.oct_scan.proofs.Ordered.{all_keyed, all_moved}
use Rattle.oct_scan.proofs.gather.add_by_keys.Goals as goal

pub loop-key-init : goal.loop-key-init
loop-key-init c = rw c.requires.none (record {
  held = λ d. all_none c.args.view.now.res c.args.view.now.window c.args.view.now.origin;
  bricks = λ k d l. absurd (omega (arith, l));
})

pub loop-key-preserved : goal.loop-key-preserved
loop-key-preserved c =
    let (met, added) = c.in_ok-add_beam.ensures.added in
    record {
      held = λ d. all_keyed c.args.view.now.res c.args.view.now.window c.args.view.now.origin
          c.args.beams.now c.args.keys.now c.loop-key.key-index _ _ _ d met c.loop-key.bricks
          c.add_beam.new.bricks c.loop-key-test.true c.requires.keys refl
          (c.loop-key.invariant.held d) added;
      bricks = c.in_ok-add_beam.ensures.bricks;
    }

pub returns-clause-gathered : goal.returns-clause-gathered
returns-clause-gathered c =
    let range = c.args.view.now.ranged in
    let some : IsSome (key_at c.args.view.now.res c.args.view.now.origin) = search rules in
    let d : PlacedBeam = record {
      end = c.args.view.now.origin;
      voxel = c.args.view.now.start;
      is_cut = false;
    } in
    all_moved c.args.view.now.res c.args.view.now.window c.args.view.now.origin c.args.beams.now
    c.args.keys.now c.loop-key.key-index d c.loop-key.bricks range some c.requires.placed
    c.requires.keys (omega (arith, c.loop-key-test.false)) (c.loop-key.invariant.held d)
