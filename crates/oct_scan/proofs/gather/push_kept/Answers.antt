use Rattle.std.proofs.Common.{List, ap, refl, sym, subst, ◌∙◌, None, Some, rules}
use Rattle.oct_key.specs.Morton.{morton_of}
use Rattle.oct_key.specs.Voxel.{Voxel, IsInMap}
use Rattle.oct_ray.specs.Met.{met_by}
use Rattle.oct_scan.specs.Gathered.{EndsAt, kept}
use Rattle.oct_scan.proofs.Parts.{added_as}
use Rattle.oct_scan.proofs.gather.push_kept.Goals as goal

pub push_way-requires-clause-ends : goal.push_way-requires-clause-ends
push_way-requires-clause-ends c =
    let on_map : IsInMap c.args.beam.voxel = search rules in (
      c.args.beam.voxel,
      on_map,
      sym c.morton.ensures.exact,
      subst (λ (ks : List Voxel). EndsAt c.args.beam.voxel ks) (sym c.walk.ensures)
          c.requires.way.ends,
    )

pub returns-in-None : goal.returns-in-None
returns-in-None c =
    added_as c.push_way.result None c.args.view.now.window c.morton.result
    (morton_of c.args.beam.voxel) _ _ c.args.bricks.now c.push_way.new.bricks
    (ap (λ w. kept w (met_by c.args.view.now.res c.args.view.now.origin c.args.beam.end))
    c.in-None.is
    ∙ sym c.walk.ensures)
    c.morton.ensures.exact c.push_way.ensures

pub returns-in-Some : goal.returns-in-Some
returns-in-Some c =
    added_as c.push_part.result (Some c.in-Some.window) c.args.view.now.window
    (morton_of c.args.beam.voxel)
    (morton_of c.args.beam.voxel) _ _ c.args.bricks.now c.push_part.new.bricks
    (ap (λ w. kept w (met_by c.args.view.now.res c.args.view.now.origin c.args.beam.end))
    c.in-Some.is) refl c.push_part.ensures
