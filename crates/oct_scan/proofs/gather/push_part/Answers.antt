use Rattle.std.proofs.Common.{List, None, Some, refl, sym, subst, ◌∙◌, rules}
use Rattle.oct_key.specs.Morton.{morton_of}
use Rattle.oct_key.specs.Voxel.{Voxel, IsInMap}
use Rattle.oct_ray.specs.Met.{met_by}
use Rattle.oct_scan.specs.Gathered.{EndsAt, kept}
use Rattle.oct_scan.proofs.Kept.{kept_all, kept_none}
use Rattle.oct_scan.proofs.Parts.{spanned_inside, added_as, none_added}
use Rattle.oct_scan.proofs.gather.push_part.Goals as goal

pub push_way-requires-clause-ends : goal.push_way-requires-clause-ends
push_way-requires-clause-ends c =
    let on_map : IsInMap c.args.beam.voxel = search rules in (
      c.args.beam.voxel,
      on_map,
      sym c.morton.ensures.exact,
      subst (λ (ks : List Voxel). EndsAt c.args.beam.voxel ks) (sym c.walk.ensures)
          c.requires.way.ends,
    )

pub returns-then-holds-2 : goal.returns-then-holds-2
returns-then-holds-2 c =
    let all = kept_all c.args.window.now (met_by c.args.view.now.res c.args.view.now.origin
    c.args.beam.end)
    (λ k there. spanned_inside c.args.window.now c.args.view.now.start c.args.beam.voxel k
    (c.holds.ensures.means.0 c.if-holds.true) (c.holds-then-holds.ensures.means.0 c.if-holds-2.true)
    (c.requires.way.between k there)) in
    added_as c.push_way.result None (Some c.args.window.now) c.morton.result
    (morton_of c.args.beam.voxel)
    _ _ c.args.bricks.now c.push_way.new.bricks (all ∙ sym c.walk.ensures)
    c.morton.ensures.exact c.push_way.ensures

pub returns-then-is_passed_by : goal.returns-then-is_passed_by
returns-then-is_passed_by c =
    let way = met_by c.args.view.now.res c.args.view.now.origin c.args.beam.end in
    record {
      scanned = none_added c.args.bricks.now (kept (Some c.args.window.now) way)
          (morton_of c.args.beam.voxel) (kept_none c.args.window.now way
          (λ k there inside. c.is_passed_by.ensures c.if-is_passed_by.true k
          (c.requires.way.between k there) inside));
      hits = λ k. (λ h. h, λ h. h);
      bricks = c.requires.bricks;
    }

pub returns-else-is_passed_by : goal.returns-else-is_passed_by
returns-else-is_passed_by c =
    added_as c.push_inside.result (Some c.args.window.now) (Some c.args.window.now)
    (morton_of c.args.beam.voxel) (morton_of c.args.beam.voxel) _ _ c.args.bricks.now
    c.push_inside.new.bricks (sym c.walk_to_box.ensures.same) refl c.push_inside.ensures
