use Rattle.std.proofs.Common.{sym, ◌∙◌}
use Rattle.oct_ray.specs.Track.{track_voxel}
use Rattle.oct_ray.proofs.Tracks.{next_to_come}
use Rattle.oct_ray.proofs.walk.Walk.peek_code.Goals as goal

pub returns-clause-next : goal.returns-clause-next
returns-clause-next c =
    let next = next_to_come c.self.inside c.if-not-self.false in (
      next.0,
      record {
        voxel = track_voxel c.self.inside.x c.self.inside.y c.self.inside.z;
        on_map = c.morton_of_axes.ensures.in_map;
        first = sym c.self.view_is ∙ next.1;
        coded = c.morton_of_axes.ensures.exact;
      },
    )
