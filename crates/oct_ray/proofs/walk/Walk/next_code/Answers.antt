use Rattle.std.proofs.Common.{sym, ◌∙◌, refl}
use Rattle.oct_ray.specs.Track.{track_voxel}
use Rattle.oct_ray.proofs.Tracks.{walk_ends, walk_steps, AreTracks-steps, can_pass_x, can_pass_y}
use Rattle.oct_ray.proofs.Tracks.{can_pass_z}
use Rattle.oct_ray.proofs.walk.Walk.next_code.Goals as goal

pub advance-requires-clause-x : goal.advance-requires-clause-x
advance-requires-clause-x c =
    can_pass_x c.self.inside c.self.invariant (sym c.has_ended.ensures ∙ c.if-has_ended.false)

pub advance-requires-clause-y : goal.advance-requires-clause-y
advance-requires-clause-y c =
    can_pass_y c.self.inside c.self.invariant (sym c.has_ended.ensures ∙ c.if-has_ended.false)

pub advance-requires-clause-z : goal.advance-requires-clause-z
advance-requires-clause-z c =
    can_pass_z c.self.inside c.self.invariant (sym c.has_ended.ensures ∙ c.if-has_ended.false)

pub invariant_of-self-else-has_ended : goal.invariant_of-self-else-has_ended
invariant_of-self-else-has_ended c =
    AreTracks-steps c.self.inside _ _ _ c.self.invariant
    (sym c.has_ended.ensures ∙ c.if-has_ended.false) c.advance.ensures.x c.advance.ensures.y
    c.advance.ensures.z

pub returns-then-has_ended-clause-next : goal.returns-then-has_ended-clause-next
returns-then-has_ended-clause-next c = record {
  voxel = track_voxel c.self.inside.x c.self.inside.y c.self.inside.z;
  on_map = c.morton_of_axes-code.ensures.in_map;
  first =
      sym c.self.view_is
      ∙ walk_ends c.self.inside c.if-not-self.false
      (sym c.has_ended.ensures ∙ c.if-has_ended.true);
  coded = c.morton_of_axes-code.ensures.exact;
}

pub returns-else-has_ended-clause-next : goal.returns-else-has_ended-clause-next
returns-else-has_ended-clause-next c = record {
  voxel = track_voxel c.self.inside.x c.self.inside.y c.self.inside.z;
  on_map = c.morton_of_axes-code.ensures.in_map;
  first = sym c.self.view_is ∙ walk_steps c.self.inside (record {
    x = c.advance.new.x;
    y = c.advance.new.y;
    z = c.advance.new.z;
    more = c.self.inside.more;
  })
      c.self.invariant c.if-not-self.false (sym c.has_ended.ensures ∙ c.if-has_ended.false)
      c.advance.ensures.x c.advance.ensures.y c.advance.ensures.z refl;
  coded = c.morton_of_axes-code.ensures.exact;
}
