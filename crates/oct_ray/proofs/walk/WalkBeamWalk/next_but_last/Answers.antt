use Rattle.std.proofs.Common.{◌≤◌, ◌∙◌, List, length, refl, subst, sym, inl, inr}
use Rattle.oct_key.specs.Voxel.{Voxel}
use Rattle.oct_ray.specs.Track.{track_voxel}
use Rattle.oct_ray.proofs.Tracks.{walk_steps, walk_goes_on, walk_left, AreTracks-steps, can_pass_x}
use Rattle.oct_ray.proofs.Tracks.{can_pass_y, can_pass_z}
use Rattle.oct_ray.proofs.walk.WalkBeamWalk.next_but_last.Goals as goal
use Rattle.oct_ray.proofs.walk.WalkBeamWalk.next_but_last.Goals.{then-not-self-via-then-not-self}
use Rattle.oct_ray.proofs.walk.WalkBeamWalk.next_but_last.Goals.{then-not-self-via-else-not-self+then-has_ended}

pub returns-then-not-self-clause-none : goal.returns-then-not-self-clause-none
returns-then-not-self-clause-none c = (
  refl,
  subst (λ (ks : List Voxel). length ks ≤ 1) c.self.view_is (elim c.then-not-self.branch [
    | then-not-self-via-then-not-self w ↦ walk_left c.self.inside (inl w.if-not-self.true)
    | then-not-self-via-else-not-self+then-has_ended w ↦ walk_left c.self.inside
        (inr (w.if-not-self.false, sym w.has_ended.ensures ∙ w.if-has_ended.true))
  ]),
)

pub advance-requires-clause-x : goal.advance-requires-clause-x
advance-requires-clause-x c =
    can_pass_x c.self.inside c.self.invariant (sym c.has_ended.ensures ∙ c.if-has_ended.false)

pub advance-requires-clause-y : goal.advance-requires-clause-y
advance-requires-clause-y c =
    can_pass_y c.self.inside c.self.invariant (sym c.has_ended.ensures ∙ c.if-has_ended.false)

pub advance-requires-clause-z : goal.advance-requires-clause-z
advance-requires-clause-z c =
    can_pass_z c.self.inside c.self.invariant (sym c.has_ended.ensures ∙ c.if-has_ended.false)

pub invariant_of-self : goal.invariant_of-self
invariant_of-self c =
    AreTracks-steps c.self.inside _ _ _ c.self.invariant
    (sym c.has_ended.ensures ∙ c.if-has_ended.false) c.advance.ensures.x c.advance.ensures.y
    c.advance.ensures.z

pub returns-clause-next : goal.returns-clause-next
returns-clause-next c = record {
  voxel = track_voxel c.self.inside.x c.self.inside.y c.self.inside.z;
  on_map = c.morton_of_axes-next.ensures.in_map;
  first = sym c.self.view_is ∙ walk_steps c.self.inside (record {
    x = c.advance.new.x;
    y = c.advance.new.y;
    z = c.advance.new.z;
    more = c.self.inside.more;
  })
      c.self.invariant c.if-not-self.false (sym c.has_ended.ensures ∙ c.if-has_ended.false)
      c.advance.ensures.x c.advance.ensures.y c.advance.ensures.z refl;
  coded = c.morton_of_axes-next.ensures.exact;
}

pub returns-clause-more : goal.returns-clause-more
returns-clause-more c =
    walk_goes_on c.self.inside
    (record {
      x = c.advance.new.x;
      y = c.advance.new.y;
      z = c.advance.new.z;
      more = c.self.inside.more;
    })
    c.if-not-self.false refl
