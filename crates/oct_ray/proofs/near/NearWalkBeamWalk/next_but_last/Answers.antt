use Rattle.std.proofs.Common.{◌≤◌, ◌∙◌, List, length, refl, subst, sym}
use Rattle.oct_key.specs.Voxel.{Voxel}
use Rattle.oct_ray.proofs.NearWalks.{HasStepped, can_cross, near_below, near_code, near_last}
use Rattle.oct_ray.proofs.NearWalks.{near_some, stepped}
use Rattle.oct_ray.proofs.near.NearWalkBeamWalk.next_but_last.Goals as goal

pub returns-then-code-self-clause-none : goal.returns-then-code-self-clause-none
returns-then-code-self-clause-none c = (
  refl,
  subst (λ (ks : List Voxel). length ks ≤ 1) c.self.view_is
      (near_last c.self.inside c.self.invariant _ c.sum_of_parts-code.ensures.in_map
      (near_code c.self.inside c.self.invariant _ c.sum_of_parts-code.ensures.exact)
      c.if-code-self.true),
)

pub cross_next-requires : goal.cross_next-requires
cross_next-requires c =
    can_cross c.self.inside c.self.invariant _
    (near_code c.self.inside c.self.invariant _ c.sum_of_parts-code.ensures.exact)
    c.if-code-self.false

has_stepped : (c : goal.After-cross_next) → HasStepped c.self.inside (record {
  axes = c.cross_next.new.self;
  last = c.self.inside.last;
})
has_stepped c =
    stepped c.self.inside _ c.self.invariant _
    (near_code c.self.inside c.self.invariant _ c.sum_of_parts-code.ensures.exact)
    c.if-code-self.false c.cross_next.ensures refl

pub invariant_of-self : goal.invariant_of-self
invariant_of-self c = (has_stepped c).near

pub returns-clause-next : goal.returns-clause-next
returns-clause-next c = record {
  voxel = _;
  on_map = c.sum_of_parts-code.ensures.in_map;
  first = sym c.self.view_is ∙ (has_stepped c).gives;
  coded = near_code c.self.inside c.self.invariant _ c.sum_of_parts-code.ensures.exact;
}

pub returns-clause-more : goal.returns-clause-more
returns-clause-more c = near_some _ (has_stepped c).near

pub returns-clause-below : goal.returns-clause-below
returns-clause-below c =
    near_below c.self.inside c.self.invariant _ c.sum_of_parts-code.ensures.exact
