use Rattle.std.proofs.Common.{ℕ, ◌*◌, ap, refl}
use Rattle.oct_ray.specs.Placed.{Placed}
use Rattle.oct_ray.proofs.PlacedBits.{IsNewPlaced, new_placed}
use Rattle.oct_ray.proofs.placed.PlacedNumber.new.Goals as goal

is_new : (c : goal.After-step_of) → IsNewPlaced (record {
  bits = c.args.unit * c.morton_of_axes.result;
  mask = c.args.unit * 40210710958665;
  by = c.step_of.result;
  unit = c.args.unit;
  rises = c.args.rises;
}) c.args.number.now
is_new c =
    new_placed _ c.args.number.now _ _ c.morton_of_axes.result c.requires
    c.morton_of_axes.ensures.in_map.x c.new-none.ensures c.new-none.ensures
    c.morton_of_axes.ensures.exact refl refl c.step_of.ensures

pub invariant_of-result : goal.invariant_of-result
invariant_of-result c = (is_new c).placed

pub returns : goal.returns
returns c =
    ap (λ (n : ℕ). let p : Placed = record {
      number = n;
      unit = c.args.unit;
      rises = c.args.rises;
    } in p) (is_new c).number
