use Rattle.oct_ray.proofs.NearWalks.{near_made, near_new}
use Rattle.oct_ray.proofs.near.NearWalk.new.Goals as goal

pub invariant_of-result : goal.invariant_of-result
invariant_of-result c =
    near_new _ c.args.x c.args.y c.args.z c.requires.tracks (record {
      x_is = c.new.ensures;
      y_is = c.new-2.ensures;
      z_is = c.new-3.ensures;
      small_x = c.requires.small.x_pace;
      small_y = c.requires.small.y_pace;
      small_z = c.requires.small.z_pace;
      y_after_x = c.order-y_after_x.ensures;
      z_after_x = c.order-z_after_x.ensures;
      z_after_y = c.order-z_after_y.ensures;
    }) c.requires.last

pub returns : goal.returns
returns c =
    near_made _ c.args.x c.args.y c.args.z c.requires.tracks (record {
      x_is = c.new.ensures;
      y_is = c.new-2.ensures;
      z_is = c.new-3.ensures;
      small_x = c.requires.small.x_pace;
      small_y = c.requires.small.y_pace;
      small_z = c.requires.small.z_pace;
      y_after_x = c.order-y_after_x.ensures;
      z_after_x = c.order-z_after_x.ensures;
      z_after_y = c.order-z_after_y.ensures;
    }) c.requires.last
