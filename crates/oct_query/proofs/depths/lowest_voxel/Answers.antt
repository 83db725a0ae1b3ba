use Rattle.std.proofs.Common.{rules, ◌-◌, ◌*◌, ◌%◌, ◌^◌, ◌<◌}
use Rattle.oct_key.specs.CubeOf.{cube_of}
use Rattle.oct_key.proofs.Blocks.{lowest_in_map, block_in_map}
use Rattle.oct_query.proofs.Lowest.{shifted_below}
use Rattle.oct_query.proofs.depths.lowest_voxel.Goals as goal

pub overflow_cast-result-2 : goal.overflow_cast-result-2
overflow_cast-result-2 c =
    let below : c.from.result * 2 ^ (16 - c.args.b.depth) % 4294967296 < 65536 =
    shifted_below c.from.result c.args.b.x c.args.b.depth c.from.ensures
    (lowest_in_map (cube_of c.args.b) (block_in_map c.args.b)).x in
    search rules

pub overflow_cast-result-4 : goal.overflow_cast-result-4
overflow_cast-result-4 c =
    let below : c.from-2.result * 2 ^ (16 - c.args.b.depth) % 4294967296 < 65536 =
    shifted_below c.from-2.result c.args.b.y c.args.b.depth c.from-2.ensures
    (lowest_in_map (cube_of c.args.b) (block_in_map c.args.b)).y in
    search rules

pub overflow_cast-result-6 : goal.overflow_cast-result-6
overflow_cast-result-6 c =
    let below : c.from-3.result * 2 ^ (16 - c.args.b.depth) % 4294967296 < 65536 =
    shifted_below c.from-3.result c.args.b.z c.args.b.depth c.from-3.ensures
    (lowest_in_map (cube_of c.args.b) (block_in_map c.args.b)).z in
    search rules

pub returns-clause-voxel : goal.returns-clause-voxel
returns-clause-voxel c = record {
  x =
      shifted_below c.from.result c.args.b.x c.args.b.depth c.from.ensures
      (lowest_in_map (cube_of c.args.b) (block_in_map c.args.b)).x;
  y =
      shifted_below c.from-2.result c.args.b.y c.args.b.depth c.from-2.ensures
      (lowest_in_map (cube_of c.args.b) (block_in_map c.args.b)).y;
  z =
      shifted_below c.from-3.result c.args.b.z c.args.b.depth c.from-3.ensures
      (lowest_in_map (cube_of c.args.b) (block_in_map c.args.b)).z;
}
