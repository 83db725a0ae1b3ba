use Rattle.std.proofs.Common.{◌≡◌, ℕ, ◌*◌, ◌≤◌, to_z-of_z, SFits, w64, unsigned_abs}
use Rattle.oct_ray.specs.Range.{square_distance}
use Rattle.oct_ray.proofs.Cuts.{range_lt, cut_is, cut_within}
use Rattle.oct_ray.proofs.range.cut.Goals as goal

pub cut_point-requires-clause-range : goal.cut_point-requires-clause-range
cut_point-requires-clause-range c =
    let r : SFits w64 c.args.r = c.ranges.r in
    let range : c.unsigned_abs-range.result ≡ unsigned_abs c.args.r =
    simp to_z-of_z at c.unsigned_abs-range.ensures.value in
    range_lt _ _ _ _ _ range c.square_distance.ensures c.requires.beyond
    c.ceil_sqrt-length.ensures.enough

pub returns-clause-cut : goal.returns-clause-cut
returns-clause-cut c =
    let r : SFits w64 c.args.r = c.ranges.r in
    let range : c.unsigned_abs-range.result ≡ unsigned_abs c.args.r =
    simp to_z-of_z at c.unsigned_abs-range.ensures.value in
    let enough : square_distance c.args.o c.args.e
    ≤ c.ceil_sqrt-length.result * c.ceil_sqrt-length.result =
    rw c.square_distance.ensures at c.ceil_sqrt-length.ensures.enough in
    let least : (n : ℕ) → square_distance c.args.o c.args.e ≤ n * n
    → c.ceil_sqrt-length.result ≤ n =
    λ n h. c.ceil_sqrt-length.ensures.least n (rw c.square_distance.ensures h) in
    cut_is c.args.o c.args.e c.cut_point.result c.args.r _ c.ceil_sqrt-length.result
    c.requires.range range enough least c.cut_point.ensures.x c.cut_point.ensures.y
    c.cut_point.ensures.z

pub returns-clause-within : goal.returns-clause-within
returns-clause-within c =
    let r : SFits w64 c.args.r = c.ranges.r in
    let range : c.unsigned_abs-range.result ≡ unsigned_abs c.args.r =
    simp to_z-of_z at c.unsigned_abs-range.ensures.value in
    let enough : square_distance c.args.o c.args.e
    ≤ c.ceil_sqrt-length.result * c.ceil_sqrt-length.result =
    rw c.square_distance.ensures at c.ceil_sqrt-length.ensures.enough in
    cut_within c.args.o c.args.e c.cut_point.result c.args.r _ c.ceil_sqrt-length.result range
    c.requires.beyond enough c.cut_point.ensures.x c.cut_point.ensures.y c.cut_point.ensures.z
