-- Points in the frame of the map, as a sensor sees them that stands there and isn't turned.
use Rattle.std.specs.Prelude.{◌≡◌, pos}
use Rattle.std.specs.Int.{int_wrapping_sub}
use mir.Syntax.{w64}
use Rattle.oct_pose.specs.Posed.{moved}
use Rattle.oct_pose.specs.Reach.{IsInReach}
use Rattle.oct_pose.specs.Rotation.{rotated}
use Rattle.octofix.specs.Points.{point_of}
use Rattle.octofix.specs.declared.types.PointNm.{PointNm}
use Rattle.octofix.specs.declared.types.PoseNm.{PoseNm}

-- a sensor that stands there and isn't turned
abbrev pub standing : PointNm → PoseNm
standing at = record { at = at; w = pos 1; x = pos 0; y = pos 0; z = pos 0 }

-- where a point lies from there, in 64 bits
abbrev pub way_from : PointNm → PointNm → PointNm
way_from there to = record {
  x = int_wrapping_sub w64 to.x there.x;
  y = int_wrapping_sub w64 to.y there.y;
  z = int_wrapping_sub w64 to.z there.z;
}

-- a beam that leaves from there by this way ends at the point, where both are in reach
unfoldable pub EndsThere : PointNm → PointNm → PointNm → Type 0
EndsThere there to way =
    IsInReach (point_of there) → IsInReach (point_of to)
    → moved (point_of there)
    (rotated (record { w = pos 1; x = pos 0; y = pos 0; z = pos 0 }) (point_of way))
    ≡ point_of to
