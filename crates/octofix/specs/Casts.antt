-- What a map answers to casts.
use Rattle.std.specs.Prelude.{ℕ, Bool, List, map, Result, Ok, Err}
use Rattle.oct_cast.specs.declared.outcome.Cast.{Cast}
use Rattle.oct_cast.specs.declared.outcome.Cast.TheVariants.{Hit, Unknown, Clear}
use Rattle.oct_map.specs.Casts.{cast_answer}
use Rattle.oct_map.specs.Map.{Map, ground_of, values_of}
use Rattle.octofix.specs.Codes.{of_map, refusal_code}
use Rattle.octofix.specs.Numbers as code
use Rattle.octofix.specs.Points.{key_told, point_of}
use Rattle.octofix.specs.declared.refusal.Refusal.{Refusal}
use Rattle.octofix.specs.declared.types.CastStop.{CastStop}
use Rattle.octofix.specs.declared.types.PointNm.{PointNm}
use Rattle.octofix.specs.declared.types.SegmentNm.{SegmentNm}
use Rattle.octofix.specs.declared.types.VoxelKey.{VoxelKey}

-- what stops the straight way from one point to another
abbrev pub cast_between : PointNm → PointNm → Bool → Map → Result Cast Refusal
cast_between o e ignore m =
    of_map (cast_answer (ground_of m) (values_of m) (point_of o) (point_of e) ignore)

-- its code
abbrev pub cast_code : Result Cast Refusal → ℕ
cast_code (Ok (Hit k)) = code.done
cast_code (Ok (Unknown k)) = code.unknown
cast_code (Ok Clear) = code.clear
cast_code (Err refusal) = refusal_code refusal

-- what is left of a key: it is written only where a voxel stops the way
abbrev pub key_left : VoxelKey → Result Cast Refusal → VoxelKey
key_left old (Ok (Hit k)) = key_told k
key_left old (Ok (Unknown k)) = key_told k
key_left old (Ok Clear) = old
key_left old (Err refusal) = old

-- the key in the answer to a segment that no voxel stops
abbrev pub no_key : VoxelKey
no_key = record { x = 0; y = 0; z = 0 }

-- what a segment of many is answered
abbrev pub stop_told : Result Cast Refusal → CastStop
stop_told answer = record { key = key_left no_key answer; code = cast_code answer }

-- what each of these segments is answered
abbrev pub stops_along : List SegmentNm → Bool → Map → Result (List CastStop) Refusal
stops_along segments ignore m =
    Ok (map (λ (s : SegmentNm). stop_told (cast_between s.origin s.end ignore m)) segments)
