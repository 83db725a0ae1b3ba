-- What a map answers for points.
use Rattle.std.specs.Prelude.{ℕ, ℤ, pos, List, map, Option, Some, None, Result, Ok, Err}
use Rattle.oct_map.specs.Answers.{get_answer}
use Rattle.oct_map.specs.Map.{Map, ground_of, values_of}
use Rattle.octofix.specs.Codes.{of_map, refusal_code}
use Rattle.octofix.specs.Numbers as code
use Rattle.octofix.specs.Points.{point_of}
use Rattle.octofix.specs.declared.refusal.Refusal.{Refusal}
use Rattle.octofix.specs.declared.types.PointAnswer.{PointAnswer}
use Rattle.octofix.specs.declared.types.PointNm.{PointNm}

-- the largest known value in the block of this depth around a point
abbrev pub value_at : ℕ → PointNm → Map → Result (Option ℤ) Refusal
value_at depth p m = of_map (get_answer (ground_of m) m.is_stale (values_of m) (point_of p) depth)

-- its code
abbrev pub value_code : Result (Option ℤ) Refusal → ℕ
value_code (Ok (Some value)) = code.done
value_code (Ok None) = code.unknown
value_code (Err refusal) = refusal_code refusal

-- what is left of a value: it is written only where one is known
abbrev pub value_left : ℤ → Result (Option ℤ) Refusal → ℤ
value_left old (Ok (Some value)) = value
value_left old (Ok None) = old
value_left old (Err refusal) = old

-- what a point of many is answered
abbrev pub answer_told : Result (Option ℤ) Refusal → PointAnswer
answer_told answer = record { value = value_left (pos 0) answer; code = value_code answer }

-- the same by the map
abbrev pub told_at : ℕ → Map → PointNm → PointAnswer
told_at depth m p = answer_told (value_at depth p m)

-- what each of these points is answered
abbrev pub told_all : ℕ → Map → List PointNm → List PointAnswer
told_all depth m points = map (told_at depth m) points

-- the same as an answer of the map
abbrev pub answers_at : ℕ → List PointNm → Map → Result (List PointAnswer) Refusal
answers_at depth points m = Ok (told_all depth m points)
