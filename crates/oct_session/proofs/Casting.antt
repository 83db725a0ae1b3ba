-- That a cast between voxels of the map asks voxels of the map alone.
use Rattle.std.proofs.Common.{◌≡◌, ℕ, List, [], ◌∷◌, Bool, true, false, cond, Option, Some, IsSome}
use Rattle.std.proofs.Common.{refl, sym, ap, ◌∙◌}
use Rattle.std.specs.Prelude.{All}
use Rattle.std.specs.List.{find}
use Rattle.std.proofs.lemmas.List.Elements.{All-head, All-tail}
use Rattle.oct_cast.specs.declared.outcome.Cast.{Cast}
use Rattle.oct_cast.specs.Cast.{stops, stopped_at, answer_for, cast_through, cast_along}
use Rattle.oct_key.specs.Voxel.{Voxel, IsInMap, key_at}
use Rattle.oct_key.specs.declared.point.Point.{Point}
use Rattle.oct_ray.specs.Met.{met_by}
use Rattle.oct_ray.proofs.MetOnMap.{met_by-IsInMap}
use Rattle.oct_values.specs.Classes.{Classes}
use Rattle.oct_values.proofs.Sums.{All-follows}

-- the answer at the first voxel, or after it
first_answer : (ignore : Bool) (classes : Classes) (k : Voxel) (rest : Option Voxel) →
    answer_for classes (cond (stops ignore (classes k)) (Some k) rest)
    ≡ cond (stops ignore (classes k)) (stopped_at (classes k) k) (answer_for classes rest)
first_answer ignore classes k rest =
    elim (stops ignore (classes k)) as
    (λ b. answer_for classes (cond b (Some k) rest)
    ≡ cond b (stopped_at (classes k) k) (answer_for classes rest)) [ true ↦ refl | false ↦ refl ]

-- voxels of the same classes are answered alike
same_through : (ignore : Bool) (c d : Classes) (voxels : List Voxel) → All (λ k. c k ≡ d k) voxels
    → cast_through ignore c voxels ≡ cast_through ignore d voxels
same_through ignore c d [] same = refl
same_through ignore c d (k ∷ voxels) same =
    first_answer ignore c k (find (λ k. stops ignore (c k)) voxels)
    ∙ ap (λ class. cond (stops ignore class) (stopped_at class k) (cast_through ignore c voxels))
    (All-head (λ k. c k ≡ d k) k voxels same)
    ∙ ap (λ (rest : Cast). cond (stops ignore (d k)) (stopped_at (d k) k) rest)
    (same_through ignore c d voxels (All-tail (λ k. c k ≡ d k) k voxels same))
    ∙ sym (first_answer ignore d k (find (λ k. stops ignore (d k)) voxels))

-- classes that are the same in the map answer casts alike
pub same_along : (edge : ℕ) (o e : Point) (ignore : Bool) (c d : Classes) → IsSome (key_at edge o)
    → IsSome (key_at edge e) → ((k : Voxel) → IsInMap k → c k ≡ d k) →
    cast_along edge o e ignore c ≡ cast_along edge o e ignore d
same_along edge o e ignore c d key_o key_e same =
    same_through ignore c d (met_by edge o e)
    (All-follows IsInMap (λ k. c k ≡ d k) (met_by edge o e) same
    (met_by-IsInMap edge o e key_o key_e))
