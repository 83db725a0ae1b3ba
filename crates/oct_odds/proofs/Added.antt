-- What an addition does to a value, known or not.
use Rattle.std.proofs.Common.{◌≡◌, ℤ, pos, ◌+ℤ◌, Some, None, refl, ap, arith, sym}
use Rattle.std.specs.Prelude.{unwrap_or}
use Rattle.std.proofs.lemmas.Int.{ints, to_z-of_z}
use mir.Val.{SFits, to_z, of_z}
use mir.Syntax.{w32}
use Rattle.oct_odds.specs.declared.event.Event.{Event}
use Rattle.oct_odds.specs.declared.event.Event.TheVariants.{Add}
use Rattle.oct_odds.specs.Odds.{Odds}
use Rattle.oct_odds.specs.Update.{Value, applied, clamped}

-- an unknown voxel counts as 0
applied-Add : (o : Odds) (u : ℤ) (s : Value)
    → applied o (Add u) s ≡ Some (clamped o (unwrap_or s (pos 0) +ℤ u))
applied-Add o u None =
    let zero : (pos 0 +ℤ u) ≡ u = omega (arith, ints) in ap (λ n. Some (clamped o n)) (sym zero)
applied-Add o u (Some v) = refl

-- the numbers fit 32 bits, and so the program's sum is the sum
pub sum_clamped : (o : Odds) (e : Event) (s : Value) (v u r : ℤ) → e ≡ Add u
    → v ≡ unwrap_or s (pos 0) → SFits w32 v → SFits w32 u → SFits w32 (v +ℤ u)
    → r ≡ clamped o (to_z w32 (of_z w32 (to_z w32 (of_z w32 v) +ℤ to_z w32 (of_z w32 u))))
    → SFits w32 r → Some (to_z w32 (of_z w32 r)) ≡ applied o e s
sum_clamped o e s v u r is value fv fu fs done fr =
    let r' = simp to_z-of_z at done in
    simp to_z-of_z (rw (is, applied-Add, ← value) (ap Some r'))
