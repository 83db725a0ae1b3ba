-- Beams whose voxels of the end are known, and the same beams without these voxels.
use Rattle.std.proofs.Common.{◌≡◌, ℕ, ◌+◌, ◌<◌, List, [], ◌∷◌, ◌++◌, length, get_or, take, refl}
use Rattle.std.proofs.Common.{sym, subst, ◌∙◌, ap, arith, Option}
use Rattle.std.specs.Prelude.{IsSome}
use Rattle.std.specs.List.{All}
use Rattle.std.proofs.lemmas.List.{get_or-map, length-map, map_push}
use Rattle.std.proofs.lemmas.List.Elements.{All-map, All-push, All-weaker}
use Rattle.oct_key.specs.Boxes.{Window}
use Rattle.oct_key.specs.Voxel.{key_at}
use Rattle.oct_key.specs.declared.point.Point.{Point}
use Rattle.oct_brick.specs.declared.brick.Brick.{Brick}
use Rattle.oct_scan.specs.declared.beam.PlacedBeam.{PlacedBeam}
use Rattle.oct_scan.specs.Beam.{bare, bare_beam, IsPlaced}
use Rattle.oct_scan.specs.Gathered.{HoldAllGathered, IsBeamHeld}
use Rattle.oct_scan.proofs.Holding.{all_next}

-- a beam with a voxel ends in the map
ends_in_map : (edge : ℕ) (b : PlacedBeam) → IsPlaced edge b → IsSome (key_at edge (bare_beam b).end)
ends_in_map edge b is = rw is refl

pub bare_inside : (edge : ℕ) (bs : List PlacedBeam) → All (IsPlaced edge) bs
    → All (λ b. IsSome (key_at edge b.end)) (bare bs)
bare_inside edge bs all =
    All-map (λ b. IsSome (key_at edge b.end)) bare_beam bs
    (All-weaker (IsPlaced edge) (λ b. IsSome (key_at edge (bare_beam b).end)) (ends_in_map edge) bs
    all)

-- one beam more
pub bare_more : (items items' : List PlacedBeam) (b : PlacedBeam) → items' ≡ items ++ b ∷ []
    → bare items' ≡ bare items ++ bare_beam b ∷ []
bare_more items items' b pushed = ap bare pushed ∙ map_push bare_beam items b

pub placed_more : (edge : ℕ) (items items' : List PlacedBeam) (b : PlacedBeam)
    → items' ≡ items ++ b ∷ [] → All (IsPlaced edge) items → IsPlaced edge b
    → All (IsPlaced edge) items'
placed_more edge items items' b pushed all one =
    subst (All (IsPlaced edge)) (sym pushed) (All-push (IsPlaced edge) items b all one)

-- as many, with and without their voxels
pub bare_some : (bs : List PlacedBeam) → 0 < length bs → 0 < length (bare bs)
bare_some bs some = omega (arith, some, length-map bs bare_beam)

-- after one beam more, bricks hold what is gathered along it too
pub all_placed : (edge : ℕ) (window : Option Window) (o : Point) (bs : List PlacedBeam) (i : ℕ)
    (d : PlacedBeam) (met : ℕ) (bricks bricks' : List Brick) → i < length bs
    → HoldAllGathered edge window o (take i (bare bs)) bricks
    → IsBeamHeld edge window o (bare_beam (get_or bs i d)) met bricks bricks'
    → HoldAllGathered edge window o (take (i + 1) (bare bs)) bricks'
all_placed edge window o bs i d met bricks bricks' l held added =
    all_next edge window o (bare bs) i (bare_beam d) met bricks bricks'
    (omega (arith, l, length-map bs bare_beam)) held
    (subst (λ b. IsBeamHeld edge window o b met bricks bricks')
    (sym (get_or-map bare_beam bs i d (bare_beam d) l)) added)
