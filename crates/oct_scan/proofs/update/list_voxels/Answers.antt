use Rattle.std.proofs.Common.{◌≡◌, ◌≤◌, ℕ, List, take, map, length, ◌∙◌, ap}
use Rattle.std.proofs.lemmas.List.{take_all}
use Rattle.oct_key.specs.Voxel.{Voxel}
use Rattle.oct_brick.specs.declared.brick.Brick.{Brick}
use Rattle.oct_brick.specs.Bricks.{hit_codes, freed_codes}
use Rattle.oct_brick.specs.Voxels.{coded_voxel}
use Rattle.oct_scan.specs.Update.{UpdateSet, UpdateBricks, listed}
use Rattle.oct_scan.proofs.update.list_voxels.Goals as goal

-- these lists and this need
abbrev update_from : List Voxel → List Voxel → ℕ → UpdateSet
update_from hits frees need = record { hits = hits; frees = frees; need = need }

-- the lists of all bricks are those of the update
all_listed : (u : UpdateBricks) (bs : List Brick) (i need : ℕ) (hits frees : List Voxel)
    → bs ≡ u.bricks → length bs ≤ i → hits ≡ map coded_voxel (hit_codes (take i bs))
    → frees ≡ map coded_voxel (freed_codes (take i bs)) → need ≡ u.need
    → update_from hits frees need ≡ listed u
all_listed u bs i need hits frees same all hits_are frees_are need_is =
    let whole : take i bs ≡ u.bricks = take_all i bs all ∙ same in
    ap (λ (l : List Voxel). update_from l frees need)
    (hits_are ∙ ap (λ (l : List Brick). map coded_voxel (hit_codes l)) whole)
    ∙ ap (λ (l : List Voxel). update_from (listed u).hits l need)
    (frees_are ∙ ap (λ (l : List Brick). map coded_voxel (freed_codes l)) whole)
    ∙ ap (update_from (listed u).hits (listed u).frees) need_is

pub returns-clause-same : goal.returns-clause-same
returns-clause-same c =
    all_listed c.args.update.now c.bricks-bricks.result.now c.loop-brick.brick-index c.need.result
    c.loop-brick.hits c.loop-brick.frees c.bricks-bricks.ensures c.loop-brick-test.false
    c.loop-brick.invariant.hits c.loop-brick.invariant.frees c.need.ensures
