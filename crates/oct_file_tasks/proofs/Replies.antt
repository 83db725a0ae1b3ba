-- The replies to what is asked of a file, by what is found of its box and its map.
use Rattle.std.proofs.Common.{◌≡◌, ℕ, ◌<◌, ◌≤◌, Bool, true, false, List, ◌++◌, length, cond, refl}
use Rattle.std.proofs.Common.{sym, ap, subst, ◌∙◌, arith, length-append, zero-lt-suc}
use Rattle.std.specs.Prelude.{codes, decimal, nat_lt}
use Rattle.std.specs.List.{flat_map}
use Rattle.std.proofs.lemmas.Bool.{lt-ltb, le-ltb}
use Rattle.oct_bt.specs.DataClasses.{data_classes}
use Rattle.oct_bt.specs.File.{FileRead}
use Rattle.oct_key.specs.Boxes.{Window}
use Rattle.oct_key.specs.Voxel.{Voxel, IsInMap}
use Rattle.oct_export.specs.Boxes.{boxes_of}
use Rattle.oct_export.specs.BoxTexts.{scene_text}
use Rattle.oct_export.specs.Grids.{grid_head, pgm_text}
use Rattle.oct_export.proofs.Same.{same_boxes}
use Rattle.oct_frontier.specs.Frontier.{frontier_between}
use Rattle.oct_frontier.proofs.Same.{same_frontier}
use Rattle.oct_io.specs.declared.status.Status.TheVariants.{Done}
use Rattle.oct_values.specs.Classes.{Classes}
use Rattle.oct_file_tasks.specs.Frontiers.{voxel_line, listing, list_reply}
use Rattle.oct_export.specs.Grids.{column_count}
use Rattle.oct_file_tasks.specs.Grids.{grid_reply, box_count, scene_reply}
use Rattle.oct_io.specs.Answer.{Answer}
use Rattle.oct_file_tasks.specs.Refusals.{refused}
use Rattle.oct_file_tasks.specs.declared.refusal.Refusal.TheVariants.{TooManyFrontiers, WideGrid}
use Rattle.oct_file_tasks.specs.declared.refusal.Refusal.TheVariants.{TooManyBoxes}
use Rattle.oct_file_tasks.proofs.PairTexts.{some_refusal}

-- ---- no text is empty

-- of two replies
some_of_two : (b : Bool) (first second : Answer) → 0 < length first.text → 0 < length second.text
    → 0 < length (cond b first second).text
some_of_two true first second one two = one
some_of_two false first second one two = two

pub some_listing : (voxels : List Voxel) → 0 < length (listing voxels)
unfolding listing
some_listing voxels =
    let parts = length-append
    (flat_map voxel_line voxels ++ codes "end " ++ decimal (length voxels)) (codes "\n") in
    omega (arith, parts)

pub some_list : (voxels : List Voxel) → 0 < length (list_reply voxels).text
some_list voxels =
    some_of_two (nat_lt 1000000 (length voxels)) (refused TooManyFrontiers)
    (record { text = listing voxels; status = Done }) (some_refusal TooManyFrontiers)
    (some_listing voxels)

pub some_grid : (c : Classes) (box : Window) → 0 < length (grid_reply c box).text
unfolding grid_reply pgm_text grid_head
some_grid c box =
    some_of_two (nat_lt 67108864 (column_count box)) (refused (WideGrid (column_count box)))
    (record { text = pgm_text c box.lo box.hi; status = Done })
    (some_refusal (WideGrid (column_count box))) (zero-lt-suc _)

pub some_scene : (file : FileRead) → 0 < length (scene_reply file).text
unfolding scene_reply scene_text
some_scene file =
    some_of_two (nat_lt 1000000 (box_count file)) (refused (TooManyBoxes (box_count file)))
    (record { text = scene_text file.res (data_classes file.codes); status = Done })
    (some_refusal (TooManyBoxes (box_count file))) (zero-lt-suc _)

-- ---- a frontier, of a tree that has the classes of a file

too_many : (voxels : List Voxel) → 1000000 < length voxels
    → list_reply voxels ≡ refused TooManyFrontiers
too_many voxels more = rw (lt-ltb 1000000 (length voxels) more) refl

few_enough : (voxels : List Voxel) → length voxels ≤ 1000000
    → list_reply voxels ≡ record { text = listing voxels; status = Done }
few_enough voxels few = rw (le-ltb 1000000 (length voxels) few) refl

pub list_refused : (c d : Classes) (lo hi : Voxel) → ((k : Voxel) → IsInMap k → c k ≡ d k)
    → 1000000 < length (frontier_between c lo hi)
    → list_reply (frontier_between d lo hi) ≡ refused TooManyFrontiers
list_refused c d lo hi same more = ap list_reply (sym (same_frontier c d lo hi same))
    ∙ too_many (frontier_between c lo hi) more

pub list_told : (c d : Classes) (lo hi : Voxel) (slice keys : List Voxel)
    → ((k : Voxel) → IsInMap k → c k ≡ d k) → slice ≡ keys
    → keys ≡ frontier_between c lo hi → length keys ≤ 1000000
    → list_reply (frontier_between d lo hi) ≡ record { text = listing slice; status = Done }
list_told c d lo hi slice keys same is exact few =
    ap list_reply (sym (exact ∙ same_frontier c d lo hi same)) ∙ few_enough keys few
    ∙ ap told (sym is)
  where
    told : List Voxel → Answer
    told voxels = record { text = listing voxels; status = Done }

-- ---- a grid

pub grid_refused : (c : Classes) (box : Window) (count : ℕ) → count ≡ column_count box
    → 67108864 < count → grid_reply c box ≡ refused (WideGrid count)
unfolding grid_reply
grid_refused c box count is more =
    ap (λ t. cond t (refused (WideGrid (column_count box)))
    (record { text = pgm_text c box.lo box.hi; status = Done }))
    (lt-ltb 67108864 (column_count box) (subst (λ n. 67108864 < n) is more))
    ∙ ap (λ n. refused (WideGrid n)) (sym is)

pub grid_told : (c : Classes) (box : Window) (count : ℕ) → count ≡ column_count box
    → count ≤ 67108864
    → grid_reply c box ≡ record { text = pgm_text c box.lo box.hi; status = Done }
unfolding grid_reply
grid_told c box count is few =
    ap (λ t. cond t (refused (WideGrid (column_count box)))
    (record { text = pgm_text c box.lo box.hi; status = Done }))
    (le-ltb 67108864 (column_count box) (subst (λ n. n ≤ 67108864) is few))

-- ---- a scene, of a tree that has the classes of a file

pub scene_refused : (c : Classes) (file : FileRead) (count : ℕ)
    → ((k : Voxel) → IsInMap k → c k ≡ data_classes file.codes k)
    → count ≡ length (boxes_of c) → 1000000 < count
    → scene_reply file ≡ refused (TooManyBoxes count)
unfolding scene_reply
scene_refused c file count same is more =
    let counted : count ≡ box_count file =
    is ∙ ap length (same_boxes c (data_classes file.codes) same) in
    ap (λ t. cond t (refused (TooManyBoxes (box_count file)))
    (record { text = scene_text file.res (data_classes file.codes); status = Done }))
    (lt-ltb 1000000 (box_count file) (subst (λ n. 1000000 < n) counted more))
    ∙ ap (λ n. refused (TooManyBoxes n)) (sym counted)

pub scene_told : (c : Classes) (file : FileRead) (count : ℕ)
    → ((k : Voxel) → IsInMap k → c k ≡ data_classes file.codes k)
    → count ≡ length (boxes_of c) → count ≤ 1000000
    → scene_reply file
    ≡ record { text = scene_text file.res (data_classes file.codes); status = Done }
unfolding scene_reply
scene_told c file count same is few =
    ap (λ t. cond t (refused (TooManyBoxes (box_count file)))
    (record { text = scene_text file.res (data_classes file.codes); status = Done }))
    (le-ltb 1000000 (box_count file) (subst (λ n. n ≤ 1000000)
    (is ∙ ap length (same_boxes c (data_classes file.codes) same)) few))
