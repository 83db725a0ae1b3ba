-- The steps of the walks: child by child.
use Rattle.std.proofs.Common.{◌≡◌, ℕ, zero, suc, ◌+◌, ◌-◌, ◌<◌, ◌≤◌, List, [], ◌++◌, length, refl}
use Rattle.std.proofs.Common.{sym, ap, ◌∙◌, arith, append_assoc, append-nil, add-one, length-append}
use Rattle.oct_key.specs.Voxel.{Voxel}
use Rattle.oct_key.specs.Block.{Cube, child_of}
use Rattle.oct_tree.specs.Tree.{Tree}
use Rattle.oct_frontier.specs.Found.{found_in}
use Rattle.oct_frontier.proofs.Founds.{found_first, found_children}

pub first_none : (t : Tree) (lo hi : Voxel) (b : Cube) → found_first t lo hi b 0 ≡ []
unfolding found_first
first_none t lo hi b = refl

pub first_next : (t : Tree) (lo hi : Voxel) (b : Cube) (n : ℕ)
    → found_first t lo hi b (n + 1) ≡ found_first t lo hi b n ++ found_in t lo hi (child_of b n)
unfolding found_first
first_next t lo hi b n = ap (found_first t lo hi b) (add-one n)

-- what some of the children have is no more than what all have
first_more : (t : Tree) (lo hi : Voxel) (b : Cube) (n m : ℕ)
    → length (found_first t lo hi b n) ≤ length (found_first t lo hi b (n + m))
first_more t lo hi b n zero =
    (let same : n + 0 ≡ n = omega arith in
    let whole = ap (λ q. length (found_first t lo hi b q)) same in omega (arith, whole))
first_more t lo hi b n (suc m) =
    let before = first_more t lo hi b n m in
    let next = ap length (first_next t lo hi b (n + m))
    ∙ length-append (found_first t lo hi b (n + m)) (found_in t lo hi (child_of b (n + m))) in
    let same : n + suc m ≡ n + m + 1 = omega arith in
    let whole = ap (λ q. length (found_first t lo hi b q)) same in
    omega (arith, before, next, whole)

first_all : (t : Tree) (lo hi : Voxel) (b : Cube) (n : ℕ) → b.depth ≤ 15 → n ≤ 8
    → length (found_first t lo hi b n) ≤ length (found_in t lo hi b)
first_all t lo hi b n low le =
    let more = first_more t lo hi b n (8 - n) in
    let eight : n + (8 - n) ≡ 8 = omega arith in
    let same = ap (λ q. length (found_first t lo hi b q)) eight in
    let whole = ap length (found_children t lo hi b low) in
    omega (arith, more, same, whole)

-- counting: what was found and what is left of the room are the room
pub count_start : (t : Tree) (lo hi : Voxel) (b : Cube) (room : ℕ)
    → length (found_first t lo hi b 0) + room ≡ room
count_start t lo hi b room = (let none = ap length (first_none t lo hi b) in omega (arith, none))

pub count_step : (t : Tree) (lo hi : Voxel) (b c : Cube) (n room left less : ℕ)
    → length (found_first t lo hi b n) + left ≡ room → c ≡ child_of b n
    → length (found_in t lo hi c) + less ≡ left
    → length (found_first t lo hi b (n + 1)) + less ≡ room
count_step t lo hi b c n room left less so_far is here =
    let next = ap length (first_next t lo hi b n)
    ∙ length-append (found_first t lo hi b n) (found_in t lo hi (child_of b n)) in
    let same = ap (λ q. length (found_in t lo hi q)) is in
    omega (arith, so_far, here, next, same)

pub count_over : (t : Tree) (lo hi : Voxel) (b c : Cube) (n room left : ℕ) → b.depth ≤ 15 → n < 8
    → length (found_first t lo hi b n) + left ≡ room → c ≡ child_of b n
    → left < length (found_in t lo hi c) → room < length (found_in t lo hi b)
count_over t lo hi b c n room left low l so_far is more =
    let next = ap length (first_next t lo hi b n)
    ∙ length-append (found_first t lo hi b n) (found_in t lo hi (child_of b n)) in
    let same = ap (λ q. length (found_in t lo hi q)) is in
    let all = first_all t lo hi b (n + 1) low (omega arith) in
    omega (arith, so_far, more, next, same, all)

pub count_end : (t : Tree) (lo hi : Voxel) (b : Cube) (n room left : ℕ) → b.depth ≤ 15 → n ≡ 8
    → length (found_first t lo hi b n) + left ≡ room → length (found_in t lo hi b) + left ≡ room
count_end t lo hi b n room left low end so_far =
    ap (λ (l : List Voxel). length l + left)
    (found_children t lo hi b low ∙ ap (found_first t lo hi b) (sym end)) ∙ so_far

-- listing
pub list_start : (t : Tree) (lo hi : Voxel) (b : Cube) (old : List Voxel)
    → old ≡ old ++ found_first t lo hi b 0
list_start t lo hi b old = sym (ap (λ l. old ++ l) (first_none t lo hi b) ∙ append-nil old)

pub list_step : (t : Tree) (lo hi : Voxel) (b c : Cube) (n : ℕ) (old mid new : List Voxel)
    → mid ≡ old ++ found_first t lo hi b n → c ≡ child_of b n → new ≡ mid ++ found_in t lo hi c
    → new ≡ old ++ found_first t lo hi b (n + 1)
list_step t lo hi b c n old mid new so_far is here =
    here ∙ ap (λ l. l ++ found_in t lo hi c) so_far
    ∙ ap (λ q. (old ++ found_first t lo hi b n) ++ found_in t lo hi q) is
    ∙ append_assoc old (found_first t lo hi b n) (found_in t lo hi (child_of b n))
    ∙ ap (λ l. old ++ l) (sym (first_next t lo hi b n))

pub list_room : (t : Tree) (lo hi : Voxel) (b c : Cube) (n : ℕ) (old mid : List Voxel)
    (before now room : ℕ) → b.depth ≤ 15 → n < 8 → mid ≡ old ++ found_first t lo hi b n
    → c ≡ child_of b n → before ≡ length old → now ≡ length mid
    → before + length (found_in t lo hi b) ≤ room → now + length (found_in t lo hi c) ≤ room
list_room t lo hi b c n old mid before now room low l so_far is eb en enough =
    let parts = ap length so_far ∙ length-append old (found_first t lo hi b n) in
    let next = ap length (first_next t lo hi b n)
    ∙ length-append (found_first t lo hi b n) (found_in t lo hi (child_of b n)) in
    let same = ap (λ q. length (found_in t lo hi q)) is in
    let all = first_all t lo hi b (n + 1) low (omega arith) in
    omega (arith, parts, next, same, all)

pub list_end : (t : Tree) (lo hi : Voxel) (b : Cube) (n : ℕ) (old new : List Voxel) → b.depth ≤ 15
    → n ≡ 8 → new ≡ old ++ found_first t lo hi b n → new ≡ old ++ found_in t lo hi b
list_end t lo hi b n old new low end so_far =
    so_far ∙ ap (λ q. old ++ found_first t lo hi b q) end
    ∙ ap (λ l. old ++ l) (sym (found_children t lo hi b low))
