-- The groups that a merge may take, counted at their homes.
use Rattle.std.proofs.Common.{◌≡◌, ℕ, zero, suc, ◌+◌, ◌<◌, ◌≤◌, Bool, true, false, cond, [], ◌∷◌}
use Rattle.std.proofs.Common.{Some}
use Rattle.std.proofs.Common.{None, refl, sym, ◌∙◌, ap, arith}
use Rattle.std.specs.Prelude.{Option, ◌&&◌, not, is_some, length}
use Rattle.std.proofs.lemmas.List.Elements.{All-from_get_or}
use Rattle.std.proofs.lemmas.List.Folds.{list_any_at, list_any_none}
use Rattle.oct_key.specs.Block.{Cube, IsBlock, lowest_voxel, root_block}
use Rattle.oct_key.proofs.Blocks.{lowest_held, lowest_in_map, block_of_held}
use Rattle.oct_values.specs.Blocks.{blocks_above_voxels}
use Rattle.oct_values.proofs.Listed.{all_above_voxels}
use Rattle.oct_values.proofs.Sums.{All-follows, sum_by-same}
use Rattle.oct_values.proofs.Sums.{sum_by-plus}
use Rattle.oct_arena.specs.declared.node.Group.{Group}
use Rattle.oct_arena.specs.Entries.{Groups, entry, home_of, home_at, is_that_home, has_home, live}
use Rattle.oct_arena.specs.Nodes.{link_of}
use Rattle.oct_tree.specs.Tree.{Tree, IsLinked, reach}
use Rattle.oct_tree.proofs.Paths.{some_injective, some_not_none, reach_home, same_home}
use Rattle.oct_query.proofs.Homes.{home_passes, home_fails, at_home, no_home, one_home, by_homes}
use Rattle.oct_merge.specs.Need.{is_missing, merge_need}
use Rattle.oct_merge.specs.Walk.{is_split, is_needed, need_in, is_common, common_in}

-- a group stands within the list
in_range : (gs : Groups) (x : ℕ) (b : Cube) → home_at gs x ≡ Some b → x < length gs
in_range [] x b h = absurd (some_not_none h refl)
in_range (e ∷ gs) zero b h = omega arith
in_range (e ∷ gs) (suc x) b h = (let rest = in_range gs x b h in omega (arith, rest))

home_there : (gs : Groups) (x : ℕ) (b : Cube) → home_at gs x ≡ Some b → has_home gs b ≡ true
home_there gs x b h =
    list_any_at (λ e. is_that_home b (home_of e)) gs x None (in_range gs x b h)
    (home_passes b (entry gs x) h)

home_nowhere : (gs : Groups) (b : Cube) → ((x : ℕ) → home_at gs x ≡ Some b → ⊥)
    → has_home gs b ≡ false
home_nowhere gs b h =
    list_any_none (λ e. is_that_home b (home_of e)) gs
    (All-from_get_or (λ e. is_that_home b (home_of e) ≡ false) gs None
    (λ x l. home_fails b (entry gs x) (h x)))

-- the node over a block links a group, or it links none and the block is no home
data AtBlock (t : Tree) (b : Cube) : Type 0 where
  split_at : (x : ℕ) → is_split t b ≡ true → home_at t.groups x ≡ Some b → AtBlock t b
  plain_at : is_split t b ≡ false → ((x : ℕ) → home_at t.groups x ≡ Some b → ⊥) → AtBlock t b

at_block : (t : Tree) (b : Cube) → IsLinked t → IsBlock b → AtBlock t b
at_block t b l ok = go (link_of (reach t b.depth (lowest_voxel b))) refl
  where
    go : (o : Option ℕ) → link_of (reach t b.depth (lowest_voxel b)) ≡ o → AtBlock t b
    go None e =
        plain_at (ap is_some e)
        (λ x home. some_not_none
        (l.reached x b home (lowest_voxel b) (lowest_in_map b ok) (lowest_held b)) e)
    go (Some x) e = split_at x (ap is_some e)
        (reach_home t (lowest_voxel b) l (lowest_in_map b ok) b.depth x e ok.depth
        ∙ ap Some (block_of_held b (lowest_voxel b) (lowest_held b)))

-- the two tests are one
home_is_split : (t : Tree) (b : Cube) → IsLinked t → IsBlock b → has_home t.groups b ≡ is_split t b
home_is_split t b l ok = elim (at_block t b l ok) [
  | split_at x test home ↦ home_there t.groups x b home ∙ sym test
  | plain_at test none ↦ home_nowhere t.groups b none ∙ sym test
]

-- an entry counts where its group's home is no home in the other tree
abbrev counts_at : Tree → Option Group → ℕ
counts_at t e = cond (is_missing t.groups e) 1 0

missing_at : (t : Tree) (e : Option Group) (b : Cube) → home_of e ≡ Some b
    → is_missing t.groups e ≡ not (has_home t.groups b)
missing_at t None b h = cc
missing_at t (Some g) b h = ap (λ c. not (has_home t.groups c)) (some_injective h)

needed_at : (t o : Tree) (b : Cube) → IsLinked t → IsLinked o → IsBlock b
    → at_home (counts_at t) o.groups b ≡ cond {A = ℕ} (is_needed t o b) 1 0
needed_at t o b l lo ok = elim (at_block o b lo ok) [
  | split_at x test home ↦ one_home (counts_at t) b o.groups x home
      (λ y there. same_home o lo y x b there home)
      ∙ ap (λ a. cond {A = ℕ} a 1 0)
      (missing_at t (entry o.groups x) b home ∙ ap not (home_is_split t b l ok)
      ∙ ap (λ a. a && not (is_split t b)) (sym test))
  | plain_at test none ↦ no_home (counts_at t) b o.groups none
      ∙ ap (λ a. cond {A = ℕ} (a && not (is_split t b)) 1 0) (sym test)
]

-- block by block, the groups that are missing are those that are needed
pub need_by_blocks : (t o : Tree) → IsLinked t → IsLinked o
    → merge_need t o ≡ need_in t o root_block
unfolding merge_need
need_by_blocks t o l lo =
    sym (by_homes (counts_at t) refl o.groups lo.homes)
    ∙ sum_by-same (at_home (counts_at t) o.groups) (λ b. cond {A = ℕ} (is_needed t o b) 1 0)
    blocks_above_voxels
    (All-follows (λ b. IsBlock b × (b.depth ≤ 15))
    (λ b. at_home (counts_at t) o.groups b ≡ cond {A = ℕ} (is_needed t o b) 1 0) blocks_above_voxels
    (λ b at. needed_at t o b l lo at.0) all_above_voxels)

-- each group of the second tree is at one block whose node links one there
live_at : (o : Tree) (b : Cube) → IsLinked o → IsBlock b
    → at_home (λ e. cond {A = ℕ} (is_some e) 1 0) o.groups b ≡ cond {A = ℕ} (is_split o b) 1 0
live_at o b lo ok = elim (at_block o b lo ok) [
  | split_at x test home ↦ one_home (λ e. cond {A = ℕ} (is_some e) 1 0) b o.groups x home
      (λ y there. same_home o lo y x b there home)
      ∙ ap (λ a. cond {A = ℕ} a 1 0) (some_there (entry o.groups x) home ∙ sym test)
  | plain_at test none ↦ no_home (λ e. cond {A = ℕ} (is_some e) 1 0) b o.groups none
      ∙ ap (λ a. cond {A = ℕ} a 1 0) (sym test)
]
  where
    some_there : (e : Option Group) → home_of e ≡ Some b → is_some e ≡ true
    some_there None h = cc
    some_there (Some g) h = refl

-- where the first tree links one too, it is common, and else it is needed
two_kinds : (a b : Bool)
    → cond {A = ℕ} a 1 0 ≡ cond {A = ℕ} (a && not b) 1 0 + cond {A = ℕ} (a && b) 1 0
two_kinds true true = refl
two_kinds true false = refl
two_kinds false b = refl

-- so the groups of the second tree are those that are missing, and those that are common
pub live_by_blocks : (t o : Tree) → IsLinked t → IsLinked o
    → live o.groups ≡ merge_need t o + common_in t o root_block
live_by_blocks t o l lo =
    sym (by_homes (λ e. cond {A = ℕ} (is_some e) 1 0) refl o.groups lo.homes)
    ∙ sum_by-same (at_home (λ e. cond {A = ℕ} (is_some e) 1 0) o.groups)
    (λ b. cond {A = ℕ} (is_needed t o b) 1 0 + cond {A = ℕ} (is_common t o b) 1 0)
    blocks_above_voxels
    (All-follows (λ b. IsBlock b × (b.depth ≤ 15))
    (λ b. at_home (λ e. cond {A = ℕ} (is_some e) 1 0) o.groups b
    ≡ cond {A = ℕ} (is_needed t o b) 1 0 + cond {A = ℕ} (is_common t o b) 1 0)
    blocks_above_voxels
    (λ b at. live_at o b lo at.0 ∙ two_kinds (is_split o b) (is_split t b)) all_above_voxels)
    ∙ sum_by-plus (λ b. cond {A = ℕ} (is_needed t o b) 1 0)
    (λ b. cond {A = ℕ} (is_common t o b) 1 0) blocks_above_voxels
    ∙ ap (λ n. n + common_in t o root_block) (sym (need_by_blocks t o l lo))
