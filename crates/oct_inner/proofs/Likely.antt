-- An event on each voxel of the map, by which every path is tidied.
use Rattle.std.proofs.Common.{◌≡◌, ℕ, ◌≤◌, Bool, true, false, cond, Some, None, refl, sym, subst}
use Rattle.std.proofs.Common.{◌∙◌, ap, arith}
use Rattle.oct_key.specs.Voxel.{Voxel, IsInMap}
use Rattle.oct_key.specs.Values.{SameValues}
use Rattle.oct_key.specs.Block.{Cube, IsBlock, lowest_voxel}
use Rattle.oct_key.proofs.Blocks.{lowest_held, lowest_in_map}
use Rattle.oct_key.proofs.Held.{held_in_map}
use Rattle.oct_odds.specs.declared.event.Event.{Event}
use Rattle.oct_values.specs.Blocks.{blocks_above_voxels}
use Rattle.oct_key.specs.Boxes.{IsInBox}
use Rattle.oct_values.specs.Boxes.{is_cut_by, box_events, box_need}
use Rattle.oct_values.specs.Events.{after_event, updated}
use Rattle.oct_key.proofs.Boxes.{in_box_exactly}
use Rattle.oct_values.proofs.Boxes.{cut_exactly}
use Rattle.oct_values.proofs.Listed.{all_above_voxels}
use Rattle.oct_values.proofs.Sums.{All-follows, sum_by-same, sum_by-none}
use Rattle.oct_arena.specs.Entries.{entry}
use Rattle.oct_arena.specs.Nodes.{link_of}
use Rattle.oct_tree.specs.Nodes.{IsCollapsible}
use Rattle.oct_tree.specs.Tree.{Tree, reach, value_at}
use Rattle.oct_tree.specs.Shape.{IsWellFormed, IsFresh, IsPruned}
use Rattle.oct_tree.proofs.Paths.{live_home, place_block, place_reached, linked_inner}
use Rattle.oct_tree.proofs.Links.{place_in_map}
use Rattle.oct_edit.specs.Edits.{IsEdited, IsTidyAlong}
use Rattle.oct_inner.proofs.Refreshes.{inner_place}

-- the box of the whole map has each of its voxels
abbrev pub lowest : Voxel
lowest = record { x = 0; y = 0; z = 0 }

abbrev pub highest : Voxel
highest = record { x = 65535; y = 65535; z = 65535 }

in_whole : (k : Voxel) → IsInMap k → IsInBox lowest highest k
in_whole k v =
    let x = v.x in
    let y = v.y in
    let z = v.z in
    record {
      x = (omega arith, omega (arith, x));
      y = (omega arith, omega (arith, y));
      z =
          (omega arith, omega (arith, z));
    }

-- so it cuts no block
whole_cuts_none : (b : Cube) → IsBlock b → (test : Bool) → is_cut_by lowest highest b ≡ test
    → cond {A = ℕ} test 1 0 ≡ 0
whole_cuts_none b ok false e = refl
whole_cuts_none b ok true e =
    absurd (((cut_exactly lowest highest b ok).0 e).1
    (λ k held. in_whole k (held_in_map b k ok held)))

pub whole_need : box_need lowest highest ≡ 0
unfolding box_need
whole_need =
    sum_by-same (λ b. cond (is_cut_by lowest highest b) 1 0) (λ b. 0) blocks_above_voxels
    (All-follows (λ b. IsBlock b × (b.depth ≤ 15))
    (λ b. cond {A = ℕ} (is_cut_by lowest highest b) 1 0 ≡ 0) blocks_above_voxels
    (λ b at. whole_cuts_none b at.0 _ refl) all_above_voxels)
    ∙ sum_by-none blocks_above_voxels

-- each voxel of the map has the event
pub whole_event : (event : Event) (k : Voxel) → IsInMap k
    → box_events lowest highest event k ≡ Some event
whole_event event k v =
    let inside = (in_box_exactly lowest highest k).1 (in_whole k v) in
    ap (λ test. cond test (Some event) None) inside

pub whole_values : (t u : Tree) (event : Event) → IsEdited t u (box_events lowest highest event)
    → SameValues (updated t.odds (λ _. Some event) (value_at t)) (value_at u)
whole_values t u event h k v = ap (λ e. after_event t.odds e (value_at t k))
    (sym (whole_event event k v)) ∙ h.values k v

-- where each path is tidy, the tree is fresh and pruned
pub tidy_fresh : (u : Tree) → IsWellFormed u → ((k : Voxel) → IsInMap k → IsTidyAlong u k)
    → IsFresh u
tidy_fresh u f tidy = record {
  formed = f;
  greatest = λ p id v e. (let ok = inner_place u f.linked p id.number (ap link_of e) in
      let (b, at) = place_block u p ok in
      let in_map = place_in_map u f.linked p b ok at in
      (tidy (lowest_voxel b) (lowest_in_map b in_map) b.depth v id in_map.depth
      (place_reached u f.linked p ok b at (lowest_voxel b) (lowest_in_map b in_map) (lowest_held b)
      ∙ e)).0);
}

pub tidy_pruned : (u : Tree) → IsWellFormed u → ((k : Voxel) → IsInMap k → IsTidyAlong u k)
    → IsPruned u
tidy_pruned u f tidy x live can =
    let (b, home) = live_home (entry u.groups x) live in
    let (in_map, low) = f.linked.homes x b home in
    let link = f.linked.reached x b home (lowest_voxel b) (lowest_in_map b in_map) (lowest_held b)
    in
    let (id, v, is, number) = linked_inner (reach u b.depth (lowest_voxel b)) x link in
    (tidy (lowest_voxel b) (lowest_in_map b in_map) b.depth v id (omega (arith, low)) is).1
    (subst (λ n. IsCollapsible u.groups n) (sym number) can)
