-- The octets of a brick, one after another: what is applied to the slot of each.
use Rattle.std.proofs.Common.{◌≡◌, ℕ, ◌+◌, ◌<◌, ◌≤◌, refl, sym, subst, ◌∙◌, ap, arith, Some, None}
use Rattle.std.proofs.Common.{false, [], ◌∷◌}
use Rattle.std.specs.Prelude.{ℤ, Bool}
use Rattle.std.specs.Int.{bit_not, w64}
use Rattle.oct_key.specs.Block.{Cube, child_of}
use Rattle.oct_key.proofs.Blocks.{depth_child_of}
use Rattle.oct_key.proofs.Nested.{lies_in_self}
use Rattle.oct_odds.specs.Odds.{Odds}
use Rattle.oct_odds.specs.Update.{IsSmallEvent, applied}
use Rattle.oct_arena.specs.declared.node.GroupId.{GroupId}
use Rattle.oct_arena.specs.Entries.{spare}
use Rattle.oct_arena.specs.Nodes.{link_of}
use Rattle.oct_tree.specs.declared.place.Place.{Place}
use Rattle.oct_tree.specs.declared.place.Place.TheVariants.{Slot}
use Rattle.oct_tree.specs.Tree.{Tree, IsLinked, node_in, block_in}
use Rattle.oct_tree.specs.Changes.{IsSplit, IsSameOutside}
use Rattle.oct_brick.specs.declared.brick.Brick.{Brick}
use Rattle.oct_edit.specs.declared.scan.BrickUpdate.{BrickUpdate}
use Rattle.oct_edit.specs.Listed.{update_of}
use Rattle.oct_edit.specs.Bricks.{listed_one, CanApply, IsApplied, IsPlain, IsPart}
use Rattle.oct_edit.specs.Parts.{IsUpdateIn, need_in}
use Rattle.oct_edit.specs.Scan.{events_of}
use Rattle.oct_edit.proofs.UnderWay.{IsUnderWay}
use Rattle.oct_edit.proofs.BrickRounds.{part_brick}
use Rattle.oct_edit.proofs.BrickWays.{IsAtOctet, octet_index, octet_below, octet_next, octet_masked}
use Rattle.oct_edit.proofs.BrickWays.{octet_inside, octet_room, octet_step, part_of, part_is}
use Rattle.oct_edit.proofs.Frames.{place_after}
use Rattle.oct_edit.proofs.Needs.{place_in_map}
use Rattle.oct_edit.proofs.Planting.{fresh_slot}
use Rattle.oct_edit.proofs.PlantedVoxels.{still_freed, within_after}
use Rattle.oct_edit.proofs.Shares.{first_not_done}
use Rattle.oct_edit.proofs.Updates.{way_slot, at_block}

-- some octets of a brick are done, and another one is next
abbrev pub IsNext : Tree → Tree → Place → Cube → BrickUpdate → BrickUpdate → ℕ → Bool → Type 0
IsNext s w p b update rest x lazy =
    IsAtOctet s w p b (listed_one update) update.brick rest.brick rest.hit rest.miss x lazy

-- the update of the octet can be applied to its slot
pub octet_can : (t s w : Tree) (p : Place) (b : Cube) (id : GroupId)
    (update rest part : BrickUpdate) (x : ℕ) (lazy : Bool)
    → CanApply t p 14 update → block_in t p ≡ Some b → link_of (node_in s p) ≡ Some id.number
    → spare t.groups ≤ spare s.groups + 1 → IsNext s w p b update rest x lazy
    → IsPart rest part x → CanApply w (Slot id (octet_index rest.brick)) 15 part
octet_can t s w p b id update rest part x lazy can e link room at is =
    let i : ℕ = octet_index rest.brick in
    let few : i < 8 = octet_below rest.brick update.brick i at.rest at.some refl in
    let deep = can.depth b e in
    let enough = can.room b e in
    let place =
    way_slot s w p b id i (listed_one update) (listed_one rest) lazy few link at.way in
    record {
      linked = at.way.done.linked;
      place = place.0;
      depth =
          at_block (λ a. a.depth ≡ 15) w (Slot id i) (child_of b i) place.1
          (depth_child_of b i ∙ ap (λ (d : ℕ). d + 1) deep);
      brick =
          part_brick b i rest.brick part.brick update.brick x can.brick.code at.rest at.some
          (octet_masked s w p b (listed_one update) update.brick rest.brick rest.hit rest.miss x
          lazy at)
          is.brick;
      inside =
          at_block (λ a. IsUpdateIn a (listed_one part)) w (Slot id i) (child_of b i) place.1
          (octet_inside s w p b (listed_one update) update.brick rest.brick part.brick rest.hit
          rest.miss part.hit part.miss x lazy at is.brick);
      room =
          at_block (λ a. need_in (events_of (listed_one part)) a ≤ spare w.groups) w (Slot id i)
          (child_of b i) place.1
          (octet_room s w p b (listed_one update) update.brick rest.brick part.brick rest.hit
          rest.miss part.hit part.miss x lazy (place_in_map t p b can.linked e) (can.inside b e)
          (omega (arith, enough, room)) at is.brick is.hit is.miss);
      hit = subst IsSmallEvent (sym (is.hit ∙ at.way.hit)) can.hit;
      miss = subst IsSmallEvent (sym (is.miss ∙ at.way.miss)) can.miss;
    }

-- once it is, one octet more is done
pub octet_done : (t s w z : Tree) (p : Place) (b : Cube) (id : GroupId)
    (update rest part left : BrickUpdate) (x : ℕ) (lazy : Bool)
    → CanApply t p 14 update → block_in t p ≡ Some b → IsLinked s
    → link_of (node_in s p) ≡ Some id.number → IsNext s w p b update rest x lazy
    → IsPart rest part x → IsPart rest left (bit_not w64 x)
    → IsApplied w z (Slot id (octet_index rest.brick)) part lazy
    → IsUnderWay s z p b (listed_one update) (listed_one left) lazy
octet_done t s w z p b id update rest part left x lazy can e linked link at is later applied =
    let i : ℕ = octet_index rest.brick in
    let few : i < 8 = octet_below rest.brick update.brick i at.rest at.some refl in
    let place =
    way_slot s w p b id i (listed_one update) (listed_one rest) lazy few link at.way in
    octet_step s w z p b (listed_one update) update.brick rest.brick part.brick left.brick rest.hit
    rest.miss part.hit part.miss left.hit left.miss x lazy linked (place_in_map t p b can.linked e)
    at is.brick later.brick is.hit is.miss later.hit later.miss
    (applied.touched (child_of b i) place.1) (applied.room (child_of b i) place.1)

-- the part of the misses in an octet that wasn't edited yet is plain too
pub octet_plain : (t s w : Tree) (p : Place) (b : Cube) (id : GroupId)
    (update rest part : BrickUpdate) (x : ℕ) (m : ℤ)
    → CanApply t p 14 update → block_in t p ≡ Some b → IsLinked s → IsSplit t s p id m
    → IsSameOutside t s b → IsNext s w p b update rest x false → IsPart rest part x
    → IsPlain t p update m → rest.brick.hits ≡ 0
    → IsPlain w (Slot id (octet_index rest.brick)) part m
octet_plain t s w p b id update rest part x m can e linked sp out at is plain freed =
    let i : ℕ = octet_index rest.brick in
    let few : i < 8 = octet_below rest.brick update.brick i at.rest at.some refl in
    let deep = at.deep in
    let after = place_after t s p b b can.linked can.place e out (lies_in_self b) in
    let left : Brick = part_of rest.brick (bit_not w64 x) in
    let round =
    octet_next s w p b (listed_one update) update.brick rest.brick part.brick left rest.hit
    rest.miss x false at is.brick (part_is rest.brick (bit_not w64 x)) in
    let up =
    first_not_done b at.way.next i (listed_one update).hits (listed_one update).frees
    (update_of (rest.brick ∷ []) rest.hit rest.miss).hits
    (update_of (rest.brick ∷ []) rest.hit rest.miss).frees at.way.hits at.way.frees round.first in
    let odds : w.odds ≡ t.odds = at.way.done.apart.outside.odds ∙ sp.odds in
    record {
      absent =
          fresh_slot t s w p b id m at.way.next i (events_of (listed_one update)) linked after.0
          after.1 (place_in_map t p b can.linked e) (omega (arith, deep)) sp at.way.done up few
          ∙ plain.absent;
      freed = still_freed rest.brick.hits part.brick.hits x is.brick.hits freed;
      value =
          plain.value ∙ ap (λ (o : Odds). applied o update.miss None) (sym odds)
          ∙ ap (λ event. applied w.odds event None) (sym (is.miss ∙ at.way.miss));
      within = within_after t.odds w.odds m odds plain.within;
    }
