-- An update on its way through the children of a block.
use Rattle.std.proofs.Common.{◌≡◌, ℕ, ◌+◌, ◌<◌, ◌≤◌, Bool, List, [], sym, subst, ◌∙◌, ap, arith}
use Rattle.std.proofs.Common.{refl, Some}
use Rattle.std.specs.List.{All}
use Rattle.oct_key.specs.Voxel.{Voxel}
use Rattle.oct_key.specs.Block.{Cube, IsBlock, child_of, child_index_of}
use Rattle.oct_key.proofs.Blocks.{child_in_map}
use Rattle.oct_arena.specs.declared.node.GroupId.{GroupId}
use Rattle.oct_arena.specs.Entries.{spare}
use Rattle.oct_tree.specs.declared.place.Place.{Place}
use Rattle.oct_tree.specs.declared.place.Place.TheVariants.{Slot}
use Rattle.oct_arena.specs.Nodes.{link_of, value_of}
use Rattle.oct_tree.specs.Tree.{Tree, IsLinked, IsPlace, node_in, block_in}
use Rattle.oct_tree.proofs.Paths.{some_injective, slot_place, slot_block}
use Rattle.oct_edit.specs.Listed.{ListedUpdate}
use Rattle.oct_edit.specs.Steps.{IsTouched, IsEntered, IsClosed}
use Rattle.oct_edit.specs.Scan.{events_of, AreDisjoint}
use Rattle.oct_edit.specs.Parts.{IsUpdateIn, IsFirstChild, need_in}
use Rattle.oct_edit.proofs.UnderWay.{IsTouchedBelow, IsUnderWay}
use Rattle.oct_edit.proofs.Keys.{IsParted, all_left, left_after}
use Rattle.oct_edit.proofs.Shares.{first_not_done, part_update, part_share, none_between}
use Rattle.oct_edit.proofs.Rounds.{round_start, round_skip, round_step, round_end}
use Rattle.oct_edit.proofs.Expansions.{TakesSome, taken_in}
use Rattle.oct_values.proofs.Axes.{sum_below_next}
use Rattle.oct_edit.proofs.Needs.{place_in_map, entered_spare, sum_below_le, need_of_children}
use Rattle.oct_edit.proofs.Needs.{need_of_share}

-- this many groups each child needs
abbrev pub needs : ListedUpdate → Cube → ℕ → ℕ
needs u b i = need_in (events_of u) (child_of b i)

-- no child is done
pub way_begun : (s : Tree) (p : Place) (b : Cube) (u : ListedUpdate) (lazy : Bool) → IsLinked s
    → IsPlace s p → block_in s p ≡ Some b → IsUpdateIn b u → IsUnderWay s s p b u u lazy
way_begun s p b u lazy l ok e inside = record {
  next = 0;
  few = omega arith;
  hits = all_left b u.hits inside.hits;
  frees = all_left b u.frees inside.frees;
  hit = refl;
  miss = refl;
  done = round_start s p b (events_of u) lazy l ok e;
  room = omega arith;
}

-- the place's group is there, and no child is done
pub way_start : (t s : Tree) (p : Place) (b : Cube) (id : GroupId) (u : ListedUpdate) (lazy : Bool)
    → IsEntered t s p b id → IsUpdateIn b u → IsUnderWay s s p b u u lazy
way_start t s p b id u lazy e inside = way_begun s p b u lazy e.linked e.place e.block inside

-- the slot of a child is a place, of the child's block
pub way_slot : (s w : Tree) (p : Place) (b : Cube) (id : GroupId) (i : ℕ) (u rest : ListedUpdate)
    (lazy : Bool)
    → i < 8 → link_of (node_in s p) ≡ Some id.number → IsUnderWay s w p b u rest lazy
    → IsPlace w (Slot id i) × (block_in w (Slot id i) ≡ Some (child_of b i))
way_slot s w p b id i u rest lazy few link way =
    let linked : link_of (node_in w p) ≡ Some id.number = ap link_of way.done.node ∙ link in (
      slot_place w way.done.linked p way.done.place id i linked few,
      slot_block w way.done.linked p id i b linked way.done.block,
    )

pub way_place : (t s w : Tree) (p : Place) (b : Cube) (id : GroupId) (i : ℕ) (u rest : ListedUpdate)
    (lazy : Bool)
    → i < 8 → IsEntered t s p b id → IsUnderWay s w p b u rest lazy
    → IsPlace w (Slot id i) × (block_in w (Slot id i) ≡ Some (child_of b i))
way_place t s w p b id i u rest lazy few e way =
    (let (v, link) = e.link in way_slot s w p b id i u rest lazy few (ap link_of link) way)

-- the part of the first child
pub way_part : (s w : Tree) (p : Place) (b : Cube) (i : ℕ) (u rest part later : ListedUpdate)
    (lazy : Bool)
    → b.depth ≤ 15 → AreDisjoint u.hits u.frees → IsUnderWay s w p b u rest lazy
    → IsFirstChild b.depth rest.hits rest.frees i
    → IsParted b.depth i rest.hits part.hits later.hits
    → IsParted b.depth i rest.frees part.frees later.frees → IsUpdateIn (child_of b i) part
way_part s w p b i u rest part later lazy low apart way first hits frees =
    part_update b way.next i u rest part later low way.hits way.frees apart first hits frees

-- there is room for what the part needs
pub way_room_in : (s w : Tree) (p : Place) (b : Cube) (i : ℕ)
    (u rest part later : ListedUpdate) (lazy : Bool)
    → IsBlock b → b.depth ≤ 15 → IsUpdateIn b u → need_in (events_of u) b ≤ spare s.groups + 1
    → IsUnderWay s w p b u rest lazy
    → IsFirstChild b.depth rest.hits rest.frees i
    → IsParted b.depth i rest.hits part.hits later.hits
    → IsParted b.depth i rest.frees part.frees later.frees → part.hit ≡ rest.hit
    → part.miss ≡ rest.miss
    → need_in (events_of part) (child_of b i) ≤ spare w.groups
way_room_in s w p b i u rest part later lazy ok low inside enough way first hits frees hit miss =
    let few : i < 8 = (let l = first.few in omega (arith, l)) in
    let up =
    first_not_done b way.next i u.hits u.frees rest.hits rest.frees way.hits way.frees first in
    let share =
    part_share b way.next i u rest part later low few up way.hits way.frees hits frees
    (hit ∙ way.hit) (miss ∙ way.miss)
    (way_part s w p b i u rest part later lazy low inside.apart way first hits frees) in
    let part_need =
    need_of_share (events_of u) (events_of part) b (child_of b i) i
    (child_in_map b i ok (omega arith)) share in
    let whole = need_of_children (events_of u) b ok low inside.some in
    let here = sum_below_next (needs u b) i in
    let done = sum_below_le (needs u b) way.next i up in
    let all = sum_below_le (needs u b) (i + 1) 8 (omega arith) in
    let before = way.room in
    omega (arith, part_need, whole, here, done, all, before, enough)

pub way_room : (t s w : Tree) (p : Place) (b : Cube) (id : GroupId) (i : ℕ)
    (u rest part later : ListedUpdate) (lazy : Bool)
    → IsBlock b → b.depth ≤ 15 → IsUpdateIn b u → need_in (events_of u) b ≤ spare t.groups
    → IsEntered t s p b id → IsUnderWay s w p b u rest lazy
    → IsFirstChild b.depth rest.hits rest.frees i
    → IsParted b.depth i rest.hits part.hits later.hits
    → IsParted b.depth i rest.frees part.frees later.frees → part.hit ≡ rest.hit
    → part.miss ≡ rest.miss
    → need_in (events_of part) (child_of b i) ≤ spare w.groups
way_room t s w p b id i u rest part later lazy ok low inside enough e =
    let entered = entered_spare t s p b id e in
    way_room_in s w p b i u rest part later lazy ok low inside (omega (arith, entered, enough))

-- one child more is done
pub way_step : (s w x : Tree) (p : Place) (b : Cube) (i : ℕ) (u rest part later : ListedUpdate)
    (lazy : Bool)
    → IsLinked s → IsBlock b → b.depth ≤ 15 → IsUpdateIn b u → IsUnderWay s w p b u rest lazy
    → IsFirstChild b.depth rest.hits rest.frees i
    → IsParted b.depth i rest.hits part.hits later.hits
    → IsParted b.depth i rest.frees part.frees later.frees → part.hit ≡ rest.hit
    → part.miss ≡ rest.miss → later.hit ≡ rest.hit → later.miss ≡ rest.miss
    → IsTouched w x (child_of b i) (events_of part) lazy
    → spare w.groups ≤ spare x.groups + need_in (events_of part) (child_of b i)
    → IsUnderWay s x p b u later lazy
way_step s w x p b i u rest part later lazy l ok low inside way first hits frees hit miss hit' miss'
    touched room =
    let few : i < 8 = (let f = first.few in omega (arith, f)) in
    let up =
    first_not_done b way.next i u.hits u.frees rest.hits rest.frees way.hits way.frees first in
    let share =
    part_share b way.next i u rest part later low few up way.hits way.frees hits frees
    (hit ∙ way.hit) (miss ∙ way.miss)
    (way_part s w p b i u rest part later lazy low inside.apart way first hits frees) in
    let skipped =
    round_skip s w p b way.next i (events_of u) lazy low up (omega arith)
    (λ k _ _ a z. none_between b way.next i u rest way.hits way.frees first.least_hit
    first.least_free k a z)
    way.done in
    let part_need =
    need_of_share (events_of u) (events_of part) b (child_of b i) i
    (child_in_map b i ok (omega arith)) share in
    let here = sum_below_next (needs u b) i in
    let done = sum_below_le (needs u b) way.next i up in
    let before = way.room in
    record {
      next = i + 1;
      few = omega arith;
      hits = left_after b way.next i u.hits rest.hits part.hits later.hits up way.hits hits;
      frees = left_after b way.next i u.frees rest.frees part.frees later.frees up way.frees frees;
      hit = hit' ∙ way.hit;
      miss = miss' ∙ way.miss;
      done =
          round_step s w x p b i (events_of u) (events_of part) lazy l low few skipped touched
          share.same;
      room = omega (arith, part_need, here, done, before, room);
    }

no_more : (b : Cube) (keys : List Voxel) → keys ≡ [] → All (λ k. 8 ≤ child_index_of b.depth k) keys
no_more b keys e =
    subst (All (λ k. 8 ≤ child_index_of b.depth k)) (sym e) (λ n d l. absurd (omega (arith, l)))

-- where nothing is left, all children are done
pub way_done : (s w : Tree) (p : Place) (b : Cube) (u rest : ListedUpdate) (lazy : Bool)
    → b.depth ≤ 15
    → IsUnderWay s w p b u rest lazy → rest.hits ≡ [] → rest.frees ≡ []
    → IsTouchedBelow s w p b 8 (events_of u) lazy
way_done s w p b u rest lazy low way hits frees =
    round_skip s w p b way.next 8 (events_of u) lazy low way.few (omega arith)
    (λ k _ _ a z. none_between b way.next 8 u rest way.hits way.frees (no_more b rest.hits hits)
    (no_more b rest.frees frees) k a z)
    way.done

-- and the place is where it was, and links its group
pub way_back : (t s w : Tree) (p : Place) (b : Cube) (id : GroupId) (u rest : ListedUpdate)
    (lazy : Bool)
    → IsEntered t s p b id → IsUnderWay s w p b u rest lazy
    → IsPlace w p × (block_in w p ≡ Some b) × (link_of (node_in w p) ≡ Some id.number)
way_back t s w p b id u rest lazy e way =
    let (v, link) = e.link in
    (way.done.place, way.done.block, ap link_of (way.done.node ∙ link))

-- once the group is closed, the update is done
pub way_end : (t s w z : Tree) (p : Place) (b : Cube) (id : GroupId) (u rest : ListedUpdate)
    (lazy : Bool)
    → IsLinked t → IsPlace t p → block_in t p ≡ Some b → b.depth ≤ 15 → IsUpdateIn b u
    → TakesSome t.odds u (value_of (node_in t p)) → IsEntered t s p b id
    → IsUnderWay s w p b u rest lazy → rest.hits ≡ [] → rest.frees ≡ [] → IsClosed w z b lazy
    → IsTouched t z b (events_of u) lazy
way_end t s w z p b id u rest lazy l ok at low inside takes e way hits frees d =
    round_end t s w z p b id (events_of u) lazy l low e
    (way_done s w p b u rest lazy low way hits frees) d inside.some
    (λ none. taken_in t p b u l ok at (omega (arith, low)) none inside takes)

pub way_spared : (t s w z : Tree) (p : Place) (b : Cube) (id : GroupId) (u rest : ListedUpdate)
    (lazy : Bool)
    → IsBlock b → b.depth ≤ 15 → IsUpdateIn b u → IsEntered t s p b id
    → IsUnderWay s w p b u rest lazy → IsClosed w z b lazy
    → spare t.groups ≤ spare z.groups + need_in (events_of u) b
way_spared t s w z p b id u rest lazy ok low inside e way d =
    let whole = need_of_children (events_of u) b ok low inside.some in
    let all = sum_below_le (needs u b) way.next 8 way.few in
    let entered = entered_spare t s p b id e in
    let before = way.room in
    let after = d.spare in
    omega (arith, whole, all, entered, before, after)

-- what holds of a place's block
pub at_block : (P : Cube → Type 0) (t : Tree) (p : Place) (b : Cube) → block_in t p ≡ Some b → P b
    → (c : Cube) → block_in t p ≡ Some c → P c
at_block P t p b e h c f = subst P (some_injective (sym e ∙ f)) h

-- a block that events reach needs a group
pub need_some : (t : Tree) (p : Place) (b : Cube) (u : ListedUpdate) → IsLinked t
    → block_in t p ≡ Some b → b.depth ≤ 15 → IsUpdateIn b u
    → need_in (events_of u) b ≤ spare t.groups → 1 ≤ spare t.groups
need_some t p b u l e low inside enough =
    (let whole = need_of_children (events_of u) b (place_in_map t p b l e) low inside.some in
    omega (arith, whole, enough))
