-- What has a reply, and that no reply is empty.
use Rattle.std.proofs.Common.{Bool, ◌≢◌, ℕ, ℤ, ◌<◌, List, ◌++◌, length, true, false, cond, is_none}
use Rattle.std.proofs.Common.{Option, Some, None, IsSome, Result, Ok, Err, refl, arith}
use Rattle.std.proofs.Common.{length-append, ◌&&◌, nat_lt}
use Rattle.std.specs.Prelude.{⊤, codes, decimal}
use Rattle.oct_key.specs.declared.point.Point.{Point}
use Rattle.oct_key.specs.Values.{Values}
use Rattle.oct_key.specs.Voxel.{Voxel, key_at}
use Rattle.oct_cast.specs.declared.outcome.Cast.{Cast}
use Rattle.oct_cast.specs.declared.outcome.Cast.TheVariants as cast
use Rattle.std.specs.Option.{option_or}
use Rattle.oct_map.specs.Answers.{edit_answer, edit_answer_at, edit_need, is_full, room_answer}
use Rattle.oct_map.specs.Answers.{scan_answer_by, box_answer, box_answer_by, box_fault, wide_fault}
use Rattle.oct_map.specs.Answers.{most_noted, limit_answer, corner_fault}
use Rattle.oct_map.specs.Ground.{Ground}
use Rattle.oct_map.specs.Outcome.{need_of, done_of, corner_need}
use Rattle.oct_map.specs.declared.fault.MapFault.{MapFault}
use Rattle.oct_map.specs.declared.fault.MapFault.TheVariants as map_fault
use Rattle.oct_map.specs.declared.done.ScanDone.{ScanDone}
use Rattle.oct_scan.specs.Answer.{first_outside}
use Rattle.oct_scan.specs.Beam.{Sighting, origin_of}
use Rattle.oct_scan.specs.Outcome.{scan_fault, point_fault, cells_fault, first_excess}
use Rattle.oct_scan.specs.declared.fault.ScanFault.{ScanFault}
use Rattle.oct_scan.specs.declared.fault.ScanFault.TheVariants as scan_fault_of
use Rattle.oct_script.specs.declared.reply.Refusal.TheVariants as refusal
use Rattle.oct_key.specs.Boxes.{is_box, box_volume}
use Rattle.oct_values.specs.Counts.{group_count}
use Rattle.oct_script.specs.declared.reply.Reply.{Reply}
use Rattle.oct_script.specs.declared.reply.Reply.TheVariants as reply_of
use Rattle.oct_script.specs.Replies.{text_of, reply_text, class_name, scan_text, counts_text}
use Rattle.oct_script.specs.Replies.{voxel_text, cast_text, refusal_text, block_text, change_text}
use Rattle.oct_script.specs.Replies.{end_text}
use Rattle.std.specs.List.{flat_map}
use Rattle.oct_session.specs.Commands.{edit_reply, list_reply, changes_reply}
use Rattle.oct_session.specs.History.{State}
use Rattle.oct_session.specs.ScanBlock.{is_zero, scan_reply, block_reply}
use Rattle.oct_session.specs.ScanSoFar.{ScanSoFar, sighting_so_far}
use Rattle.oct_session.specs.declared.scan_block.ScanBlock.TheVariants.{Scanning}
use Rattle.std.specs.Fmt.{signed_decimal}
use Rattle.oct_values.specs.Classes.{Classes}
use Rattle.oct_map.specs.Lists.{list_most, list_answer, list_answer_at}
use Rattle.oct_map.specs.Marks.{changes_answer}
use Rattle.oct_query.specs.Shown.{Shown}
use Rattle.oct_query.specs.Listed.{met_blocks, listed_blocks}

-- a text with a beginning
begins : (front back : List ℕ) → 0 < length front → 0 < length (front ++ back)
begins front back some = omega (arith, length-append front back, some)

cast_some : (found : Cast) → 0 < length (cast_text found)
cast_some (cast.Hit k) = begins (codes "cast hit ") (voxel_text k) (omega arith)
cast_some (cast.Unknown k) = begins (codes "cast unknown ") (voxel_text k) (omega arith)
cast_some cast.Clear = omega arith

-- lines with a line after them
ends_so : (lines : List ℕ) (count : ℕ) → 0 < length (lines ++ end_text count)
ends_so lines count =
    omega (
      arith,
      length-append lines (end_text count),
      begins (codes "end " ++ decimal count) (codes "\n")
          (begins (codes "end ") (decimal count) (omega arith)),
    )

reply_some : (r : Reply) → 0 < length (reply_text r)
reply_some reply_of.Ok = omega arith
reply_some (reply_of.Known value class) =
    begins (codes "known ") (signed_decimal value ++ codes " " ++ class_name class ++ codes "\n")
    (omega arith)
reply_some reply_of.Unknown = omega arith
reply_some (reply_of.Scanned done) = begins (scan_text done) (codes "\n")
    (begins (codes "ok hits " ++ decimal done.hits) (codes " frees " ++ decimal done.frees)
    (begins (codes "ok hits ") (decimal done.hits) (omega arith)))
reply_some (reply_of.Counted counts) = begins (counts_text counts) (codes "\n")
    (begins (codes "groups " ++ decimal counts.groups) (codes " nodes " ++ decimal counts.nodes)
    (begins (codes "groups ") (decimal counts.groups) (omega arith)))
reply_some (reply_of.Blocks blocks threshold) =
    ends_so (flat_map (block_text threshold) blocks) (length blocks)
reply_some (reply_of.Changed changes) = ends_so (flat_map change_text changes) (length changes)
reply_some (reply_of.Casted found) = begins (cast_text found) (codes "\n") (cast_some found)
reply_some (reply_of.Saved bytes) =
    begins (codes "saved ") (decimal bytes ++ codes "\n") (omega arith)
reply_some (reply_of.Loaded nodes) =
    begins (codes "loaded ") (decimal nodes ++ codes "\n") (omega arith)
reply_some (reply_of.Restored groups) =
    begins (codes "restored groups ") (decimal groups ++ codes "\n") (omega arith)
reply_some (reply_of.Refused r) =
    begins (codes "refused ") (refusal_text r ++ codes "\n") (omega arith)

-- a reply has a text
pub text_some : (r : Option Reply) → IsSome r → 0 < length (text_of r)
text_some None some = cc
text_some (Some r) some = reply_some r

room_some : (most : ℕ) (values : Values) (need : ℕ)
    → IsSome (edit_reply (room_answer most values need))
room_some most values need =
    elim (is_full most values need) as
    (λ b. IsSome (edit_reply
    (cond {A = Result ⊤ MapFault} b (Err (map_fault.Full (group_count values) need)) (Ok tt))))
    [ true ↦ refl | false ↦ refl ]

edit_some_at : (most : ℕ) (values : Values) (key : Option Voxel)
    → IsSome (edit_reply (edit_answer_at most values key))
edit_some_at most values None = refl
edit_some_at most values (Some k) = room_some most values edit_need

-- an edit has a reply
pub edit_some : (g : Ground) (values : Values) (p : Point)
    → IsSome (edit_reply (edit_answer g values p))
edit_some g values p = edit_some_at g.max_groups values (key_at g.res p)

wide_some : (t : Bool) (count : ℕ) (room : Result ⊤ MapFault) → IsSome (edit_reply room)
    → IsSome (edit_reply (box_answer_by
    (cond {A = Option MapFault} t (Some (map_fault.WideWhileTracked count)) None) room))
wide_some true count room some = refl
wide_some false count room some = some

corners_some : (marked : Bool) (a b : Option Voxel) (room : Result ⊤ MapFault)
    → IsSome (edit_reply room) → IsSome (edit_reply (box_answer_by (box_fault marked a b) room))
corners_some marked None b room some = refl
corners_some marked (Some lo) None room some = refl
corners_some marked (Some lo) (Some hi) room some =
    elim (is_box lo hi) as
    (λ t. IsSome (edit_reply
    (box_answer_by (option_or (cond {A = Option MapFault} t None (Some map_fault.BadBox))
    (wide_fault marked (Some lo) (Some hi))) room))) [
      | true ↦ wide_some (marked && nat_lt most_noted (box_volume lo hi)) (box_volume lo hi)
          room some
      | false ↦ refl
    ]

-- an edit of a box has a reply
pub box_some : (g : Ground) (marked : Bool) (values : Values) (lo hi : Point)
    → IsSome (edit_reply (box_answer g marked values lo hi))
box_some g marked values lo hi =
    corners_some marked (key_at g.res lo) (key_at g.res hi) _
    (room_some g.max_groups values (corner_need (key_at g.res lo) (key_at g.res hi)))

limit_some_at : (a b : Option Voxel)
    → IsSome (edit_reply (box_answer_by (corner_fault a b) (Ok tt)))
limit_some_at None b = refl
limit_some_at (Some lo) None = refl
limit_some_at (Some lo) (Some hi) =
    elim (is_box lo hi) as
    (λ t. IsSome (edit_reply
    (box_answer_by (cond {A = Option MapFault} t None (Some map_fault.BadBox)) (Ok tt))))
    [ true ↦ refl | false ↦ refl ]

-- a limit has a reply
pub limit_some : (g : Ground) (lo hi : Point) → IsSome (edit_reply (limit_answer g lo hi))
limit_some g lo hi = limit_some_at (key_at g.res lo) (key_at g.res hi)

list_some_by : (threshold : ℤ) (deep box stale many : Bool) (count : ℕ) (blocks : List Shown) →
    IsSome (list_reply threshold
    (cond {A = Result (List Shown) MapFault} deep (Err map_fault.BadDepth)
    (cond box (cond stale (Err map_fault.Stale)
    (cond many (Err (map_fault.TooManyBlocks count)) (Ok blocks))) (Err map_fault.BadBox))))
list_some_by threshold true box stale many count blocks = refl
list_some_by threshold false false stale many count blocks = refl
list_some_by threshold false true true many count blocks = refl
list_some_by threshold false true false true count blocks = refl
list_some_by threshold false true false false count blocks = refl

list_some_at : (threshold : ℤ) (stale : Bool) (values : Values) (depth : ℕ) (a b : Option Voxel)
    → IsSome (list_reply threshold (list_answer_at stale values depth a b))
list_some_at threshold stale values depth None b = refl
list_some_at threshold stale values depth (Some lo) None = refl
list_some_at threshold stale values depth (Some lo) (Some hi) =
    list_some_by threshold (nat_lt 16 depth) (is_box lo hi) (stale && nat_lt depth 16)
    (nat_lt list_most (length (met_blocks lo hi depth))) (length (met_blocks lo hi depth))
    (listed_blocks values lo hi depth)

-- a list has a reply
pub list_some : (threshold : ℤ) (g : Ground) (stale : Bool) (values : Values) (lo hi : Point)
    (depth : ℕ) → IsSome (list_reply threshold (list_answer g stale values lo hi depth))
list_some threshold g stale values lo hi depth =
    list_some_at threshold stale values depth (key_at g.res lo) (key_at g.res hi)

-- so has what has changed
pub changes_some : (marked : Option Classes) (now : Classes)
    → IsSome (changes_reply (changes_answer marked now))
changes_some None now = refl
changes_some (Some before) now = refl

point_known : (edge : ℕ) (s : Sighting) (outside excess : Option ℕ)
    → point_fault outside (cells_fault edge s excess) ≢ Some scan_fault_of.Memory
point_known edge s None None = λ is. cc
point_known edge s None (Some index) = λ is. cc
point_known edge s (Some index) excess = λ is. cc

-- why a scan is refused is not that memory ran out
pub fault_known : (edge : ℕ) (s : Sighting) (most : ℕ)
    → scan_fault edge s most ≢ Some scan_fault_of.Memory
unfolding scan_fault
fault_known edge s most =
    elim (is_none (key_at edge (origin_of s)))
    as (λ b. cond b (Some scan_fault_of.OriginOutside)
    (point_fault (first_outside edge s) (cells_fault edge s (first_excess edge s most))) ≢ Some
    scan_fault_of.Memory) [
      | true ↦ (λ is. cc)
      | false ↦ point_known edge s (first_outside edge s) (first_excess edge s most)
    ]

scan_some_by : (fault : Option ScanFault) (most : ℕ) (values : Values) (need : ℕ) (done : ScanDone)
    → fault ≢ Some scan_fault_of.Memory
    → IsSome (scan_reply (scan_answer_by fault (room_answer most values need) done))
scan_some_by None most values need done known =
    elim (is_full most values need)
    as (λ b. IsSome (scan_reply
    (scan_answer_by None (cond {A = Result ⊤ MapFault} b
    (Err (map_fault.Full (group_count values) need)) (Ok tt)) done))) [ true ↦ refl | false ↦ refl ]
scan_some_by (Some scan_fault_of.OriginOutside) most values need done known = refl
scan_some_by (Some (scan_fault_of.PointOutside index)) most values need done known = refl
scan_some_by (Some (scan_fault_of.TooManyCells index cells)) most values need done known = refl
scan_some_by (Some scan_fault_of.Memory) most values need done known = absurd (known refl)

-- a block that is closed has a reply
pub block_some : (s : State) (scan : ScanSoFar) → IsSome (block_reply s (Scanning scan))
block_some s scan =
    let g : Ground = s.base in
    let seen : Sighting = sighting_so_far scan in
    elim (is_zero scan.head)
    as (λ b. IsSome (cond b (Some (reply_of.Refused refusal.ZeroQuaternion))
    (scan_reply (scan_answer_by (scan_fault g.res seen g.max_cells)
    (room_answer g.max_groups s.values (need_of g seen)) (done_of g seen))))) [
      | true ↦ refl
      | false ↦ scan_some_by (scan_fault g.res seen g.max_cells) g.max_groups s.values
          (need_of g seen) (done_of g seen) (fault_known g.res seen g.max_cells)
    ]
