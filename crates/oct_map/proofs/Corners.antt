-- What an edit of a box answers, and its events, where its corners are voxels.
use Rattle.std.proofs.Common.{◌≡◌, ℕ, Bool, true, false, Option, Some, None, refl, sym, ◌∙◌}
use Rattle.std.specs.Prelude.{Result, IsOk, ⊤, nat_lt, ◌||◌, ◌&&◌}
use Rattle.oct_key.specs.Voxel.{Voxel}
use Rattle.oct_key.specs.Values.{Values}
use Rattle.oct_odds.specs.declared.event.Event.{Event}
use Rattle.oct_key.specs.Boxes.{is_box, box_volume}
use Rattle.oct_values.specs.Boxes.{box_events, box_need}
use Rattle.oct_map.specs.declared.fault.MapFault.{MapFault}
use Rattle.oct_map.specs.Answers.{room_answer, box_fault, most_noted, box_answer_by}
use Rattle.oct_map.specs.Answers.{IsAnswerOrMemory}
use Rattle.oct_map.specs.Outcome.{corner_events, corner_need, corner_volume}
use Rattle.oct_map.proofs.Edits.{SameEvents}

-- corners of a box have no fault, and need what the box does
pub corners_right : (has_mark : Bool) (a b : Option Voxel) (lo hi : Voxel) → a ≡ Some lo
    → b ≡ Some hi → is_box lo hi ≡ true
    → (has_mark && nat_lt most_noted (box_volume lo hi)) ≡ false → box_fault has_mark a b ≡ None
corners_right has_mark a b lo hi ea eb order narrow = rw (ea, eb) (rw (order, narrow) refl)

pub corners_need : (a b : Option Voxel) (lo hi : Voxel) → a ≡ Some lo → b ≡ Some hi
    → corner_need a b ≡ box_need lo hi
corners_need a b lo hi ea eb = rw (ea, eb) refl

pub corners_events : (a b : Option Voxel) (lo hi : Voxel) (event : Event) → a ≡ Some lo
    → b ≡ Some hi
    → SameEvents (box_events lo hi event) (corner_events a b event)
corners_events a b lo hi event ea eb k v = rw (ea, eb) refl

-- then the answer is that of the room
pub corners_volume : (a b : Option Voxel) (lo hi : Voxel) → a ≡ Some lo → b ≡ Some hi
    → corner_volume a b ≡ box_volume lo hi
corners_volume a b lo hi ea eb = rw (ea, eb) refl

pub corners_answer : (has_mark : Bool) (most need : ℕ) (values : Values) (a b : Option Voxel)
    (lo hi : Voxel) (result : Result ⊤ MapFault)
    → a ≡ Some lo → b ≡ Some hi → is_box lo hi ≡ true
    → (has_mark && nat_lt most_noted (box_volume lo hi)) ≡ false → need ≡ box_need lo hi
    → IsAnswerOrMemory (room_answer most values need) result
    → IsAnswerOrMemory (box_answer_by (box_fault has_mark a b)
    (room_answer most values (corner_need a b))) result
corners_answer has_mark most need values a b lo hi result ea eb order narrow counted answer =
    rw (
      corners_right has_mark a b lo hi ea eb order narrow,
      corners_need a b lo hi ea eb
          ∙ sym counted,
    ) answer

-- and where there is room it is no fault
pub corners_ok : (has_mark : Bool) (most need : ℕ) (values : Values) (a b : Option Voxel)
    (lo hi : Voxel)
    → a ≡ Some lo → b ≡ Some hi → is_box lo hi ≡ true
    → (has_mark && nat_lt most_noted (box_volume lo hi)) ≡ false → need ≡ box_need lo hi
    → IsOk (room_answer most values need)
    → IsOk (box_answer_by (box_fault has_mark a b) (room_answer most values (corner_need a b)))
corners_ok has_mark most need values a b lo hi ea eb order narrow counted room =
    rw (
      corners_right has_mark a b lo hi ea eb order narrow,
      corners_need a b lo hi ea eb
          ∙ sym counted,
    ) room

-- what isn't lazy leaves the stale flag as it was
pub still_stale : (P : Bool → Type 0) (stale : Bool) → P (stale || false) → P stale
still_stale P true h = h
still_stale P false h = h
