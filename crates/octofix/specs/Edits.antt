-- What edits do.
use Rattle.std.specs.Prelude.{◌≡◌, ◌==◌, ℕ, ◌+◌, ◌⊎◌, ◌&&◌, ℤ, pos, neg_ℤ, int_le, Bool}
use Rattle.std.specs.Prelude.{if◌then◌else◌}
use Rattle.std.specs.Prelude.{false, is_some, IsSome, List, [], ◌∷◌, ⊤, Some, None}
use Rattle.std.specs.Prelude.{Result, Ok, Err, IsOk, OnOk, IfErr, IfSome}
use Rattle.oct_edit.specs.Edits.{IsTidyAlong}
use Rattle.oct_edit.specs.Saturated.{IsSaturated}
use Rattle.oct_key.specs.Voxel.{Voxel, IsInMap, key_at}
use Rattle.oct_key.specs.Boxes.{IsBox}
use Rattle.oct_key.specs.declared.point.Point.{Point}
use Rattle.oct_map.specs.Answers.{box_answer, box_fault, corner_fault, edit_answer, edit_need}
use Rattle.oct_map.specs.Answers.{IsAnswerOrMemory}
use Rattle.oct_map.specs.Edits.{IsMapEdited, IsMapRefused, IsRoomy, LacksEntries, ReservesFew}
use Rattle.oct_map.specs.Keeps.{IsKept}
use Rattle.oct_map.specs.Map.{Map, IsMap, ground_of, values_of}
use Rattle.oct_map.specs.Marks.{KeepsMark}
use Rattle.oct_map.specs.Notes.{LacksNotes, NotesFew}
use Rattle.oct_map.specs.Outcome.{corner_events, corner_need, corner_volume}
use Rattle.oct_map.specs.declared.fault.MapFault.{MapFault}
use Rattle.oct_map.specs.declared.fault.MapFault.TheVariants as fault
use Rattle.oct_odds.specs.declared.event.Event.{Event}
use Rattle.oct_odds.specs.declared.event.Event.TheVariants.{Add, Set, Forget, Likely}
use Rattle.oct_values.specs.Events.{event_at}
use Rattle.octofix.specs.Changed.{IsAsked}
use Rattle.octofix.specs.Codes.{of_map, refusal_at}
use Rattle.octofix.specs.Points.{point_of}
use Rattle.octofix.specs.declared.refusal.Refusal.{Refusal}
use Rattle.octofix.specs.declared.refusal.Refusal.TheVariants as refusal
use Rattle.octofix.specs.declared.types.PointEdit.{PointEdit}

-- a number that may stand in an event
abbrev pub is_small : ℤ → Bool
is_small n = int_le (neg_ℤ (pos 1000000)) n && int_le n (pos 1000000)

-- an event with a number, where that may stand in one
abbrev pub numbered : (ℤ → Event) → ℤ → Result Event Refusal
numbered event n = if is_small n then Ok (event n) else Err (refusal.BadArgument 0)

-- the event of this number; only the first two have a number of their own
abbrev pub event_of : ℕ → ℤ → Result Event Refusal
event_of event n =
    if event == 0 then numbered Add n else if event == 1 then numbered Set n
    else if event == 2 then Ok Forget else if event == 3 then Ok Likely
    else Err (refusal.BadArgument 0)

-- what an event for the voxel that holds a point makes of a map: all that the map says of it
pub record IsVoxelEdit (p : Point) (lazy : Bool) (e : Event) (m n : Map) (done : Result ⊤ MapFault)
    : Type 0 where
  pub answer : IsAnswerOrMemory (edit_answer (ground_of m) (values_of m) p) done
  pub memory : done ≡ Err fault.Memory → IsOk (edit_answer (ground_of m) (values_of m) p)
      × (LacksEntries m edit_need ⊎ LacksNotes m.mark 1)
  pub edited : OnOk done
      (IsMapEdited m n (event_at (key_at m.tree.res p) e) edit_need lazy)
  pub refused : IfErr done (λ fault. IsMapRefused m n fault edit_need)
  pub reserved : ReservesFew m n edit_need
  pub outside : key_at m.tree.res p ≡ None → n ≡ m
  pub saturated : (k : Voxel) → key_at m.tree.res p ≡ Some k
      → IsSaturated m.tree.odds e (values_of m k) → OnOk done (IsRoomy m edit_need n.tree)
  pub mark : KeepsMark m n
  pub noted : NotesFew m.mark n.mark (event_at (key_at m.tree.res p) e) 1
  pub ground : ground_of n ≡ ground_of m
  pub map : IsMap n

-- the same of an edit as C passes it
abbrev pub IsPointEdit : PointEdit → Bool → Map → Map → Result ⊤ Refusal → Type 0
IsPointEdit edit lazy =
    IsAsked (event_of edit.event edit.number) (IsVoxelEdit (point_of edit.point) lazy)

-- what an event for each voxel of the box of two points makes of a map
pub record IsBoxEdit (lo hi : Point) (e : Event) (m n : Map) (done : Result ⊤ MapFault)
    : Type 0 where
  pub answer : IsAnswerOrMemory
      (box_answer (ground_of m) (is_some m.mark) (values_of m) lo hi) done
  pub memory : done ≡ Err fault.Memory
      → IsOk (box_answer (ground_of m) (is_some m.mark) (values_of m) lo hi)
      × (LacksEntries m (corner_need (key_at m.tree.res lo) (key_at m.tree.res hi))
      ⊎ LacksNotes m.mark (corner_volume (key_at m.tree.res lo) (key_at m.tree.res hi)))
  pub edited : OnOk done (IsMapEdited m n
      (corner_events (key_at m.tree.res lo) (key_at m.tree.res hi) e)
      (corner_need (key_at m.tree.res lo) (key_at m.tree.res hi)) false)
  pub refused : IfErr done (λ fault. IsMapRefused m n fault
      (corner_need (key_at m.tree.res lo) (key_at m.tree.res hi)))
  pub reserved : ReservesFew m n (corner_need (key_at m.tree.res lo) (key_at m.tree.res hi))
  pub faulty : IsSome (box_fault (is_some m.mark) (key_at m.tree.res lo) (key_at m.tree.res hi))
      → n ≡ m
  pub mark : KeepsMark m n
  pub noted : NotesFew m.mark n.mark
      (corner_events (key_at m.tree.res lo) (key_at m.tree.res hi) e)
      (corner_volume (key_at m.tree.res lo) (key_at m.tree.res hi))
  pub path : (k : Voxel) → IsInMap k
      → IsSome (corner_events (key_at m.tree.res lo) (key_at m.tree.res hi) e k)
      → OnOk done (IsTidyAlong n.tree k)
  pub ground : ground_of n ≡ ground_of m
  pub map : IsMap n

-- what keeping the box of two points alone makes of a map: where they are the corners of none, it
-- stays as it is
pub record IsBoxKept (lo hi : Point) (m n : Map) (done : Result ⊤ MapFault) : Type 0 where
  pub fault : IfSome (corner_fault (key_at m.tree.res lo) (key_at m.tree.res hi))
      (λ fault. (done ≡ Err fault) × (n ≡ m))
  pub kept : (low high : Voxel) → key_at m.tree.res lo ≡ Some low
      → key_at m.tree.res hi ≡ Some high → IsBox low high → IsKept m n low high done
  pub map : IsMap n

-- the same as C passes it
abbrev pub IsKeepAsked : Point → Point → Map → Map → Result ⊤ Refusal → Type 0
IsKeepAsked lo hi m n answer =
    (done : Result ⊤ MapFault) × IsBoxKept lo hi m n done × (answer ≡ of_map done)

-- Edits from the i-th on, one after another: each makes of the map what it does alone, up to the
-- first that is refused, if any, before which this many were done.
abbrev pub AreEdits : List PointEdit → ℕ → Bool → Map → Map → ℕ → Result ⊤ Refusal → Type 0
AreEdits [] i lazy m n done answer = (n ≡ m) × (done ≡ i) × (answer ≡ Ok tt)
AreEdits (edit ∷ edits) i lazy m n done answer =
    ((u : Map) × IsPointEdit edit lazy m u (Ok tt) × AreEdits edits (i + 1) lazy u n done answer)
    ⊎ ((refused : Refusal) × IsPointEdit edit lazy m n (Err refused)
    × (done ≡ i) × (answer ≡ Err (refusal_at i refused)))
