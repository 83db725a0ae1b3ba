-- Edits of single voxels that a map is sure of.
use Rattle.std.proofs.Common.{◌≡◌, ℕ, ◌+◌, ◌≤◌, Bool, Option, Some, None, Ok, Err, inl, inr, sym}
use Rattle.std.proofs.Common.{subst, ap, ◌∙◌, arith, refl}
use Rattle.std.specs.Prelude.{⊤, IsOk, Result}
use Rattle.std.proofs.lemmas.Bool.{false≢true}
use Rattle.oct_key.specs.Voxel.{Voxel}
use Rattle.oct_values.specs.Classes.{Classes}
use Rattle.oct_arena.specs.Entries.{live, spare}
use Rattle.oct_tree.specs.Tree.{Tree}
use Rattle.oct_change.specs.Held.{Held}
use Rattle.oct_num.specs.declared.memory.Memory.{Memory}
use Rattle.oct_map.specs.declared.fault.MapFault.{MapFault}
use Rattle.oct_map.specs.declared.fault.MapFault.TheVariants as fault
use Rattle.oct_map.specs.Answers.{IsAnswerOrMemory, room_answer}
use Rattle.oct_map.specs.Edits.{IsSureOf, LacksEntries, IsReadied}
use Rattle.oct_map.specs.Map.{Map, IsMap, HasRoomFor, values_of}
use Rattle.oct_map.specs.Ground.{Ground}
use Rattle.oct_map.specs.Notes.{HasMarked, HasRoomForNotes}
use Rattle.oct_map.proofs.Rooms.{fits_live, fitted_own}

-- a map that is sure of an edit has room for its groups
pub sure_fits : (m : Map) (count : ℕ) → IsSureOf m (count + 1) → HasRoomFor m 16
sure_fits m count sure = let groups = sure.groups in omega (arith, groups)

-- and entries
pub sure_entries : (m : Map) (count : ℕ) → IsSureOf m (count + 1) → LacksEntries m 16 → ⊥
sure_entries m count sure lacks = lacks (let entries = sure.entries in
    let own = fitted_own m 16 (sure_fits m count sure) in omega (arith, entries, own))

no_fault : (f : MapFault) (answer : Result ⊤ MapFault) → answer ≡ Ok tt
    → IsAnswerOrMemory answer (Err f) → f ≡ fault.Memory
no_fault f answer ok (inl same) = cc
no_fault f answer ok (inr memory) = cc

-- so that the room that it needs is made
pub sure_room : {T : Type 0} (m : Map) (count : ℕ) (r : Result ⊤ MapFault) (f : MapFault)
    → IsMap m → IsSureOf m (count + 1) → r ≡ Err f
    → IsAnswerOrMemory (room_answer m.max_groups (values_of m) 16) r →
    (r ≡ Err fault.Memory → IsOk (room_answer m.max_groups (values_of m) 16) × LacksEntries m 16)
    → T
sure_room m count r f is sure err answer memory =
    let fits : room_answer m.max_groups (values_of m) 16 ≡ Ok tt =
    fits_live m.tree m.max_groups 16 is.formed.linked (sure_fits m count sure) in
    let none : f ≡ fault.Memory = no_fault f (room_answer m.max_groups (values_of m) 16) fits
    (subst (λ x. IsAnswerOrMemory (room_answer m.max_groups (values_of m) 16) x) err answer) in
    absurd (sure_entries m count sure (memory (err ∙ (rw none refl))).1)

-- there is room for one note where there is room for more
fewer : (count : ℕ) (mark : Option Held) → HasRoomForNotes mark (count + 1)
    → HasRoomForNotes mark 1
fewer count None room = tt
fewer count (Some held) room = omega (arith, room)

-- and so is that for its note
pub sure_note : {T : Type 0} {e : Memory} (m : Map) (count : ℕ) (mark : Option Held)
    (r : Result ⊤ Memory) → IsSureOf m (count + 1) → mark ≡ m.mark → r ≡ Err e
    → (HasRoomForNotes mark 1 → IsOk r) → T
sure_note m count mark r sure same err enough =
    absurd (false≢true (subst IsOk err (enough (subst (λ x. HasRoomForNotes x 1) (sym same)
    (fewer count m.mark sure.notes)))))

-- after the note there is room for the others
sure_notes : (now : Classes) (asked : Voxel → Type 0) (count : ℕ) (a b : Option Held)
    → HasRoomForNotes a (count + 1) → HasMarked now asked 1 a b → HasRoomForNotes b count
sure_notes now asked count None b room marked =
    subst (λ x. HasRoomForNotes x count) (sym marked) tt
sure_notes now asked count (Some old) b room (held, is, noted, spare, same) =
    subst (λ x. HasRoomForNotes x count) (sym is) (omega (arith, room, spare))

-- and after the edit there is room for their groups
pub sure_edit : {T : Type 0} (m u : Map) (t : Tree) (stale : Bool) (between mark : Option Held)
    (now : Classes) (asked : Voxel → Type 0) (count : ℕ) → IsReadied m u 16
    → (HasRoomForNotes u.mark 1 → T × (between ≡ u.mark))
    → HasMarked now asked 1 between mark → live t.groups ≤ live u.tree.groups + 16
    → live t.groups + spare t.groups ≡ live u.tree.groups + spare u.tree.groups
    → IsSureOf m (count + 1)
    → IsSureOf (record u { tree = t; is_stale = stale; mark = mark }) count
sure_edit m u t stale between mark now asked count ready enough marked few all sure =
    let entries = sure.entries in
    let groups = sure.groups in
    let own = fitted_own m 16 (sure_fits m count sure) in
    let kept : live u.tree.groups + spare u.tree.groups ≡ live m.tree.groups + spare m.tree.groups =
    ready.reserved.enough (omega (arith, entries, own)) in
    let most : u.max_groups ≡ m.max_groups = ap (λ (g : Ground). g.max_groups) ready.setup in
    let fewest = ready.live in
    let room : HasRoomForNotes u.mark (count + 1) =
    subst (λ x. HasRoomForNotes x (count + 1)) (sym ready.notes) sure.notes in
    record {
      entries = omega (arith, entries, kept, few, all, fewest);
      groups = omega (arith, groups, few, fewest, most);
      notes = sure_notes now asked count between mark
          (subst (λ x. HasRoomForNotes x (count + 1)) (sym (enough (fewer count u.mark room)).1)
          room) marked;
    }
