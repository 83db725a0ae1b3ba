-- What a map answers is what is answered in the state for which it stands.
use Rattle.std.proofs.Common.{◌≡◌, ℕ, ◌+◌, ◌&&◌, Bool, true, cond, nat_lt, Option, Some, None}
use Rattle.std.proofs.Common.{is_some, Result, Ok, Err, inl, inr, refl, sym, ap, ◌∙◌}
use Rattle.std.proofs.lemmas.Bool.{cases_lt, lt-ltb}
use Rattle.std.specs.Prelude.{⊤}
use Rattle.oct_key.specs.Block.{block_of}
use Rattle.oct_key.specs.Voxel.{Voxel, IsInMap, key_at}
use Rattle.oct_key.specs.Values.{Values, SameValues}
use Rattle.oct_key.specs.declared.point.Point.{Point}
use Rattle.oct_key.proofs.Blocks.{block_of_in_map}
use Rattle.oct_key.proofs.Faces.{IsInMap-key_at}
use Rattle.oct_odds.specs.Update.{Value, class_of}
use Rattle.oct_cast.specs.declared.outcome.Cast.{Cast}
use Rattle.oct_cast.specs.Cast.{cast_along}
use Rattle.oct_map.specs.Casts.{cast_answer, cast_answer_at}
use Rattle.oct_change.specs.Held.{Held}
use Rattle.oct_map.specs.Marks.{SameMark, classes_in, marked_of, changes_answer}
use Rattle.oct_map.specs.Notes.{marked_by_notes}
use Rattle.oct_map.specs.Answers.{edit_answer, edit_answer_at, edit_need, room_answer, scan_answer}
use Rattle.oct_map.specs.Answers.{scan_answer_by, get_answer, get_answer_at, block_answer}
use Rattle.oct_map.specs.Answers.{box_answer, box_answer_by, box_fault}
use Rattle.oct_map.specs.Outcome.{need_of, done_of, corner_need}
use Rattle.oct_scan.specs.Beam.{Sighting}
use Rattle.oct_scan.specs.Outcome.{scan_fault}
use Rattle.oct_map.specs.Map.{Map, ground_of, values_of}
use Rattle.oct_map.specs.declared.fault.MapFault.{MapFault}
use Rattle.oct_map.specs.declared.fault.MapFault.TheVariants.{BadDepth, Stale, Full}
use Rattle.oct_values.proofs.Uniform.{same_group_count}
use Rattle.oct_values.proofs.Largest.{same_depth_value}
use Rattle.oct_values.specs.Classes.{Classes, classes_of}
use Rattle.oct_session.specs.History.{State}
use Rattle.oct_session.specs.Leaving.{StandsFor}
use Rattle.oct_session.proofs.Casting.{same_along}
use Rattle.oct_session.proofs.Listings.{same_list_at, same_changes}
use Rattle.oct_session.proofs.MapHistory.{same_classes}
use Rattle.oct_map.specs.Lists.{list_answer}

-- the room beside two maps' values that are one
same_room : (most need : ℕ) (v w : Values) → SameValues v w
    → room_answer most v need ≡ room_answer most w need
same_room most need v w same =
    ap (λ n. cond {A = Result ⊤ MapFault} (nat_lt most (n + need)) (Err (Full n need)) (Ok tt))
    (same_group_count v w same)

same_edit_at : (most : ℕ) (v w : Values) (key : Option Voxel) → SameValues v w
    → edit_answer_at most v key ≡ edit_answer_at most w key
same_edit_at most v w None same = refl
same_edit_at most v w (Some k) same = same_room most edit_need v w same

-- a map's answer to an edit
pub same_edit : (m : Map) (s : State) (p : Point) → StandsFor m s
    → edit_answer (ground_of m) (values_of m) p ≡ edit_answer s.base s.values p
same_edit m s p at =
    ap (λ g. edit_answer g (values_of m) p) at.base
    ∙ sym (same_edit_at s.base.max_groups s.values (values_of m) (key_at s.base.res p) at.values)

-- a mark stands in the map exactly where one stands in the state
same_standing : (a : Option Classes) (b : Option Held) (now : Classes)
    → SameMark a (marked_by_notes b now) → is_some b ≡ is_some a
same_standing None None now same = refl
same_standing None (Some held) now same = absurd same
same_standing (Some c) None now same = absurd same
same_standing (Some c) (Some held) now same = refl

-- a map's answer to an edit of a box
pub same_box : (m : Map) (s : State) (lo hi : Point) → StandsFor m s
    → box_answer (ground_of m) (is_some m.mark) (values_of m) lo hi
    ≡ box_answer s.base (is_some s.marked) s.values lo hi
same_box m s lo hi at =
    ap (λ g. box_answer g (is_some m.mark) (values_of m) lo hi) at.base
    ∙ ap (λ t. box_answer s.base t (values_of m) lo hi)
    (same_standing s.marked m.mark (classes_in m) at.marked)
    ∙ ap (box_answer_by (box_fault (is_some s.marked) (key_at s.base.res lo)
    (key_at s.base.res hi)))
    (sym (same_room s.base.max_groups (corner_need (key_at s.base.res lo) (key_at s.base.res hi))
    s.values (values_of m) at.values))

-- a block's answer, for two maps' values that are one
same_block_answer : (stale : Bool) (v w : Values) (depth : ℕ) (k : Voxel) → IsInMap k
    → SameValues v w → block_answer stale v depth k ≡ block_answer stale w depth k
same_block_answer stale v w depth k low same = elim (cases_lt 16 depth) [
  | inl deep ↦ (let deep_too : nat_lt 16 depth ≡ true = lt-ltb 16 depth deep in rw deep_too refl)
  | inr shallow ↦ ap (λ value. cond {A = Result Value MapFault} (nat_lt 16 depth) (Err BadDepth)
      (cond (stale && nat_lt depth 16) (Err Stale) (Ok value)))
      (same_depth_value v w (block_of depth k) (block_of_in_map depth k shallow low) same)
]

same_get_at : (stale : Bool) (v w : Values) (depth : ℕ) (key : Option Voxel)
    → ((k : Voxel) → key ≡ Some k → IsInMap k) → SameValues v w
    → get_answer_at stale v depth key ≡ get_answer_at stale w depth key
same_get_at stale v w depth None low same = refl
same_get_at stale v w depth (Some k) low same =
    same_block_answer stale v w depth k (low k refl) same

-- a map's answer to a query
pub same_get : (m : Map) (s : State) (p : Point) (depth : ℕ) → StandsFor m s
    → get_answer (ground_of m) m.is_stale (values_of m) p depth
    ≡ get_answer s.base s.is_stale s.values p depth
same_get m s p depth at =
    ap (λ g. get_answer g m.is_stale (values_of m) p depth) at.base
    ∙ ap (λ b. get_answer s.base b (values_of m) p depth) at.is_stale
    ∙ sym (same_get_at s.is_stale s.values (values_of m) depth (key_at s.base.res p)
    (IsInMap-key_at s.base.res p) at.values)

same_cast_at : (edge : ℕ) (o e : Point) (ignore : Bool) (c d : Classes) (key_o key_e : Option Voxel)
    → key_at edge o ≡ key_o → key_at edge e ≡ key_e → ((k : Voxel) → IsInMap k → c k ≡ d k) →
    cast_answer_at key_o key_e (cast_along edge o e ignore c)
    ≡ cast_answer_at key_o key_e (cast_along edge o e ignore d)
same_cast_at edge o e ignore c d None key_e is_o is_e same = refl
same_cast_at edge o e ignore c d (Some k) None is_o is_e same = refl
same_cast_at edge o e ignore c d (Some k) (Some l) is_o is_e same =
    ap (λ (found : Cast). let r : Result Cast MapFault = Ok found in r)
    (same_along edge o e ignore c d (ap is_some is_o) (ap is_some is_e) same)

-- a map's answer to a cast
pub same_cast : (m : Map) (s : State) (o e : Point) (ignore : Bool) → StandsFor m s
    → cast_answer (ground_of m) (values_of m) o e ignore ≡ cast_answer s.base s.values o e ignore
same_cast m s o e ignore at =
    ap (λ g. cast_answer g (values_of m) o e ignore) at.base
    ∙ sym (same_cast_at s.base.res o e ignore (classes_of s.base.odds s.values)
    (classes_of s.base.odds (values_of m)) (key_at s.base.res o) (key_at s.base.res e) refl refl
    (λ k low. ap (class_of s.base.odds) (at.values k low)))

-- a map's answer to a list
pub same_list : (m : Map) (s : State) (lo hi : Point) (depth : ℕ) → StandsFor m s
    → list_answer (ground_of m) m.is_stale (values_of m) lo hi depth
    ≡ list_answer s.base s.is_stale s.values lo hi depth
same_list m s lo hi depth at =
    ap (λ g. list_answer g m.is_stale (values_of m) lo hi depth) at.base
    ∙ ap (λ b. list_answer s.base b (values_of m) lo hi depth) at.is_stale
    ∙ sym (same_list_at s.is_stale s.values (values_of m) depth (key_at s.base.res lo)
    (key_at s.base.res hi) at.values)

-- a map's answer to what has changed since its mark
pub same_changed : (m : Map) (s : State) → StandsFor m s
    → changes_answer (marked_of m) (classes_in m)
    ≡ changes_answer s.marked (classes_of s.base.odds s.values)
same_changed m s at = sym
    (same_changes s.marked (marked_of m) (classes_of s.base.odds s.values) (classes_in m) at.marked
    (same_classes m s at))

-- a map's answer to a scan
pub same_scan : (m : Map) (s : State) (scan : Sighting) → StandsFor m s
    → scan_answer (ground_of m) (values_of m) scan ≡ scan_answer s.base s.values scan
same_scan m s scan at =
    ap (λ g. scan_answer g (values_of m) scan) at.base
    ∙ ap (λ room. scan_answer_by (scan_fault s.base.res scan s.base.max_cells) room
    (done_of s.base scan)) (sym
    (same_room s.base.max_groups (need_of s.base scan) s.values (values_of m) at.values))
