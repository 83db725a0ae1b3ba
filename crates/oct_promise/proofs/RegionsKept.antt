-- What a session has of a map whose scans are limited to a box.
use Rattle.std.proofs.Common.{◌≡◌, List, [], ◌∷◌, Bool, true, false, cond, Option, Some, None}
use Rattle.std.proofs.Common.{Result, Ok, refl, sym, ap, subst, ◌∙◌}
use Rattle.std.specs.Prelude.{⊤}
use Rattle.oct_io.specs.Files.{Files}
use Rattle.oct_key.specs.Boxes.{Window, IsInBox, is_in_box}
use Rattle.oct_key.specs.Voxel.{Voxel, key_at}
use Rattle.oct_key.proofs.Boxes.{box_exactly, in_window_exactly}
use Rattle.oct_map.specs.Answers.{corner_fault, box_answer_by}
use Rattle.oct_map.specs.Ground.{Ground}
use Rattle.oct_map.specs.Outcome.{corner_box}
use Rattle.oct_map.specs.declared.fault.MapFault.{MapFault}
use Rattle.oct_map.specs.declared.fault.MapFault.TheVariants.{BadBox}
use Rattle.oct_odds.specs.Odds.{Odds}
use Rattle.oct_odds.specs.Update.{Value, class_of}
use Rattle.oct_odds.specs.declared.event.Class.{Class}
use Rattle.oct_odds.specs.declared.event.Class.TheVariants.{Unknown}
use Rattle.oct_script.specs.Lines.{Line}
use Rattle.oct_script.specs.declared.command.Command.{Command}
use Rattle.oct_script.specs.declared.reply.Refusal.{Refusal}
use Rattle.oct_session.specs.Commands.{accepted, edit_reply, is_quit}
use Rattle.oct_session.specs.History.{History, State, Limited, after, after_all}
use Rattle.oct_session.specs.History.{start_state}
use Rattle.oct_session.specs.Session.{start, effect, effect_of, after_line}
use Rattle.oct_session.specs.Setup.{Setup}
use Rattle.oct_session.specs.declared.scan_block.ScanBlock.{ScanBlock}
use Rattle.oct_promise.specs.Lines.{classes_in, state_behind}
use Rattle.oct_promise.specs.Regions.{is_in_some, classes_within, IsLimitTo, IsNotFull, IsRegion}
use Rattle.oct_promise.specs.Regions.{HoldsPart}
use Rattle.oct_promise.specs.Sums.{replies_to, reply_to}
use Rattle.oct_promise.proofs.RegionLines.{RunAlike, SameBlock, lines_alike, all_rest}
use Rattle.oct_promise.proofs.RegionStates.{IsPart, in_one}

-- ---- the line that limits scans

nothing_known : (b : Bool) → None ≡ cond {A = Value} b None None
nothing_known true = refl
nothing_known false = refl

fault_free : (o : Setup) (box : Window) (line : Line) (is : IsLimitTo o box line)
    → corner_fault (key_at o.res is.lo) (key_at o.res is.hi) ≡ None
fault_free o box line is =
    ap (λ x. corner_fault x (key_at o.res is.hi)) is.low
    ∙ ap (corner_fault (Some box.lo)) is.high
    ∙ ap (λ b. cond {A = Option MapFault} b None (Some BadBox))
    ((box_exactly box.lo box.hi).1 is.ordered)

-- the box that stands behind it
box_set : (o : Setup) (box : Window) (line : Line) (is : IsLimitTo o box line)
    → corner_box (key_at o.res is.lo) (key_at o.res is.hi) ≡ Some box
box_set o box line is =
    ap (λ x. corner_box x (key_at o.res is.hi)) is.low ∙ ap (corner_box (Some box.lo)) is.high

-- nothing is known on both sides
limit_part : (o : Setup) (box : Window) (line : Line) (is : IsLimitTo o box line)
    → IsPart box (start_state o) (after (start_state o) (Limited is.lo is.hi))
limit_part o box line is = record {
  base = ap (λ (w : Option Window). record (start_state o).base { update_box = w })
      (box_set o box line is);
  unlimited = refl;
  values = λ k. nothing_known (is_in_some (box ∷ []) k);
}

limit_added : (o : Setup) (files : Option Files) (box : Window) (line : Line)
    (is : IsLimitTo o box line)
    → (effect_of o (start files) line).added ≡ Limited is.lo is.hi ∷ []
limit_added o files box line is =
    ap (λ (c : Result Command Refusal). (effect files (start_state o) 1 line c None).added) is.reads
    ∙ ap (λ (f : Option MapFault). accepted (edit_reply (box_answer_by f (Ok tt)))
    (Limited is.lo is.hi ∷ [])) (fault_free o box line is)

abbrev IsClosed : Option ScanBlock → Type 0
IsClosed None = ⊤
IsClosed (Some block) = ⊥

-- a block that is open in neither
both_closed : (block : Option ScanBlock) → IsClosed block → SameBlock None block
both_closed None closed = tt
both_closed (Some block) closed = absurd closed

limit_begins : (o : Setup) (files more : Option Files) (box : Window) (line : Line)
    → IsLimitTo o box line → RunAlike o box (start files) (after_line o (start more) line)
limit_begins o files more box line is = record {
  state = subst (λ (h : History). IsPart box (start_state o) (after_all (start_state o) h))
      (sym (limit_added o more box line is)) (limit_part o box line is);
  block = both_closed (effect_of o (start more) line).block
      (subst (λ (c : Result Command Refusal).
      IsClosed (effect more (start_state o) 1 line c None).block) (sym is.reads) tt);
  quit = ap is_quit is.reads;
}

-- ---- a region

pub region_part : (o : Setup) (files more : Option Files) (box : Window) (limit : Line)
    (lines : List Line) → IsRegion o files more box limit lines
    → IsPart box (state_behind o files lines) (state_behind o more (limit ∷ lines))
unfolding replies_to
region_part o files more box limit lines is =
    (lines_alike o box (start files) (after_line o (start more) limit) lines
    (limit_begins o files more box limit is.limits) is.shared is.room
    (all_rest IsNotFull (reply_to o (start more) limit)
    (replies_to o (after_line o (start more) limit) lines) is.room_there)).state

within_box : (box : Window) (s t : State) → IsPart box s t → HoldsPart box s t
within_box box s t part = record {
  inside = λ k there. part.values k
      ∙ ap (λ b. cond {A = Value} b (s.values k) None)
      (in_one box k ∙ (in_window_exactly (Some box) k).1 there);
  outside = λ k beyond. part.values k
      ∙ ap (λ b. cond {A = Value} b (s.values k) None)
      (in_one box k ∙ not_in k beyond (is_in_box box.lo box.hi k) refl);
  odds = ap (λ (g : Ground). g.odds) part.base;
}
  where
    not_in : (k : Voxel) → ¬ IsInBox box.lo box.hi k → (b : Bool)
        → is_in_box box.lo box.hi k ≡ b → b ≡ false
    not_in k beyond true is = absurd (beyond ((in_window_exactly (Some box) k).0 is))
    not_in k beyond false is = refl

-- the values of a region are those of the whole map within its box
pub region_holds : (o : Setup) (files more : Option Files) (box : Window) (limit : Line)
    (lines : List Line) → IsRegion o files more box limit lines
    → HoldsPart box (state_behind o files lines) (state_behind o more (limit ∷ lines))
region_holds o files more box limit lines is =
    within_box box (state_behind o files lines) (state_behind o more (limit ∷ lines))
    (region_part o files more box limit lines is)

class_within : (odds : Odds) (b : Bool) (v : Value)
    → class_of odds (cond {A = Value} b v None) ≡ cond {A = Class} b (class_of odds v) Unknown
class_within odds true v = refl
class_within odds false v = refl

-- and its classes
pub part_classes : (box : Window) (s t : State) → IsPart box s t → (k : Voxel)
    → classes_in t k ≡ classes_within (box ∷ []) (classes_in s) k
part_classes box s t part k =
    ap (λ (g : Ground). class_of g.odds (t.values k)) part.base
    ∙ ap (class_of s.base.odds) (part.values k)
    ∙ class_within s.base.odds (is_in_some (box ∷ []) k) (s.values k)
