-- What a command does to single voxels that is no scan.
use Rattle.std.proofs.Common.{◌≡◌, ℕ, ◌+◌, ◌≤◌, List, [], ◌∷◌, ◌++◌, Bool, true, false, cond}
use Rattle.std.proofs.Common.{Option, Some, None, Result, Ok, refl, sym, ap, subst, ◌∙◌, arith}
use Rattle.std.specs.Option.{option_or}
use Rattle.std.specs.Prelude.{⊤, int_lt, is_some}
use Rattle.oct_bt.specs.Classes.{value_for}
use Rattle.oct_io.specs.Files.{Files}
use Rattle.oct_key.specs.Boxes.{Window, IsInBox, is_box, is_in_box}
use Rattle.oct_key.specs.Values.{is_same_voxel}
use Rattle.oct_key.specs.Voxel.{Voxel, key_at}
use Rattle.oct_key.specs.declared.point.Point.{Point}
use Rattle.oct_key.proofs.Boxes.{box_exactly, in_box_exactly}
use Rattle.oct_key.proofs.Faces.{IsInMap-key_at, Holds-key_at, key_at-Holds}
use Rattle.oct_key.proofs.SameVoxels.{is_same_voxel_exact, is_same_voxel_refl}
use Rattle.oct_map.specs.Answers.{edit_answer_at, room_answer, box_answer_by, box_fault}
use Rattle.oct_map.specs.Answers.{corner_fault, wide_fault}
use Rattle.oct_map.specs.Outcome.{corner_events, corner_box, corner_need}
use Rattle.oct_map.specs.declared.fault.MapFault.{MapFault}
use Rattle.oct_map.specs.declared.fault.MapFault.TheVariants as fault
use Rattle.oct_odds.specs.Odds.{Odds}
use Rattle.oct_odds.specs.Update.{Value, applied, class_of}
use Rattle.oct_odds.specs.declared.event.Class.{Class}
use Rattle.oct_odds.specs.declared.event.Class.TheVariants.{Free, Occupied}
use Rattle.oct_odds.specs.declared.event.Event.{Event}
use Rattle.oct_odds.specs.declared.event.Event.TheVariants as event
use Rattle.oct_script.specs.Lines.{Line}
use Rattle.oct_script.specs.declared.command.Command.{Command}
use Rattle.oct_script.specs.declared.command.Command.TheVariants as command
use Rattle.oct_script.specs.declared.command.Edit.{Edit}
use Rattle.oct_script.specs.declared.command.Edit.TheVariants.{Hit, Miss, Add, Set, Forget}
use Rattle.oct_script.specs.declared.reply.Reply.{Reply}
use Rattle.oct_script.specs.declared.reply.Reply.TheVariants as reply_of
use Rattle.oct_values.specs.Events.{event_at, after_event}
use Rattle.oct_session.specs.Commands.{accepted, edit_reply, order_reply, order_action}
use Rattle.oct_session.specs.History.{History, State, Edited, Boxed, Limited}
use Rattle.oct_session.specs.History.{edit_event, after, after_all, state_after}
use Rattle.oct_session.specs.Session.{Progress, Effect, effect, effect_of, replied, after_line}
use Rattle.oct_session.specs.Session.{progress}
use Rattle.oct_session.specs.Setup.{Setup}
use Rattle.oct_session.specs.declared.kinds.Order.{Order}
use Rattle.oct_session.specs.declared.kinds.Order.TheVariants as order
use Rattle.oct_session.proofs.MapHistory.{state_more}
use Rattle.oct_session.proofs.Progresses.{after_answered}
use Rattle.oct_promise.specs.Edits.{IsAt, edited, IsEdited, AreCorners, IsBoxEdited, IsRefreshed}
use Rattle.oct_promise.specs.Edits.{IsPruned, IsUnlimited, IsMarked, IsUnmarked, IsSurest}
use Rattle.oct_promise.specs.Edits.{IsCleared, IsLimitedTo}
use Rattle.oct_promise.specs.Lines.{WhereDone, Always, IsLine, Replies, state_behind}
use Rattle.oct_promise.specs.States.{IsSetUp}
use Rattle.oct_promise.proofs.GivenBack.{effect_next}
use Rattle.oct_promise.proofs.StateCommands.{res_of}
use Rattle.oct_promise.proofs.Telling.{next_line, told_and_left}

-- ---- one line

-- a line that is this order, outside a block, does it
abbrev pub IsOrder : Command → Order → Type 0
IsOrder c d = (files : Option Files) (s : State) (number : ℕ) (line : Line)
    → effect files s number line (Ok c) None
    ≡ replied (order_reply s d) (order_action d ∷ []) None

ordered : (o : Setup) (files : Option Files) (bytes : List ℕ) (before : List Line) (line : Line)
    (c : Command) (d : Order) (P : State → State → Type 0) → IsOrder c d
    → IsLine o files bytes before line None (Ok c)
    → order_reply (state_behind o files before) d ≡ Some reply_of.Ok
    → P (state_behind o files before) (after (state_behind o files before) (order_action d))
    → Replies o files bytes before reply_of.Ok
    × P (state_behind o files before) (state_behind o files (before ++ line ∷ []))
ordered o files bytes before line c d P orders is told done =
    let p : Progress = progress o files before in
    let s : State = state_after o p.history in
    let does : effect_of o p line ≡ replied (order_reply s d) (order_action d ∷ []) None =
    effect_next o p line c (next_line o files bytes before line c is)
    ∙ orders p.files s (p.line_count + 1) line in
    let added : (effect_of o p line).added ≡ order_action d ∷ [] =
    ap (λ (e : Effect). e.added) does
    ∙ ap (λ (r : Option Reply). accepted r (order_action d ∷ [])) told in
    let leaves : state_after o (after_line o p line).history ≡ after s (order_action d) =
    ap (λ (x : Progress). state_after o x.history) (after_answered o p line is.running)
    ∙ state_more o p.history (effect_of o p line).added ∙ ap (after_all s) added in
    told_and_left o files bytes before line None (Ok c) reply_of.Ok (P s) is (record {
      answer = ap (λ (e : Effect). e.reply) does ∙ told;
      state = subst (P s) (sym leaves) done;
    })

replies_order : (o : Setup) (files : Option Files) (bytes : List ℕ) (before : List Line)
    (line : Line) (c : Command) (d : Order) → IsOrder c d
    → IsLine o files bytes before line None (Ok c)
    → (effect_of o (progress o files before) line).reply ≡ Some reply_of.Ok
    → order_reply (state_behind o files before) d ≡ Some reply_of.Ok
replies_order o files bytes before line c d orders is told =
    let p : Progress = progress o files before in
    let s : State = state_after o p.history in
    sym (ap (λ (e : Effect). e.reply) (effect_next o p line c
    (next_line o files bytes before line c is)
    ∙ orders p.files s (p.line_count + 1) line)) ∙ told

where_done : (o : Setup) (c : Command) (d : Order) (P : State → State → Type 0) → IsOrder c d
    → ((h : History) → order_reply (state_after o h) d ≡ Some reply_of.Ok
    → P (state_after o h) (after (state_after o h) (order_action d)))
    → WhereDone o c P
where_done o c d P orders done files bytes before line is told =
    let accepts = replies_order o files bytes before line c d orders is told in
    ordered o files bytes before line c d P orders is accepts
    (done (progress o files before).history accepts)

always_done : (o : Setup) (c : Command) (d : Order) (P : State → State → Type 0) → IsOrder c d
    → ((s : State) → order_reply s d ≡ Some reply_of.Ok)
    → ((s : State) → P s (after s (order_action d))) → Always o c P
always_done o c d P orders accepts done files bytes before line is =
    ordered o files bytes before line c d P orders is (accepts (state_behind o files before))
    (done (state_behind o files before))

-- ---- upkeep, which is never refused

pub refresh_done : (o : Setup)
    → Always o command.Refresh IsRefreshed
refresh_done o = always_done o command.Refresh order.Refresh IsRefreshed
    (λ files s number line. refl) (λ s. refl) (λ s. refl)

pub prune_done : (o : Setup)
    → Always o command.Prune IsPruned
prune_done o = always_done o command.Prune order.Prune IsPruned (λ files s number line. refl)
    (λ s. refl) (λ s. refl)

surest : (odds : Odds) (value : Value)
    → applied odds event.Likely value ≡ value_for odds (class_of odds value)
surest odds None = refl
surest odds (Some v) = elim (int_lt v odds.thr) as
    (λ b. Some (cond b odds.min odds.max) ≡ value_for odds (cond {A = Class} b Free Occupied))
    [ true ↦ refl | false ↦ refl ]

pub maxlik_done : (o : Setup) → Always o command.MaxLik IsSurest
maxlik_done o = always_done o command.MaxLik order.MaxLik IsSurest (λ files s number line. refl)
    (λ s. refl) (λ s. record {
      values = λ k. surest s.base.odds (s.values k);
      beside = (refl, refl, refl);
    })

forgotten : (odds : Odds) (value : Value) → applied odds event.Forget value ≡ None
forgotten odds None = refl
forgotten odds (Some v) = refl

pub clear_done : (o : Setup) → Always o command.Clear IsCleared
clear_done o = always_done o command.Clear order.Clear IsCleared (λ files s number line. refl)
    (λ s. refl) (λ s. record {
      values = λ k. forgotten s.base.odds (s.values k);
      beside = (refl, refl, refl);
    })

pub nolimit_done : (o : Setup) → Always o command.NoLimit IsUnlimited
nolimit_done o = always_done o command.NoLimit order.NoLimit IsUnlimited
    (λ files s number line. refl) (λ s. refl) (λ s. refl)

pub track_done : (o : Setup) → Always o command.Track IsMarked
track_done o = always_done o command.Track order.Track IsMarked (λ files s number line. refl)
    (λ s. refl) (λ s. refl)

pub untrack_done : (o : Setup) → Always o command.Untrack IsUnmarked
untrack_done o = always_done o command.Untrack order.Untrack IsUnmarked
    (λ files s number line. refl) (λ s. refl) (λ s. refl)

-- ---- edits

-- an edit's event makes of a value what the words say
event_done : (odds : Odds) (edit : Edit) (value : Value)
    → applied odds (edit_event odds edit) value ≡ edited odds edit value
event_done odds Hit value = refl
event_done odds Miss value = refl
event_done odds (Add change) value = refl
event_done odds (Set chosen) None = refl
event_done odds (Set chosen) (Some v) = refl
event_done odds Forget value = forgotten odds value

-- the event on the voxel of the point
at_voxel : (t k : Voxel) (e : Event) → t ≡ k → event_at (Some t) e k ≡ Some e
at_voxel t k e same =
    ap (λ b. cond {A = Option Event} b (Some e) None)
    (ap (λ (x : Voxel). is_same_voxel x k) same ∙ is_same_voxel_refl k)

elsewhere : (t k : Voxel) (e : Event) → ¬ (t ≡ k) → event_at (Some t) e k ≡ None
elsewhere t k e apart = by_test (is_same_voxel t k) refl
  where
    by_test : (b : Bool) → is_same_voxel t k ≡ b
        → cond {A = Option Event} b (Some e) None ≡ None
    by_test true is = absurd (apart (is_same_voxel_exact t k is))
    by_test false is = refl

-- the rule gives the voxel of a point
is_at : (s : State) (p : Point) (k : Voxel) → 1 ≤ s.base.res → key_at s.base.res p ≡ Some k
    → IsAt s p k
is_at s p k positive is =
    (IsInMap-key_at s.base.res p k is, Holds-key_at s.base.res p k positive is)

at_is : (s : State) (p : Point) (k : Voxel) → 1 ≤ s.base.res → IsAt s p k
    → key_at s.base.res p ≡ Some k
at_is s p k positive at = key_at-Holds s.base.res p k positive at.0 at.1

edit_done : (s : State) (p : Point) (edit : Edit) (lazy : Bool) (t : Voxel) → 1 ≤ s.base.res
    → key_at s.base.res p ≡ Some t → IsEdited p edit lazy s (after s (Edited p edit lazy))
edit_done s p edit lazy t positive is =
    let e : Event = edit_event s.base.odds edit in record {
      inside = (t, is_at s p t positive is);
      there = λ k at. (
          ap (λ (x : Option Voxel). after_event s.base.odds (event_at x e k) (s.values k))
          (at_is s p k positive at)
          ∙ ap (λ (x : Option Event). after_event s.base.odds x (s.values k)) (at_voxel k k e refl)
          ∙ event_done s.base.odds edit (s.values k));
      kept = λ k off. (
          ap (λ (x : Option Voxel). after_event s.base.odds (event_at x e k) (s.values k)) is
          ∙ ap (λ (x : Option Event). after_event s.base.odds x (s.values k))
          (elsewhere t k e (λ same. off (is_at s p k positive (is ∙ ap Some same)))));
      beside = (refl, refl);
      stale = refl;
    }

-- a voxel that isn't refused is one of the map
edit_inside : (most : ℕ) (s : State) (key : Option Voxel)
    → edit_reply (edit_answer_at most s.values key) ≡ Some reply_of.Ok
    → (t : Voxel) × (key ≡ Some t)
edit_inside most s None told = absurd cc
edit_inside most s (Some t) told = (t, refl)

pub positive_at : (o : Setup) → IsSetUp o → (h : History) → 1 ≤ (state_after o h).base.res
positive_at o set h =
    subst (λ n. 1 ≤ n) (sym (res_of o h)) (let least = set.res.0 in omega (arith, least))

pub edits_done : (o : Setup) → IsSetUp o → (p : Point) (edit : Edit) (lazy : Bool)
    → WhereDone o (command.Edit p edit lazy) (IsEdited p edit lazy)
edits_done o set p edit lazy =
    where_done o (command.Edit p edit lazy) (order.Edit p edit lazy) (IsEdited p edit lazy)
    (λ files s number line. refl) (λ h told.
    (let s : State = state_after o h in
    let inside = edit_inside s.base.max_groups s (key_at s.base.res p) told in
    edit_done s p edit lazy inside.0 (positive_at o set h) inside.1))

-- ---- boxes

-- the corners of a box that isn't refused
pub record AreKeys (low high : Option Voxel) : Type 0 where
  pub lo : Voxel
  pub hi : Voxel
  pub is_low : low ≡ Some lo
  pub is_high : high ≡ Some hi
  pub box : is_box lo hi ≡ true

boxed_inside : (has_mark : Bool) (low high : Option Voxel) (room : Result ⊤ MapFault)
    → edit_reply (box_answer_by (box_fault has_mark low high) room) ≡ Some reply_of.Ok
    → AreKeys low high
boxed_inside has_mark None high room told = absurd cc
boxed_inside has_mark (Some lo) None room told = absurd cc
boxed_inside has_mark (Some lo) (Some hi) room told = by_box (is_box lo hi) refl told
  where
    by_box : (b : Bool) → is_box lo hi ≡ b
        → edit_reply (box_answer_by (option_or (cond {A = Option MapFault} b None
        (Some fault.BadBox)) (wide_fault has_mark (Some lo) (Some hi))) room) ≡ Some reply_of.Ok
        → AreKeys (Some lo) (Some hi)
    by_box true is told =
        record { lo = lo; hi = hi; is_low = refl; is_high = refl; box = is }
    by_box false is told = absurd cc

limit_inside : (low high : Option Voxel)
    → edit_reply (box_answer_by (corner_fault low high) (Ok tt)) ≡ Some reply_of.Ok
    → AreKeys low high
limit_inside None high told = absurd cc
limit_inside (Some lo) None told = absurd cc
limit_inside (Some lo) (Some hi) told = by_box (is_box lo hi) refl told
  where
    by_box : (b : Bool) → is_box lo hi ≡ b
        → edit_reply (box_answer_by (cond {A = Option MapFault} b None (Some fault.BadBox)) (Ok tt))
        ≡ Some reply_of.Ok → AreKeys (Some lo) (Some hi)
    by_box true is told =
        record { lo = lo; hi = hi; is_low = refl; is_high = refl; box = is }
    by_box false is told = absurd cc

pub corners : (s : State) (from to : Point) → 1 ≤ s.base.res
    → (keys : AreKeys (key_at s.base.res from) (key_at s.base.res to))
    → AreCorners s from to keys.lo keys.hi
corners s from to positive keys = record {
  low = is_at s from keys.lo positive keys.is_low;
  high = is_at s to keys.hi positive keys.is_high;
  ordered = (box_exactly keys.lo keys.hi).0 keys.box;
}

-- the events of the box whose corners hold two points
corner_events_are : (s : State) (from to : Point) (lo hi k : Voxel) (e : Event) → 1 ≤ s.base.res
    → AreCorners s from to lo hi
    → corner_events (key_at s.base.res from) (key_at s.base.res to) e k
    ≡ cond {A = Option Event} (is_in_box lo hi k) (Some e) None
corner_events_are s from to lo hi k e positive are =
    ap (λ (x : Option Voxel). corner_events x (key_at s.base.res to) e k)
    (at_is s from lo positive are.low)
    ∙ ap (λ (x : Option Voxel). corner_events (Some lo) x e k) (at_is s to hi positive are.high)

not_in : (b : Bool) (P : Type 0) → (b ≡ true → P) → ¬ P → b ≡ false
not_in true P holds never = absurd (never (holds refl))
not_in false P holds never = refl

box_done : (s : State) (from to : Point) (edit : Edit) → 1 ≤ s.base.res
    → AreKeys (key_at s.base.res from) (key_at s.base.res to)
    → IsBoxEdited from to edit s (after s (Boxed from to edit))
box_done s from to edit positive keys =
    let e : Event = edit_event s.base.odds edit in record {
      inside = (keys.lo, keys.hi, corners s from to positive keys);
      there = λ lo hi k are within. (
          ap (λ (x : Option Event). after_event s.base.odds x (s.values k))
          (corner_events_are s from to lo hi k e positive are
          ∙ ap (λ b. cond {A = Option Event} b (Some e) None) ((in_box_exactly lo hi k).1 within))
          ∙ event_done s.base.odds edit (s.values k));
      kept = λ lo hi k are off. (
          ap (λ (x : Option Event). after_event s.base.odds x (s.values k))
          (corner_events_are s from to lo hi k e positive are
          ∙ ap (λ b. cond {A = Option Event} b (Some e) None)
          (not_in (is_in_box lo hi k) (IsInBox lo hi k) (in_box_exactly lo hi k).0 off)));
      beside = (refl, refl, refl);
    }

pub boxes_done : (o : Setup) → IsSetUp o → (from to : Point) (edit : Edit)
    → WhereDone o (command.Box from to edit) (IsBoxEdited from to edit)
boxes_done o set from to edit =
    where_done o (command.Box from to edit) (order.Box from to edit) (IsBoxEdited from to edit)
    (λ files s number line. refl) (λ h told.
    (let s : State = state_after o h in
    box_done s from to edit (positive_at o set h)
    (boxed_inside (is_some s.marked) (key_at s.base.res from) (key_at s.base.res to)
    (room_answer s.base.max_groups s.values
    (corner_need (key_at s.base.res from) (key_at s.base.res to))) told)))

limit_done : (s : State) (from to : Point) → 1 ≤ s.base.res
    → AreKeys (key_at s.base.res from) (key_at s.base.res to)
    → IsLimitedTo from to s (after s (Limited from to))
limit_done s from to positive keys = record {
  box = (
    keys.lo,
    keys.hi,
    corners s from to positive keys,
    ap (λ (w : Option Window). record s { base = record s.base { update_box = w } })
        (ap (λ (x : Option Voxel). corner_box x (key_at s.base.res to)) keys.is_low
        ∙ ap (λ (x : Option Voxel). corner_box (Some keys.lo) x) keys.is_high),
  );
}

pub limits_done : (o : Setup) → IsSetUp o → (from to : Point)
    → WhereDone o (command.Limit from to) (IsLimitedTo from to)
limits_done o set from to =
    where_done o (command.Limit from to) (order.Limit from to) (IsLimitedTo from to)
    (λ files s number line. refl) (λ h told.
    (let s : State = state_after o h in
    limit_done s from to (positive_at o set h)
    (limit_inside (key_at s.base.res from) (key_at s.base.res to) told)))
