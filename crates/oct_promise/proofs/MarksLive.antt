-- How long a mark lives, and when a map is stale: by what each line adds to the history, and so by
-- the lines.
use Rattle.std.proofs.Common.{◌≡◌, ◌∷◌, ◌++◌, List, [], Bool, true, false, ◌||◌, Option, Some, None}
use Rattle.std.proofs.Common.{◌⊎◌, inl, inr, refl, sym, ap, subst, ◌∙◌, ◌↔◌}
use Rattle.std.specs.Prelude.{⊤}
use Rattle.std.proofs.lemmas.Bool.{false≢true}
use Rattle.oct_io.specs.Files.{Files}
use Rattle.oct_script.specs.Lines.{Line}
use Rattle.oct_values.specs.Classes.{Classes}
use Rattle.oct_session.specs.History.{State, Action, Edited, Boxed, Scanned, Refreshed}
use Rattle.oct_session.specs.History.{Pruned, Cleared, Likened, Replaced, Restored, Tracked}
use Rattle.oct_session.specs.History.{Untracked, Limited, Unlimited, after}
use Rattle.oct_session.specs.Setup.{Setup}
use Rattle.oct_promise.specs.Lines.{classes_in, state_behind}
use Rattle.oct_promise.specs.Marks.{IsLazyLine, IsMend, IsTrack, EndsMark, IsLeftStale}
use Rattle.oct_promise.specs.Marks.{IsMarkedBehind}
use Rattle.oct_promise.proofs.AcceptedLines.{IsLazyAction, IsMendAction, EndsMarkAction, Adds}
use Rattle.oct_promise.proofs.AcceptedLines.{AddsSuch, AddsNone, Makes, state_added, state_kept}
use Rattle.oct_promise.proofs.AcceptedLines.{adds_same, adds_some, adds_or_not, lazy_adds}
use Rattle.oct_promise.proofs.AcceptedLines.{mend_adds, track_adds, end_adds, lazy_line, mend_line}
use Rattle.oct_promise.proofs.AcceptedLines.{track_line, end_line}
use Rattle.oct_promise.proofs.Since.{StepsBack, Keeps, found_begun, held_since}

-- ---- actions

left_false : (b : Bool) → (b || false) ≡ true → b ≡ true
left_false true is = refl
left_false false is = is

right_true : (b : Bool) → (b || true) ≡ true
right_true true = refl
right_true false = refl

-- what a stale map owes its staleness to, one action back
either_lazy : (a : Action) (was lazy : Bool) → (lazy ≡ true → IsLazyAction a) → (¬ IsMendAction a)
    → (was || lazy) ≡ true → IsLazyAction a ⊎ ((¬ IsMendAction a) × (was ≡ true))
either_lazy a was true is_lazy never is = inl (is_lazy refl)
either_lazy a was false is_lazy never is = inr (never, left_false was is)

stale_by : (s : State) (a : Action) → (after s a).is_stale ≡ true
    → IsLazyAction a ⊎ ((¬ IsMendAction a) × (s.is_stale ≡ true))
stale_by s (Edited p edit lazy) is =
    either_lazy (Edited p edit lazy) s.is_stale lazy (λ e. e) (λ never. never) is
stale_by s (Scanned scan lazy) is =
    either_lazy (Scanned scan lazy) s.is_stale lazy (λ e. e) (λ never. never) is
stale_by s (Boxed lo hi edit) is = inr (λ never. never, is)
stale_by s Refreshed is = absurd (false≢true is)
stale_by s Pruned is = inr (λ never. never, is)
stale_by s Cleared is = absurd (false≢true is)
stale_by s Likened is = absurd (false≢true is)
stale_by s (Replaced classes) is = absurd (false≢true is)
stale_by s (Restored q) is = absurd (false≢true is)
stale_by s Tracked is = inr (λ never. never, is)
stale_by s Untracked is = inr (λ never. never, is)
stale_by s (Limited lo hi) is = inr (λ never. never, is)
stale_by s Unlimited is = inr (λ never. never, is)

-- a lazy action leaves a map stale, and one that doesn't mend it leaves it so
lazy_leaves : (s : State) (a : Action) → IsLazyAction a → (after s a).is_stale ≡ true
lazy_leaves s (Edited p edit lazy) is = ap (λ b. s.is_stale || b) is ∙ right_true s.is_stale
lazy_leaves s (Scanned scan lazy) is = ap (λ b. s.is_stale || b) is ∙ right_true s.is_stale
lazy_leaves s other is = absurd is

stale_stays : (s : State) (a : Action) → (¬ IsMendAction a) → s.is_stale ≡ true
    → (after s a).is_stale ≡ true
stale_stays s (Edited p edit lazy) never is = ap (λ b. b || lazy) is
stale_stays s (Scanned scan lazy) never is = ap (λ b. b || lazy) is
stale_stays s (Boxed lo hi edit) never is = is
stale_stays s Refreshed never is = absurd (never tt)
stale_stays s Pruned never is = is
stale_stays s Cleared never is = absurd (never tt)
stale_stays s Likened never is = absurd (never tt)
stale_stays s (Replaced classes) never is = absurd (never tt)
stale_stays s (Restored q) never is = absurd (never tt)
stale_stays s Tracked never is = is
stale_stays s Untracked never is = is
stale_stays s (Limited lo hi) never is = is
stale_stays s Unlimited never is = is

mark_by : (s : State) (a : Action) (c : Classes) → (after s a).marked ≡ Some c
    → ((a ≡ Tracked) × (c ≡ classes_in s)) ⊎ ((¬ EndsMarkAction a) × (s.marked ≡ Some c))
mark_by s Tracked c is = inl (refl, (let e : c ≡ classes_in s = cc in e))
mark_by s Untracked c is = absurd cc
mark_by s Cleared c is = absurd cc
mark_by s (Replaced classes) c is = absurd cc
mark_by s (Restored q) c is = absurd cc
mark_by s (Edited p edit lazy) c is = inr (λ never. never, is)
mark_by s (Scanned scan lazy) c is = inr (λ never. never, is)
mark_by s (Boxed lo hi edit) c is = inr (λ never. never, is)
mark_by s Refreshed c is = inr (λ never. never, is)
mark_by s Pruned c is = inr (λ never. never, is)
mark_by s Likened c is = inr (λ never. never, is)
mark_by s (Limited lo hi) c is = inr (λ never. never, is)
mark_by s Unlimited c is = inr (λ never. never, is)

mark_stays : (s : State) (a : Action) → (¬ EndsMarkAction a) → (after s a).marked ≡ s.marked
mark_stays s Tracked never = absurd (never tt)
mark_stays s Untracked never = absurd (never tt)
mark_stays s Cleared never = absurd (never tt)
mark_stays s (Replaced classes) never = absurd (never tt)
mark_stays s (Restored q) never = absurd (never tt)
mark_stays s (Edited p edit lazy) never = refl
mark_stays s (Scanned scan lazy) never = refl
mark_stays s (Boxed lo hi edit) never = refl
mark_stays s Refreshed never = refl
mark_stays s Pruned never = refl
mark_stays s Likened never = refl
mark_stays s (Limited lo hi) never = refl
mark_stays s Unlimited never = refl

-- ---- lines

module _ (o : Setup) (files : Option Files) where
  -- a line that adds nothing, or what is none of these, is none of them
  none_such : (start : List Line) (x : Line) (IsSuch : Action → Type 0) (Is : Type 0)
      → (Is → AddsSuch o files start x IsSuch) → AddsNone o files start x → ¬ Is
  none_such start x IsSuch Is adds none =
      λ it. (let (a, such, added) = adds it in adds_some o files start x a added none)

  other_such : (start : List Line) (x : Line) (IsSuch : Action → Type 0) (Is : Type 0)
      (a : Action) → (Is → AddsSuch o files start x IsSuch) → Adds o files start x a
      → (¬ IsSuch a) → ¬ Is
  other_such start x IsSuch Is a adds one never =
      λ it. (let (b, such, added) = adds it in
      never (subst IsSuch (adds_same o files start x b a added one) such))

  -- ---- staleness

  abbrev IsStale : List Line → Type 0
  IsStale lines = (state_behind o files lines).is_stale ≡ true

  abbrev Any : List Line → Type 0
  Any lines = ⊤

  stale_back : StepsBack (IsLazyLine o files) (IsMend o files) IsStale Any
  stale_back start x is = by_line (adds_or_not o files start x)
    where
      by_action : (a : Action) → Makes o files start x a → Adds o files start x a
          → IsLazyAction a ⊎ ((¬ IsMendAction a) × IsStale start)
          → (IsLazyLine o files start x × ⊤) ⊎ (IsStale start × ¬ IsMend o files start x)
      by_action a made adds (inl lazy) = inl (lazy_line o files start x a made lazy, tt)
      by_action a made adds (inr (never, was)) = inr (
        was,
        other_such start x IsMendAction (IsMend o files start x) a (mend_adds o files start x) adds
            never,
      )

      by_line : AddsNone o files start x ⊎ AddsSuch o files start x (Makes o files start x)
          → (IsLazyLine o files start x × ⊤) ⊎ (IsStale start × ¬ IsMend o files start x)
      by_line (inl none) = inr (
        ap (λ (s : State). s.is_stale) (sym (state_kept o files start x none)) ∙ is,
        none_such start x IsMendAction (IsMend o files start x) (mend_adds o files start x) none,
      )
      by_line (inr (a, made, adds)) = by_action a made adds (stale_by (state_behind o files start) a
          (ap (λ (s : State). s.is_stale) (sym (state_added o files start x a adds)) ∙ is))

  stale_keeps : Keeps (IsLazyLine o files) (IsMend o files) IsStale Any
  stale_keeps start x never was = by_line (adds_or_not o files start x)
    where
      by_line : AddsNone o files start x ⊎ AddsSuch o files start x (Makes o files start x)
          → IsStale (start ++ x ∷ [])
      by_line (inl none) =
          ap (λ (s : State). s.is_stale) (state_kept o files start x none) ∙ was
      by_line (inr (a, made, adds)) =
          ap (λ (s : State). s.is_stale) (state_added o files start x a adds)
          ∙ stale_stays (state_behind o files start) a
          (λ such. never (mend_line o files start x a made such)) was

  stale_begins : (start : List Line) (x : Line) → IsLazyLine o files start x → Any start
      → IsStale (start ++ x ∷ [])
  stale_begins start x lazy any = (let (a, such, adds) = lazy_adds o files start x lazy in
      ap (λ (s : State). s.is_stale) (state_added o files start x a adds)
      ∙ lazy_leaves (state_behind o files start) a such)

  -- a map is stale exactly where it was left so
  pub stale_exactly : (lines : List Line) → IsStale lines ↔ IsLeftStale o files lines
  stale_exactly lines = (
    λ is. (let (before, since, any) = found_begun (IsLazyLine o files) (IsMend o files) IsStale Any
        stale_back false≢true lines is in (before, since)),
    λ left. held_since (IsLazyLine o files) (IsMend o files) IsStale Any stale_keeps stale_begins
        lines left.0 left.1 tt,
  )

  -- a map that wasn't left stale isn't stale
  not_left : (b : Bool) (P : Type 0) → (b ≡ true → P) → ¬ P → b ≡ false
  not_left true P holds never = absurd (never (holds refl))
  not_left false P holds never = refl

  pub fresh : (lines : List Line) → ¬ IsLeftStale o files lines
      → (state_behind o files lines).is_stale ≡ false
  fresh lines never = not_left (state_behind o files lines).is_stale (IsLeftStale o files lines)
      (stale_exactly lines).0 never

  -- ---- marks

  module _ (c : Classes) where
    abbrev HasMark : List Line → Type 0
    HasMark lines = (state_behind o files lines).marked ≡ Some c

    abbrev HadClasses : List Line → Type 0
    HadClasses before = c ≡ classes_in (state_behind o files before)

    mark_back : StepsBack (IsTrack o files) (EndsMark o files) HasMark HadClasses
    mark_back start x is = by_line (adds_or_not o files start x)
      where
        by_action : (a : Action) → Makes o files start x a → Adds o files start x a
            → ((a ≡ Tracked) × HadClasses start) ⊎ ((¬ EndsMarkAction a) × HasMark start)
            → (IsTrack o files start x × HadClasses start)
            ⊎ (HasMark start × ¬ EndsMark o files start x)
        by_action a made adds (inl (set, had)) = inl (track_line o files start x a made set, had)
        by_action a made adds (inr (never, was)) = inr (
          was,
          other_such start x EndsMarkAction (EndsMark o files start x) a (end_adds o files start x)
              adds never,
        )

        by_line : AddsNone o files start x ⊎ AddsSuch o files start x (Makes o files start x)
            → (IsTrack o files start x × HadClasses start)
            ⊎ (HasMark start × ¬ EndsMark o files start x)
        by_line (inl none) = inr (
          ap (λ (s : State). s.marked) (sym (state_kept o files start x none)) ∙ is,
          none_such start x EndsMarkAction (EndsMark o files start x) (end_adds o files start x)
              none,
        )
        by_line (inr (a, made, adds)) =
            by_action a made adds (mark_by (state_behind o files start) a c
            (ap (λ (s : State). s.marked) (sym (state_added o files start x a adds)) ∙ is))

    mark_keeps : Keeps (IsTrack o files) (EndsMark o files) HasMark HadClasses
    mark_keeps start x never was = by_line (adds_or_not o files start x)
      where
        by_line : AddsNone o files start x ⊎ AddsSuch o files start x (Makes o files start x)
            → HasMark (start ++ x ∷ [])
        by_line (inl none) = ap (λ (s : State). s.marked) (state_kept o files start x none) ∙ was
        by_line (inr (a, made, adds)) =
            ap (λ (s : State). s.marked) (state_added o files start x a adds)
            ∙ mark_stays (state_behind o files start) a
            (λ such. never (end_line o files start x a made such)) ∙ was

    mark_begins : (start : List Line) (x : Line) → IsTrack o files start x → HadClasses start
        → HasMark (start ++ x ∷ [])
    mark_begins start x set had =
        ap (λ (s : State). s.marked) (state_added o files start x Tracked
        (track_adds o files start x set)) ∙ ap Some (sym had)

    no_mark : ¬ HasMark []
    no_mark is = cc

    -- a mark has classes exactly where they were those behind the lines before its `track`
    pub marked_exactly : (lines : List Line) → HasMark lines
        ↔ ((before : List Line) × IsMarkedBehind o files lines before × HadClasses before)
    marked_exactly lines = (
      found_begun (IsTrack o files) (EndsMark o files) HasMark HadClasses mark_back no_mark lines,
      λ set. held_since (IsTrack o files) (EndsMark o files) HasMark HadClasses mark_keeps
          mark_begins lines set.0 set.1 set.2,
    )

  pub marked_then : (lines before : List Line) → IsMarkedBehind o files lines before
      → (state_behind o files lines).marked ≡ Some (classes_in (state_behind o files before))
  marked_then lines before since =
      (marked_exactly (classes_in (state_behind o files before)) lines).1 (before, since, refl)

  -- where none was set, none stands
  none_is : (m : Option Classes) → ((c : Classes) → m ≡ Some c → ⊥) → m ≡ None
  none_is None never = refl
  none_is (Some c) never = absurd (never c refl)

  pub unmarked : (lines : List Line)
      → ((before : List Line) → ¬ IsMarkedBehind o files lines before)
      → (state_behind o files lines).marked ≡ None
  unmarked lines never = none_is (state_behind o files lines).marked (λ c m.
      let found = (marked_exactly c lines).0 m in never found.0 found.1)
