-- Which action of the history a line is that isn't refused, and which line an action is.
use Rattle.std.proofs.Common.{◌≡◌, ℕ, ◌+◌, List, [], ◌∷◌, ◌++◌, Option, Some, None, Result, Ok, Err}
use Rattle.std.proofs.Common.{Bool, true, false, cond, IsSome, ◌⊎◌, inl, inr, refl, sym, ap, subst}
use Rattle.std.proofs.Common.{◌∙◌, append-nil}
use Rattle.std.specs.Prelude.{option_map, ⊤}
use Rattle.std.proofs.lemmas.Bool.{false≢true}
use Rattle.oct_bt.specs.DataClasses.{data_classes}
use Rattle.oct_bt.specs.File.{FileRead, reading}
use Rattle.oct_bt.specs.declared.fault.BtFault.{BtFault}
use Rattle.oct_io.specs.Files.{Files}
use Rattle.oct_io.specs.Loaded.{loaded_of}
use Rattle.oct_io.specs.declared.store.Loaded.{Loaded}
use Rattle.oct_io.specs.declared.store.Loaded.TheVariants.{Bytes, Missing, TooLarge}
use Rattle.oct_map.specs.Faults.{snap_fault}
use Rattle.oct_map.specs.Ground.{Ground}
use Rattle.oct_script.specs.Lines.{Line}
use Rattle.oct_script.specs.Replies.{is_refusal, file_refusal}
use Rattle.oct_script.specs.declared.command.Command.{Command}
use Rattle.oct_script.specs.declared.command.Command.TheVariants as command
use Rattle.oct_script.specs.declared.reply.Refusal.{Refusal}
use Rattle.oct_script.specs.declared.reply.Reply.{Reply}
use Rattle.oct_script.specs.declared.reply.Reply.TheVariants as reply_of
use Rattle.oct_snap.specs.Reading.{Snapshot, read_snapshot}
use Rattle.oct_snap.specs.declared.fault.SnapFault.{SnapFault}
use Rattle.oct_values.specs.Classes.{Classes}
use Rattle.oct_session.specs.Commands.{Saving, order_reply, order_action}
use Rattle.oct_session.specs.FileCommands.{found_in, load_reply, load_action, reading_reply}
use Rattle.oct_session.specs.FileCommands.{reading_action, restore_reply, restore_action}
use Rattle.oct_session.specs.FileCommands.{snapshot_reply, snapshot_action}
use Rattle.oct_session.specs.History.{History, State, Action, Edited, Scanned, Refreshed, Cleared}
use Rattle.oct_session.specs.History.{Likened, Replaced, Restored, Tracked, Untracked, Pruned}
use Rattle.oct_session.specs.History.{Boxed, Limited, Unlimited}
use Rattle.oct_session.specs.History.{after, state_after}
use Rattle.oct_session.specs.Refusals.{refusal_of}
use Rattle.oct_session.specs.ScanBlock.{block_reply, block_action}
use Rattle.oct_session.specs.ScanSoFar.{ScanSoFar, sighting_so_far}
use Rattle.oct_session.specs.Session.{Progress, Effect, effect, effect_of, replied, progress}
use Rattle.oct_session.specs.Session.{answered, after_line}
use Rattle.oct_session.specs.Setup.{Setup}
use Rattle.oct_session.specs.declared.kinds.Order.{Order}
use Rattle.oct_session.specs.declared.kinds.Order.TheVariants as order
use Rattle.oct_session.specs.declared.scan_block.ScanBlock.TheVariants.{Scanning}
use Rattle.oct_session.proofs.Loading.{load_some}
use Rattle.oct_session.proofs.MapHistory.{state_more}
use Rattle.oct_session.proofs.NonemptyReplies.{edit_some, box_some, limit_some, block_some}
use Rattle.oct_session.proofs.Progresses.{progress_push, after_answered}
use Rattle.oct_session.proofs.Restoring.{restore_some}
use Rattle.oct_promise.specs.Called.{IsCalled, IsOwn, AddsOwn}
use Rattle.oct_promise.specs.Lines.{state_behind}
use Rattle.oct_promise.specs.Marks.{IsAccepted, IsLazyLine, IsNewMap, IsMend, IsTrack, EndsMark}
use Rattle.oct_promise.proofs.EditsDone.{IsOrder}
use Rattle.oct_promise.proofs.GivenBack.{effect_next}
use Rattle.oct_promise.proofs.OwnActions.{line_own}
use Rattle.oct_promise.proofs.ScansDone.{closes}
use Rattle.oct_promise.proofs.Telling.{IsNext}

-- ---- actions

-- a lazy edit or a lazy scan
abbrev pub IsLazyAction : Action → Type 0
IsLazyAction (Edited p edit lazy) = lazy ≡ true
IsLazyAction (Scanned scan lazy) = lazy ≡ true
IsLazyAction _ = ⊥

-- what brings inner values up to date
abbrev pub IsMendAction : Action → Type 0
IsMendAction Refreshed = ⊤
IsMendAction Likened = ⊤
IsMendAction Cleared = ⊤
IsMendAction (Replaced classes) = ⊤
IsMendAction (Restored snapshot) = ⊤
IsMendAction _ = ⊥

-- what ends a mark
abbrev pub EndsMarkAction : Action → Type 0
EndsMarkAction Tracked = ⊤
EndsMarkAction Untracked = ⊤
EndsMarkAction Cleared = ⊤
EndsMarkAction (Replaced classes) = ⊤
EndsMarkAction (Restored snapshot) = ⊤
EndsMarkAction _ = ⊥

abbrev is_track : Action → Bool
is_track Tracked = true
is_track _ = false

apart : (a : Action) → a ≡ Tracked → is_track a ≡ false → ⊥
apart a is never = false≢true (sym never ∙ ap is_track is)

-- ---- histories that grow

abbrev rest_of : History → History
rest_of [] = []
rest_of (a ∷ h) = h

abbrev first_of : Action → History → Action
first_of a [] = a
first_of a (b ∷ h) = b

grows_none : (h : History) (a : Action) → h ++ a ∷ [] ≡ h → ⊥
grows_none [] a e = cc
grows_none (b ∷ h) a e = grows_none h a (ap rest_of e)

grows_one : (h : History) (a b : Action) → h ++ a ∷ [] ≡ h ++ b ∷ [] → a ≡ b
grows_one [] a b e = ap (first_of a) e
grows_one (c ∷ h) a b e = grows_one h a b (ap rest_of e)

-- ---- what is accepted

accepted_adds : {e : Effect} (told : Option Reply) (actions : History) (saving : Option Saving)
    → e ≡ replied told actions saving → is_refusal e.reply ≡ false → e.added ≡ actions
accepted_adds told actions saving is fine =
    ap (λ (x : Effect). x.added) is
    ∙ ap (λ b. cond {A = History} b [] actions)
    (ap (λ (x : Effect). is_refusal x.reply) (sym is) ∙ fine)

refused_apart : (r : Option Refusal) → IsSome (option_map reply_of.Refused r)
    → is_refusal (option_map reply_of.Refused r) ≡ false → ⊥
refused_apart None some fine = cc
refused_apart (Some r) some fine = false≢true (sym fine)

-- a load that is accepted takes in the classes of a file
reading_takes : (g : Ground) (read : Result FileRead BtFault) → IsSome (reading_reply g read)
    → is_refusal (reading_reply g read) ≡ false
    → (classes : Classes) × (reading_action read ≡ Replaced classes ∷ [])
reading_takes g (Ok file) some fine = (data_classes file.codes, refl)
reading_takes g (Err fault) some fine = absurd (refused_apart (file_refusal fault) some fine)

load_takes : (g : Ground) (found : Option Loaded) → IsSome (load_reply g found)
    → is_refusal (load_reply g found) ≡ false
    → (classes : Classes) × (load_action found ≡ Replaced classes ∷ [])
load_takes g None some fine = absurd cc
load_takes g (Some Missing) some fine = absurd (false≢true (sym fine))
load_takes g (Some TooLarge) some fine = absurd (false≢true (sym fine))
load_takes g (Some (Bytes bytes)) some fine = reading_takes g (reading bytes) some fine

-- and a restore a snapshot
snapshot_takes : (g : Ground) (read : Result Snapshot SnapFault) → IsSome (snapshot_reply g read)
    → is_refusal (snapshot_reply g read) ≡ false
    → (q : Snapshot) × (snapshot_action read ≡ Restored q ∷ [])
snapshot_takes g (Ok q) some fine = (q, refl)
snapshot_takes g (Err fault) some fine =
    absurd (refused_apart (refusal_of (snap_fault fault)) some fine)

restore_takes : (g : Ground) (found : Option Loaded) → IsSome (restore_reply g found)
    → is_refusal (restore_reply g found) ≡ false
    → (q : Snapshot) × (restore_action g found ≡ Restored q ∷ [])
restore_takes g None some fine = absurd cc
restore_takes g (Some Missing) some fine = absurd (false≢true (sym fine))
restore_takes g (Some TooLarge) some fine = absurd (false≢true (sym fine))
restore_takes g (Some (Bytes bytes)) some fine =
    snapshot_takes g (read_snapshot g.odds bytes) some fine

-- ---- a command outside a block has a reply, or adds nothing

abbrev HasReply : Effect → Type 0
HasReply e = IsSome e.reply ⊎ (e.added ≡ [])

module _ (s : State) (number : ℕ) (line : Line) where
  loads_told : (files : Option Files) (name : List ℕ)
      → HasReply (effect files s number line (Ok (command.Load name)) None)
  loads_told None name = inr refl
  loads_told (Some files) name = inl (load_some s.base (loaded_of (files name)))

  restores_told : (files : Option Files) (name : List ℕ)
      → HasReply (effect files s number line (Ok (command.Restore name)) None)
  restores_told None name = inr refl
  restores_told (Some files) name = inl (restore_some s.base (loaded_of (files name)))

  called_told : (files : Option Files) (c : Command) (a : Action) → IsCalled c a
      → HasReply (effect files s number line (Ok c) None)
  called_told files (command.Edit p edit lazy) a called = inl (edit_some s.base s.values p)
  called_told files (command.Box lo hi edit) a called = inl (box_some s.base _ s.values lo hi)
  called_told files (command.Limit lo hi) a called = inl (limit_some s.base lo hi)
  called_told files command.NoLimit a called = inl refl
  called_told files command.Refresh a called = inl refl
  called_told files command.Prune a called = inl refl
  called_told files command.Counts a called = inl refl
  called_told files command.Clear a called = inl refl
  called_told files command.MaxLik a called = inl refl
  called_told files command.Track a called = inl refl
  called_told files command.Untrack a called = inl refl
  called_told files (command.Load name) a called = loads_told files name
  called_told files (command.Restore name) a called = restores_told files name
  called_told files other a called = absurd called

-- ---- a line

module _ (o : Setup) (files : Option Files) (before : List Line) (line : Line) where
  -- the line adds this action to the history
  abbrev pub Adds : Action → Type 0
  Adds a = (progress o files (before ++ line ∷ [])).history
      ≡ (progress o files before).history ++ a ∷ []

  -- it adds one such action
  abbrev pub AddsSuch : (Action → Type 0) → Type 0
  AddsSuch IsSuch = (a : Action) × IsSuch a × Adds a

  -- it adds nothing
  abbrev pub AddsNone : Type 0
  AddsNone = (progress o files (before ++ line ∷ [])).history ≡ (progress o files before).history

  -- the state behind it
  pub state_added : (a : Action) → Adds a
      → state_behind o files (before ++ line ∷ []) ≡ after (state_behind o files before) a
  state_added a adds = ap (state_after o) adds
      ∙ state_more o (progress o files before).history (a ∷ [])

  pub state_kept : AddsNone
      → state_behind o files (before ++ line ∷ []) ≡ state_behind o files before
  state_kept none = ap (state_after o) none

  -- a line that adds an action adds no other one, and not nothing
  pub adds_same : (a b : Action) → Adds a → Adds b → a ≡ b
  adds_same a b adds more =
      grows_one (progress o files before).history a b (sym adds ∙ more)

  pub adds_some : (a : Action) → Adds a → AddsNone → ⊥
  adds_some a adds none = grows_none (progress o files before).history a (sym adds ∙ none)

  -- ---- what a line adds that is accepted

  next : (c : Command) → IsAccepted o files before line None c
      → IsNext (progress o files before) line c
  next c it = record { running = it.running; outside = it.inside; reads = it.reads }

  grown : (told : Option Reply) (actions : History) (saving : Option Saving) (a : Action)
      → (progress o files before).has_quit ≡ false
      → is_refusal (effect_of o (progress o files before) line).reply ≡ false
      → effect_of o (progress o files before) line ≡ replied told actions saving
      → actions ≡ a ∷ [] → Adds a
  grown told actions saving a running fine is one =
      ap (λ (x : Progress). x.history) (progress_push o files before line
      ∙ after_answered o (progress o files before) line running)
      ∙ ap (λ (h : History). (progress o files before).history ++ h)
      (accepted_adds told actions saving is fine ∙ one)

  order_adds : (c : Command) (d : Order) → IsOrder c d → IsAccepted o files before line None c
      → Adds (order_action d)
  order_adds c d orders it =
      let p : Progress = progress o files before in
      grown (order_reply (state_after o p.history) d) (order_action d ∷ []) None (order_action d)
      it.running it.fine
      (effect_next o p line c (next c it)
      ∙ orders p.files (state_after o p.history) (p.line_count + 1) line) refl

  load_adds : (name : List ℕ) → IsAccepted o files before line None (command.Load name)
      → (classes : Classes) × Adds (Replaced classes)
  load_adds name it =
      let p : Progress = progress o files before in
      let s : State = state_after o p.history in
      let is = effect_next o p line (command.Load name) (next (command.Load name) it) in
      let takes = load_takes s.base (found_in p.files name)
      (subst (λ (e : Effect). IsSome e.reply) is it.replied)
      (ap (λ (e : Effect). is_refusal e.reply) (sym is) ∙ it.fine) in (
        takes.0,
        grown (load_reply s.base (found_in p.files name)) (load_action (found_in p.files name)) None
            (Replaced takes.0) it.running it.fine is takes.1,
      )

  restore_adds : (name : List ℕ) → IsAccepted o files before line None (command.Restore name)
      → (q : Snapshot) × Adds (Restored q)
  restore_adds name it =
      let p : Progress = progress o files before in
      let s : State = state_after o p.history in
      let is = effect_next o p line (command.Restore name) (next (command.Restore name) it) in
      let takes = restore_takes s.base (found_in p.files name)
      (subst (λ (e : Effect). IsSome e.reply) is it.replied)
      (ap (λ (e : Effect). is_refusal e.reply) (sym is) ∙ it.fine) in (
        takes.0,
        grown (restore_reply s.base (found_in p.files name))
            (restore_action s.base (found_in p.files name)) None (Restored takes.0) it.running
            it.fine is takes.1,
      )

  new_adds : IsNewMap o files before line → AddsSuch (λ a. IsMendAction a × EndsMarkAction a)
  new_adds (inl it) = (
    Cleared,
    (tt, tt),
    order_adds command.Clear order.Clear (λ files s number line. refl) it,
  )
  new_adds (inr (inl (name, it))) =
      (let adds = load_adds name it in (Replaced adds.0, (tt, tt), adds.1))
  new_adds (inr (inr (name, it))) =
      (let adds = restore_adds name it in (Restored adds.0, (tt, tt), adds.1))

  pub lazy_adds : IsLazyLine o files before line → AddsSuch IsLazyAction
  lazy_adds (inl (p, edit, it)) = (
    Edited p edit true,
    refl,
    order_adds (command.Edit p edit true) (order.Edit p edit true) (λ files s number line. refl) it,
  )
  lazy_adds (inr (scan, lazy, it)) = (
    Scanned (sighting_so_far scan) scan.head.lazy,
    lazy,
    grown (block_reply (state_behind o files before) (Scanning scan))
        (block_action (Scanning scan)) None (Scanned (sighting_so_far scan) scan.head.lazy)
        it.running it.fine (closes o (progress o files before) line scan it.inside it.reads) refl,
  )

  pub mend_adds : IsMend o files before line → AddsSuch IsMendAction
  mend_adds (inl it) = (
    Refreshed,
    tt,
    order_adds command.Refresh order.Refresh (λ files s number line. refl) it,
  )
  mend_adds (inr (inl it)) = (
    Likened,
    tt,
    order_adds command.MaxLik order.MaxLik (λ files s number line. refl) it,
  )
  mend_adds (inr (inr it)) = (let (a, such, adds) = new_adds it in (a, such.0, adds))

  pub track_adds : IsTrack o files before line → Adds Tracked
  track_adds it = order_adds command.Track order.Track (λ files s number line. refl) it

  pub end_adds : EndsMark o files before line → AddsSuch EndsMarkAction
  end_adds (inl it) = (Tracked, tt, track_adds it)
  end_adds (inr (inl it)) = (
    Untracked,
    tt,
    order_adds command.Untrack order.Untrack (λ files s number line. refl) it,
  )
  end_adds (inr (inr it)) = (let (a, such, adds) = new_adds it in (a, such.1, adds))

  -- ---- which line an action is

  -- the line is the command of the action, or the end of the block of its scan
  abbrev pub Makes : Action → Type 0
  Makes a = ((c : Command) × IsAccepted o files before line None c × IsCalled c a)
      ⊎ ((scan : ScanSoFar) × IsAccepted o files before line (Some (Scanning scan)) command.End
      × (a ≡ Scanned (sighting_so_far scan) scan.head.lazy))

  -- a session that has quit adds nothing
  goes_on : (a : Action) (b : Bool) → (progress o files before).has_quit ≡ b
      → (after_line o (progress o files before) line).history
      ≡ (progress o files before).history ++ a ∷ []
      → (progress o files before).has_quit ≡ false
  goes_on a true is grows =
      absurd (grows_none (progress o files before).history a (sym grows
      ∙ ap (λ b. (cond {A = Progress} b (progress o files before)
      (answered o (progress o files before) line)).history) is))
  goes_on a false is grows = is

  -- and so does a line without an effect
  not_nothing : (a : Action) → (progress o files before).has_quit ≡ false
      → (after_line o (progress o files before) line).history
      ≡ (progress o files before).history ++ a ∷ []
      → (effect_of o (progress o files before) line).added ≡ [] → ⊥
  not_nothing a running grows none =
      grows_none (progress o files before).history a (sym grows
      ∙ ap (λ (x : Progress). x.history) (after_answered o (progress o files before) line running)
      ∙ ap (λ (h : History). (progress o files before).history ++ h) none
      ∙ append-nil (progress o files before).history)

  makes : (a : Action) → (progress o files before).has_quit ≡ false
      → (after_line o (progress o files before) line).history
      ≡ (progress o files before).history ++ a ∷ []
      → is_refusal (effect_of o (progress o files before) line).reply ≡ false
      → IsOwn (progress o files before) line a → Makes a
  makes a running grows fine (inl (c, outside, reads, called)) =
      by_reply (called_told (state_after o p.history) (p.line_count + 1) line p.files c a called)
    where
      p : Progress
      p = progress o files before

      does : effect_of o p line
          ≡ effect p.files (state_after o p.history) (p.line_count + 1) line (Ok c) None
      does = effect_next o p line c (record { running = running; outside = outside; reads = reads })

      by_reply : HasReply (effect p.files (state_after o p.history) (p.line_count + 1) line (Ok c)
          None) → Makes a
      by_reply (inl some) = inl (
        c,
        record {
          running = running;
          inside = outside;
          reads = reads;
          replied = subst (λ (e : Effect). IsSome e.reply) (sym does) some;
          fine = fine;
        },
        called,
      )
      by_reply (inr none) = absurd (not_nothing a running grows
          (ap (λ (e : Effect). e.added) does ∙ none))
  makes a running grows fine (inr (scan, inside, reads, is)) = inr (
    scan,
    record {
      running = running;
      inside = inside;
      reads = reads;
      replied = subst (λ (e : Effect). IsSome e.reply)
          (sym (closes o (progress o files before) line scan inside reads))
          (block_some (state_behind o files before) scan);
      fine = fine;
    },
    is,
  )

  pub adds_or_not : AddsNone ⊎ AddsSuch Makes
  adds_or_not = by_own (line_own o (progress o files before) line)
    where
      by_own : AddsOwn o (progress o files before) line → AddsNone ⊎ AddsSuch Makes
      by_own (inl none) =
          inl (ap (λ (x : Progress). x.history) (progress_push o files before line) ∙ none)
      by_own (inr (a, own, fine, grows)) = inr (
        a,
        makes a (goes_on a (progress o files before).has_quit refl grows) grows fine own,
        ap (λ (x : Progress). x.history) (progress_push o files before line) ∙ grows,
      )

  -- a lazy action is a lazy line
  pub lazy_line : (a : Action) → Makes a → IsLazyAction a → IsLazyLine o files before line
  lazy_line a (inl (command.Edit p edit lazy, it, is)) such = inl (
    p,
    edit,
    subst (λ b. IsAccepted o files before line None (command.Edit p edit b))
        (subst IsLazyAction is such) it,
  )
  lazy_line a (inl (command.Box lo hi edit, it, is)) such = absurd (subst IsLazyAction is such)
  lazy_line a (inl (command.Limit lo hi, it, is)) such = absurd (subst IsLazyAction is such)
  lazy_line a (inl (command.NoLimit, it, is)) such = absurd (subst IsLazyAction is such)
  lazy_line a (inl (command.Refresh, it, is)) such = absurd (subst IsLazyAction is such)
  lazy_line a (inl (command.Prune, it, is)) such = absurd (subst IsLazyAction is such)
  lazy_line a (inl (command.Counts, it, is)) such = absurd (subst IsLazyAction is such)
  lazy_line a (inl (command.Clear, it, is)) such = absurd (subst IsLazyAction is such)
  lazy_line a (inl (command.MaxLik, it, is)) such = absurd (subst IsLazyAction is such)
  lazy_line a (inl (command.Track, it, is)) such = absurd (subst IsLazyAction is such)
  lazy_line a (inl (command.Untrack, it, is)) such = absurd (subst IsLazyAction is such)
  lazy_line a (inl (command.Load name, it, is)) such = absurd (subst IsLazyAction is.1 such)
  lazy_line a (inl (command.Restore name, it, is)) such = absurd (subst IsLazyAction is.1 such)
  lazy_line a (inl (other, it, is)) such = absurd is
  lazy_line a (inr (scan, it, is)) such = inr (scan, subst IsLazyAction is such, it)

  -- what mends is a line that does
  pub mend_line : (a : Action) → Makes a → IsMendAction a → IsMend o files before line
  mend_line a (inl (command.Refresh, it, is)) such = inl it
  mend_line a (inl (command.MaxLik, it, is)) such = inr (inl it)
  mend_line a (inl (command.Clear, it, is)) such = inr (inr (inl it))
  mend_line a (inl (command.Load name, it, is)) such = inr (inr (inr (inl (name, it))))
  mend_line a (inl (command.Restore name, it, is)) such = inr (inr (inr (inr (name, it))))
  mend_line a (inl (command.Edit p edit lazy, it, is)) such = absurd (subst IsMendAction is such)
  mend_line a (inl (command.Box lo hi edit, it, is)) such = absurd (subst IsMendAction is such)
  mend_line a (inl (command.Limit lo hi, it, is)) such = absurd (subst IsMendAction is such)
  mend_line a (inl (command.NoLimit, it, is)) such = absurd (subst IsMendAction is such)
  mend_line a (inl (command.Prune, it, is)) such = absurd (subst IsMendAction is such)
  mend_line a (inl (command.Counts, it, is)) such = absurd (subst IsMendAction is such)
  mend_line a (inl (command.Track, it, is)) such = absurd (subst IsMendAction is such)
  mend_line a (inl (command.Untrack, it, is)) such = absurd (subst IsMendAction is such)
  mend_line a (inl (other, it, is)) such = absurd is
  mend_line a (inr (scan, it, is)) such = absurd (subst IsMendAction is such)

  -- what ends a mark too
  pub end_line : (a : Action) → Makes a → EndsMarkAction a → EndsMark o files before line
  end_line a (inl (command.Track, it, is)) such = inl it
  end_line a (inl (command.Untrack, it, is)) such = inr (inl it)
  end_line a (inl (command.Clear, it, is)) such = inr (inr (inl it))
  end_line a (inl (command.Load name, it, is)) such = inr (inr (inr (inl (name, it))))
  end_line a (inl (command.Restore name, it, is)) such = inr (inr (inr (inr (name, it))))
  end_line a (inl (command.Edit p edit lazy, it, is)) such = absurd (subst EndsMarkAction is such)
  end_line a (inl (command.Box lo hi edit, it, is)) such = absurd (subst EndsMarkAction is such)
  end_line a (inl (command.Limit lo hi, it, is)) such = absurd (subst EndsMarkAction is such)
  end_line a (inl (command.NoLimit, it, is)) such = absurd (subst EndsMarkAction is such)
  end_line a (inl (command.Refresh, it, is)) such = absurd (subst EndsMarkAction is such)
  end_line a (inl (command.Prune, it, is)) such = absurd (subst EndsMarkAction is such)
  end_line a (inl (command.Counts, it, is)) such = absurd (subst EndsMarkAction is such)
  end_line a (inl (command.MaxLik, it, is)) such = absurd (subst EndsMarkAction is such)
  end_line a (inl (other, it, is)) such = absurd is
  end_line a (inr (scan, it, is)) such = absurd (subst EndsMarkAction is such)

  -- and what sets one
  pub track_line : (a : Action) → Makes a → a ≡ Tracked → IsTrack o files before line
  track_line a (inl (command.Track, it, is)) such = it
  track_line a (inl (command.Untrack, it, is)) such = absurd (apart Untracked (sym is ∙ such) refl)
  track_line a (inl (command.Clear, it, is)) such = absurd (apart Cleared (sym is ∙ such) refl)
  track_line a (inl (command.Load name, it, is)) such =
      absurd (apart (Replaced is.0) (sym is.1 ∙ such) refl)
  track_line a (inl (command.Restore name, it, is)) such =
      absurd (apart (Restored is.0) (sym is.1 ∙ such) refl)
  track_line a (inl (command.Edit p edit lazy, it, is)) such =
      absurd (apart (Edited p edit lazy) (sym is ∙ such) refl)
  track_line a (inl (command.Box lo hi edit, it, is)) such =
      absurd (apart (Boxed lo hi edit) (sym is ∙ such) refl)
  track_line a (inl (command.Limit lo hi, it, is)) such =
      absurd (apart (Limited lo hi) (sym is ∙ such) refl)
  track_line a (inl (command.NoLimit, it, is)) such = absurd (apart Unlimited (sym is ∙ such) refl)
  track_line a (inl (command.Refresh, it, is)) such = absurd (apart Refreshed (sym is ∙ such) refl)
  track_line a (inl (command.Prune, it, is)) such = absurd (apart Pruned (sym is ∙ such) refl)
  track_line a (inl (command.Counts, it, is)) such = absurd (apart Pruned (sym is ∙ such) refl)
  track_line a (inl (command.MaxLik, it, is)) such = absurd (apart Likened (sym is ∙ such) refl)
  track_line a (inl (other, it, is)) such = absurd is
  track_line a (inr (scan, it, is)) such =
      absurd (apart (Scanned (sighting_so_far scan) scan.head.lazy) (sym is ∙ such) refl)
