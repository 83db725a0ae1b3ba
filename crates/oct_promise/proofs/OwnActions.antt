-- Each line adds nothing to the history, or the action of its command.
use Rattle.std.proofs.Common.{◌≡◌, ℕ, ◌+◌, [], ◌∷◌, ◌++◌, Option, Some, None, Result, Ok, Err}
use Rattle.std.proofs.Common.{Bool, true, false, cond, ◌⊎◌, inl, inr, refl, ap, ◌∙◌, append-nil}
use Rattle.oct_bt.specs.DataClasses.{data_classes}
use Rattle.oct_bt.specs.File.{FileRead, reading}
use Rattle.oct_bt.specs.declared.fault.BtFault.{BtFault}
use Rattle.oct_io.specs.Files.{Files}
use Rattle.oct_io.specs.declared.store.Loaded.{Loaded}
use Rattle.oct_io.specs.declared.store.Loaded.TheVariants.{Bytes, Missing, TooLarge}
use Rattle.oct_map.specs.Ground.{Ground}
use Rattle.oct_script.specs.Lines.{Line}
use Rattle.oct_script.specs.Replies.{is_refusal}
use Rattle.oct_script.specs.declared.command.Command.{Command}
use Rattle.oct_script.specs.declared.command.Command.TheVariants as command
use Rattle.oct_script.specs.declared.reply.Refusal.{Refusal}
use Rattle.oct_script.specs.declared.reply.Reply.{Reply}
use Rattle.oct_snap.specs.Reading.{Snapshot, read_snapshot}
use Rattle.oct_snap.specs.declared.fault.SnapFault.{SnapFault}
use Rattle.oct_values.specs.Classes.{Classes}
use Rattle.oct_session.specs.Commands.{Saving, order_reply, order_action}
use Rattle.oct_session.specs.Commands.{reply as reply_to}
use Rattle.oct_session.specs.FileCommands.{found_in, load_reply, load_action, reading_action}
use Rattle.oct_session.specs.FileCommands.{restore_reply, restore_action, snapshot_action}
use Rattle.oct_session.specs.History.{History, State, Action, Scanned, Pruned, Replaced, Restored}
use Rattle.oct_session.specs.History.{state_after}
use Rattle.oct_session.specs.ScanBlock.{opened, opens_block, with_line, block_reply, block_action}
use Rattle.oct_session.specs.ScanSoFar.{ScanSoFar, sighting_so_far}
use Rattle.oct_session.specs.Session.{Progress, Effect, effect, effect_of, effect_opened}
use Rattle.oct_session.specs.Session.{effect_of_command, unless_opened, replied, silent, answered}
use Rattle.oct_session.specs.Session.{next_command, after_line}
use Rattle.oct_session.specs.Setup.{Setup}
use Rattle.oct_session.specs.declared.kinds.Order.{Order}
use Rattle.oct_session.specs.declared.kinds.Order.TheVariants as order
use Rattle.oct_session.specs.declared.scan_block.ScanBlock.{ScanBlock}
use Rattle.oct_session.specs.declared.scan_block.ScanBlock.TheVariants.{Scanning, Spoilt}
use Rattle.oct_session.proofs.Progresses.{after_answered}
use Rattle.oct_promise.specs.Called.{IsCalled, IsOwn, AddsOwn}

-- ---- each line

-- what is done adds nothing, or one such action, and then it isn't refused
abbrev DoesOwn : Effect → (Action → Type 0) → Type 0
DoesOwn e IsSuch = (e.added ≡ [])
    ⊎ ((a : Action) × IsSuch a × (is_refusal e.reply ≡ false) × (e.added ≡ a ∷ []))

-- where nothing or one such action is to be done
abbrev AtMostOne : History → (Action → Type 0) → Type 0
AtMostOne actions IsSuch = (actions ≡ []) ⊎ ((a : Action) × IsSuch a × (actions ≡ a ∷ []))

replied_own : (r : Option Reply) (actions : History) (saving : Option Saving)
    (IsSuch : Action → Type 0) → AtMostOne actions IsSuch
    → DoesOwn (replied r actions saving) IsSuch
replied_own r actions saving IsSuch most = by_refusal (is_refusal r) refl most
  where
    by_refusal : (b : Bool) → is_refusal r ≡ b → AtMostOne actions IsSuch
        → (cond {A = History} b [] actions ≡ [])
        ⊎ ((a : Action) × IsSuch a × (is_refusal r ≡ false)
        × (cond {A = History} b [] actions ≡ a ∷ []))
    by_refusal true is most = inl refl
    by_refusal false is (inl none) = inl none
    by_refusal false is (inr (a, such, one)) = inr (a, such, is, one)

read_own : (read : Result FileRead BtFault)
    → AtMostOne (reading_action read) (λ a. (classes : Classes) × (a ≡ Replaced classes))
read_own (Err fault) = inl refl
read_own (Ok file) =
    inr (Replaced (data_classes file.codes), (data_classes file.codes, refl), refl)

load_own : (found : Option Loaded)
    → AtMostOne (load_action found) (λ a. (classes : Classes) × (a ≡ Replaced classes))
load_own None = inl refl
load_own (Some Missing) = inl refl
load_own (Some TooLarge) = inl refl
load_own (Some (Bytes bytes)) = read_own (reading bytes)

snapshot_own : (read : Result Snapshot SnapFault)
    → AtMostOne (snapshot_action read) (λ a. (q : Snapshot) × (a ≡ Restored q))
snapshot_own (Err fault) = inl refl
snapshot_own (Ok q) = inr (Restored q, (q, refl), refl)

restore_own : (g : Ground) (found : Option Loaded)
    → AtMostOne (restore_action g found) (λ a. (q : Snapshot) × (a ≡ Restored q))
restore_own g None = inl refl
restore_own g (Some Missing) = inl refl
restore_own g (Some TooLarge) = inl refl
restore_own g (Some (Bytes bytes)) = snapshot_own (read_snapshot g.odds bytes)

module _ (files : Option Files) (s : State) (number : ℕ) (line : Line) where
  order_own : (d : Order) (IsSuch : Action → Type 0) → IsSuch (order_action d)
      → DoesOwn (replied (order_reply s d) (order_action d ∷ []) None) IsSuch
  order_own d IsSuch such = replied_own (order_reply s d) (order_action d ∷ []) None IsSuch
      (inr (order_action d, such, refl))

  command_own : (c : Command)
      → DoesOwn (effect_opened files s (Ok c) (opened number line (Ok c))) (IsCalled c)
  command_own (command.Edit p e lazy) =
      order_own (order.Edit p e lazy) (IsCalled (command.Edit p e lazy)) refl
  command_own (command.Box lo hi e) =
      order_own (order.Box lo hi e) (IsCalled (command.Box lo hi e)) refl
  command_own (command.Limit lo hi) =
      order_own (order.Limit lo hi) (IsCalled (command.Limit lo hi)) refl
  command_own command.NoLimit = order_own order.NoLimit (IsCalled command.NoLimit) refl
  command_own command.Refresh = order_own order.Refresh (IsCalled command.Refresh) refl
  command_own command.Prune = order_own order.Prune (IsCalled command.Prune) refl
  command_own command.Clear = order_own order.Clear (IsCalled command.Clear) refl
  command_own command.MaxLik = order_own order.MaxLik (IsCalled command.MaxLik) refl
  command_own command.Track = order_own order.Track (IsCalled command.Track) refl
  command_own command.Untrack = order_own order.Untrack (IsCalled command.Untrack) refl
  command_own command.Counts = inr (Pruned, refl, refl, refl)
  command_own (command.Load name) =
      replied_own (load_reply s.base (found_in files name)) (load_action (found_in files name))
      None (IsCalled (command.Load name)) (load_own (found_in files name))
  command_own (command.Restore name) =
      replied_own (restore_reply s.base (found_in files name))
      (restore_action s.base (found_in files name)) None (IsCalled (command.Restore name))
      (restore_own s.base (found_in files name))
  command_own (command.Get p depth) =
      replied_own (reply_to files s (Ok (command.Get p depth))) [] None
      (IsCalled (command.Get p depth)) (inl refl)
  command_own (command.List lo hi depth) =
      replied_own (reply_to files s (Ok (command.List lo hi depth))) [] None
      (IsCalled (command.List lo hi depth)) (inl refl)
  command_own (command.Cast from to ignore) =
      replied_own (reply_to files s (Ok (command.Cast from to ignore))) [] None
      (IsCalled (command.Cast from to ignore)) (inl refl)
  command_own command.Changes =
      replied_own (reply_to files s (Ok command.Changes)) [] None (IsCalled command.Changes)
      (inl refl)
  command_own other = inl refl

  -- a line that isn't in the grammar adds nothing
  fault_own : (r : Refusal) (b : Bool) → (unless_opened (effect_of_command files s (Err r))
      (cond {A = Option ScanBlock} b (Some (Spoilt r)) None)).added ≡ []
  fault_own r true = refl
  fault_own r false = refl

  block_own : (block : ScanBlock) → AtMostOne (block_action block)
      (λ a. (scan : ScanSoFar) × (block ≡ Scanning scan)
      × (a ≡ Scanned (sighting_so_far scan) scan.head.lazy))
  block_own (Spoilt r) = inl refl
  block_own (Scanning scan) =
      inr (Scanned (sighting_so_far scan) scan.head.lazy, (scan, refl, refl), refl)

-- what a line adds to the history
grown_own : (o : Setup) (p : Progress) (line : Line) (e : Effect) → p.has_quit ≡ false
    → effect_of o p line ≡ e → (after_line o p line).history ≡ p.history ++ e.added
grown_own o p line e running is =
    ap (λ (x : Progress). x.history) (after_answered o p line running)
    ∙ ap (λ (x : Effect). p.history ++ x.added) is

-- in words
pub line_own : (o : Setup) (p : Progress) (line : Line) → AddsOwn o p line
line_own o p line = by_quit p.has_quit refl
  where
    stays : (e : Effect) → p.has_quit ≡ false → effect_of o p line ≡ e → e.added ≡ []
        → AddsOwn o p line
    stays e running is none = inl (grown_own o p line e running is
        ∙ ap (λ (h : History). p.history ++ h) none ∙ append-nil p.history)

    adds : (e : Effect) (IsSuch : Action → Type 0) → p.has_quit ≡ false → effect_of o p line ≡ e
        → ((a : Action) → IsSuch a → IsOwn p line a) → DoesOwn e IsSuch → AddsOwn o p line
    adds e IsSuch running is own (inl none) = stays e running is none
    adds e IsSuch running is own (inr (a, such, fine, one)) = inr (
      a,
      own a such,
      ap (λ (x : Effect). is_refusal x.reply) is ∙ fine,
      grown_own o p line e running is ∙ ap (λ (h : History). p.history ++ h) one,
    )

    s : State
    s = state_after o p.history

    effect_is : (b : Option ScanBlock) (c : Result Command Refusal) → p.block ≡ b
        → next_command p line ≡ c
        → effect_of o p line ≡ effect p.files s (p.line_count + 1) line c b
    effect_is b c block reads =
        ap (λ (x : Option ScanBlock). effect p.files s (p.line_count + 1) line
        (next_command p line) x) block
        ∙ ap (λ (x : Result Command Refusal). effect p.files s (p.line_count + 1) line x b) reads

    by_end : (block : ScanBlock) (c : Command) → p.has_quit ≡ false → p.block ≡ Some block
        → next_command p line ≡ Ok c → c ≡ command.End → AddsOwn o p line
    by_end block c running open_block reads is_end =
        adds (replied (block_reply s block) (block_action block) None)
        (λ a. (scan : ScanSoFar) × (block ≡ Scanning scan)
        × (a ≡ Scanned (sighting_so_far scan) scan.head.lazy)) running
        (effect_is (Some block) (Ok command.End) open_block (reads ∙ ap Ok is_end))
        (λ a such. inr (
          such.0,
          open_block ∙ ap Some such.1,
          reads ∙ ap Ok is_end,
          such.2,
        ))
        (replied_own (block_reply s block) (block_action block) None
        (λ a. (scan : ScanSoFar) × (block ≡ Scanning scan)
        × (a ≡ Scanned (sighting_so_far scan) scan.head.lazy))
        (block_own p.files s (p.line_count + 1) line block))

    inside : (block : ScanBlock) (c : Result Command Refusal) → p.has_quit ≡ false
        → p.block ≡ Some block → next_command p line ≡ c → AddsOwn o p line
    inside block (Err r) running open_block reads =
        stays (silent (with_line (p.line_count + 1) (Err r) block)) running
        (effect_is (Some block) (Err r) open_block reads) refl
    inside block (Ok command.End) running open_block reads =
        by_end block command.End running open_block reads refl
    inside block (Ok other) running open_block reads =
        stays (silent (with_line (p.line_count + 1) (Ok other) block)) running
        (effect_is (Some block) (Ok other) open_block reads) refl

    outside : (c : Result Command Refusal) → p.has_quit ≡ false → p.block ≡ None
        → next_command p line ≡ c → AddsOwn o p line
    outside (Err r) running none reads =
        stays (effect p.files s (p.line_count + 1) line (Err r) None) running
        (effect_is None (Err r) none reads)
        (fault_own p.files s (p.line_count + 1) line r (opens_block line))
    outside (Ok c) running none reads =
        adds (effect p.files s (p.line_count + 1) line (Ok c) None) (IsCalled c) running
        (effect_is None (Ok c) none reads) (λ a such. inl (c, none, reads, such))
        (command_own p.files s (p.line_count + 1) line c)

    by_block : (b : Option ScanBlock) → p.block ≡ b → p.has_quit ≡ false → AddsOwn o p line
    by_block None block running = outside (next_command p line) running block refl
    by_block (Some b) block running = inside b (next_command p line) running block refl

    by_quit : (q : Bool) → p.has_quit ≡ q → AddsOwn o p line
    by_quit true is =
        inl (ap (λ b. (cond {A = Progress} b p (answered o p line)).history) is)
    by_quit false is = by_block p.block refl is
