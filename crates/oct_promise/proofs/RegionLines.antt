-- What a line leaves of a map within a box, in a session whose scans are limited to it.
use Rattle.std.proofs.Common.{◌≡◌, ℕ, suc, ◌+◌, List, [], ◌∷◌, ◌++◌, Bool, true, false, cond}
use Rattle.std.proofs.Common.{Option}
use Rattle.std.proofs.Common.{Some, None, Result, Ok, Err, refl, sym, ap, subst, ◌∙◌, length, arith}
use Rattle.std.specs.Prelude.{⊤, IfOk, nat_le, is_some}
use Rattle.std.specs.List.{All}
use Rattle.oct_io.specs.Files.{Files}
use Rattle.oct_key.specs.Boxes.{Window}
use Rattle.oct_key.specs.declared.point.Point.{Point}
use Rattle.oct_map.specs.Answers.{scan_answer_by, is_full}
use Rattle.oct_map.specs.Ground.{Ground}
use Rattle.oct_map.specs.Outcome.{need_of, done_of}
use Rattle.oct_map.specs.declared.done.ScanDone as map_done
use Rattle.oct_map.specs.declared.fault.MapFault.{MapFault}
use Rattle.oct_map.specs.declared.fault.MapFault.TheVariants as fault
use Rattle.oct_scan.specs.Beam.{Sighting}
use Rattle.oct_scan.specs.Outcome.{scan_fault}
use Rattle.oct_scan.specs.declared.fault.ScanFault.{ScanFault}
use Rattle.oct_script.specs.Commands.{command_of}
use Rattle.oct_script.specs.Lines.{Line, Text, Long}
use Rattle.oct_script.specs.Replies.{is_refusal}
use Rattle.oct_script.specs.declared.command.Command.{Command}
use Rattle.oct_script.specs.declared.command.Command.TheVariants as command
use Rattle.oct_script.specs.declared.command.ScanHead.{ScanHead}
use Rattle.oct_script.specs.declared.command.Syntax.{Syntax}
use Rattle.oct_script.specs.declared.reply.Refusal.{Refusal}
use Rattle.oct_script.specs.declared.reply.Refusal.TheVariants as refusal
use Rattle.oct_script.specs.declared.reply.Reply.{Reply}
use Rattle.oct_script.specs.declared.reply.Reply.TheVariants as reply_of
use Rattle.oct_values.specs.Counts.{group_count}
use Rattle.oct_session.specs.Commands.{command_on, numbered, accepted, is_quit}
use Rattle.oct_session.specs.Commands.{reply}
use Rattle.oct_session.specs.History.{History, State, Action, Scanned, Refreshed, Pruned, Cleared}
use Rattle.oct_session.specs.History.{Likened, Tracked, Untracked, after, after_all}
use Rattle.oct_session.specs.History.{state_after}
use Rattle.oct_session.specs.ScanBlock.{opens_block, opened, with_line, is_end, block_reply}
use Rattle.oct_session.specs.ScanBlock.{block_action, scan_reply, is_zero, with_point}
use Rattle.oct_session.specs.ScanSoFar.{ScanSoFar, sighting_so_far}
use Rattle.oct_session.specs.Session.{Progress, Effect, effect, effect_of, effect_opened}
use Rattle.oct_session.specs.Session.{replied, silent, next_command, answered}
use Rattle.oct_session.specs.Session.{after_line, after_lines, unless_opened}
use Rattle.oct_session.specs.Session.{effect_of_command}
use Rattle.oct_session.specs.Setup.{Setup}
use Rattle.oct_session.specs.declared.scan_block.ScanBlock.{ScanBlock}
use Rattle.oct_session.specs.declared.scan_block.ScanBlock.TheVariants.{Scanning, Spoilt}
use Rattle.oct_session.proofs.MapHistory.{state_more}
use Rattle.oct_promise.specs.Regions.{IsShared, IsSharedLine, IsNotFull}
use Rattle.oct_promise.specs.Sums.{replies_to, reply_to}
use Rattle.oct_promise.proofs.RegionStates.{IsPart, IsCommon, action_part}

-- ---- what is read

-- the same was read on two lines, or each has a fault
abbrev pub SameRead : Result Command Refusal → Result Command Refusal → Type 0
SameRead (Ok c) (Ok d) = d ≡ c
SameRead (Err r) (Err t) = ⊤
SameRead _ _ = ⊥

numbered_same : (n m : ℕ) (r : Result Command Syntax) → SameRead (numbered n r) (numbered m r)
numbered_same n m (Ok c) = refl
numbered_same n m (Err e) = tt

-- the number of a line is in its faults alone
pub read_same : (inside : Bool) (n m : ℕ) (line : Line)
    → SameRead (command_on inside n line) (command_on inside m line)
read_same inside n m (Text text) = numbered_same n m (command_of inside text)
read_same inside n m Long = tt

quit_same : (c d : Result Command Refusal) → SameRead c d → is_quit d ≡ is_quit c
quit_same (Ok c) (Ok d) same = ap (λ (x : Command). is_quit (Ok x)) same
quit_same (Err r) (Err t) same = refl
quit_same (Ok c) (Err t) same = absurd same
quit_same (Err r) (Ok d) same = absurd same

end_same : (c d : Result Command Refusal) → SameRead c d → is_end d ≡ is_end c
end_same (Ok c) (Ok d) same = ap (λ (x : Command). is_end (Ok x)) same
end_same (Err r) (Err t) same = refl
end_same (Ok c) (Err t) same = absurd same
end_same (Err r) (Ok d) same = absurd same

shared_read : (c d : Result Command Refusal) → SameRead c d → IfOk c IsShared → IfOk d IsShared
shared_read (Ok c) (Ok d) same shared = subst IsShared (sym same) shared
shared_read (Err r) (Err t) same shared = tt
shared_read (Ok c) (Err t) same shared = tt
shared_read (Err r) (Ok d) same shared = absurd same

-- ---- blocks

-- two blocks are the same but for the numbers of their lines
abbrev pub SameBlock : Option ScanBlock → Option ScanBlock → Type 0
SameBlock None None = ⊤
SameBlock (Some (Spoilt r)) (Some (Spoilt t)) = ⊤
SameBlock (Some (Scanning a)) (Some (Scanning b)) = (b.head ≡ a.head) × (b.points ≡ a.points)
SameBlock _ _ = ⊥

some_same : (a b : Option ScanBlock) → SameBlock a b → is_some b ≡ is_some a
some_same None None same = refl
some_same (Some a) (Some b) same = refl
some_same None (Some (Spoilt r)) same = absurd same
some_same None (Some (Scanning b)) same = absurd same
some_same (Some (Spoilt r)) None same = absurd same
some_same (Some (Scanning a)) None same = absurd same

-- a point more
point_same : (n m : ℕ) (p : Point) (a b : ScanSoFar) → b.head ≡ a.head → b.points ≡ a.points
    → SameBlock (Some (with_point n p a)) (Some (with_point m p b))
point_same n m p a b head points =
    subst (λ (x : List Point). SameBlock (Some (with_point n p a))
    (Some (cond {A = ScanBlock} (nat_le 1000000 (length x)) (Spoilt (refusal.TooManyPoints m))
    (Scanning (record { line = b.line; head = b.head; points = x ++ p ∷ [] }))))) (sym points)
    (elim (nat_le 1000000 (length a.points)) as
    (λ v. SameBlock
    (Some (cond {A = ScanBlock} v (Spoilt (refusal.TooManyPoints n))
    (Scanning (record { line = a.line; head = a.head; points = a.points ++ p ∷ [] }))))
    (Some (cond {A = ScanBlock} v (Spoilt (refusal.TooManyPoints m))
    (Scanning (record { line = b.line; head = b.head; points = a.points ++ p ∷ [] })))))
    [ true ↦ tt | false ↦ (head, refl) ])

command_in_same : (n m : ℕ) (c : Command) (a b : ScanSoFar) → b.head ≡ a.head
    → b.points ≡ a.points
    → SameBlock (Some (with_line n (Ok c) (Scanning a))) (Some (with_line m (Ok c) (Scanning b)))
command_in_same n m (command.Beam p) a b head points = point_same n m p a b head points
command_in_same n m command.Blank a b head points = (head, points)
command_in_same n m command.Quit a b head points = (head, points)
command_in_same n m (command.Scan h) a b head points = (head, points)
command_in_same n m command.End a b head points = (head, points)
command_in_same n m (command.Edit p e lazy) a b head points = (head, points)
command_in_same n m (command.Box lo hi e) a b head points = (head, points)
command_in_same n m (command.Limit lo hi) a b head points = (head, points)
command_in_same n m command.NoLimit a b head points = (head, points)
command_in_same n m command.Refresh a b head points = (head, points)
command_in_same n m command.Prune a b head points = (head, points)
command_in_same n m command.Clear a b head points = (head, points)
command_in_same n m command.MaxLik a b head points = (head, points)
command_in_same n m command.Track a b head points = (head, points)
command_in_same n m command.Untrack a b head points = (head, points)
command_in_same n m (command.Get p depth) a b head points = (head, points)
command_in_same n m (command.List lo hi depth) a b head points = (head, points)
command_in_same n m (command.Cast from to ignore) a b head points = (head, points)
command_in_same n m command.Counts a b head points = (head, points)
command_in_same n m command.Changes a b head points = (head, points)
command_in_same n m (command.Save name) a b head points = (head, points)
command_in_same n m (command.Load name) a b head points = (head, points)
command_in_same n m (command.Snapshot name) a b head points = (head, points)
command_in_same n m (command.Restore name) a b head points = (head, points)

-- a line more
line_in_same : (n m : ℕ) (c d : Result Command Refusal) (a b : ScanBlock) → SameRead c d
    → SameBlock (Some a) (Some b)
    → SameBlock (Some (with_line n c a)) (Some (with_line m d b))
line_in_same n m c d (Spoilt r) (Spoilt t) read same = tt
line_in_same n m (Err r) (Err t) (Scanning a) (Scanning b) read same = tt
line_in_same n m (Ok c) (Ok d) (Scanning a) (Scanning b) read same =
    subst (λ (x : Command). SameBlock (Some (with_line n (Ok c) (Scanning a)))
    (Some (with_line m (Ok x) (Scanning b)))) (sym read)
    (command_in_same n m c a b same.0 same.1)
line_in_same n m (Ok c) (Err t) (Scanning a) (Scanning b) read same = absurd read
line_in_same n m (Err r) (Ok d) (Scanning a) (Scanning b) read same = absurd read
line_in_same n m c d (Spoilt r) (Scanning b) read same = absurd same
line_in_same n m c d (Scanning a) (Spoilt t) read same = absurd same

-- ---- what a line does

-- what both lines do leaves the one state a part of the other
pub record DoAlike (box : Window) (s t : State) (e f : Effect) : Type 0 where
  pub state : IsPart box (after_all s e.added) (after_all t f.added)
  pub block : SameBlock e.block f.block

-- a line that does nothing, whatever it answers
nothing_done : (s : State) (r : Option Reply) → after_all s (accepted r []) ≡ s
nothing_done s r = elim (is_refusal r) as
    (λ b. after_all s (cond {A = History} b [] []) ≡ s) [ true ↦ refl | false ↦ refl ]

asked : (box : Window) (s t : State) (r u : Option Reply) → IsPart box s t
    → IsPart box (after_all s (accepted r [])) (after_all t (accepted u []))
asked box s t r u part =
    subst (λ (x : State). IsPart box x (after_all t (accepted u []))) (sym (nothing_done s r))
    (subst (λ (x : State). IsPart box s x) (sym (nothing_done t u)) part)

module _ (box : Window) (files more : Option Files) (s t : State) (n m : ℕ) (line : Line)
    (part : IsPart box s t) where
  -- a command outside a block
  command_alike : (c : Command) → IsShared c
      → DoAlike box s t (effect_opened files s (Ok c) (opened n line (Ok c)))
      (effect_opened more t (Ok c) (opened m line (Ok c)))
  command_alike command.Blank shared = record { state = part; block = tt }
  command_alike command.Quit shared = record { state = part; block = tt }
  command_alike (command.Scan h) shared = record { state = part; block = (refl, refl) }
  command_alike (command.Beam p) shared = record { state = part; block = tt }
  command_alike command.End shared = record { state = part; block = tt }
  command_alike command.Refresh shared =
      record { state = action_part box s t Refreshed tt part; block = tt }
  command_alike command.Prune shared =
      record { state = action_part box s t Pruned tt part; block = tt }
  command_alike command.Clear shared =
      record { state = action_part box s t Cleared tt part; block = tt }
  command_alike command.MaxLik shared =
      record { state = action_part box s t Likened tt part; block = tt }
  command_alike command.Track shared =
      record { state = action_part box s t Tracked tt part; block = tt }
  command_alike command.Untrack shared =
      record { state = action_part box s t Untracked tt part; block = tt }
  command_alike command.Counts shared =
      record { state = action_part box s t Pruned tt part; block = tt }
  command_alike (command.Get p depth) shared = record {
    state = asked box s t (reply files s (Ok (command.Get p depth)))
        (reply more t (Ok (command.Get p depth))) part;
    block = tt;
  }
  command_alike (command.List lo hi depth) shared = record {
    state = asked box s t (reply files s (Ok (command.List lo hi depth)))
        (reply more t (Ok (command.List lo hi depth))) part;
    block = tt;
  }
  command_alike (command.Cast from to ignore) shared = record {
    state = asked box s t (reply files s (Ok (command.Cast from to ignore)))
        (reply more t (Ok (command.Cast from to ignore))) part;
    block = tt;
  }
  command_alike command.Changes shared = record {
    state = asked box s t (reply files s (Ok command.Changes)) (reply more t (Ok command.Changes))
        part;
    block = tt;
  }
  command_alike (command.Save name) shared = record { state = part; block = tt }
  command_alike (command.Snapshot name) shared = record { state = part; block = tt }
  command_alike (command.Edit p e lazy) shared = absurd shared
  command_alike (command.Box lo hi e) shared = absurd shared
  command_alike (command.Limit lo hi) shared = absurd shared
  command_alike command.NoLimit shared = absurd shared
  command_alike (command.Load name) shared = absurd shared
  command_alike (command.Restore name) shared = absurd shared

  -- a line outside a block
  outside_alike : (c d : Result Command Refusal) → SameRead c d → IfOk c IsShared
      → DoAlike box s t (effect_opened files s c (opened n line c))
      (effect_opened more t d (opened m line d))
  outside_alike (Ok c) (Ok d) same shared =
      subst (λ (x : Command). DoAlike box s t (effect_opened files s (Ok c) (opened n line (Ok c)))
      (effect_opened more t (Ok x) (opened m line (Ok x)))) (sym same) (command_alike c shared)
  outside_alike (Err r) (Err u) same shared =
      elim (opens_block line) as (λ b. DoAlike box s t
      (unless_opened (effect_of_command files s (Err r)) (cond {A = Option ScanBlock} b
      (Some (Spoilt r)) None))
      (unless_opened (effect_of_command more t (Err u)) (cond {A = Option ScanBlock} b
      (Some (Spoilt u)) None))) [
        | true ↦ record { state = part; block = tt }
        | false ↦ record { state = part; block = tt }
      ]
  outside_alike (Ok c) (Err u) same shared = absurd same
  outside_alike (Err r) (Ok d) same shared = absurd same

-- ---- the end of a block

-- the reply to the scan of a block, by what the map finds
abbrev pub closed_reply : Bool → Option ScanFault → Bool → ℕ → ℕ → map_done.ScanDone → Option Reply
closed_reply null own full groups need done =
    cond {A = Option Reply} null (Some (reply_of.Refused refusal.ZeroQuaternion))
    (scan_reply (scan_answer_by own
    (cond {A = Result ⊤ MapFault} full (Err (fault.Full groups need)) (Ok tt)) done))

-- where no map is full, both scans are refused or none
refused_alike : (null other : Bool) (own same : Option ScanFault) (full filled : Bool)
    (g n h m : ℕ) (done did : map_done.ScanDone) → other ≡ null → same ≡ own
    → IsNotFull (closed_reply null own full g n done)
    → IsNotFull (closed_reply other same filled h m did)
    → is_refusal (closed_reply other same filled h m did)
    ≡ is_refusal (closed_reply null own full g n done)
refused_alike true true own same full filled g n h m done did e f a b = refl
refused_alike true false own same full filled g n h m done did e f a b = absurd cc
refused_alike false true own same full filled g n h m done did e f a b = absurd cc
refused_alike false false (Some x) (Some y) full filled g n h m done did e f a b =
    ap (λ (own : Option ScanFault). is_refusal (closed_reply false own true 0 0 done)) f
refused_alike false false (Some x) None full filled g n h m done did e f a b = absurd cc
refused_alike false false None (Some y) full filled g n h m done did e f a b = absurd cc
refused_alike false false None None true filled g n h m done did e f a b = absurd (a g n refl)
refused_alike false false None None false true g n h m done did e f a b = absurd (b h m refl)
refused_alike false false None None false false g n h m done did e f a b = refl

-- what a scan of this head saw
abbrev pub sight : ScanHead → List Point → Sighting
sight head points = sighting_so_far (record { line = 0; head = head; points = points })

accepted_alike : (box : Window) (s t : State) (a b : Action) (v w : Bool) → w ≡ v → b ≡ a
    → IsCommon a → IsPart box s t
    → IsPart box (after_all s (cond {A = History} v [] (a ∷ [])))
    (after_all t (cond {A = History} w [] (b ∷ [])))
accepted_alike box s t a b true true e f common part = part
accepted_alike box s t a b true false e f common part = absurd cc
accepted_alike box s t a b false true e f common part = absurd cc
accepted_alike box s t a b false false e f common part =
    subst (λ (x : Action). IsPart box (after s a) (after t x)) (sym f)
    (action_part box s t a common part)

module _ (box : Window) (s t : State) (n m : ℕ) (part : IsPart box s t) where
  -- the scan of a block is done in both, or in none
  scan_alike : (a b : ScanSoFar) → b.head ≡ a.head → b.points ≡ a.points
      → IsNotFull (block_reply s (Scanning a)) → IsNotFull (block_reply t (Scanning b))
      → IsPart box
      (after_all s (accepted (block_reply s (Scanning a)) (block_action (Scanning a))))
      (after_all t (accepted (block_reply t (Scanning b)) (block_action (Scanning b))))
  scan_alike a b head points here there =
      let seen : sighting_so_far b ≡ sighting_so_far a =
      ap (λ (h : ScanHead). sight h b.points) head ∙ ap (sight a.head) points in
      let own : scan_fault t.base.res (sighting_so_far b) t.base.max_cells
      ≡ scan_fault s.base.res (sighting_so_far a) s.base.max_cells =
      ap (λ (g : Ground). scan_fault g.res (sighting_so_far b) g.max_cells) part.base
      ∙ ap (λ (x : Sighting). scan_fault s.base.res x s.base.max_cells) seen in
      let done : Scanned (sighting_so_far b) b.head.lazy
      ≡ Scanned (sighting_so_far a) a.head.lazy =
      ap (λ (x : Sighting). Scanned x b.head.lazy) seen
      ∙ ap (λ (h : ScanHead). Scanned (sighting_so_far a) h.lazy) head in
      accepted_alike box s t (Scanned (sighting_so_far a) a.head.lazy)
      (Scanned (sighting_so_far b) b.head.lazy) (is_refusal (block_reply s (Scanning a)))
      (is_refusal (block_reply t (Scanning b)))
      (refused_alike (is_zero a.head) (is_zero b.head)
      (scan_fault s.base.res (sighting_so_far a) s.base.max_cells)
      (scan_fault t.base.res (sighting_so_far b) t.base.max_cells)
      (is_full s.base.max_groups s.values (need_of s.base (sighting_so_far a)))
      (is_full t.base.max_groups t.values (need_of t.base (sighting_so_far b)))
      (group_count s.values) (need_of s.base (sighting_so_far a))
      (group_count t.values) (need_of t.base (sighting_so_far b))
      (done_of s.base (sighting_so_far a)) (done_of t.base (sighting_so_far b))
      (ap is_zero head) own here there) done tt part

  closed_alike : (a b : ScanBlock) → SameBlock (Some a) (Some b) → IsNotFull (block_reply s a)
      → IsNotFull (block_reply t b)
      → DoAlike box s t (replied (block_reply s a) (block_action a) None)
      (replied (block_reply t b) (block_action b) None)
  closed_alike (Spoilt r) (Spoilt u) same here there = record { state = part; block = tt }
  closed_alike (Scanning a) (Scanning b) same here there =
      record { state = scan_alike a b same.0 same.1 here there; block = tt }
  closed_alike (Spoilt r) (Scanning b) same here there = absurd same
  closed_alike (Scanning a) (Spoilt u) same here there = absurd same

  -- a line inside a block
  inside_by : (x y : Bool) (c d : Result Command Refusal) (a b : ScanBlock) → y ≡ x → SameRead c d
      → SameBlock (Some a) (Some b)
      → IsNotFull (cond {A = Effect} x (replied (block_reply s a) (block_action a) None)
      (silent (with_line n c a))).reply
      → IsNotFull (cond {A = Effect} y (replied (block_reply t b) (block_action b) None)
      (silent (with_line m d b))).reply
      → DoAlike box s t
      (cond {A = Effect} x (replied (block_reply s a) (block_action a) None)
      (silent (with_line n c a)))
      (cond {A = Effect} y (replied (block_reply t b) (block_action b) None)
      (silent (with_line m d b)))
  inside_by true true c d a b e read same here there = closed_alike a b same here there
  inside_by false false c d a b e read same here there =
      record { state = part; block = line_in_same n m c d a b read same }
  inside_by true false c d a b e read same here there = absurd cc
  inside_by false true c d a b e read same here there = absurd cc

  -- a line inside a block or outside
  effect_alike : (files more : Option Files) (line : Line) (c d : Result Command Refusal)
      (a b : Option ScanBlock) → SameRead c d → SameBlock a b → (a ≡ None → IfOk c IsShared)
      → IsNotFull (effect files s n line c a).reply → IsNotFull (effect more t m line d b).reply
      → DoAlike box s t (effect files s n line c a) (effect more t m line d b)
  effect_alike files more line c d None None read same shared here there =
      outside_alike box files more s t n m line part c d read (shared refl)
  effect_alike files more line c d (Some a) (Some b) read same shared here there =
      inside_by (is_end c) (is_end d) c d a b (end_same c d read) read same here there
  effect_alike files more line c d None (Some (Spoilt u)) read same shared here there = absurd same
  effect_alike files more line c d None (Some (Scanning b)) read same shared here there =
      absurd same
  effect_alike files more line c d (Some (Spoilt r)) None read same shared here there = absurd same
  effect_alike files more line c d (Some (Scanning a)) None read same shared here there =
      absurd same

-- ---- lines

-- two sessions, the second of which has a part of the first one's map
pub record RunAlike (o : Setup) (box : Window) (p q : Progress) : Type 0 where
  pub state : IsPart box (state_after o p.history) (state_after o q.history)
  pub block : SameBlock p.block q.block
  pub quit : q.has_quit ≡ p.has_quit

outside_read : (block : Option ScanBlock) (n : ℕ) (line : Line) → IsSharedLine line
    → block ≡ None → IfOk (command_on (is_some block) n line) IsShared
outside_read block n line shared none =
    subst (λ (b : Option ScanBlock). IfOk (command_on (is_some b) n line) IsShared) (sym none)
    (shared_read (command_on false 0 line) (command_on false n line) (read_same false 0 n line)
    shared)

answered_alike : (o : Setup) (box : Window) (p q : Progress) (line : Line) → RunAlike o box p q
    → IsSharedLine line → IsNotFull (effect_of o p line).reply
    → IsNotFull (effect_of o q line).reply → RunAlike o box (answered o p line) (answered o q line)
answered_alike o box p q line run shared here there =
    let s : State = state_after o p.history in
    let t : State = state_after o q.history in
    let read : SameRead (next_command p line) (next_command q line) =
    subst (λ b. SameRead (next_command p line) (command_on b (q.line_count + 1) line))
    (sym (some_same p.block q.block run.block))
    (read_same (is_some p.block) (p.line_count + 1) (q.line_count + 1) line) in
    let does = effect_alike box s t (p.line_count + 1) (q.line_count + 1) run.state p.files q.files
    line (next_command p line) (next_command q line) p.block q.block read run.block
    (outside_read p.block (p.line_count + 1) line shared) here there in
    record {
      state = subst (λ (x : State). IsPart box x (state_after o (answered o q line).history))
          (sym (state_more o p.history (effect_of o p line).added))
          (subst (λ (x : State). IsPart box (after_all s (effect_of o p line).added) x)
          (sym (state_more o q.history (effect_of o q line).added)) does.state);
      block = does.block;
      quit = quit_same (next_command p line) (next_command q line) read;
    }

line_by : (o : Setup) (box : Window) (p q : Progress) (line : Line) (x y : Bool) → y ≡ x
    → RunAlike o box p q → IsSharedLine line
    → IsNotFull (cond {A = Option Reply} x None (effect_of o p line).reply)
    → IsNotFull (cond {A = Option Reply} y None (effect_of o q line).reply)
    → RunAlike o box (cond {A = Progress} x p (answered o p line))
    (cond {A = Progress} y q (answered o q line))
line_by o box p q line true true e run shared here there = run
line_by o box p q line false false e run shared here there =
    answered_alike o box p q line run shared here there
line_by o box p q line true false e run shared here there = absurd cc
line_by o box p q line false true e run shared here there = absurd cc

pub all_first : {X : Type 0} (P : X → Type 0) (x : X) (xs : List X) → All P (x ∷ xs) → P x
all_first P x xs all = all 0 x (omega arith)

pub all_rest : {X : Type 0} (P : X → Type 0) (x : X) (xs : List X) → All P (x ∷ xs) → All P xs
all_rest P x xs all = λ k d below. all (suc k) d (omega arith)

pub lines_alike : (o : Setup) (box : Window) (p q : Progress) (lines : List Line)
    → RunAlike o box p q → All IsSharedLine lines → All IsNotFull (replies_to o p lines)
    → All IsNotFull (replies_to o q lines)
    → RunAlike o box (after_lines o p lines) (after_lines o q lines)
unfolding replies_to
lines_alike o box p q [] run shared here there = run
lines_alike o box p q (line ∷ lines) run shared here there =
    lines_alike o box (after_line o p line) (after_line o q line) lines
    (line_by o box p q line p.has_quit q.has_quit run.quit run
    (all_first IsSharedLine line lines shared)
    (all_first IsNotFull (reply_to o p line) (replies_to o (after_line o p line) lines) here)
    (all_first IsNotFull (reply_to o q line) (replies_to o (after_line o q line) lines) there))
    (all_rest IsSharedLine line lines shared)
    (all_rest IsNotFull (reply_to o p line) (replies_to o (after_line o p line) lines) here)
    (all_rest IsNotFull (reply_to o q line) (replies_to o (after_line o q line) lines) there)
