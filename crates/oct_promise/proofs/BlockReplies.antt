-- The block of a scan has one reply, which the first of its faults decides.
use Rattle.std.proofs.Common.{◌≡◌, ℕ, ◌+◌, List, [], ◌∷◌, ◌++◌, length, nat_le, true, false}
use Rattle.std.proofs.Common.{cond, Option, Some, None, IsSome, is_some, Result, Ok, Err, ◌⊎◌}
use Rattle.std.proofs.Common.{inl, inr, refl, sym, ap, subst, ◌∙◌, arith, append_assoc, append-nil}
use Rattle.std.proofs.Common.{length-append, Bool, ◌||◌}
use Rattle.std.specs.Option.{option_or}
use Rattle.std.proofs.lemmas.List.Sums.{fold-append}
use Rattle.oct_key.specs.declared.point.Point.{Point}
use Rattle.oct_script.specs.Grammar.{forms_of}
use Rattle.oct_script.specs.Lines.{Line}
use Rattle.oct_script.specs.Replies.{text_of, is_refusal}
use Rattle.oct_script.specs.declared.command.Command.{Command}
use Rattle.oct_script.specs.declared.command.Command.TheVariants as command
use Rattle.oct_script.specs.declared.command.ScanHead.{ScanHead}
use Rattle.oct_script.specs.declared.reply.Refusal.{Refusal}
use Rattle.oct_script.specs.declared.reply.Refusal.TheVariants.{TooManyPoints}
use Rattle.oct_script.specs.declared.reply.Reply.{Reply}
use Rattle.oct_promise.specs.BlockReply.{BeginsBlock, NoneEnds, IsBlock, points_of, points_in}
use Rattle.oct_promise.specs.BlockReply.{line_fault, first_fault, reply_unless, reply_to_block}
use Rattle.oct_promise.specs.BlockReply.{done_for_block, HasOneReply, RepliesOnce}
use Rattle.oct_session.specs.Commands.{command_on, is_quit, accepted, stored, file_named, asks_for}
use Rattle.oct_session.specs.Tally.{counted}
use Rattle.oct_session.specs.History.{History, State, Scanned, state_after}
use Rattle.oct_session.specs.ScanBlock.{opened, opens_block, with_line, is_end}
use Rattle.oct_session.specs.ScanBlock.{block_reply, block_action}
use Rattle.oct_session.specs.ScanSoFar.{ScanSoFar, begun, sighting_so_far}
use Rattle.oct_session.specs.Session.{Progress, Effect, effect, effect_inside, effect_opened}
use Rattle.oct_session.specs.Session.{effect_of, next_command, after_line, after_lines}
use Rattle.oct_session.specs.Session.{replied, silent}
use Rattle.oct_session.specs.Setup.{Setup}
use Rattle.oct_session.specs.declared.scan_block.ScanBlock.{ScanBlock}
use Rattle.oct_session.specs.declared.scan_block.ScanBlock.TheVariants.{Scanning, Spoilt}
use Rattle.oct_promise.proofs.Allowed.{AllAllow, Has, line_has}
use Rattle.oct_session.proofs.Effects.{saves_none}
use Rattle.oct_session.proofs.NonemptyReplies.{block_some}
use Rattle.oct_session.proofs.Progresses.{after_answered}

-- ---- commands inside a block

-- a line inside a block is blank, a point, or `end`
abbrev IsInside : Command → Type 0
IsInside c = (c ≡ command.Blank) ⊎ (((p : Point) × (c ≡ command.Beam p)) ⊎ (c ≡ command.End))

inside_forms : AllAllow IsInside (forms_of true)
inside_forms = ((λ x y z. inr (inl (_, refl))), (inr (inr refl), tt))

-- what holds of these holds of each command inside
of_inside : (Q : Result Command Refusal → Type 0) → ((r : Refusal) → Q (Err r))
    → Q (Ok command.Blank) → ((p : Point) → Q (Ok (command.Beam p))) → Q (Ok command.End)
    → (c : Result Command Refusal) → Has IsInside c → Q c
of_inside Q wrong blank beam end (Err r) has = wrong r
of_inside Q wrong blank beam end (Ok c) (inl is) = subst (λ x. Q (Ok x)) (sym is) blank
of_inside Q wrong blank beam end (Ok c) (inr (inl is)) =
    subst (λ x. Q (Ok x)) (sym is.1) (beam is.0)
of_inside Q wrong blank beam end (Ok c) (inr (inr is)) = subst (λ x. Q (Ok x)) (sym is) end

-- what holds of each line inside a block holds of this one
on_line : (Q : Result Command Refusal → Type 0) → ((r : Refusal) → Q (Err r))
    → Q (Ok command.Blank) → ((p : Point) → Q (Ok (command.Beam p))) → Q (Ok command.End)
    → (number : ℕ) (line : Line) → Q (command_on true number line)
on_line Q wrong blank beam end number line =
    of_inside Q wrong blank beam end (command_on true number line)
    (line_has IsInside (inl refl) true inside_forms number line)

-- it names no file, and doesn't end the session
inside_unnamed : (number : ℕ) (line : Line) → file_named (command_on true number line) ≡ None
inside_unnamed = on_line (λ c. file_named c ≡ None) (λ r. refl) refl (λ p. refl) refl

inside_runs : (number : ℕ) (line : Line) → is_quit (command_on true number line) ≡ false
inside_runs = on_line (λ c. is_quit c ≡ false) (λ r. refl) refl (λ p. refl) refl

-- ---- the block after lines inside it

-- a scan, unless a line of its block was at fault
abbrev block_without : Option Refusal → ScanSoFar → ScanBlock
block_without (Some refusal) scan = Spoilt refusal
block_without None scan = Scanning scan

-- the block after these lines, of which the first has this number
unfoldable block_after : ℕ → List Line → ScanBlock → ScanBlock
block_after number [] block = block
block_after number (line ∷ lines) block =
    block_after (number + 1) lines (with_line number (command_on true number line) block)

spoilt_stays : (number : ℕ) (lines : List Line) (r : Refusal)
    → block_after number lines (Spoilt r) ≡ Spoilt r
unfolding block_after
spoilt_stays number [] r = refl
spoilt_stays number (line ∷ lines) r = spoilt_stays (number + 1) lines r

abbrev with_points : ScanSoFar → List Point → ScanSoFar
with_points scan points =
    record { line = scan.line; head = scan.head; points = scan.points ++ points }

-- what the lines from here on make of a scan that isn't spoilt
abbrev Comes : ℕ → List Line → Type 0
Comes number lines = (scan : ScanSoFar) → block_after number lines (Scanning scan)
    ≡ block_without (first_fault number (length scan.points) lines)
    (with_points scan (points_in number lines))

-- one line, by what it is: lines later on come to this
abbrev StepComes : ℕ → List Line → Result Command Refusal → Type 0
StepComes number lines c = (scan : ScanSoFar)
    → block_after (number + 1) lines (with_line number c (Scanning scan))
    ≡ block_without (option_or (line_fault number (length scan.points) c)
    (first_fault (number + 1) (length scan.points + length (points_of c)) lines))
    (with_points scan (points_of c ++ points_in (number + 1) lines))

none_more : (number : ℕ) (lines : List Line) → Comes (number + 1) lines → (scan : ScanSoFar)
    → block_after (number + 1) lines (Scanning scan)
    ≡ block_without (first_fault (number + 1) (length scan.points + 0) lines)
    (with_points scan (points_in (number + 1) lines))
none_more number lines comes scan =
    let same : length scan.points ≡ length scan.points + 0 = omega arith in
    comes scan ∙ ap (λ n. block_without (first_fault (number + 1) n lines)
    (with_points scan (points_in (number + 1) lines))) same

point_more : (number : ℕ) (lines : List Line) → Comes (number + 1) lines → (p : Point)
    (scan : ScanSoFar) →
    block_after (number + 1) lines (Scanning (with_points scan (p ∷ [])))
    ≡ block_without (first_fault (number + 1) (length scan.points + 1) lines)
    (with_points scan (p ∷ points_in (number + 1) lines))
point_more number lines comes p scan =
    let more : ScanSoFar = with_points scan (p ∷ []) in
    let count : length more.points ≡ length scan.points + 1 =
    length-append scan.points (p ∷ []) in
    comes more
    ∙ ap (λ n. block_without (first_fault (number + 1) n lines)
    (with_points more (points_in (number + 1) lines))) count
    ∙ ap (λ points. block_without (first_fault (number + 1) (length scan.points + 1) lines)
    (record { line = scan.line; head = scan.head; points = points }))
    (append_assoc scan.points (p ∷ []) (points_in (number + 1) lines))

point_comes : (number : ℕ) (lines : List Line) → Comes (number + 1) lines → (p : Point)
    → StepComes number lines (Ok (command.Beam p))
point_comes number lines comes p scan =
    elim (nat_le 1000000 (length scan.points)) as
    (λ b. block_after (number + 1) lines
    (cond b (Spoilt (TooManyPoints number)) (Scanning (with_points scan (p ∷ []))))
    ≡ block_without (option_or (cond b (Some (TooManyPoints number)) None)
    (first_fault (number + 1) (length scan.points + 1) lines))
    (with_points scan (p ∷ points_in (number + 1) lines))) [
      | true ↦ spoilt_stays (number + 1) lines (TooManyPoints number)
      | false ↦ point_more number lines comes p scan
    ]

step_comes : (number : ℕ) (line : Line) (lines : List Line) → Comes (number + 1) lines
    → StepComes number lines (command_on true number line)
step_comes number line lines comes =
    on_line (StepComes number lines) (λ r scan. spoilt_stays (number + 1) lines r)
    (none_more number lines comes) (point_comes number lines comes) (none_more number lines comes)
    number line

nothing_more : (scan : ScanSoFar) → Scanning scan ≡ Scanning (with_points scan [])
nothing_more scan = ap (λ points. Scanning (record {
  line = scan.line;
  head = scan.head;
  points = points;
})) (sym (append-nil scan.points))

comes : (number : ℕ) (lines : List Line) → Comes number lines
unfolding block_after first_fault points_in
comes number [] scan = nothing_more scan
comes number (line ∷ lines) scan = step_comes number line lines (comes (number + 1) lines) scan

-- ---- a session inside a block

-- a session in which nothing was said since p, whose block stands like this after so many lines
record IsIn (p q : Progress) (count : ℕ) (block : ScanBlock) : Type 0 where
  history : q.history ≡ p.history
  files : q.files ≡ p.files
  asks : q.asks ≡ p.asks
  text : q.text ≡ p.text
  refused : q.refused ≡ p.refused
  tally : q.tally ≡ p.tally
  lines : q.line_count ≡ count
  inside : q.block ≡ Some block
  running : q.has_quit ≡ false

-- what is refused after a line without a reply
refused_same : (b : Bool) → (b || false) ≡ b
refused_same true = refl
refused_same false = refl

-- a line without a reply of its own, which names no file
silent_in : (o : Setup) (p q : Progress) (line : Line) (count : ℕ) (block : ScanBlock)
    → q.has_quit ≡ false → q.history ≡ p.history → q.files ≡ p.files → q.asks ≡ p.asks
    → q.text ≡ p.text → q.refused ≡ p.refused → q.tally ≡ p.tally → q.line_count ≡ count
    → effect_of o q line ≡ silent block → file_named (next_command q line) ≡ None
    → is_quit (next_command q line) ≡ false → IsIn p (after_line o q line) (count + 1) block
silent_in o p q line count block runs history files asks text refused tally lines is unnamed
    goes_on =
    let none : asks_for (file_named (next_command q line)) ≡ 0 = ap asks_for unnamed in
    subst (λ x. IsIn p x (count + 1) block) (sym (after_answered o q line runs)) (record {
      history = ap (λ (e : Effect). q.history ++ e.added) is ∙ append-nil q.history ∙ history;
      files = ap (λ (e : Effect). stored q.files e.saving) is ∙ files;
      asks = omega (arith, none, asks);
      text = ap (λ (e : Effect). q.text ++ text_of e.reply) is ∙ append-nil q.text ∙ text;
      refused = ap (λ (e : Effect). q.refused || is_refusal e.reply) is
          ∙ refused_same q.refused ∙ refused;
      tally = ap (λ (e : Effect). counted q.tally e.reply) is ∙ tally;
      lines = ap (λ n. n + 1) lines;
      inside = ap (λ (e : Effect). e.block) is;
      running = goes_on;
    })

-- ---- the first line

-- the block that the first line begins
abbrev first_block : ℕ → Result Command Refusal → ScanBlock
first_block number (Ok (command.Scan head)) = Scanning (begun number head)
first_block number (Ok other) = Spoilt (TooManyPoints number)
first_block number (Err refusal) = Spoilt refusal

-- what holds of each head of a scan, and of each such fault, holds of the first line of a block
of_first : (line : Line) (Q : Result Command Refusal → Type 0)
    → ((r : Refusal) → opens_block line ≡ true → Q (Err r))
    → ((head : ScanHead) → Q (Ok (command.Scan head)))
    → (c : Result Command Refusal) → BeginsBlock c line → Q c
of_first line Q wrong scan (Err r) begins = wrong r begins
of_first line Q wrong scan (Ok (command.Scan head)) begins = scan head
of_first line Q wrong scan (Ok other) begins = absurd begins

-- such a line opens its block, and doesn't end the session
first_opens : (number : ℕ) (line : Line) (c : Result Command Refusal) → BeginsBlock c line
    → opened number line c ≡ Some (first_block number c)
first_opens number line = of_first line
    (λ c. opened number line c ≡ Some (first_block number c))
    (λ r begins. ap (λ b. cond {A = Option ScanBlock} b (Some (Spoilt r)) None) begins)
    (λ head. refl)

first_runs : (line : Line) (c : Result Command Refusal) → BeginsBlock c line → is_quit c ≡ false
first_runs line = of_first line (λ c. is_quit c ≡ false) (λ r begins. refl) (λ head. refl)

first_unnamed : (line : Line) (c : Result Command Refusal) → BeginsBlock c line
    → file_named c ≡ None
first_unnamed line = of_first line (λ c. file_named c ≡ None) (λ r begins. refl) (λ head. refl)

first_in : (o : Setup) (p : Progress) (head : Line) → p.has_quit ≡ false → p.block ≡ None
    → BeginsBlock (next_command p head) head →
    IsIn p (after_line o p head) (p.line_count + 1)
    (first_block (p.line_count + 1) (next_command p head))
first_in o p head runs outside begins =
    let number : ℕ = p.line_count + 1 in
    let c : Result Command Refusal = next_command p head in
    let is : effect_of o p head ≡ silent (first_block number c) =
    ap (λ block. effect p.files (state_after o p.history) number head c block) outside
    ∙ ap (λ block. effect_opened p.files (state_after o p.history) c block)
    (first_opens number head c begins) in
    silent_in o p p head p.line_count (first_block number c) runs refl refl refl refl refl refl
    refl is (first_unnamed head c begins) (first_runs head c begins)

-- ---- the lines inside

-- the command of a line inside, and what it does
next_in : (p q : Progress) (line : Line) (count : ℕ) (block : ScanBlock) → IsIn p q count block
    → next_command q line ≡ command_on true (count + 1) line
next_in p q line count block at =
    ap (λ b. command_on (is_some b) (q.line_count + 1) line) at.inside
    ∙ ap (λ n. command_on true (n + 1) line) at.lines

effect_in : (o : Setup) (p q : Progress) (line : Line) (count : ℕ) (block : ScanBlock)
    → IsIn p q count block →
    effect_of o q line
    ≡ effect_inside (state_after o q.history) (count + 1) (command_on true (count + 1) line) block
effect_in o p q line count block at =
    let c : Result Command Refusal = command_on true (count + 1) line in
    ap (λ x. effect q.files (state_after o q.history) (q.line_count + 1) line x q.block)
    (next_in p q line count block at)
    ∙ ap (λ b. effect q.files (state_after o q.history) (q.line_count + 1) line c b) at.inside
    ∙ ap (λ n. effect_inside (state_after o q.history) (n + 1) c block) at.lines

inner_in : (o : Setup) (p q : Progress) (line : Line) (count : ℕ) (block : ScanBlock)
    → IsIn p q count block → is_end (command_on true (count + 1) line) ≡ false →
    IsIn p (after_line o q line) (count + 1)
    (with_line (count + 1) (command_on true (count + 1) line) block)
inner_in o p q line count block at goes_on =
    let c : Result Command Refusal = command_on true (count + 1) line in
    let is : effect_of o q line ≡ silent (with_line (count + 1) c block) =
    effect_in o p q line count block at
    ∙ ap (λ b. cond b
    (replied (block_reply (state_after o q.history) block) (block_action block) None)
    (silent (with_line (count + 1) c block))) goes_on in
    silent_in o p q line count (with_line (count + 1) c block) at.running at.history at.files
    at.asks at.text at.refused at.tally at.lines is
    (ap file_named (next_in p q line count block at) ∙ inside_unnamed (count + 1) line)
    (ap is_quit (next_in p q line count block at) ∙ inside_runs (count + 1) line)

all_in : (o : Setup) (p q : Progress) (lines : List Line) (count : ℕ) (block : ScanBlock)
    → IsIn p q count block → NoneEnds (count + 1) lines →
    IsIn p (after_lines o q lines) (count + length lines) (block_after (count + 1) lines block)
unfolding NoneEnds block_after
all_in o p q [] count block at none =
    let same : count ≡ count + 0 = omega arith in
    subst (λ n. IsIn p q n block) same at
all_in o p q (line ∷ lines) count block at none =
    let one : IsIn p (after_line o q line) (count + 1)
    (with_line (count + 1) (command_on true (count + 1) line) block) =
    inner_in o p q line count block at none.0 in
    let more = all_in o p (after_line o q line) lines (count + 1)
    (with_line (count + 1) (command_on true (count + 1) line) block) one none.1 in
    let same : (count + 1) + length lines ≡ count + length (line ∷ lines) = omega arith in
    subst (λ n. IsIn p (after_lines o (after_line o q line) lines) n
    (block_after (count + 1) (line ∷ lines) block)) same more

-- ---- the last line

end_runs : (c : Result Command Refusal) → Has IsInside c → is_end c ≡ true → is_quit c ≡ false
end_runs = of_inside (λ c. is_end c ≡ true → is_quit c ≡ false) (λ r ends. refl) (λ ends. refl)
    (λ p ends. refl) (λ ends. refl)

last_done : (o : Setup) (p q : Progress) (inside : List Line) (line : Line) (block : ScanBlock)
    → IsIn p q (p.line_count + 1 + length inside) block
    → is_end (command_on true (p.line_count + 1 + length inside + 1) line) ≡ true
    → IsSome (block_reply (state_after o p.history) block) →
    HasOneReply p (after_line o q line) (length inside + 2)
    (block_reply (state_after o p.history) block)
    (accepted (block_reply (state_after o p.history) block) (block_action block))
last_done o p q inside line block at ends one =
    let count : ℕ = p.line_count + 1 + length inside in
    let c : Result Command Refusal = command_on true (count + 1) line in
    let next = next_in p q line count block at in
    let is : effect_of o q line
    ≡ replied (block_reply (state_after o p.history) block) (block_action block) None =
    effect_in o p q line count block at
    ∙ ap (λ b. cond b
    (replied (block_reply (state_after o q.history) block) (block_action block) None)
    (silent (with_line (count + 1) c block))) ends
    ∙ ap (λ h. replied (block_reply (state_after o h) block) (block_action block) None)
    at.history in
    let reply : Option Reply = block_reply (state_after o p.history) block in
    let running : is_quit (next_command q line) ≡ false =
    ap is_quit next
    ∙ end_runs c (line_has IsInside (inl refl) true inside_forms (count + 1) line) ends in
    let at_lines = at.lines in
    let lines : q.line_count + 1 ≡ p.line_count + (length inside + 2) =
    omega (arith, at_lines) in
    let actions : History = accepted reply (block_action block) in
    let none : asks_for (file_named (next_command q line)) ≡ 0 =
    ap (λ x. asks_for (file_named x)) next ∙ ap asks_for (inside_unnamed (count + 1) line) in
    let at_asks = at.asks in
    subst (λ x. HasOneReply p x (length inside + 2) reply actions)
    (sym (after_answered o q line at.running))
    (record {
      one = one;
      text = ap (λ (e : Effect). q.text ++ text_of e.reply) is
          ∙ ap (λ text. text ++ text_of reply) at.text;
      refused = ap (λ (e : Effect). q.refused || is_refusal e.reply) is
          ∙ ap (λ b. b || is_refusal reply) at.refused;
      tally = ap (λ (e : Effect). counted q.tally e.reply) is
          ∙ ap (λ t. counted t reply) at.tally;
      history = ap (λ (e : Effect). q.history ++ e.added) is
          ∙ ap (λ h. h ++ actions) at.history;
      files = ap (λ (e : Effect). stored q.files e.saving) is
          ∙ ap (stored q.files) (saves_none reply None refl) ∙ at.files;
      asks = omega (arith, none, at_asks);
      closed = ap (λ (e : Effect). e.block) is;
      running = running;
      lines = lines;
    })

-- ---- all of it

some_reply : (s : State) (block : ScanBlock) → IsSome (block_reply s block)
some_reply s (Spoilt r) = refl
some_reply s (Scanning scan) = block_some s scan

unless_is : (s : State) (f : Option Refusal) (scan : ScanSoFar)
    → block_reply s (block_without f scan) ≡ reply_unless f s scan
unless_is s None scan = refl
unless_is s (Some r) scan = refl

reply_is : (s : State) (number : ℕ) (inside : List Line) (line : Line)
    (c : Result Command Refusal) → BeginsBlock c line →
    block_reply s (block_after (number + 1) inside (first_block number c))
    ≡ reply_to_block s number c inside
reply_is s number inside line = of_first line
    (λ c. block_reply s (block_after (number + 1) inside (first_block number c))
    ≡ reply_to_block s number c inside)
    (λ r begins. ap (block_reply s) (spoilt_stays (number + 1) inside r))
    (λ head. ap (block_reply s) (comes (number + 1) inside (begun number head))
    ∙ unless_is s (first_fault (number + 1) 0 inside)
    (with_points (begun number head) (points_in (number + 1) inside)))

-- what a block comes to, where it does what its reply says
abbrev done_by : State → ScanBlock → History
done_by s block = accepted (block_reply s block) (block_action block)

done_unless : (s : State) (f : Option Refusal) (scan : ScanSoFar)
    → done_by s (block_without f scan)
    ≡ accepted (reply_unless f s scan) (Scanned (sighting_so_far scan) scan.head.lazy ∷ [])
done_unless s None scan = refl
done_unless s (Some r) scan = refl

done_is : (s : State) (number : ℕ) (inside : List Line) (line : Line)
    (c : Result Command Refusal) → BeginsBlock c line →
    done_by s (block_after (number + 1) inside (first_block number c))
    ≡ done_for_block s number c inside
done_is s number inside line = of_first line
    (λ c. done_by s (block_after (number + 1) inside (first_block number c))
    ≡ done_for_block s number c inside)
    (λ r begins. ap (done_by s) (spoilt_stays (number + 1) inside r))
    (λ head. ap (done_by s) (comes (number + 1) inside (begun number head))
    ∙ done_unless s (first_fault (number + 1) 0 inside)
    (with_points (begun number head) (points_in (number + 1) inside)))

-- a block has one reply
pub block_replies : (o : Setup) (p : Progress) (head : Line) (inside : List Line) (last : Line)
    → IsBlock p head inside last → RepliesOnce o p head inside last
block_replies o p head inside last at =
    let number : ℕ = p.line_count + 1 in
    let c : Result Command Refusal = next_command p head in
    let s : State = state_after o p.history in
    let q : Progress = after_line o p head in
    let block : ScanBlock = block_after (number + 1) inside (first_block number c) in
    let inner : IsIn p (after_lines o q inside) (number + length inside) block =
    all_in o p q inside number (first_block number c)
    (first_in o p head at.running at.outside at.begins) at.inner in
    let done = last_done o p (after_lines o q inside) inside last block inner at.ends
    (some_reply s block) in
    let same : after_line o (after_lines o q inside) last
    ≡ after_lines o p (head ∷ inside ++ last ∷ []) =
    sym (fold-append (after_line o) q inside (last ∷ [])) in
    subst (λ x. HasOneReply p x (length inside + 2) (reply_to_block s number c inside)
    (done_for_block s number c inside)) same
    (subst (λ h. HasOneReply p (after_line o (after_lines o q inside) last) (length inside + 2)
    (reply_to_block s number c inside) h) (done_is s number inside head c at.begins)
    (subst (λ r. HasOneReply p (after_line o (after_lines o q inside) last) (length inside + 2) r
    (done_by s block)) (reply_is s number inside head c at.begins) done))
