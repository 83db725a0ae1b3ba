-- What the replies of a session come to is bounded by its lines, and that of a drill by 2^64.
use Rattle.std.proofs.Common.{◌≡◌, ℕ, ℤ, ◌+◌, ◌-◌, ◌*◌, ◌^◌, ◌<◌, ◌≤◌, min, List, [], ◌∷◌}
use Rattle.std.proofs.Common.{length, length-append, length-take, take, true, false, cond, Option}
use Rattle.std.proofs.Common.{Some, None, Result, Ok, Err, refl, sym, subst, arith}
use Rattle.std.specs.Prelude.{⊤, option_map, count_by}
use Rattle.std.proofs.lemmas.List.Splits.{length-slice_split}
use Rattle.std.proofs.lemmas.List.Sums.{count_by-le-length}
use Rattle.std.proofs.lemmas.List.{length-map}
use Rattle.std.proofs.lemmas.Nat.{mul-le}
use Rattle.oct_bt.specs.File.{FileRead, reading}
use Rattle.oct_bt.specs.Records.{record_total}
use Rattle.oct_bt.specs.declared.fault.BtFault.{BtFault}
use Rattle.oct_cast.specs.declared.outcome.Cast.{Cast as Found}
use Rattle.oct_change.specs.declared.kind.Change.{Change}
use Rattle.oct_gen.specs.Script.{script_of}
use Rattle.oct_gen.proofs.Lengths.{script_short}
use Rattle.oct_io.specs.Files.{Files, no_files}
use Rattle.oct_io.specs.declared.store.Loaded.{Loaded}
use Rattle.oct_io.specs.declared.store.Loaded.TheVariants.{Bytes, Missing, TooLarge}
use Rattle.oct_key.specs.Voxel.{IsResolution}
use Rattle.oct_map.specs.Answers.{get_answer, scan_answer_by, room_answer}
use Rattle.oct_map.specs.Casts.{cast_answer}
use Rattle.oct_map.specs.Faults.{fault_of}
use Rattle.oct_map.specs.Ground.{Ground}
use Rattle.oct_map.specs.Lists.{list_answer}
use Rattle.oct_map.specs.Loads.{load_answer}
use Rattle.oct_map.specs.Marks.{changes_answer}
use Rattle.oct_map.specs.Outcome.{need_of, done_of}
use Rattle.oct_map.specs.Restores.{restore_answer}
use Rattle.oct_map.specs.declared.fault.MapFault.{MapFault}
use Rattle.oct_odds.specs.Odds.{Odds}
use Rattle.oct_odds.specs.Update.{Value}
use Rattle.oct_query.specs.Shown.{Shown}
use Rattle.oct_snap.specs.Reading.{read_snapshot}
use Rattle.oct_values.specs.Classes.{classes_of}
use Rattle.oct_scan.specs.Beam.{Sighting}
use Rattle.oct_scan.specs.Outcome.{scan_fault}
use Rattle.oct_scan.specs.declared.fault.ScanFault.{ScanFault}
use Rattle.oct_scan.proofs.MetCounts.{hits_few, frees_few}
use Rattle.oct_script.specs.Lines.{Line, all_but_last, all_lines, ended_lines, is_line_feed}
use Rattle.oct_script.specs.Lines.{last_line, line_of, ended, parts_of, rest_of}
use Rattle.oct_script.specs.declared.command.Command.{Command}
use Rattle.oct_script.specs.declared.reply.Refusal.{Refusal}
use Rattle.oct_script.specs.declared.reply.Refusal.TheVariants as refusal_of_script
use Rattle.oct_script.specs.declared.reply.Reply.{Reply}
use Rattle.oct_script.specs.declared.reply.Reply.TheVariants as reply_of
use Rattle.oct_session.specs.Commands.{reply, kind_reply, order_answer, question_reply, verb_reply}
use Rattle.oct_session.specs.Commands.{edit_reply, get_reply, cast_reply, list_reply, changes_reply}
use Rattle.oct_session.specs.declared.kinds.Question.{Question}
use Rattle.oct_session.specs.declared.kinds.Question.TheVariants as question
use Rattle.oct_script.specs.declared.verbs.FileVerb.{FileVerb}
use Rattle.oct_script.specs.declared.verbs.FileVerb.TheVariants as verb
use Rattle.oct_session.specs.Kinds.{Kind, kind_of, Nothing, Opens, Adds, Closes, Orders, Asks}
use Rattle.oct_session.specs.Kinds.{Names}
use Rattle.oct_session.specs.Drill.{drill_setup, drilled}
use Rattle.oct_session.specs.FileCommands.{found_in, nodes_reply, reading_reply, load_reply}
use Rattle.oct_session.specs.FileCommands.{groups_reply, restore_reply}
use Rattle.oct_session.specs.History.{State, state_after}
use Rattle.oct_session.specs.Refusals.{refusal_of, fault_reply}
use Rattle.oct_script.specs.Replies.{file_refusal}
use Rattle.oct_session.specs.ScanBlock.{opened, with_line, is_end, is_zero, scan_reply, block_reply}
use Rattle.oct_session.specs.ScanBlock.{block_action, end_reply}
use Rattle.oct_session.specs.ScanSoFar.{sighting_so_far}
use Rattle.oct_session.specs.Session.{Progress, Effect, effect, effect_opened, effect_of, replied}
use Rattle.oct_session.specs.Session.{silent, answered, after_line, after_lines, start, progress}
use Rattle.oct_session.specs.Session.{ended as ended_after, closed, next_command, lines_of}
use Rattle.oct_session.specs.Session.{is_too_long}
use Rattle.oct_session.specs.Setup.{Setup}
use Rattle.oct_session.specs.Tally.{counted, capped}
use Rattle.oct_session.specs.declared.scan_block.ScanBlock.{ScanBlock}
use Rattle.oct_session.specs.declared.scan_block.ScanBlock.TheVariants.{Scanning, Spoilt}
use Rattle.oct_session.specs.declared.tally.Tally.{Tally}
use Rattle.oct_session.proofs.SameLimits.{limits_of}

-- ---- one reply

-- where a reply tells of a scan, it hit and freed no more voxels than this
abbrev HasFewCells : ℕ → Option Reply → Type 0
HasFewCells most (Some (reply_of.Scanned done)) = (done.hits ≤ most) × (done.frees ≤ most)
HasFewCells most _ = ⊤

refused_few : (most : ℕ) (r : Option Refusal) → HasFewCells most (option_map reply_of.Refused r)
refused_few most None = tt
refused_few most (Some r) = tt

fault_few : (most : ℕ) (f : MapFault) → HasFewCells most (fault_reply f)
fault_few most f = refused_few most (refusal_of f)

edit_few : (most : ℕ) (r : Result ⊤ MapFault) → HasFewCells most (edit_reply r)
edit_few most (Ok done) = tt
edit_few most (Err f) = fault_few most f

get_few : (most : ℕ) (o : Odds) (r : Result Value MapFault) → HasFewCells most (get_reply o r)
get_few most o (Ok None) = tt
get_few most o (Ok (Some v)) = tt
get_few most o (Err f) = fault_few most f

cast_few : (most : ℕ) (r : Result Found MapFault) → HasFewCells most (cast_reply r)
cast_few most (Ok found) = tt
cast_few most (Err f) = fault_few most f

list_few : (most : ℕ) (thr : ℤ) (r : Result (List Shown) MapFault)
    → HasFewCells most (list_reply thr r)
list_few most thr (Ok blocks) = tt
list_few most thr (Err f) = fault_few most f

changes_few : (most : ℕ) (r : Result (List Change) MapFault) → HasFewCells most (changes_reply r)
changes_few most (Ok changes) = tt
changes_few most (Err f) = fault_few most f

nodes_few : (most nodes : ℕ) (r : Result ⊤ MapFault) → HasFewCells most (nodes_reply nodes r)
nodes_few most nodes (Ok done) = tt
nodes_few most nodes (Err f) = fault_few most f

reading_few : (most : ℕ) (g : Ground) (r : Result FileRead BtFault)
    → HasFewCells most (reading_reply g r)
reading_few most g (Ok file) =
    nodes_few most file.nodes (load_answer g file.res (record_total file.codes))
reading_few most g (Err f) = refused_few most (file_refusal f)

load_few : (most : ℕ) (g : Ground) (found : Option Loaded) → HasFewCells most (load_reply g found)
load_few most g None = tt
load_few most g (Some Missing) = tt
load_few most g (Some TooLarge) = tt
load_few most g (Some (Bytes bytes)) = reading_few most g (reading bytes)

groups_few : (most : ℕ) (r : Result ℕ MapFault) → HasFewCells most (groups_reply r)
groups_few most (Ok groups) = tt
groups_few most (Err f) = fault_few most f

restore_few : (most : ℕ) (g : Ground) (found : Option Loaded)
    → HasFewCells most (restore_reply g found)
restore_few most g None = tt
restore_few most g (Some Missing) = tt
restore_few most g (Some TooLarge) = tt
restore_few most g (Some (Bytes bytes)) =
    groups_few most (restore_answer g (read_snapshot g.odds bytes))

question_few : (most : ℕ) (s : State) (q : Question) → HasFewCells most (question_reply s q)
question_few most s (question.Get p depth) =
    get_few most s.base.odds (get_answer s.base s.is_stale s.values p depth)
question_few most s (question.List lo hi depth) =
    list_few most s.base.odds.thr (list_answer s.base s.is_stale s.values lo hi depth)
question_few most s (question.Cast o e ignore) =
    cast_few most (cast_answer s.base s.values o e ignore)
question_few most s question.Counts = tt
question_few most s question.Changes =
    changes_few most (changes_answer s.marked (classes_of s.base.odds s.values))

verb_few : (most : ℕ) (files : Option Files) (s : State) (v : FileVerb) (name : List ℕ)
    → HasFewCells most (verb_reply files s v name)
verb_few most files s verb.Save name = tt
verb_few most files s verb.Load name = load_few most s.base (found_in files name)
verb_few most files s verb.Snapshot name = tt
verb_few most files s verb.Restore name = restore_few most s.base (found_in files name)

kind_few : (most : ℕ) (files : Option Files) (s : State) (k : Kind)
    → HasFewCells most (kind_reply files s k)
kind_few most files s Nothing = tt
kind_few most files s (Opens head) = tt
kind_few most files s (Adds p) = tt
kind_few most files s Closes = tt
kind_few most files s (Orders o) = edit_few most (order_answer s o)
kind_few most files s (Asks q) = question_few most s q
kind_few most files s (Names v name) = verb_few most files s v name

command_few : (most : ℕ) (files : Option Files) (s : State) (c : Result Command Refusal)
    → HasFewCells most (reply files s c)
command_few most files s (Err refusal) = tt
command_few most files s (Ok command) = kind_few most files s (kind_of command)

-- a scan that is done meets no more voxels than it may
scan_few : (s : State) (seen : Sighting) (own : Option ScanFault) (room : Result ⊤ MapFault)
    → IsResolution s.base.res → scan_fault s.base.res seen s.base.max_cells ≡ own
    → HasFewCells s.base.max_cells (scan_reply (scan_answer_by own room (done_of s.base seen)))
scan_few s seen (Some f) room ok is = fault_few s.base.max_cells (fault_of f)
scan_few s seen None (Err f) ok is = fault_few s.base.max_cells f
scan_few s seen None (Ok done) ok is = (
  hits_few s.base.res s.base.max_cells s.base.update_box seen ok is,
  frees_few s.base.res s.base.max_cells s.base.update_box seen ok is,
)

block_few : (s : State) (block : ScanBlock) → IsResolution s.base.res
    → HasFewCells s.base.max_cells (block_reply s block)
block_few s (Spoilt refusal) ok = tt
block_few s (Scanning scan) ok =
    let seen : Sighting = sighting_so_far scan in
    elim (is_zero scan.head) as (λ b. HasFewCells s.base.max_cells
    (cond {A = Option Reply} b (Some (reply_of.Refused refusal_of_script.ZeroQuaternion))
    (scan_reply (scan_answer_by (scan_fault s.base.res seen s.base.max_cells)
    (room_answer s.base.max_groups s.values (need_of s.base seen)) (done_of s.base seen))))) [
      | true ↦ tt
      | false ↦ scan_few s seen (scan_fault s.base.res seen s.base.max_cells)
          (room_answer s.base.max_groups s.values (need_of s.base seen)) ok refl
    ]

opened_few : (most : ℕ) (files : Option Files) (s : State) (c : Result Command Refusal)
    (block : Option ScanBlock) → HasFewCells most (effect_opened files s c block).reply
opened_few most files s c None = command_few most files s c
opened_few most files s c (Some block) = tt

effect_few : (files : Option Files) (s : State) (number : ℕ) (line : Line)
    (c : Result Command Refusal) (block : Option ScanBlock) → IsResolution s.base.res
    → HasFewCells s.base.max_cells (effect files s number line c block).reply
effect_few files s number line c None ok =
    opened_few s.base.max_cells files s c (opened number line c)
effect_few files s number line c (Some block) ok =
    elim (is_end c) as (λ b. HasFewCells s.base.max_cells
    (cond {A = Effect} b (replied (block_reply s block) (block_action block) None)
    (silent (with_line number c block))).reply) [
      | true ↦ block_few s block ok
      | false ↦ tt
    ]

-- ---- the replies to some lines

-- what the replies to so many lines come to at most
record IsFew (most lines : ℕ) (t : Tally) : Type 0 where
  refused : t.refused ≤ lines
  hits : t.hits ≤ lines * most
  frees : t.frees ≤ lines * most

few_more : (most lines : ℕ) (t : Tally) → IsFew most lines t → IsFew most (lines + 1) t
few_more most lines t few =
    let refused = few.refused in
    let hits = few.hits in
    let frees = few.frees in
    record {
      refused = omega (arith, refused);
      hits = omega (arith, hits);
      frees = omega (arith, frees);
    }

counted_few : (most lines : ℕ) (t : Tally) (r : Option Reply) → HasFewCells most r
    → IsFew most lines t → IsFew most (lines + 1) (counted t r)
counted_few most lines t None cells few = few_more most lines t few
counted_few most lines t (Some reply_of.Ok) cells few = few_more most lines t few
counted_few most lines t (Some (reply_of.Known v c)) cells few = few_more most lines t few
counted_few most lines t (Some reply_of.Unknown) cells few = few_more most lines t few
counted_few most lines t (Some (reply_of.Scanned done)) cells few =
    let refused = few.refused in
    let hits = few.hits in
    let frees = few.frees in
    let hit = cells.0 in
    let freed = cells.1 in
    record {
      refused = omega (arith, refused);
      hits = omega (arith, hits, hit);
      frees = omega (arith, frees, freed);
    }
counted_few most lines t (Some (reply_of.Blocks b n)) cells few = few_more most lines t few
counted_few most lines t (Some (reply_of.Changed c)) cells few = few_more most lines t few
counted_few most lines t (Some (reply_of.Counted c)) cells few = few_more most lines t few
counted_few most lines t (Some (reply_of.Casted c)) cells few = few_more most lines t few
counted_few most lines t (Some (reply_of.Saved n)) cells few = few_more most lines t few
counted_few most lines t (Some (reply_of.Loaded n)) cells few = few_more most lines t few
counted_few most lines t (Some (reply_of.Restored n)) cells few = few_more most lines t few
counted_few most lines t (Some (reply_of.Refused r)) cells few =
    let refused = few.refused in
    let hits = few.hits in
    let frees = few.frees in
    record {
      refused = omega (arith, refused);
      hits = omega (arith, hits);
      frees = omega (arith, frees);
    }

line_few : (o : Setup) (p : Progress) (line : Line) (lines : ℕ) → IsResolution o.res
    → IsFew o.max_cells lines p.tally → IsFew o.max_cells (lines + 1) (after_line o p line).tally
line_few o p line lines ok few =
    let s : State = state_after o p.history in
    let limits = limits_of o p.history in
    let cells : HasFewCells o.max_cells (effect_of o p line).reply =
    subst (λ n. HasFewCells n (effect_of o p line).reply) limits.cells
    (effect_few p.files s (p.line_count + 1) line (next_command p line) p.block
    (subst IsResolution (sym limits.res) ok)) in
    elim p.has_quit as (λ v. IsFew o.max_cells (lines + 1) (cond v p (answered o p line)).tally) [
      | true ↦ few_more o.max_cells lines p.tally few
      | false ↦ counted_few o.max_cells lines p.tally (effect_of o p line).reply cells few
    ]

lines_few : (o : Setup) (p : Progress) (rest : List Line) (lines : ℕ) → IsResolution o.res
    → IsFew o.max_cells lines p.tally
    → IsFew o.max_cells (lines + length rest) (after_lines o p rest).tally
lines_few o p [] lines ok few =
    let same : lines ≡ lines + 0 = omega arith in
    subst (λ n. IsFew o.max_cells n p.tally) same few
lines_few o p (line ∷ rest) lines ok few =
    let same : (lines + 1) + length rest ≡ lines + length (line ∷ rest) = omega arith in
    subst (λ n. IsFew o.max_cells n (after_lines o (after_line o p line) rest).tally) same
    (lines_few o (after_line o p line) rest (lines + 1) ok (line_few o p line lines ok few))

end_few : (most : ℕ) (block : Option ScanBlock) → HasFewCells most (end_reply block)
end_few most None = tt
end_few most (Some block) = tt

closed_few : (most lines : ℕ) (p : Progress) → IsFew most lines p.tally
    → IsFew most (lines + 1) (closed p).tally
closed_few most lines p few =
    elim p.has_quit as (λ v. IsFew most (lines + 1) (cond v p (ended_after p)).tally) [
      | true ↦ few_more most lines p.tally few
      | false ↦ counted_few most lines p.tally (end_reply p.block) (end_few most p.block) few
    ]

-- ---- how many lines there are

all_but_last_few : (parts : List (List ℕ)) → length (all_but_last parts) ≤ length parts
all_but_last_few [] = omega arith
all_but_last_few (part ∷ []) = omega arith
all_but_last_few (part ∷ next ∷ parts) =
    let rest = all_but_last_few (next ∷ parts) in omega (arith, rest)

last_few : (bytes : List ℕ) → length (last_line bytes) ≤ 1
last_few [] = omega arith
last_few (b ∷ bytes) = omega arith

ended_few : (bytes : List ℕ) → length (ended_lines bytes) ≤ length bytes + 1
ended_few bytes =
    let mapped : length (ended_lines bytes) ≡ length (all_but_last (parts_of bytes)) =
    length-map (all_but_last (parts_of bytes)) (λ part. ended (line_of part)) in
    let front = all_but_last_few (parts_of bytes) in
    let parts : length (parts_of bytes) ≡ count_by is_line_feed bytes + 1 =
    length-slice_split is_line_feed bytes in
    let feeds = count_by-le-length is_line_feed bytes in
    omega (arith, mapped, front, parts, feeds)

-- a script has no more lines than two more than its bytes
all_few : (bytes : List ℕ) → length (all_lines bytes) ≤ length bytes + 2
all_few bytes =
    let both : length (all_lines bytes)
    ≡ length (ended_lines bytes) + length (last_line (rest_of bytes)) =
    length-append (ended_lines bytes) (last_line (rest_of bytes)) in
    let front = ended_few bytes in
    let last = last_few (rest_of bytes) in
    omega (arith, both, front, last)

lines_few_of : (o : Setup) (bytes : List ℕ) → length (lines_of o bytes) ≤ length bytes + 2
unfolding lines_of
lines_few_of o bytes =
    elim (is_too_long o bytes) as (λ b. length (cond {A = List Line} b
    (ended_lines (take o.max_bytes bytes)) (all_lines bytes)) ≤ length bytes + 2) [
      | true ↦
          let front = ended_few (take o.max_bytes bytes) in
          let part = length-take o.max_bytes bytes in
          omega (arith, front, part)
      | false ↦ all_few bytes
    ]

-- ---- a drill

start_few : (most : ℕ) (files : Option Files) → IsFew most 0 (start files).tally
start_few most files =
    record { refused = omega arith; hits = omega arith; frees = omega arith }

drill_few : (seed scans points : ℕ) → IsFew (2 ^ 26)
    (length (lines_of drill_setup (script_of seed scans points)) + 1)
    (drilled seed scans points).tally
unfolding drilled
drill_few seed scans points =
    let lines : List Line = lines_of drill_setup (script_of seed scans points) in
    let none : 0 + length lines ≡ length lines = omega arith in
    let all = lines_few drill_setup (start (Some no_files)) lines 0
    (omega arith, omega arith) (start_few (2 ^ 26) (Some no_files)) in
    closed_few (2 ^ 26) (length lines) (progress drill_setup (Some no_files) lines)
    (subst (λ n. IsFew (2 ^ 26) n (progress drill_setup (Some no_files) lines).tally) none all)

low_min : (n : ℕ) → n < 2 ^ 64 → min n (2 ^ 64 - 1) ≡ n
low_min n low = grind (arith, low)

-- numbers below 2^64 are kept as they are
capped_low : (most lines : ℕ) (t : Tally) → IsFew most lines t → lines < 2 ^ 64
    → lines * most < 2 ^ 64 → capped t ≡ t
capped_low most lines t few some cells =
    let refused = few.refused in
    let hits = few.hits in
    let frees = few.frees in
    let r = low_min t.refused (omega (arith, refused, some)) in
    let h = low_min t.hits (omega (arith, hits, cells)) in
    let f = low_min t.frees (omega (arith, frees, cells)) in
    λ i. record { refused = r i; hits = h i; frees = f i }

-- what a drill's replies come to stays below 2^64
pub drill_low : (seed scans points : ℕ) → seed < 2 ^ 64 → scans ≤ 1000 → points ≤ 100000
    → capped (drilled seed scans points).tally ≡ (drilled seed scans points).tally
drill_low seed scans points a b c =
    let short = script_short seed scans points a (omega (arith, b)) (omega (arith, c)) in
    let most = mul-le scans (59 + points * 41) 1000 4100059 b (omega (arith, c)) in
    let lines = lines_few_of drill_setup (script_of seed scans points) in
    capped_low (2 ^ 26) (length (lines_of drill_setup (script_of seed scans points)) + 1)
    (drilled seed scans points).tally (drill_few seed scans points)
    (omega (arith, short, most, lines)) (omega (arith, short, most, lines))
