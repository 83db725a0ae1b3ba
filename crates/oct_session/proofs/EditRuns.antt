-- Edits whose replies are written together, before they are done.
use Rattle.std.proofs.Common.{◌≡◌, ℕ, zero, suc, ◌+◌, ◌*◌, ◌<◌, ◌≤◌, List, [], ◌∷◌, ◌++◌}
use Rattle.std.proofs.Common.{length, take, drop, false, ◌||◌, Option, Some, None, Ok}
use Rattle.std.proofs.Common.{refl, sym, ap, subst, ◌∙◌, arith, append_assoc, append-nil}
use Rattle.std.proofs.Common.{length-append, length-drop, Result, ◌-◌}
use Rattle.std.specs.Prelude.{is_some, All}
use Rattle.std.proofs.lemmas.List.Elements.{All-append}
use Rattle.std.proofs.Math.Seq.{take-append-add, take-add}
use Rattle.std.proofs.Math.Bool.{or-false}
use Rattle.std.proofs.lemmas.List.{take-append-drop, map-append, length-take}
use Rattle.std.specs.List.{fold}
use Rattle.std.proofs.lemmas.List.Sums.{fold-append}
use Rattle.oct_io.specs.Files.{Files}
use Rattle.oct_map.specs.Edits.{IsSureOf}
use Rattle.oct_map.specs.Map.{Map}
use Rattle.oct_script.specs.Lines.{Line, LineSoFar, Text, Long, unread, whole, ended_lines}
use Rattle.oct_script.specs.Lines.{IsReading}
use Rattle.oct_script.specs.Lines.{HasEnded}
use Rattle.oct_script.specs.Replies.{text_of, is_refusal}
use Rattle.oct_script.specs.declared.command.Command.{Command}
use Rattle.oct_script.specs.declared.command.Command.TheVariants as command
use Rattle.oct_script.specs.declared.reply.Refusal.{Refusal}
use Rattle.oct_script.specs.declared.reply.Reply.TheVariants as reply_of
use Rattle.oct_session.specs.Ahead.{oks, order_of, actions_of, SaysEdit, SayEdits, AreTaken, IsRun}
use Rattle.oct_session.specs.Ahead.{IsPlaced, AreEdits, HasEdited}
use Rattle.oct_session.specs.Commands.{command_on, edit_reply, order_answer, order_action}
use Rattle.oct_session.specs.Commands.{file_named, asks_for, stored, is_quit, numbered}
use Rattle.oct_session.specs.History.{State, after, after_all, start_state, state_after}
use Rattle.oct_session.specs.Session.{Progress, Effect, effect, replied, effect_of, next_command}
use Rattle.oct_session.specs.Session.{answered, after_line}
use Rattle.oct_session.specs.Setup.{Setup}
use Rattle.oct_session.specs.Tally.{counted}
use Rattle.oct_session.specs.Leaving.{StandsFor}
use Rattle.oct_session.specs.Standing.{HasCarriedOut}
use Rattle.oct_session.specs.declared.ahead.Run.{Run}
use Rattle.oct_session.specs.declared.ahead.VoxelEdit.{VoxelEdit}
use Rattle.oct_session.specs.declared.scan_block.ScanBlock.{ScanBlock}
use Rattle.oct_session.proofs.Pieces.{reads_next}
use Rattle.oct_session.proofs.Progresses.{after_answered}

-- ---- replies

-- a front of the replies to more edits
pub oks_front : (n m : ℕ) → take (3 * n) (oks (n + m)) ≡ oks n
oks_front zero m = refl
oks_front (suc n) m =
    let size : 3 * suc n ≡ 3 + 3 * n = omega arith in
    let more : suc n + m ≡ suc (n + m) = omega arith in
    ap (λ k. take k (oks (suc n + m))) size ∙ ap (λ k. take (3 + 3 * n) (oks k)) more
    ∙ take-append-add (text_of (Some reply_of.Ok)) (oks (n + m)) (3 * n)
    ∙ ap (λ x. text_of (Some reply_of.Ok) ++ x) (oks_front n m)

pub oks_length : (n : ℕ) → length (oks n) ≡ 3 * n
oks_length zero = refl
oks_length (suc n) = let long = length-append (text_of (Some reply_of.Ok)) (oks n) in
    let rest = oks_length n in omega (arith, long, rest)

-- replies of which some bytes are cut off: those to the first edits, and a part of the next one
pub record IsCutAt (k n j : ℕ) : Type 0 where
  pub told : List ℕ
  pub untold : List ℕ
  pub front : take k (oks n) ≡ oks j ++ told
  pub reply : text_of (Some reply_of.Ok) ≡ told ++ untold
  pub more : 0 < length untold

take_short : {A : Type 0} (front more : List A) (k : ℕ) → k ≤ length front
    → take k (front ++ more) ≡ take k front
take_short [] more zero less = refl
take_short [] more (suc k) less = absurd (omega (arith, less))
take_short (x ∷ front) more zero less = refl
take_short (x ∷ front) more (suc k) less =
    ap (λ l. x ∷ l) (take_short front more k (omega (arith, less)))

pub oks_cut : (j k n : ℕ) → j < n → 3 * j ≤ k → k < 3 * j + 3 → IsCutAt k n j
oks_cut j k zero some least most = absurd (omega (arith, some))
oks_cut zero k (suc n) some least most =
    let ok : List ℕ = text_of (Some reply_of.Ok) in
    let few : k < length ok = omega (arith, most) in
    record {
      told = take k ok;
      untold = drop k ok;
      front = take_short ok (oks n) k (omega (arith, few));
      reply = sym (take-append-drop k ok);
      more = omega (arith, length-drop k ok, few);
    }
oks_cut (suc j) k (suc n) some least most =
    let ok : List ℕ = text_of (Some reply_of.Ok) in
    let rest : ℕ = k - 3 in
    let size : k ≡ 3 + rest = omega (arith, least) in
    let here = oks_cut j rest n (omega (arith, some)) (omega (arith, least)) (omega (arith, most))
    in record {
      told = here.told;
      untold = here.untold;
      front = ap (λ x. take x (ok ++ oks n)) size ∙ take-append-add ok (oks n) rest
          ∙ ap (λ x. ok ++ x) here.front ∙ sym (append_assoc ok (oks j) here.told);
      reply = here.reply;
      more = here.more;
    }

-- ---- lines

-- what an edit does that the map takes
abbrev pub edit_effect : VoxelEdit → Effect
edit_effect edit = record {
  reply = Some reply_of.Ok;
  added = order_action (order_of edit) ∷ [];
  saving = None;
  block = None;
}

does_edit : (files : Option Files) (s : State) (number : ℕ) (line : Line) (edit : VoxelEdit)
    (block : Option ScanBlock) (c : Result Command Refusal) → block ≡ None
    → c ≡ Ok (command.Edit edit.p edit.e edit.lazy) → order_answer s (order_of edit) ≡ Ok tt
    → effect files s number line c block ≡ edit_effect edit
does_edit files s number line edit block c none read took =
    ap (λ b. effect files s number line c b) none
    ∙ ap (λ x. effect files s number line x None) read
    ∙ ap (λ r. replied (edit_reply r) (order_action (order_of edit) ∷ []) None) took

reads_edit : (line : Line) (edit : VoxelEdit) (block : Option ScanBlock) (number : ℕ)
    → SaysEdit line edit → block ≡ None
    → command_on (is_some block) number line ≡ Ok (command.Edit edit.p edit.e edit.lazy)
reads_edit (Text text) edit block number says none =
    ap (λ b. command_on (is_some b) number (Text text)) none
    ∙ ap (numbered number) says
reads_edit Long edit block number says none = absurd says

-- a line after another one said this edit, which the map took
pub record IsAfterEdit (p q : Progress) (edit : VoxelEdit) : Type 0 where
  pub history : q.history ≡ p.history ++ order_action (order_of edit) ∷ []
  pub files : q.files ≡ p.files
  pub asks : q.asks ≡ p.asks
  pub line_count : q.line_count ≡ p.line_count + 1
  pub block : q.block ≡ None
  pub refused : q.refused ≡ p.refused
  pub has_quit : q.has_quit ≡ false
  pub tally : q.tally ≡ p.tally
  pub text : q.text ≡ p.text ++ text_of (Some reply_of.Ok)

-- the map takes the next edit
abbrev pub TakesNext : Setup → Progress → VoxelEdit → Type 0
TakesNext o p edit = order_answer (state_after o p.history) (order_of edit) ≡ Ok tt

edit_answered : (o : Setup) (p : Progress) (line : Line) (edit : VoxelEdit) → SaysEdit line edit
    → p.block ≡ None → TakesNext o p edit → IsAfterEdit p (answered o p line) edit
edit_answered o p line edit says none took =
    let read = reads_edit line edit p.block (p.line_count + 1) says none in
    let does : effect_of o p line ≡ edit_effect edit =
    does_edit p.files (state_after o p.history) (p.line_count + 1) line edit p.block
    (next_command p line) none read took in
    let asked : asks_for (file_named (next_command p line)) ≡ 0 =
    ap (λ c. asks_for (file_named c)) read in
    record {
      history = ap (λ (e : Effect). p.history ++ e.added) does;
      files = ap (λ (e : Effect). stored p.files e.saving) does;
      asks = omega (arith, asked);
      line_count = refl;
      block = ap (λ (e : Effect). e.block) does;
      refused = ap (λ (e : Effect). p.refused || is_refusal e.reply) does ∙ or-false p.refused;
      has_quit = ap is_quit read;
      tally = ap (λ (e : Effect). counted p.tally e.reply) does;
      text = ap (λ (e : Effect). p.text ++ text_of e.reply) does;
    }

pub edit_after : (o : Setup) (p : Progress) (line : Line) (edit : VoxelEdit) → SaysEdit line edit
    → p.block ≡ None → p.has_quit ≡ false → TakesNext o p edit
    → IsAfterEdit p (after_line o p line) edit
edit_after o p line edit says none running took =
    subst (λ q. IsAfterEdit p q edit) (sym (after_answered o p line running))
    (edit_answered o p line edit says none took)

-- lines one after another said these edits
pub record IsAfterEdits (p q : Progress) (edits : List VoxelEdit) : Type 0 where
  pub history : q.history ≡ p.history ++ actions_of edits
  pub files : q.files ≡ p.files
  pub asks : q.asks ≡ p.asks
  pub line_count : q.line_count ≡ p.line_count + length edits
  pub block : q.block ≡ None
  pub refused : q.refused ≡ p.refused
  pub has_quit : q.has_quit ≡ false
  pub tally : q.tally ≡ p.tally
  pub text : q.text ≡ p.text ++ oks (length edits)

pub edits_after : (o : Setup) (p : Progress) (lines : List Line) (edits : List VoxelEdit)
    → SayEdits lines edits → p.block ≡ None → p.has_quit ≡ false
    → AreTaken (state_after o p.history) edits
    → IsAfterEdits p (fold (after_line o) p lines) edits
edits_after o p [] [] said none running took = record {
  history = sym (append-nil p.history);
  files = refl;
  asks = refl;
  line_count = omega arith;
  block = none;
  refused = refl;
  has_quit = running;
  tally = refl;
  text = sym (append-nil p.text);
}
edits_after o p [] (edit ∷ edits) said none running took = absurd said
edits_after o p (line ∷ lines) [] said none running took = absurd said
edits_after o p (line ∷ lines) (edit ∷ edits) said none running took =
    let q : Progress = after_line o p line in
    let one = edit_after o p line edit said.0 none running took.0 in
    let next : state_after o q.history
    ≡ after (state_after o p.history) (order_action (order_of edit)) =
    ap (λ h. state_after o h) one.history
    ∙ fold-append after (start_state o) p.history (order_action (order_of edit) ∷ []) in
    let rest = edits_after o q lines edits said.1 one.block one.has_quit
    (subst (λ s. AreTaken s edits) (sym next) took.1) in
    let count = rest.line_count in
    let first = one.line_count in
    record {
      history = rest.history ∙ ap (λ h. h ++ actions_of edits) one.history
          ∙ append_assoc p.history (order_action (order_of edit) ∷ []) (actions_of edits);
      files = rest.files ∙ one.files;
      asks = rest.asks ∙ one.asks;
      line_count = omega (arith, count, first);
      block = rest.block;
      refused = rest.refused ∙ one.refused;
      has_quit = rest.has_quit;
      tally = rest.tally ∙ one.tally;
      text = rest.text ∙ ap (λ x. x ++ oks (length edits)) one.text
          ∙ append_assoc p.text (text_of (Some reply_of.Ok)) (oks (length edits));
    }

-- the first of some edits, and one behind them
pub taken_split : (s : State) (front : List VoxelEdit) (edit : VoxelEdit)
    → AreTaken s (front ++ edit ∷ []) → AreTaken s front
    × (order_answer (after_all s (actions_of front)) (order_of edit) ≡ Ok tt)
taken_split s [] edit took = (tt, took.0)
taken_split s (first ∷ front) edit took =
    let rest = taken_split (after s (order_action (order_of first))) front edit took.1 in
    ((took.0, rest.0), rest.1)

pub taken_push : (s : State) (front : List VoxelEdit) (edit : VoxelEdit) → AreTaken s front
    → order_answer (after_all s (actions_of front)) (order_of edit) ≡ Ok tt
    → AreTaken s (front ++ edit ∷ [])
taken_push s [] edit took next = (next, tt)
taken_push s (first ∷ front) edit took next =
    (took.0, taken_push (after s (order_action (order_of first))) front edit took.1 next)

-- lines that say edits, cut at one of these
pub record IsCutSaid (lines : List Line) (front : List VoxelEdit) (edit : VoxelEdit) : Type 0 where
  pub before : List Line
  pub line : Line
  pub behind : List Line
  pub split : lines ≡ before ++ line ∷ behind
  pub said : SayEdits before front
  pub says : SaysEdit line edit

pub said_split : (lines : List Line) (front : List VoxelEdit) (edit : VoxelEdit)
    (behind : List VoxelEdit) → SayEdits lines (front ++ edit ∷ behind)
    → IsCutSaid lines front edit
said_split [] [] edit behind said = absurd said
said_split [] (first ∷ front) edit behind said = absurd said
said_split (line ∷ lines) [] edit behind said = record {
  before = [];
  line = line;
  behind = lines;
  split = refl;
  said = tt;
  says = said.0;
}
said_split (line ∷ lines) (first ∷ front) edit behind said =
    let rest = said_split lines front edit behind said.1 in
    record {
      before = line ∷ rest.before;
      line = rest.line;
      behind = rest.behind;
      split = ap (λ x. line ∷ x) rest.split;
      said = (said.0, rest.said);
      says = rest.says;
    }

pub said_push : (lines : List Line) (edits : List VoxelEdit) (line : Line) (edit : VoxelEdit)
    → SayEdits lines edits → SaysEdit line edit → SayEdits (lines ++ line ∷ []) (edits ++ edit ∷ [])
said_push [] [] line edit said says = (says, tt)
said_push [] (first ∷ edits) line edit said says = absurd said
said_push (first ∷ lines) [] line edit said says = absurd said
said_push (first ∷ lines) (one ∷ edits) line edit said says =
    (said.0, said_push lines edits line edit said.1 says)

pub said_length : (lines : List Line) (edits : List VoxelEdit) → SayEdits lines edits
    → length lines ≡ length edits
said_length [] [] said = refl
said_length [] (edit ∷ edits) said = absurd said
said_length (line ∷ lines) [] said = absurd said
said_length (line ∷ lines) (edit ∷ edits) said = ap suc (said_length lines edits said.1)

-- a list cut at one of its places
pub record IsCutList {A : Type 0} (xs : List A) (j : ℕ) : Type 0 where
  pub item : A
  pub behind : List A
  pub split : xs ≡ take j xs ++ item ∷ behind
  pub upto : take (j + 1) xs ≡ take j xs ++ item ∷ []

pub cut_list : {A : Type 0} (xs : List A) (j : ℕ) → j < length xs → IsCutList xs j
cut_list [] j less = absurd (omega (arith, less))
cut_list (x ∷ xs) zero less = record { item = x; behind = xs; split = refl; upto = refl }
cut_list (x ∷ xs) (suc j) less =
    let rest = cut_list xs j (omega (arith, less)) in
    let more : suc j + 1 ≡ suc (j + 1) = omega arith in
    record {
      item = rest.item;
      behind = rest.behind;
      split = ap (λ l. x ∷ l) rest.split;
      upto = ap (λ n. take n (x ∷ xs)) more ∙ ap (λ l. x ∷ l) rest.upto;
    }

-- ---- a run

-- no lines
pub run_none : (m : Map) (line : LineSoFar) (piece : List ℕ) (run : Run) → run.edits.items ≡ []
    → run.taken ≡ 0 → IsRun m line piece run
run_none m line piece run none start = record {
  within = omega (arith, start);
  edits = record {
    lines = [];
    whole = record {
      few = omega arith;
      ends = λ before reads.
          let same : before ++ take run.taken piece ≡ before =
          ap (λ n. before ++ take n piece) start ∙ append-nil before in (
            ap ended_lines same ∙ sym (append-nil (ended_lines before)),
            subst (IsReading unread) (sym same) reads,
          );
    };
    said = subst (SayEdits []) (sym none) tt;
  };
  placed = subst (All (IsPlaced m.tree.res)) (sym none)
      (λ k d less. absurd (omega (arith, less)));
  sure = λ some. absurd (omega (arith, some, ap length none));
}

all_one : {X : Type 0} (P : X → Type 0) (x : X) → P x → All P (x ∷ [])
all_one P x holds zero d less = holds
all_one P x holds (suc k) d less = absurd (omega (arith, less))

-- one line more
pub run_next : (m : Map) (line : LineSoFar) (piece rest text : List ℕ) (run next : Run)
    (edit : VoxelEdit) (n : ℕ) → IsRun m line piece run → rest ≡ drop run.taken piece
    → n ≤ length rest → 0 < n → line ≡ unread →
    ((bytes : List ℕ) → IsReading line bytes → HasEnded (whole text) bytes (bytes ++ take n rest))
    → SaysEdit (Text text) edit → IsPlaced m.tree.res edit
    → IsSureOf m (length run.edits.items + 1) → next.edits.items ≡ run.edits.items ++ edit ∷ []
    → next.taken ≡ run.taken + n → IsRun m line piece next
run_next m line piece rest text run next edit n at is within some fresh ends says placed sure pushed
    taken =
    let front : List ℕ = take run.taken piece in
    let bytes : take next.taken piece ≡ front ++ take n rest =
    ap (λ k. take k piece) taken ∙ take-add run.taken n piece
    ∙ ap (λ x. front ++ take n x) (sym is) in
    let size : length next.edits.items ≡ length run.edits.items + 1 =
    ap length pushed ∙ length-append run.edits.items (edit ∷ []) in
    record {
      within = omega (arith, taken, within, at.within, ap length is, length-drop run.taken piece);
      edits = subst (λ x. AreEdits x next.edits.items) (sym bytes)
          (subst (AreEdits (front ++ take n rest)) (sym pushed) (record {
            lines = at.edits.lines ++ Text text ∷ [];
            whole = record {
              few = omega (
                arith,
                at.edits.whole.few,
                length-append at.edits.lines (Text text ∷ []),
                length-append front (take n rest),
                length-take n rest,
                within,
                some,
              );
              ends = λ before reads. more before (at.edits.whole.ends before reads);
            };
            said = said_push at.edits.lines run.edits.items (Text text) edit at.edits.said says;
          }));
      placed = subst (All (IsPlaced m.tree.res)) (sym pushed)
          (All-append (IsPlaced m.tree.res) run.edits.items (edit ∷ []) at.placed
          (all_one (IsPlaced m.tree.res) edit placed));
      sure = λ any. (subst (IsSureOf m) (sym size) sure, fresh);
    }
  where
    more : (before : List ℕ) → (ended_lines (before ++ take run.taken piece)
        ≡ ended_lines before ++ at.edits.lines) × IsReading unread (before ++ take run.taken piece)
        → (ended_lines (before ++ (take run.taken piece ++ take n rest))
        ≡ ended_lines before ++ (at.edits.lines ++ Text text ∷ []))
        × IsReading unread (before ++ (take run.taken piece ++ take n rest))
    more before (lines, reads) =
        let front : List ℕ = take run.taken piece in
        let same : (before ++ front) ++ take n rest ≡ before ++ (front ++ take n rest) =
        append_assoc before front (take n rest) in
        let end : HasEnded (whole text) (before ++ front) ((before ++ front) ++ take n rest) =
        ends (before ++ front) (subst (λ l. IsReading l (before ++ front)) (sym fresh) reads) in (
          sym (ap ended_lines same) ∙ end.lines ∙ ap (λ x. x ++ Text text ∷ []) lines
              ∙ append_assoc (ended_lines before) at.edits.lines (Text text ∷ []),
          subst (IsReading unread) same
              (reads_next unread ((before ++ front) ++ take n rest) refl end.rest),
        )

-- an edit more, which the map did
pub edited_push : (m n q : Map) (edits : List VoxelEdit) (edit : VoxelEdit) → HasEdited m n edits
    → HasCarriedOut n q (order_of edit) (Ok tt) → HasEdited m q (edits ++ edit ∷ [])
edited_push m n q edits edit edited done s at =
    let one = edited s at in
    let next = done (after_all s (actions_of edits)) one.1 in (
      taken_push s edits edit one.0 (sym next.0),
      subst (StandsFor q) (sym (ap (λ h. after_all s h)
          (map-append (λ e. order_action (order_of e)) edits (edit ∷ []))
          ∙ fold-append after s (actions_of edits) (order_action (order_of edit) ∷ []))) next.1,
    )
