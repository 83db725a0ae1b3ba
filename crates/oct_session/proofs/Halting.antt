-- Sessions that are halted at a line, or at the end of the script.
use Rattle.std.proofs.Common.{◌≡◌, ℕ, List, [], ◌∷◌, ◌++◌, take, drop, ◌||◌, true, false, cond}
use Rattle.std.proofs.Common.{Option, None, IsSome, ◌<◌, length, length-drop, arith}
use Rattle.std.proofs.Common.{inl, inr, refl, sym, ap, subst, ◌∙◌}
use Rattle.std.proofs.Common.{append_assoc, append-nil}
use Rattle.std.specs.Prelude.{◌⊎◌}
use Rattle.std.proofs.lemmas.List.{take-append-drop}
use Rattle.oct_io.specs.Files.{Files}
use Rattle.oct_io.specs.Told.{appended}
use Rattle.oct_io.proofs.Appending.{appended_twice}
use Rattle.oct_io.specs.declared.sink.SinkFault.{SinkFault}
use Rattle.oct_io.specs.declared.sink.SinkFault.TheVariants as sink_fault
use Rattle.oct_io.specs.declared.store.StoreFault.{StoreFault}
use Rattle.oct_io.specs.declared.store.StoreFault.TheVariants as store_fault
use Rattle.oct_script.specs.Lines.{Line, ended_lines}
use Rattle.oct_script.specs.declared.reply.Reply.{Reply}
use Rattle.oct_script.specs.Replies.{text_of, is_refusal}
use Rattle.oct_script.proofs.Cuts.{ended_lines-append}
use Rattle.oct_io.specs.declared.status.Status.{Status}
use Rattle.oct_session.specs.declared.session.Session.{Session}
use Rattle.oct_session.specs.Commands.{file_saved}
use Rattle.oct_io.specs.Taken.{IsBegun}
use Rattle.oct_session.specs.Ending.{replies_within, HasReplied}
use Rattle.oct_session.specs.Leaving.{Desk, HasAsked, IsLikeAfter, HasLeft, IsCutBetween}
use Rattle.oct_session.specs.Leaving.{IsHaltedBetween, IsHaltedBy, IsHalted}
use Rattle.oct_session.specs.Session.{Progress, effect_of, next_command, after_line, progress}
use Rattle.oct_session.specs.Session.{ended, closed}
use Rattle.oct_session.specs.ScanBlock.{end_reply, GainsPoint}
use Rattle.oct_session.specs.Setup.{Setup}
use Rattle.oct_session.specs.Tally.{capped, counted as count_reply}
use Rattle.oct_session.specs.declared.tally.Tally.{Tally}
use Rattle.oct_session.specs.Standing.{TakesMemory, StandsBeside, HasFailedAt, IsInStep}
use Rattle.oct_session.specs.Standing.{HasReached, IsShort, IsCutBy}
use Rattle.oct_io.specs.Stops.{stop_of_sink, stop_of_store, status_of}
use Rattle.oct_session.proofs.Effects.{asked_most}
use Rattle.oct_session.proofs.Prefixes.{begun_more}
use Rattle.oct_session.proofs.NonemptyReplies.{text_some}
use Rattle.oct_session.proofs.Progresses.{progress_push, progress_grows, after_answered}
use Rattle.oct_session.proofs.Progresses.{asks_before}

-- what was to be written on the way was written in part
cut_part : (w v u : Option (List ℕ)) (s : Session) (p q : Progress) (text : List ℕ) (k : ℕ)
    → s.has_quit ≡ false → IsInStep s p → v ≡ appended w p.text →
    q.text ≡ p.text ++ text → k < length text → u ≡ appended v (take k text) → IsCutBetween p q w u
cut_part w v u s p q text k running at before is less written = record {
  running = sym at.has_quit ∙ running;
  told = take k text;
  untold = drop k text;
  reply = is ∙ ap (λ x. p.text ++ x) (sym (take-append-drop k text));
  written = written ∙ ap (λ x. appended x (take k text)) before
      ∙ appended_twice w p.text (take k text);
  more = inl (omega (arith, length-drop k text, less));
}

-- nothing was written of it
cut_untold : (w v : Option (List ℕ)) (s : Session) (p q : Progress) (text : List ℕ)
    → s.has_quit ≡ false → IsInStep s p → v ≡ appended w p.text →
    q.text ≡ p.text ++ text → (0 < length text) ⊎ GainsPoint p.block q.block
    → IsCutBetween p q w v
cut_untold w v s p q text running at before is takes = record {
  running = sym at.has_quit ∙ running;
  told = [];
  untold = text;
  reply = is;
  written = before ∙ ap (λ x. appended w x) (sym (append-nil p.text));
  more = takes;
}

-- what is left where all was done
pub left_all : {short : Type 0} (o : Setup) (saved : Option (List ℕ)) (d : Desk) (p q : Progress)
    (told : List ℕ) (fault : SinkFault) → IsShort fault short → IsLikeAfter o q d
    → HasLeft o saved p q told d short (status_of (stop_of_sink fault))
left_all o saved d p q told sink_fault.Failed ran all = all
left_all o saved d p q told sink_fault.Memory ran all = inl (ran refl, all)

-- the same where it may be that nothing was told
left_cut : {short : Type 0} (o : Setup) (saved : Option (List ℕ)) (d : Desk) (p q : Progress)
    (told : List ℕ) (fault : SinkFault) → (told ≡ []) ⊎ IsShort fault short → IsLikeAfter o q d
    → HasLeft o saved p q told d short (status_of (stop_of_sink fault))
left_cut o saved d p q told sink_fault.Failed by all = all
left_cut o saved d p q told sink_fault.Memory (inl none) all = inr (none, inl all)
left_cut o saved d p q told sink_fault.Memory (inr ran) all = inl (ran refl, all)

-- what a line leaves of which nothing was told
left_beside : (short : Type 0) (o : Setup) (d : Desk) (p : Progress) (line : Line)
    (fault : StoreFault)
    → StandsBeside o d p line fault →
    HasLeft o (file_saved (next_command p line)) p (after_line o p line) [] d short
    (status_of (stop_of_store fault))
left_beside short o d p line store_fault.Failed torn = (refl, torn.0, torn.1)
left_beside short o d p line store_fault.Memory some = inr (refl, some)

-- what a line writes
text_line : (o : Setup) (s : Session) (line : Line) (p : Progress) → s.has_quit ≡ false
    → IsInStep s p → (after_line o p line).text ≡ p.text ++ text_of (effect_of o p line).reply
text_line o s line p running at =
    ap (λ (x : Progress). x.text) (after_answered o p line (sym at.has_quit ∙ running))

-- a line that takes memory has a text, or adds a point to the block that is open
memory_taken : (o : Setup) (p : Progress) (line : Line) → p.has_quit ≡ false
    → TakesMemory p.block (effect_of o p line)
    → (0 < length (text_of (effect_of o p line).reply))
    ⊎ GainsPoint p.block (after_line o p line).block
memory_taken o p line running (inl some) = inl (text_some (effect_of o p line).reply some)
memory_taken o p line running (inr gains) =
    inr (subst (λ (x : Progress). GainsPoint p.block x.block)
    (sym (after_answered o p line running)) gains)

-- a halt at a line of whose reply nothing was written
pub halted_untold : {short : Type 0} (o : Setup) (w v : Option (List ℕ)) (d e : Desk) (s : Session)
    (line : Line) (p : Progress) (fault : StoreFault) → s.has_quit ≡ false → HasReached o w v d s p
    → HasFailedAt o e p line fault
    → IsHaltedBy o p line w v e short (status_of (stop_of_store fault))
unfolding cut_untold
halted_untold {short} o w v d e s line p fault running at stopped =
    record {
      cut = cut_untold w v s p (after_line o p line)
          (text_of (effect_of o p line).reply) running at.between.step at.written
          (text_line o s line p running at.between.step)
          (memory_taken o p line (sym at.between.step.has_quit ∙ running) stopped.takes);
      has_left = left_beside short o e p line fault stopped.beside;
      asked = stopped.asked;
    }

-- the end of a script whose session goes on
pub closed_ended : (p : Progress) → p.has_quit ≡ false → closed p ≡ ended p
closed_ended p running = rw running refl

-- the end of a script has no effect after a `quit`
pub closed_quit : (p : Progress) → p.has_quit ≡ true → closed p ≡ p
closed_quit p quit = rw quit refl

-- what stands at the end of a script stood before it
pub like_unclosed : (o : Setup) (d : Desk) (p : Progress) → IsLikeAfter o (closed p) d
    → IsLikeAfter o p d
like_unclosed o d p = elim p.has_quit as
    (λ v. IsLikeAfter o (cond v p (ended p)) d → IsLikeAfter o p d)
    [ true ↦ (λ at. at) | false ↦ (λ at. at) ]

pub closed_files : (p : Progress) → (closed p).files ≡ p.files
closed_files p = elim p.has_quit as (λ v. (cond v p (ended p)).files ≡ p.files)
    [ true ↦ refl | false ↦ refl ]

pub closed_asks : (p : Progress) → (closed p).asks ≡ p.asks
closed_asks p = elim p.has_quit as (λ v. (cond v p (ended p)).asks ≡ p.asks)
    [ true ↦ refl | false ↦ refl ]

-- it may write more after the replies
pub closed_grows : (p : Progress) → (more : List ℕ) × ((closed p).text ≡ p.text ++ more)
closed_grows p = elim p.has_quit as
    (λ v. (more : List ℕ) × ((cond v p (ended p)).text ≡ p.text ++ more)) [
      | true ↦ ([], sym (append-nil p.text))
      | false ↦ (text_of (end_reply p.block), refl)
    ]

-- the end of the script leaves the desk
pub like_closed : (o : Setup) (d : Desk) (p : Progress) → IsLikeAfter o p d
    → IsLikeAfter o (closed p) d
like_closed o d p at = elim p.has_quit as (λ v. IsLikeAfter o (cond v p (ended p)) d)
    [ true ↦ at | false ↦ at ]

-- the end of the script, answered whole
pub closing_told : (w v u : Option (List ℕ)) (s t : Session) (p : Progress) (r : Option Reply)
    (text : List ℕ) → s.has_quit ≡ false → IsInStep s p → v ≡ appended w p.text
    → r ≡ end_reply s.block →
    text ≡ text_of r → u ≡ appended v text → t.line_count ≡ s.line_count → t.block ≡ None
    → t.refused ≡ (s.refused || is_refusal r) → t.has_quit ≡ s.has_quit →
    ((x : Tally) → s.tally ≡ capped x → t.tally ≡ capped (count_reply x r))
    → IsInStep t (closed p) × (u ≡ appended w (closed p).text)
closing_told w v u s t p r text running at before is told written answered block refused quit
    tally =
    let same : r ≡ end_reply p.block = is ∙ ap end_reply at.block in
    subst (λ (x : Progress). IsInStep t x × (u ≡ appended w x.text))
    (sym (closed_ended p (sym at.has_quit ∙ running))) (
      record {
        counted = answered ∙ at.counted;
        block = block;
        refused = refused ∙ ap (λ b. b || is_refusal r) at.refused
            ∙ ap (λ x. p.refused || is_refusal x) same;
        has_quit = quit ∙ at.has_quit;
        tally = tally p.tally at.tally ∙ ap (λ x. capped (count_reply p.tally x)) same;
      },
      written ∙ ap (λ x. appended x text) before ∙ appended_twice w p.text text
          ∙ ap (λ x. appended w (p.text ++ x)) (told ∙ ap text_of same),
    )

-- a session that has closed its script, with the desk that stands by
pub reached_closed : (o : Setup) (w v u : Option (List ℕ)) (d : Desk) (s t : Session) (p : Progress)
    → HasReached o w v d s p → IsInStep t (closed p) × (u ≡ appended w (closed p).text)
    → HasReached o w u d t (closed p)
reached_closed o w v u d s t p at told = record {
  between = record {
    like = like_closed o d p at.between.like;
    asked = subst (HasAsked d)
        (sym (closed_asks p)) at.between.asked;
    step = told.0;
  };
  written = told.1;
}

-- after a `quit` the end of the script is answered with the last line
pub reached_quit : (o : Setup) (w v : Option (List ℕ)) (d : Desk) (s : Session) (p : Progress)
    → s.has_quit ≡ true → HasReached o w v d s p → HasReached o w v d s (closed p)
reached_quit o w v d s p quit at =
    subst (HasReached o w v d s) (sym (closed_quit p (sym at.between.step.has_quit ∙ quit))) at

-- what the end of the script writes
text_end : (s : Session) (p : Progress) (r : Option Reply) → s.has_quit ≡ false → IsInStep s p
    → r ≡ end_reply s.block → (closed p).text ≡ p.text ++ text_of r
text_end s p r running at is =
    ap (λ (x : Progress). x.text) (closed_ended p (sym at.has_quit ∙ running))
    ∙ ap (λ x. p.text ++ text_of x) (sym (is ∙ ap end_reply at.block))

-- a call that gives up before anything of the end's reply is written
pub closing_untold : (short : Type 0) (fault : SinkFault) (v : Option (List ℕ)) (s : Session)
    (r : Option Reply) → s.has_quit ≡ false → r ≡ end_reply s.block → IsSome r
    → (w : Option (List ℕ)) (p : Progress) → IsInStep s p → v ≡ appended w p.text
    → IsCutBy p (closed p) w v short fault
unfolding cut_untold
closing_untold short fault v s r running is some w p at before = record {
  cut = cut_untold w v s p (closed p) (text_of r) running at before (text_end s p r running at is)
      (inl (text_some r some));
  by = inl refl;
}

-- a call that gives up when a part of it is written
pub closing_cut : {short : Type 0} (fault : SinkFault) (v u : Option (List ℕ)) (s : Session)
    (r : Option Reply) (text : List ℕ) (k : ℕ) → IsShort fault short → s.has_quit ≡ false
    → r ≡ end_reply s.block → text ≡ text_of r → k < length text → u ≡ appended v (take k text)
    → (w : Option (List ℕ)) (p : Progress) → IsInStep s p → v ≡ appended w p.text
    → IsCutBy p (closed p) w u short fault
closing_cut fault v u s r text k ran running is told less written w p at before = record {
  cut = cut_part w v u s p (closed p) text k running at before
      (text_end s p r running at is ∙ ap (λ y. p.text ++ y) (sym told)) less written;
  by = inr ran;
}

-- a halt at the end of the script, with the desk that stands by
pub halted_closed : {short : Type 0} (o : Setup) (w v u : Option (List ℕ)) (d : Desk) (s : Session)
    (p : Progress)
    (fault : SinkFault) → HasReached o w v d s p → IsCutBy p (closed p) w u short fault →
    IsHaltedBetween o None p (closed p) w u d short (status_of (stop_of_sink fault))
halted_closed o w v u d s p fault at end = record {
  cut = end.cut;
  has_left = left_cut o None d p (closed p) end.cut.told fault end.by
      (like_closed o d p at.between.like);
  asked = subst (HasAsked d) (sym (closed_asks p)) at.between.asked;
}

-- the last of some lines
pub halted_last : {short : Type 0} (o : Setup) (files : Option Files) (lines : List Line)
    (line : Line)
    (w v : Option (List ℕ)) (d : Desk) (status : Status)
    → IsHaltedBy o (progress o files lines) line w v d short status →
    IsHalted o files (lines ++ line ∷ []) w v d short status
halted_last o files lines line w v d status at =
    record { before = lines; line = line; behind = []; split = refl; at = at }

-- more lines after them
pub halted_more : {short : Type 0} (o : Setup) (files : Option Files) (lines more : List Line)
    (w v : Option (List ℕ)) (d : Desk) (status : Status) → IsHalted o files lines w v d short status
    → IsHalted o files (lines ++ more) w v d short status
halted_more o files lines more w v d status h = record {
  before = h.before;
  line = h.line;
  behind = h.behind ++ more;
  split = ap (λ x. x ++ more) h.split ∙ append_assoc h.before (h.line ∷ h.behind) more;
  at = h.at;
}

-- more bytes after them
pub halted_bytes : {short : Type 0} (o : Setup) (files : Option Files) (bytes more : List ℕ)
    (w v : Option (List ℕ))
    (d : Desk) (status : Status) → IsHalted o files (ended_lines bytes) w v d short status →
    IsHalted o files (ended_lines (bytes ++ more)) w v d short status
halted_bytes {short} o files bytes more w v d status h =
    let s = ended_lines-append bytes more in
    subst (λ x. IsHalted o files x w v d short status) (sym s.1)
    (halted_more o files (ended_lines bytes) s.0 w v d status h)

-- what is written on the way from one state to the next is a prefix of what stands there
pub between_begun : (p q : Progress) (w v : Option (List ℕ)) → IsCutBetween p q w v
    → IsBegun q.text w v
between_begun p q w v h =
    record {
      done = p.text ++ h.told;
      rest = h.untold;
      written = h.written;
      split = h.reply
          ∙ sym (append_assoc p.text h.told h.untold);
    }

-- the lines up to the one at which a session was halted, and those after it
split_at : (o : Setup) (files : Option Files) (lines before behind : List Line) (line : Line)
    → lines ≡ before ++ line ∷ behind → lines ≡ (before ++ line ∷ []) ++ behind
split_at o files lines before behind line split = split
    ∙ sym (append_assoc before (line ∷ []) behind)

-- what was written is a prefix of the replies to all lines
pub halted_begun : {short : Type 0} (o : Setup) (files : Option Files) (lines : List Line)
    (w v : Option (List ℕ))
    (d : Desk) (status : Status) → IsHalted o files lines w v d short status
    → IsBegun (progress o files lines).text w v
halted_begun o files lines w v d status h =
    let p : Progress = progress o files h.before in
    let s = progress_grows o files (h.before ++ h.line ∷ []) h.behind in
    let begun : IsBegun (progress o files (h.before ++ h.line ∷ [])).text w v =
    subst (λ (x : Progress). IsBegun x.text w v) (sym (progress_push o files h.before h.line))
    (between_begun p (after_line o p h.line) w v h.at.cut) in
    begun_more _ _ s.0 w v (ap (λ x. (progress o files x).text)
    (split_at o files lines h.before h.behind h.line h.split) ∙ s.1) begun

-- and the store was asked once at most for each of them that names a file
pub halted_asked : {short : Type 0} (o : Setup) (files : Option Files) (lines : List Line)
    (w v : Option (List ℕ))
    (d : Desk) (status : Status) → IsHalted o files lines w v d short status
    → HasAsked d (progress o files lines).asks
halted_asked o files lines w v d status h =
    subst (λ x. HasAsked d (progress o files x).asks)
    (sym (split_at o files lines h.before h.behind h.line h.split))
    (asked_most d _ _ (asks_before o files (h.before ++ h.line ∷ []) h.behind)
    (subst (λ (x : Progress). HasAsked d x.asks) (sym (progress_push o files h.before h.line))
    h.at.asked))

-- a halt between two states leaves the replies up to the first of them
pub replied_between : (o : Setup) (files : Option Files) (bytes : List ℕ) (p q : Progress)
    (w u : Option (List ℕ)) → (text : List ℕ) × (p.text ≡ replies_within o files bytes ++ text) →
    IsCutBetween p q w u → HasReplied o files bytes w u
replied_between o files bytes p q w u t h = record {
  more = t.0 ++ h.told;
  written = h.written ∙ ap (λ x. appended w (x ++ h.told)) t.1
      ∙ ap (appended w) (append_assoc (replies_within o files bytes) t.0 h.told);
}
