-- Replies that are held, and where a session is halted whose sink takes no more of them.
use Rattle.std.proofs.Common.{◌≡◌, ℕ, zero, suc, ◌+◌, ◌-◌, ◌<◌, ◌≤◌, ◌⊎◌, List, [], ◌∷◌, ◌++◌}
use Rattle.std.proofs.Common.{length, take, drop, false, is_some, Option, inl, inr, refl, sym, ap}
use Rattle.std.proofs.Common.{subst, ◌∙◌, arith, append_assoc, append-nil, length-append}
use Rattle.std.proofs.Common.{length-drop, Result}
use Rattle.std.proofs.Math.Seq.{take-append-add}
use Rattle.std.proofs.lemmas.Bool.{cases_lt}
use Rattle.std.proofs.lemmas.List.{take-append-drop}
use Rattle.oct_io.specs.Files.{Files}
use Rattle.oct_io.specs.Taken.{IsCutOff}
use Rattle.oct_io.specs.Told.{Rose, appended}
use Rattle.oct_io.proofs.Appending.{appended_twice}
use Rattle.oct_io.proofs.Gathering.{gathered_whole}
use Rattle.oct_io.specs.declared.sink.SinkFault.{SinkFault}
use Rattle.oct_io.specs.declared.store.StoreFault.{StoreFault}
use Rattle.oct_io.specs.declared.store.StoreFault.TheVariants as store_fault
use Rattle.oct_script.specs.Lines.{Line}
use Rattle.oct_script.specs.Replies.{text_of}
use Rattle.oct_session.specs.declared.scan_block.ScanBlock.{ScanBlock}
use Rattle.oct_session.specs.declared.session.Session.{Session}
use Rattle.oct_script.specs.declared.command.Command.{Command}
use Rattle.oct_script.specs.declared.reply.Refusal.{Refusal}
use Rattle.oct_session.specs.Commands.{command_on, may_change, file_saved}
use Rattle.oct_session.specs.Leaving.{Desk, HasAsked, IsHalted, IsKnown, IsLikeAfter}
use Rattle.oct_session.specs.Session.{Progress, effect_of, next_command, after_line, progress}
use Rattle.oct_session.specs.Setup.{Setup}
use Rattle.oct_session.specs.Standing.{seated, IsIdle, IsInStep, IsBetween, IsUnwritten, IsHolding}
use Rattle.oct_session.specs.Standing.{HasHeld, HasMoved}
use Rattle.oct_session.specs.Standing.{Adds, TakesLine, FailsLine, HoldsLine, HaltsLine}
use Rattle.oct_session.specs.Standing.{StandsBeside, IsShort}
use Rattle.oct_io.specs.Stops.{stop_of_sink, stop_of_store, status_of}
use Rattle.oct_session.proofs.Effects.{same_command}
use Rattle.oct_session.proofs.Halting.{halted_last, halted_untold, left_all}
use Rattle.oct_session.proofs.Idle.{idle_none, idle_twice, idle_line, like_idle}
use Rattle.oct_session.proofs.Pieces.{IsBeside}
use Rattle.oct_session.proofs.Progresses.{progress_push, after_answered}

take_short : {A : Type 0} (front more : List A) (k : ℕ) → k < length front
    → take k (front ++ more) ≡ take k front
take_short [] more k less = absurd (omega (arith, less))
take_short (x ∷ front) more zero less = refl
take_short (x ∷ front) more (suc k) less =
    ap (λ l. x ∷ l) (take_short front more k (omega (arith, less)))

-- a line more that changes nothing
unwritten_push : (o : Setup) (files : Option Files) (lines : List Line) (line : Line)
    (front : List ℕ) → IsUnwritten o files lines front
    → IsIdle (progress o files lines) (after_line o (progress o files lines) line)
    → IsUnwritten o files (lines ++ line ∷ []) front
unwritten_push o files lines line front h idle =
    let q : Progress = after_line o (progress o files h.before) h.line in
    let p : Progress = progress o files lines in
    record {
      before = h.before;
      line = h.line;
      behind = h.behind ++ line ∷ [];
      told = h.told;
      untold = h.untold;
      split = ap (λ x. x ++ line ∷ []) h.split
          ∙ append_assoc h.before (h.line ∷ h.behind) (line ∷ []);
      running = h.running;
      reply = h.reply;
      written = h.written;
      more = h.more;
      idle = subst (λ (x : Progress). IsIdle q x) (sym (progress_push o files lines line))
          (idle_twice q p (after_line o p line) h.idle idle);
    }

-- the reply of the last line ends what was written
unwritten_last : (o : Setup) (files : Option Files) (lines : List Line) (line : Line)
    (front held text : List ℕ) (k : ℕ) → (progress o files lines).has_quit ≡ false
    → (progress o files lines).text ≡ front ++ held
    → (after_line o (progress o files lines) line).text ≡ (progress o files lines).text ++ text
    → length held ≤ k → k < length (held ++ text)
    → IsUnwritten o files (lines ++ line ∷ []) (front ++ take k (held ++ text))
unwritten_last o files lines line front held text k running split is least less =
    let p : Progress = progress o files lines in
    let n : ℕ = k - length held in
    let size : k ≡ length held + n = omega (arith, least) in
    let long = length-append held text in
    record {
      before = lines;
      line = line;
      behind = [];
      told = take n text;
      untold = drop n text;
      split = refl;
      running = running;
      reply = is ∙ ap (λ x. p.text ++ x) (sym (take-append-drop n text));
      written = ap (λ x. front ++ x)
          (ap (λ x. take x (held ++ text)) size ∙ take-append-add held text n)
          ∙ sym (append_assoc front held (take n text)) ∙ ap (λ x. x ++ take n text) (sym split);
      more = omega (arith, length-drop n text, less, long, least);
      idle = subst (λ (x : Progress). IsIdle (after_line o p line) x)
          (sym (progress_push o files lines line)) (idle_none (after_line o p line));
    }

-- a count that rose, and stood before where it had stood
pub rose_since : (a b c : ℕ) → b ≡ a → Rose b c → Rose a c
rose_since a b c same rose = subst (λ n. Rose n c) same rose

-- a session is halted there, over map and files as after all these lines
halted_unwritten : {short : Type 0} (o : Setup) (files : Option Files)
    (whole lines more : List Line)
    (front : List ℕ) (w u : Option (List ℕ)) (d : Desk) (fault : SinkFault)
    → whole ≡ lines ++ more → IsUnwritten o files lines front → u ≡ appended w front
    → IsLikeAfter o (progress o files lines) d → HasAsked d (progress o files lines).asks
    → IsShort fault short → IsHalted o files whole w u d short (status_of (stop_of_sink fault))
halted_unwritten o files whole lines more front w u d fault parts h wrote like asked ran =
    let p : Progress = progress o files h.before in
    let q : Progress = after_line o p h.line in
    record {
      before = h.before;
      line = h.line;
      behind = h.behind ++ more;
      split = parts ∙ ap (λ x. x ++ more) h.split
          ∙ append_assoc h.before (h.line ∷ h.behind) more;
      at = record {
        cut = record {
          running = h.running;
          told = h.told;
          untold = h.untold;
          reply = h.reply;
          written = wrote ∙ ap (appended w) h.written;
          more = inl h.more;
        };
        has_left = left_all o (file_saved (next_command p h.line)) d p q h.told fault ran
            (like_idle o d q (progress o files lines) h.idle like);
        asked = subst (HasAsked d) h.idle.asks asked;
      };
    }

-- at first nothing is held
pub holding_none : (o : Setup) (files : Option Files) (lines : List Line) (w v : Option (List ℕ))
    → v ≡ appended w (progress o files lines).text → IsHolding o files lines w v []
holding_none o files lines w v written = record {
  gathered = record {
    front = (progress o files lines).text;
    written = written;
    split = sym (append-nil (progress o files lines).text);
  };
  cut = λ k less. absurd (omega (arith, less));
}

-- what was held is held still, or was written whole
holding_moved : (o : Setup) (files : Option Files) (lines : List Line) (w v u : Option (List ℕ))
    (held rest : List ℕ) → IsHolding o files lines w v held → HasMoved v u held rest
    → IsHolding o files lines w u rest
holding_moved o files lines w v u held rest h (inl (same, none)) =
    subst (λ x. IsHolding o files lines w x rest) (sym same)
    (subst (λ x. IsHolding o files lines w v x) (sym none) h)
holding_moved o files lines w v u held rest h (inr (wrote, none)) =
    subst (λ x. IsHolding o files lines w u x) (sym none)
    (holding_none o files lines w u
    (gathered_whole (progress o files lines).text held w v u h.gathered wrote))

cut_written : (w v u : Option (List ℕ)) (front told : List ℕ) → v ≡ appended w front
    → u ≡ appended v told → u ≡ appended w (front ++ told)
cut_written w v u front told before wrote =
    wrote ∙ ap (λ x. appended x told) before ∙ appended_twice w front told

-- a part of what is held was written
holding_cut : {short : Type 0} (o : Setup) (files : Option Files) (whole lines more : List Line)
    (w v u : Option (List ℕ)) (held : List ℕ) (d : Desk) (fault : SinkFault)
    → whole ≡ lines ++ more → IsHolding o files lines w v held → IsCutOff v u held
    → IsLikeAfter o (progress o files lines) d → HasAsked d (progress o files lines).asks
    → IsShort fault short → IsHalted o files whole w u d short (status_of (stop_of_sink fault))
holding_cut o files whole lines more w v u held d fault parts h (k, less, wrote) like asked ran =
    halted_unwritten o files whole lines more (h.gathered.front ++ take k held) w u d fault parts
    (h.cut k less) (cut_written w v u h.gathered.front (take k held) h.gathered.written wrote) like
    asked ran

-- nothing is held before a line, or it changes nothing
abbrev IsClear : Progress → Line → List ℕ → Type 0
IsClear p line held = (held ≡ []) ⊎ (may_change (next_command p line) ≡ false)

-- a line that is done behind what is held changes nothing
clear_idle : (o : Setup) (p : Progress) (line : Line) (held : List ℕ) (k : ℕ)
    → p.has_quit ≡ false → k < length held → IsClear p line held → IsIdle p (after_line o p line)
clear_idle o p line held k running less (inl none) = absurd (omega (arith, less, ap length none))
clear_idle o p line held k running less (inr same) = idle_line o p line running same

-- the same of the next line of a session that holds this, where this block is open
abbrev pub IsClearNext : List ℕ → Option ScanBlock → ℕ → Line → Type 0
IsClearNext held block number line =
    (held ≡ []) ⊎ (may_change (command_on (is_some block) number line) ≡ false)

-- by the command that was read of it
pub clear_next : (held : List ℕ) (block : Option ScanBlock) (number : ℕ) (line : Line)
    (c : Result Command Refusal) → c ≡ command_on (is_some block) number line
    → (held ≡ []) ⊎ (may_change c ≡ false) → IsClearNext held block number line
clear_next held block number line c read clear =
    subst (λ x. (held ≡ []) ⊎ (may_change x ≡ false)) read clear

-- and where that session stands
clear_read : (s : Session) (p : Progress) (line : Line) → IsInStep s p
    → IsClearNext s.text.items s.block (s.line_count + 1) line → IsClear p line s.text.items
clear_read s p line at clear =
    subst (λ x. (s.text.items ≡ []) ⊎ (may_change x ≡ false))
    (same_command s line p (command_on (is_some s.block) (s.line_count + 1) line) at refl) clear

-- the reply of one line more
holding_more : (o : Setup) (files : Option Files) (lines : List Line) (line : Line)
    (w v : Option (List ℕ)) (held held' text : List ℕ) → (progress o files lines).has_quit ≡ false
    → IsHolding o files lines w v held
    → text ≡ text_of (effect_of o (progress o files lines) line).reply → held' ≡ held ++ text
    → IsClear (progress o files lines) line held
    → IsHolding o files (lines ++ line ∷ []) w v held'
holding_more o files lines line w v held held' text running h told is clear =
    let p : Progress = progress o files lines in
    let all : (after_line o p line).text ≡ p.text ++ text =
    ap (λ (x : Progress). x.text) (after_answered o p line running)
    ∙ ap (λ x. p.text ++ x) (sym told) in
    subst (λ x. IsHolding o files (lines ++ line ∷ []) w v x) (sym is) (record {
      gathered = record {
        front = h.gathered.front;
        written = h.gathered.written;
        split = ap (λ (x : Progress). x.text) (progress_push o files lines line) ∙ all
            ∙ ap (λ x. x ++ text) h.gathered.split ∙ append_assoc h.gathered.front held text;
      };
      cut = λ k less. elim (cases_lt k (length held)) [
        | inl before ↦ subst (λ x. IsUnwritten o files (lines ++ line ∷ []) (h.gathered.front ++ x))
            (sym (take_short held text k before))
            (unwritten_push o files lines line (h.gathered.front ++ take k held) (h.cut k before)
            (clear_idle o p line held k running before clear))
        | inr behind ↦ unwritten_last o files lines line h.gathered.front held text k running
            h.gathered.split all behind less
      ];
    })

-- all that is held, written: the replies so far were
pub holding_whole : (o : Setup) (files : Option Files) (lines : List Line) (w v u : Option (List ℕ))
    (held : List ℕ) → IsHolding o files lines w v held → u ≡ appended v held
    → u ≡ appended w (progress o files lines).text
holding_whole o files lines w v u held h wrote =
    gathered_whole (progress o files lines).text held w v u h.gathered wrote

-- more was written, and then more
pub adds_more : (v x u : Option (List ℕ)) → Adds v x → Adds x u → Adds v u
adds_more v x u (a, one) (b, two) =
    (a ++ b, two ∙ ap (λ y. appended y b) one ∙ appended_twice v a b)

-- a session that has other bytes to be written
pub between_beside : (o : Setup) (d : Desk) (s f : Session) (p : Progress) → IsBeside f s
    → IsBetween o d s p → IsBetween o d f p
between_beside o d s f p beside at = record {
  like = at.like;
  asked = at.asked;
  step = record {
    counted = beside.counted ∙ at.step.counted;
    block = beside.block ∙ at.step.block;
    refused = beside.refused ∙ at.step.refused;
    has_quit = beside.has_quit ∙ at.step.has_quit;
    tally = beside.tally ∙ at.step.tally;
  };
}

pub held_moved : (o : Setup) (files : Option Files) (lines : List Line) (w v u : Option (List ℕ))
    (d : Desk) (s f : Session) → IsBeside f s → HasMoved v u s.text.items f.text.items
    → HasHeld o files lines w v d s → HasHeld o files lines w u d f
held_moved o files lines w v u d s f beside moved at = record {
  between = between_beside o d s f (progress o files lines) beside at.between;
  holding = holding_moved o files lines w v u s.text.items f.text.items at.holding moved;
}

-- a line that is answered behind what is held
pub held_more : {H : Type 0} (o : Setup) (v x : Option (List ℕ)) (d e : H → Desk)
    (s f t : Session) (line : Line) → s.has_quit ≡ false → IsBeside f s
    → HasMoved v x s.text.items f.text.items
    → IsClearNext f.text.items f.block (f.line_count + 1) line → TakesLine o d e f t line
    → HoldsLine o (seated d v) (seated e x) s t line
held_more o v x d e s f t line running beside moved clear takes first files lines w known at =
    let p : Progress = progress o files lines in
    let push = progress_push o files lines line in
    let told : IsKnown (after_line o p line) = subst IsKnown push known in
    let here = between_beside o (d first) s f p beside at.between in
    let after : IsBetween o (e first) t (after_line o p line) = takes.between first p told here in
    record {
      between = subst (λ (q : Progress). IsBetween o (e first) t q) (sym push) after;
      holding = holding_more o files lines line w x f.text.items t.text.items
          (text_of (effect_of o p line).reply) (sym at.between.step.has_quit ∙ running)
          (holding_moved o files lines w v x s.text.items f.text.items at.holding moved)
          refl (takes.text first p told here)
          (clear_read f p line here.step clear);
    }

-- a call that gives up when a part of what is held is written, before a line
pub halted_before_line : {short H : Type 0} (fault : SinkFault) (o : Setup)
    (v u : Option (List ℕ)) (d : H → Desk) (s : Session) (line : Line) → IsCutOff v u s.text.items
    → IsShort fault short
    → HaltsLine o (seated d v) (seated d u) s line short (status_of (stop_of_sink fault))
halted_before_line fault o v u d s line cut ran first files lines w known at =
    holding_cut o files (lines ++ line ∷ []) lines (line ∷ []) w v u s.text.items (d first) fault
    refl at.holding cut at.between.like at.between.asked ran

-- the same, after some lines
pub held_cut : {short : Type 0} (o : Setup) (files : Option Files) (lines : List Line)
    (w v u : Option (List ℕ))
    (d : Desk) (s : Session) (fault : SinkFault) → IsCutOff v u s.text.items → IsShort fault short
    → HasHeld o files lines w v d s
    → IsHalted o files lines w u d short (status_of (stop_of_sink fault))
held_cut o files lines w v u d s fault cut ran at =
    holding_cut o files lines lines [] w v u s.text.items d fault (sym (append-nil lines))
    at.holding cut at.between.like at.between.asked ran

pub halted_behind_line : {short H : Type 0} (fault : SinkFault) (o : Setup)
    (v x u : Option (List ℕ)) (d e : H → Desk) (s t : Session) (line : Line)
    → IsCutOff x u t.text.items → IsShort fault short
    → HoldsLine o (seated d v) (seated e x) s t line
    → HaltsLine o (seated d v) (seated e u) s line short (status_of (stop_of_sink fault))
halted_behind_line fault o v x u d e s t line cut ran more first files lines w known at =
    held_cut o files (lines ++ line ∷ []) w x u (e first) t fault cut ran
    (more first files lines w known at)

-- a part of what is held was written behind a line that has failed: that line was done, with no
-- room for its reply, or it wasn't
failed_cut : {short : Type 0} (o : Setup) (files : Option Files) (lines : List Line) (line : Line)
    (w v u : Option (List ℕ)) (held : List ℕ) (d : Desk) (fault : SinkFault) (own : StoreFault)
    (k : ℕ) → (progress o files lines).has_quit ≡ false → IsHolding o files lines w v held
    → k < length held → u ≡ appended v (take k held)
    → IsClear (progress o files lines) line held
    → StandsBeside o d (progress o files lines) line own
    → HasAsked d (after_line o (progress o files lines) line).asks → IsShort fault short
    → IsHalted o files (lines ++ line ∷ []) w u d short (status_of (stop_of_sink fault))
failed_cut o files lines line w v u held d fault store_fault.Failed k running h less wrote clear
    torn asked ran =
    let idle = clear_idle o (progress o files lines) line held k running less clear in
    absurd (omega (arith, torn.0, idle.asks))
failed_cut o files lines line w v u held d fault store_fault.Memory k running h less wrote clear
    (inl all) asked ran =
    let p : Progress = progress o files lines in
    let push = progress_push o files lines line in
    halted_unwritten o files (lines ++ line ∷ []) (lines ++ line ∷ []) []
    (h.gathered.front ++ take k held) w u d fault (sym (append-nil (lines ++ line ∷ [])))
    (unwritten_push o files lines line (h.gathered.front ++ take k held) (h.cut k less)
    (clear_idle o p line held k running less clear))
    (cut_written w v u h.gathered.front (take k held) h.gathered.written wrote)
    (subst (λ (x : Progress). IsLikeAfter o x d) (sym push) all)
    (subst (λ (x : Progress). HasAsked d x.asks) (sym push) asked) ran
failed_cut o files lines line w v u held d fault store_fault.Memory k running h less wrote clear
    (inr none) asked ran =
    let idle = clear_idle o (progress o files lines) line held k running less clear in
    holding_cut o files (lines ++ line ∷ []) lines (line ∷ []) w v u held d fault refl h
    (k, less, wrote) none (subst (HasAsked d) idle.asks asked) ran

pub halted_with_failed : {short H : Type 0} (fault : SinkFault) (own : StoreFault) (o : Setup)
    (v x u : Option (List ℕ)) (d e : H → Desk) (s f : Session) (line : Line) (held : List ℕ)
    → s.has_quit ≡ false → IsBeside f s → HasMoved v x s.text.items f.text.items
    → held ≡ f.text.items → IsCutOff x u held → IsShort fault short
    → IsClearNext f.text.items f.block (f.line_count + 1) line → FailsLine o d e f line own
    → HaltsLine o (seated d v) (seated e u) s line short (status_of (stop_of_sink fault))
halted_with_failed fault own o v x u d e s f line held running beside moved kept (k, less, wrote)
    ran clear stopped first files lines w known at =
    let p : Progress = progress o files lines in
    let here = between_beside o (d first) s f p beside at.between in
    let b = stopped first p (subst IsKnown (progress_push o files lines line) known) here in
    failed_cut o files lines line w x u f.text.items (e first) fault own k
    (sym at.between.step.has_quit ∙ running)
    (holding_moved o files lines w v x s.text.items f.text.items at.holding moved)
    (subst (λ l. k < length l) kept less) (wrote ∙ ap (λ l. appended x (take k l)) kept)
    (clear_read f p line here.step clear) b.beside b.asked ran

-- a line that has failed, when all that was held is written
pub halted_by_failed : {short H : Type 0} (fault : StoreFault) (o : Setup)
    (v x u : Option (List ℕ)) (d e : H → Desk) (s f : Session) (line : Line) (held : List ℕ)
    → s.has_quit ≡ false → IsBeside f s → HasMoved v x s.text.items f.text.items
    → held ≡ f.text.items → u ≡ appended x held → FailsLine o d e f line fault
    → HaltsLine o (seated d v) (seated e u) s line short (status_of (stop_of_store fault))
halted_by_failed fault o v x u d e s f line held running beside moved kept wrote stopped
    first files lines w known at =
    let p : Progress = progress o files lines in
    let here = between_beside o (d first) s f p beside at.between in
    halted_last o files lines line w u (e first) (status_of (stop_of_store fault))
    (halted_untold o w u (d first) (e first) f line p fault (beside.has_quit ∙ running) (record {
      between = here;
      written = holding_whole o files lines w x u f.text.items
          (holding_moved o files lines w v x s.text.items f.text.items at.holding moved)
          (wrote ∙ ap (appended x) kept);
    }) (stopped first p (subst IsKnown (progress_push o files lines line) known) here))
