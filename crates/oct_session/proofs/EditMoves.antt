-- A session that answers edits together.
use Rattle.std.proofs.Common.{◌≡◌, ℕ, ◌+◌, ◌-◌, ◌*◌, ◌<◌, ◌≤◌, List, [], ◌∷◌, ◌++◌, length, take}
use Rattle.std.proofs.Common.{false, ◌^◌}
use Rattle.std.proofs.Common.{Option, Some, None, Result, Ok, Err, inl, inr, refl, sym, ap, subst}
use Rattle.std.proofs.Common.{◌∙◌, arith, append_assoc}
use Rattle.std.specs.Prelude.{is_some, Bool}
use Rattle.std.specs.List.{fold}
use Rattle.std.proofs.lemmas.List.{take_all, map-append, length-take-le, length-take}
use Rattle.std.proofs.lemmas.List.Sums.{fold-append}
use Rattle.oct_io.specs.Files.{Files}
use Rattle.oct_io.specs.FaultCounts.{IsAsked}
use Rattle.oct_io.specs.Counts.{IsWriteCounted}
use Rattle.oct_io.specs.Shelf.{Shelf}
use Rattle.oct_io.specs.Stops.{stop_of_sink, status_of}
use Rattle.oct_io.specs.Told.{Rose, appended}
use Rattle.oct_io.proofs.Appending.{appended_twice, appended_nil}
use Rattle.oct_io.specs.declared.sink.Sink as sink
use Rattle.oct_io.specs.declared.stop.Stop.{Stop}
use Rattle.oct_io.specs.declared.sink.SinkFault.{SinkFault}
use Rattle.oct_io.specs.declared.sink.SinkFault.TheVariants as sink_fault
use Rattle.oct_map.specs.Map.{Map}
use Rattle.oct_script.specs.Lines.{Line, LineSoFar, unread, ended_lines, IsReading}
use Rattle.oct_script.specs.Replies.{text_of}
use Rattle.oct_script.specs.declared.reply.Reply.TheVariants as reply_of
use Rattle.oct_session.specs.Ahead.{oks, order_of, actions_of, SayEdits, AreEdits}
use Rattle.oct_session.specs.Ahead.{HasEdited, HasWritten, AreBegun}
use Rattle.oct_session.specs.Commands.{order_action, order_answer, file_saved}
use Rattle.oct_session.specs.History.{after, after_all, start_state, state_after}
use Rattle.oct_session.specs.Leaving.{StandsFor, HasAsked, IsLikeAfter, IsKnown, IsHalted}
use Rattle.oct_session.specs.Leaving.{IsHaltedBy}
use Rattle.oct_session.specs.Moments.{Moment, Makes, Take, IsBetweenLines, IsCounted}
use Rattle.oct_session.specs.Moments.{AnswersEdits, fault_in, stop_in, taken_of, HasRoom, IsReady}
use Rattle.oct_session.specs.Session.{Progress, start, after_line, progress, next_command}
use Rattle.oct_session.specs.Setup.{Setup}
use Rattle.oct_session.specs.Standing.{IsBetween, IsHolding, HasHeld, KeepsStanding}
use Rattle.oct_session.specs.Standing.{IsShort}
use Rattle.oct_session.specs.Tally.{capped}
use Rattle.oct_session.specs.declared.ahead.VoxelEdit.{VoxelEdit}
use Rattle.oct_session.specs.declared.scan_block.ScanBlock.{ScanBlock}
use Rattle.oct_session.specs.declared.session.Session.{Session}
use Rattle.oct_session.proofs.EditRuns.{IsAfterEdits, edits_after, edit_after, taken_split}
use Rattle.oct_session.proofs.EditRuns.{said_split, said_length, oks_length, oks_cut, cut_list}
use Rattle.oct_session.proofs.Halting.{left_all}
use Rattle.oct_session.proofs.Holding.{holding_none, holding_whole}
use Rattle.oct_session.proofs.Moves.{other, halts_sink}
use Rattle.oct_session.proofs.PieceMoves.{takes_join}
use Rattle.oct_session.proofs.Progresses.{known_before}

-- ---- a session that has done edits

-- a session that has answered so many lines that said edits
pub record HasCounted (s t : Session) (count : ℕ) : Type 0 where
  pub counted : t.line_count ≡ s.line_count + count
  pub block : t.block ≡ s.block
  pub refused : t.refused ≡ s.refused
  pub has_quit : t.has_quit ≡ s.has_quit
  pub tally : t.tally ≡ s.tally
  pub text : t.text.items ≡ s.text.items
  pub line : t.line ≡ s.line

-- between two moments the map did these edits, and nothing else was done but writing
pub record HasDone {F : Type 0} (a b : Moment F) (edits : List VoxelEdit) : Type 1 where
  pub map_name : b.map_name ≡ a.map_name
  pub store_name : b.store_name ≡ a.store_name
  pub sink_name : b.sink_name ≡ a.sink_name
  pub from : (first : F) → (a.desk first).map ≡ a.map
  pub to : (first : F) → (b.desk first).map ≡ b.map
  pub store : (first : F) → (b.desk first).store ≡ (a.desk first).store
  pub store_faults : b.store_faults ≡ a.store_faults
  pub edited : HasEdited a.map b.map edits

-- the state after more actions
after_more : (o : Setup) (p q : Progress) (edits : List VoxelEdit)
    → q.history ≡ p.history ++ actions_of edits
    → state_after o q.history ≡ after_all (state_after o p.history) (actions_of edits)
after_more o p q edits is = ap (λ h. state_after o h) is
    ∙ fold-append after (start_state o) p.history (actions_of edits)

keeps_some : (m n : Map) (edits : List VoxelEdit) → HasEdited m n edits → KeepsStanding m n
keeps_some m n edits edited o (h, at) = (
  h ++ actions_of edits,
  subst (StandsFor n) (sym (fold-append after (start_state o) h (actions_of edits)))
      (edited (state_after o h) at).1,
)

-- what was written before where nothing is held
written_all : (o : Setup) (files : Option Files) (lines : List Line) (w v : Option (List ℕ))
    (held : List ℕ) → held ≡ [] → IsHolding o files lines w v held
    → v ≡ appended w (progress o files lines).text
written_all o files lines w v held none at =
    holding_whole o files lines w v v held at (appended_nil v ∙ ap (appended v) (sym none))

-- map and files after edits
like_edits : {F : Type 0} (o : Setup) (a b : Moment F) (first : F) (p q : Progress)
    (edits : List VoxelEdit) → HasDone a b edits → IsLikeAfter o p (a.desk first)
    → q.history ≡ p.history ++ actions_of edits → q.files ≡ p.files
    → IsLikeAfter o q (b.desk first)
like_edits o a b first p q edits done like history files =
    let at : StandsFor a.map (state_after o p.history) =
    subst (λ m. StandsFor m (state_after o p.history)) (done.from first) like.stands in
    record {
      stands = subst (λ m. StandsFor m (state_after o q.history)) (sym (done.to first))
          (subst (StandsFor b.map) (sym (after_more o p q edits history))
          (done.edited (state_after o p.history) at).1);
      told = ap (λ (x : Shelf). x.files) (done.store first) ∙ like.told ∙ sym files;
    }

asked_edits : {F : Type 0} (a b : Moment F) (first : F) (p q : Progress) (edits : List VoxelEdit)
    → HasDone a b edits → HasAsked (a.desk first) p.asks → q.asks ≡ p.asks
    → HasAsked (b.desk first) q.asks
asked_edits a b first p q edits done asked same =
    subst (λ (x : Shelf). IsAsked x.same x.first_calls x.calls q.asks) (sym (done.store first))
    (subst (λ n. HasAsked (a.desk first) n) (sym same) asked)

-- desk and session behind lines that said edits
held_edits : {F : Type 0} (o : Setup) (files : Option Files) (lines more : List Line)
    (w : Option (List ℕ)) (a b : Moment F) (first : F) (edits : List VoxelEdit)
    → IsBetweenLines a.session → HasDone a b edits
    → HasCounted a.session b.session (length edits)
    → b.written ≡ appended a.written (oks (length edits)) → SayEdits more edits
    → HasHeld o files lines w a.written (a.desk first) a.session
    → HasHeld o files (lines ++ more) w b.written (b.desk first) b.session
held_edits o files lines more w a b first edits here done counts wrote said at =
    let p : Progress = progress o files lines in
    let q : Progress = fold (after_line o) p more in
    let is : progress o files (lines ++ more) ≡ q =
    fold-append (after_line o) (start files) lines more in
    let step = at.between.step in
    let stands : StandsFor a.map (state_after o p.history) =
    subst (λ m. StandsFor m (state_after o p.history)) (done.from first) at.between.like.stands in
    let late : IsAfterEdits p q edits =
    edits_after o p more edits said (sym step.block ∙ here.closed)
    (sym step.has_quit ∙ here.running) (done.edited (state_after o p.history) stands).0 in
    let lines_so_far = counts.counted in
    let lines_before = step.counted in
    let lines_after = late.line_count in
    let text : b.written ≡ appended w (progress o files (lines ++ more)).text =
    wrote
    ∙ ap (λ v. appended v (oks (length edits)))
    (written_all o files lines w a.written a.session.text.items here.empty at.holding)
    ∙ appended_twice w p.text (oks (length edits)) ∙ ap (appended w) (sym late.text)
    ∙ ap (λ (x : Progress). appended w x.text) (sym is) in
    record {
      between = subst (IsBetween o (b.desk first) b.session) (sym is) (record {
        like = like_edits o a b first p q edits done at.between.like late.history late.files;
        asked = asked_edits a b first p q edits done at.between.asked late.asks;
        step = record {
          counted = omega (arith, lines_so_far, lines_before, lines_after);
          block = counts.block ∙ here.closed ∙ sym late.block;
          refused = counts.refused ∙ step.refused ∙ sym late.refused;
          has_quit = counts.has_quit ∙ here.running ∙ sym late.has_quit;
          tally = counts.tally ∙ step.tally ∙ ap capped (sym late.tally);
        };
      });
      holding = subst (λ x. IsHolding o files (lines ++ more) w b.written x)
          (sym (counts.text ∙ here.empty)) (holding_none o files (lines ++ more) w b.written text);
    }

-- the lines of a run are no more than its bytes
pub edits_few : (bytes : List ℕ) (edits : List VoxelEdit) → AreEdits bytes edits
    → length edits ≤ length bytes
edits_few bytes edits said = let same = said_length said.lines edits said.said in
    let few = said.whole.few in omega (arith, same, few)

-- edits that were all answered
takes_edits : {F : Type 0} (a b : Moment F) (bytes : List ℕ) (edits : List VoxelEdit)
    → IsBetweenLines a.session → AreEdits bytes edits → HasDone a b edits
    → HasCounted a.session b.session (length edits)
    → b.written ≡ appended a.written (oks (length edits)) → IsCounted a b None
    → Makes (Take bytes) a b None
takes_edits a b bytes edits here said done counts wrote counted = record {
  done = record {
    map_name = done.map_name;
    store_name = done.store_name;
    sink_name = done.sink_name;
    adds = (oks (length edits), wrote);
    stands = keeps_some a.map b.map edits done.edited;
    counted = counted;
  };
  to = (
    (
      λ more room. record {
        held = omega (arith, room.held, ap length counts.text);
        few = omega (arith, room.few, counts.counted, edits_few bytes edits said);
      },
      λ unended. ap (λ (l : LineSoFar). l.has_ended) counts.line ∙ unended,
    ),
    λ o first files w before at.
        let reads : IsReading unread before =
        subst (λ l. IsReading l before) here.line (at.line here.running) in
        let ends = said.whole.ends before reads in record {
          reached = λ known. subst (λ x. HasHeld o files x w b.written (b.desk first) b.session)
              (sym ends.0)
              (held_edits o files (ended_lines before) said.lines w a b first edits here done counts
              wrote said.said (at.reached (known_before o files (ended_lines before) said.lines
              (subst (λ x. IsKnown (progress o files x)) ends.0 known))));
          line = λ running. subst (λ l. IsReading l (before ++ bytes))
              (sym (counts.line ∙ here.line)) ends.1;
        },
  );
}

-- ---- a session whose replies were cut off

-- it is halted at the line whose reply was cut off
halted_edit : {F : Type 0} (short : Type 0) (fault : SinkFault) (o : Setup) (files : Option Files)
    (lines more : List Line) (w : Option (List ℕ)) (a b : Moment F) (first : F)
    (front behind : List VoxelEdit) (edit : VoxelEdit) (told untold : List ℕ)
    → IsBetweenLines a.session → HasDone a b (front ++ edit ∷ [])
    → b.written ≡ appended a.written (oks (length front) ++ told)
    → text_of (Some reply_of.Ok) ≡ told ++ untold → 0 < length untold → IsShort fault short
    → SayEdits more (front ++ edit ∷ behind)
    → HasHeld o files lines w a.written (a.desk first) a.session
    → IsHalted o files (lines ++ more) w b.written (b.desk first) short
    (status_of (stop_of_sink fault))
halted_edit short fault o files lines more w a b first front behind edit told untold here done wrote
    reply some ran said at =
    let p : Progress = progress o files lines in
    let cut = said_split more front edit behind said in
    let q : Progress = fold (after_line o) p cut.before in
    let r : Progress = after_line o q cut.line in
    let is : progress o files (lines ++ cut.before) ≡ q =
    fold-append (after_line o) (start files) lines cut.before in
    let step = at.between.step in
    let stands : StandsFor a.map (state_after o p.history) =
    subst (λ m. StandsFor m (state_after o p.history)) (done.from first) at.between.like.stands in
    let took = taken_split (state_after o p.history) front edit
    (done.edited (state_after o p.history) stands).0 in
    let late : IsAfterEdits p q front = edits_after o p cut.before front cut.said
    (sym step.block ∙ here.closed) (sym step.has_quit ∙ here.running) took.0 in
    let last = edit_after o q cut.line edit cut.says late.block late.has_quit
    (subst (λ s. order_answer s (order_of edit) ≡ Ok tt) (sym (after_more o p q front late.history))
    took.1) in
    let history : r.history ≡ p.history ++ actions_of (front ++ edit ∷ []) =
    last.history ∙ ap (λ h. h ++ order_action (order_of edit) ∷ []) late.history
    ∙ append_assoc p.history (actions_of front) (order_action (order_of edit) ∷ [])
    ∙ ap (λ h. p.history ++ h)
    (sym (map-append (λ e. order_action (order_of e)) front (edit ∷ []))) in
    record {
      before = lines ++ cut.before;
      line = cut.line;
      behind = cut.behind;
      split = ap (λ x. lines ++ x) cut.split
          ∙ sym (append_assoc lines cut.before (cut.line ∷ cut.behind));
      at = subst (λ x. IsHaltedBy o x cut.line w b.written (b.desk first) short
          (status_of (stop_of_sink fault))) (sym is) (record {
            cut = record {
              running = late.has_quit;
              told = told;
              untold = untold;
              reply = last.text ∙ ap (λ x. q.text ++ x) reply;
              written = wrote
                  ∙ ap (λ v. appended v (oks (length front) ++ told))
                  (written_all o files lines w a.written a.session.text.items here.empty at.holding)
                  ∙ appended_twice w p.text (oks (length front) ++ told)
                  ∙ ap (appended w) (sym (append_assoc p.text (oks (length front)) told)
                  ∙ ap (λ x. x ++ told) (sym late.text));
              more = inl some;
            };
            has_left = left_all o (file_saved (next_command q cut.line)) (b.desk first) q r told
                fault ran
                (like_edits o a b first p r (front ++ edit ∷ []) done at.between.like history
                (last.files ∙ late.files));
            asked = asked_edits a b first p r (front ++ edit ∷ []) done at.between.asked
                (last.asks ∙ late.asks);
          });
    }

counted_edits : {F T : Type 0} (a b : Moment F) (fault : SinkFault)
    → b.store_faults ≡ a.store_faults
    → IsWriteCounted {T = T} (Err fault) a.sink_faults b.sink_faults a.shortages b.shortages
    → IsCounted a b (Some (stop_of_sink fault))
counted_edits a b sink_fault.Failed same counts =
    ((counts.failed refl).0, (counts.failed refl).1, same)
counted_edits a b sink_fault.Memory same counts =
    ((counts.memory refl).0, inr (counts.memory refl).1, same)

-- edits whose replies were cut off, of which those were done whose reply was begun
halts_edits : {F T : Type 0} (a b : Moment F) (bytes : List ℕ) (edits : List VoxelEdit)
    (told begun : ℕ) (fault : SinkFault) → IsBetweenLines a.session → AreEdits bytes edits
    → HasDone a b (take begun edits) → AreBegun told (length edits) begun
    → told < 3 * length edits → b.written ≡ appended a.written (take told (oks (length edits)))
    → IsWriteCounted {T = T} (Err fault) a.sink_faults b.sink_faults a.shortages b.shortages
    → Makes (Take bytes) a b (Some (stop_of_sink fault))
halts_edits a b bytes edits told begun fault here said done counts less wrote counted =
    let bounds = counts.cut less in
    let least = bounds.0 in
    let most = bounds.1 in
    let within = counts.within in
    let j : ℕ = begun - 1 in
    let size : begun ≡ j + 1 = omega (arith, least) in
    let there : j < length edits = omega (arith, size, within) in
    let cut = cut_list edits j there in
    let short : length (take j edits) ≡ j = length-take-le j edits (omega (arith, there)) in
    let text = oks_cut j told (length edits) there (omega (arith, size, most))
    (omega (arith, size, least)) in
    let did : HasDone a b (take j edits ++ cut.item ∷ []) =
    subst (HasDone a b) (ap (λ n. take n edits) size ∙ cut.upto) done in
    record {
      done = record {
        map_name = done.map_name;
        store_name = done.store_name;
        sink_name = done.sink_name;
        adds = (take told (oks (length edits)), wrote);
        stands = keeps_some a.map b.map (take begun edits) done.edited;
        counted = counted_edits a b fault done.store_faults counted;
      };
      to = (
        halts_sink fault,
        λ o first files w before at known.
            let reads : IsReading unread before =
            subst (λ l. IsReading l before) here.line (at.line here.running) in
            let ends = said.whole.ends before reads in
            subst (λ x. IsHalted o files x w b.written (b.desk first)
            (Rose a.shortages b.shortages) (status_of (stop_of_sink fault))) (sym ends.0)
            (halted_edit (Rose a.shortages b.shortages) fault o files (ended_lines before)
            said.lines w a b first (take j edits) cut.behind cut.item text.told text.untold here did
            (wrote ∙ ap (appended a.written)
            (text.front ∙ ap (λ n. oks n ++ text.told) (sym short))) text.reply text.more
            (λ e. (counted.memory (ap Err e)).1)
            (subst (SayEdits said.lines) cut.split said.said)
            (at.reached (known_before o files (ended_lines before) said.lines
            (subst (λ x. IsKnown (progress o files x)) ends.0 known)))),
      );
    }

-- ---- the call

-- edits whose replies were written, or cut off
pub edits_answered : {K F T : Type 0} (ghosts : sink.Ghosts K) (m n : Moment F) (x y : K)
    (s t : Session) (edits : List VoxelEdit) (text : List ℕ) (told begun : ℕ)
    (r : Result T SinkFault) → text ≡ oks (length edits) → HasWritten ghosts x y text told r
    → AreBegun told (length edits) begun
    → HasDone (other ghosts x s m) (other ghosts y t n) (take begun edits)
    → HasCounted s t (length (take begun edits))
    → AnswersEdits edits (other ghosts x s m) (other ghosts y t n) (fault_in r)
edits_answered ghosts m n x y s t edits text told begun (Ok i) is write counts done gone bytes here
    said =
    let size : told ≡ 3 * length edits =
    write.whole ∙ ap length is ∙ oks_length (length edits) in
    let all : take begun edits ≡ edits =
    take_all begun edits (let e = counts.all size in omega (arith, e)) in
    takes_edits (other ghosts x s m) (other ghosts y t n) bytes edits here said
    (subst (HasDone (other ghosts x s m) (other ghosts y t n)) all done)
    (subst (λ l. HasCounted s t (length l)) all gone)
    (write.written ∙ ap (appended (ghosts.written x))
    (take_all told text (let e = write.whole in omega (arith, e)) ∙ is))
    (write.counts.stays.0, write.counts.stays.1, done.store_faults)
edits_answered ghosts m n x y s t edits text told begun (Err fault) is write counts done gone bytes
    here said =
    let less : told < 3 * length edits = (let cut = write.cut in
    let size = ap length is ∙ oks_length (length edits) in omega (arith, cut, size)) in
    halts_edits (other ghosts x s m) (other ghosts y t n) bytes edits told begun fault here said
    done counts less
    (write.written ∙ ap (λ l. appended (ghosts.written x) (take told l)) is) write.counts

-- no byte, and then some
pub takes_behind : {F : Type 0} (xs piece : List ℕ) (a b c : Moment F) (how : Option Stop)
    → Makes (Take (take 0 piece)) a b None → Makes (Take xs) b c how → Makes (Take xs) a c how
takes_behind xs piece a b c how p q = takes_join (take 0 piece) xs a b c how p q

-- the session has room for edits in a piece
pub room_edits : (piece : List ℕ) (n : ℕ) (edits : List VoxelEdit) (s : Session)
    → HasRoom s (length piece) → n ≤ length piece → AreEdits (take n piece) edits
    → s.line_count + length edits < 2 ^ 63
room_edits piece n edits s room within said =
    omega (arith, room.few, edits_few (take n piece) edits said, length-take n piece, within)

-- a session that has taken nothing is ready for a line
pub ready_behind : {F : Type 0} (piece : List ℕ) (n : ℕ) (a b : Moment F) → n ≡ 0
    → 0 < length piece → HasRoom a.session (length piece) → b.session.has_quit ≡ false
    → Makes (Take (take n piece)) a b None → IsReady b.session
ready_behind piece n a b none some room running p = record {
  running = running;
  room = p.to.0.0 1 (record {
    held = room.held;
    few = omega (arith, room.few, some, length-take n piece, none);
  });
}

-- and takes what comes then
pub takes_then : {F : Type 0} (r : Result ℕ Stop) (piece : List ℕ) (n : ℕ) (a b c : Moment F)
    → n ≡ 0 → Makes (Take (take n piece)) a b None
    → Makes (Take (taken_of r piece)) b c (stop_in r)
    → Makes (Take (taken_of r piece)) a c (stop_in r)
takes_then r piece n a b c none p q = takes_behind (taken_of r piece) piece a b c (stop_in r)
    (subst (λ k. Makes (Take (take k piece)) a b None) none p) q

-- no block is open
pub not_open : (block : Option ScanBlock) (open_there : Bool) → open_there ≡ is_some block
    → open_there ≡ false → block ≡ None
not_open None open_there is none = refl
not_open (Some block) open_there is none = cc
