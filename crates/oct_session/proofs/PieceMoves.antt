-- Moves over the bytes of a script, and at its end.
use Rattle.std.proofs.Common.{◌≡◌, ℕ, ◌+◌, ◌<◌, ◌≤◌, List, [], ◌∷◌, ◌++◌, Option, Some, None}
use Rattle.std.proofs.Common.{inl, inr, refl, sym, ap, subst, ◌∙◌, arith, append_assoc, append-nil}
use Rattle.std.proofs.Common.{length-append}
use Rattle.std.proofs.Common.{Result, Ok, Err, IsErrAnd, length, take, drop, false, true}
use Rattle.std.proofs.Common.{true≢false, Bool}
use Rattle.std.proofs.Common.{cond}
use Rattle.std.specs.Prelude.{option_map}
use Rattle.std.proofs.Math.Seq.{take-add}
use Rattle.std.proofs.lemmas.List.{take-append-drop, take_all, length-take, length-drop}
use Rattle.oct_io.specs.Files.{Files}
use Rattle.oct_io.proofs.Appending.{appended_nil}
use Rattle.oct_io.specs.Counts.{IsWriteCounted, IsMakingCounted}
use Rattle.oct_io.specs.Stops.{stop_of_sink, status_of}
use Rattle.oct_io.specs.Told.{Rose, appended}
use Rattle.oct_io.specs.declared.sink.Sink as sink
use Rattle.oct_io.specs.declared.sink.SinkFault.{SinkFault}
use Rattle.oct_io.specs.declared.sink.SinkFault.TheVariants as sink_fault
use Rattle.oct_io.specs.declared.stop.Stop.{Stop}
use Rattle.oct_script.specs.Lines.{Line, LineSoFar, IsReading, HasEnded, HasJoined, unread}
use Rattle.oct_script.specs.Lines.{ended_lines, all_lines, last_line, rest_of}
use Rattle.oct_session.specs.Moments.{Moment, IsCounted, IsDone, Passes, Makes, Answer}
use Rattle.oct_session.specs.Moments.{Take, Rest, End, Closes}
use Rattle.oct_session.specs.Moments.{HasRoom, fault_in}
use Rattle.oct_session.specs.Session.{progress}
use Rattle.oct_session.specs.Standing.{IsHeldAt, IsAt}
use Rattle.oct_session.specs.Standing.{HasReached}
use Rattle.oct_session.specs.Leaving.{Desk, IsKnown, IsHalted}
use Rattle.oct_session.specs.Setup.{Setup}
use Rattle.oct_session.specs.declared.session.Session.{Session}
use Rattle.oct_session.proofs.Halting.{halted_bytes, reached_quit}
use Rattle.oct_session.proofs.Holding.{rose_since, held_moved}
use Rattle.oct_session.proofs.Holding.{held_cut, holding_whole}
use Rattle.oct_session.proofs.HeldPieces.{held_halted, held_ended}
use Rattle.oct_session.proofs.HeldPieces.{held_joined}
use Rattle.oct_session.proofs.HeldPieces.{held_first, held_last, last_halted, last_unwritten}
use Rattle.oct_session.proofs.Pieces.{IsBeside, at_quit, standing, end_closed, end_stopped}
use Rattle.oct_session.proofs.Pieces.{stopped_last}
use Rattle.oct_session.proofs.Progresses.{known_bytes}
use Rattle.oct_session.proofs.Moves.{done_join, done_none, halts_sink, done_passed, ran_short}
use Rattle.oct_session.proofs.Moves.{all_written, done_same, other, of_session, IsSame}

-- ---- bytes

-- a line feed is a byte
pub takes_some : (n count : ℕ) (ended : Bool) → n ≡ count + cond ended 1 0 → ended ≡ true → 0 < n
takes_some n count true taken is = omega (arith, taken)
takes_some n count false taken is = absurd (true≢false (sym is))

-- a piece up to a line feed, and the answer to the line that it ends
pub takes_line : {F : Type 0} (m b : Moment F) (f : Session) (reading : LineSoFar)
    (piece : List ℕ) (n : ℕ) → m.session.has_quit ≡ false → 0 < n → n ≤ length piece →
    ((bytes : List ℕ) → IsReading m.session.line bytes
    → HasEnded reading bytes (bytes ++ take n piece)) → IsSame f m.session
    → b.session.line ≡ unread → Makes (Answer reading.line) (of_session f m) b None
    → Makes (Take (take n piece)) m b None
takes_line m b f reading piece n running some within ends same next p = record {
  done = done_same m b f None p.done;
  to = (
    (
      λ more room. p.to.0 more (record {
        held = omega (arith, room.held, ap length same.text);
        few = omega (arith, room.few, same.beside.counted, length-take n piece, within, some);
      }),
      λ unended. ap (λ (x : LineSoFar). x.has_ended) next,
    ),
    λ o. held_ended o _ _ m.desk b.desk m.session f b.session reading (take n piece) running ends
        same.beside same.text (p.to.1 o) next,
  );
}

-- a halt at that line
pub takes_halt : {F : Type 0} (m b : Moment F) (f : Session) (reading : LineSoFar)
    (piece : List ℕ) (n : ℕ) (why : Stop) → m.session.has_quit ≡ false →
    ((bytes : List ℕ) → IsReading m.session.line bytes
    → HasEnded reading bytes (bytes ++ take n piece)) → IsSame f m.session
    → Makes (Answer reading.line) (of_session f m) b (Some why)
    → Makes (Take piece) m b (Some why)
takes_halt m b f reading piece n why running ends same p = record {
  done = done_same m b f (Some why) p.done;
  to = (
    p.to.0,
    λ o. held_halted why o _ _ m.desk b.desk m.session f reading piece n running ends same.beside
        same.text (p.to.1 o),
  );
}

-- a piece in which no line ends
pub takes_joined : {F : Type 0} (m : Moment F) (f : Session) (piece : List ℕ)
    → m.session.has_quit ≡ false → ((bytes : List ℕ) → IsReading m.session.line bytes
    → HasJoined f.line bytes (bytes ++ piece)) → IsSame f m.session
    → f.line.has_ended ≡ false → Makes (Take piece) m (of_session f m) None
takes_joined m f piece running joins same unended = record {
  done = record {
    map_name = refl;
    store_name = refl;
    sink_name = refl;
    adds = ([], appended_nil m.written);
    stands = λ o some. some;
    counted = (refl, refl, refl);
  };
  to = (
    (
      λ more room. record {
        held = omega (arith, room.held, ap length same.text);
        few = omega (arith, room.few, same.beside.counted);
      },
      λ old. unended,
    ),
    λ o. held_joined o _ m.desk m.session f piece running joins same.beside same.text,
  );
}

-- no byte
pub takes_none : {F : Type 0} (a : Moment F) (piece : List ℕ) → Makes (Take (take 0 piece)) a a None
takes_none a piece = record {
  done = done_none a;
  to = (
    (
      λ more room. record { held = room.held; few = omega (arith, room.few) },
      λ unended. unended,
    ),
    λ o first files w bytes at.
        subst (λ x. IsHeldAt o files w a.written (a.desk first) a.session x)
        (sym (append-nil bytes)) at,
  );
}

-- bytes, and then more of them
pub takes_join : {F : Type 0} (xs ys : List ℕ) (a b c : Moment F) (how : Option Stop)
    → Makes (Take xs) a b None → Makes (Take ys) b c how → Makes (Take (xs ++ ys)) a c how
takes_join xs ys a b c None p q = record {
  done = done_join a b c None p.done q.done;
  to = (
    (
      λ more room. q.to.0.0 more (p.to.0.0 (length ys + more) (record {
        held = room.held;
        few = omega (arith, room.few, length-append xs ys);
      })),
      λ unended. q.to.0.1 (p.to.0.1 unended),
    ),
    λ o first files w bytes at.
        subst (λ x. IsHeldAt o files w c.written (c.desk first) c.session x)
        (append_assoc bytes xs ys)
        (q.to.1 o first files w (bytes ++ xs) (p.to.1 o first files w bytes at)),
  );
}
takes_join xs ys a b c (Some why) p q = record {
  done = done_join a b c (Some why) p.done q.done;
  to = (
    q.to.0,
    λ o first files w bytes at known.
        let same : (bytes ++ xs) ++ ys ≡ bytes ++ (xs ++ ys) = append_assoc bytes xs ys in
        subst (λ n. IsHalted o files (ended_lines (bytes ++ (xs ++ ys))) w c.written (c.desk first)
        (Rose n c.shortages) (status_of why)) p.done.counted.1
        (subst (λ x. IsHalted o files (ended_lines x) w c.written (c.desk first)
        (Rose b.shortages c.shortages) (status_of why)) same
        (q.to.1 o first files w (bytes ++ xs) (p.to.1 o first files w bytes at)
        (subst (λ x. IsKnown (progress o files (ended_lines x))) (sym same) known))),
  );
}

-- a stop, before more bytes
pub takes_before : {F : Type 0} (xs ys : List ℕ) (a b : Moment F) (why : Stop)
    → Makes (Take xs) a b (Some why) → Makes (Take (xs ++ ys)) a b (Some why)
takes_before xs ys a b why p = record {
  done = p.done;
  to = (
    p.to.0,
    λ o first files w bytes at known.
        let same : (bytes ++ xs) ++ ys ≡ bytes ++ (xs ++ ys) = append_assoc bytes xs ys in
        subst (λ x. IsHalted o files (ended_lines x) w b.written (b.desk first)
        (Rose a.shortages b.shortages) (status_of why)) same
        (halted_bytes o files (bytes ++ xs) ys w b.written (b.desk first) (status_of why)
        (p.to.1 o first files w bytes at (known_bytes o files (bytes ++ xs) ys
        (subst (λ x. IsKnown (progress o files (ended_lines x))) (sym same) known)))),
  );
}

-- the next bytes of a piece
pub takes_next : {F : Type 0} (piece rest : List ℕ) (i k : ℕ) (a b c : Moment F)
    → rest ≡ drop i piece → Makes (Take (take i piece)) a b None
    → Makes (Take (take k rest)) b c None → Makes (Take (take (i + k) piece)) a c None
takes_next piece rest i k a b c is p q =
    subst (λ x. Makes (Take x) a c None)
    (ap (λ x. take i piece ++ take k x) is ∙ sym (take-add i k piece))
    (takes_join (take i piece) (take k rest) a b c None p q)

-- a stop in them
pub takes_within : {F : Type 0} (piece rest : List ℕ) (i : ℕ) (why : Stop) (a b c : Moment F)
    → rest ≡ drop i piece → Makes (Take (take i piece)) a b None
    → Makes (Take rest) b c (Some why) → Makes (Take piece) a c (Some why)
takes_within piece rest i why a b c is p q =
    subst (λ x. Makes (Take x) a c (Some why))
    (ap (λ x. take i piece ++ x) is ∙ take-append-drop i piece)
    (takes_join (take i piece) rest a b c (Some why) p q)

-- the session has room for the rest of a piece
pub takes_roomy : {F : Type 0} (piece rest : List ℕ) (i : ℕ) (a b : Moment F) → i < length piece
    → rest ≡ drop i piece → HasRoom a.session (length piece)
    → Makes (Take (take i piece)) a b None → HasRoom b.session (length rest)
takes_roomy piece rest i a b less is room p = p.to.0.0 (length rest) (record {
  held = room.held;
  few = omega (arith, room.few, length-take i piece, length-drop i piece, ap length is, less);
})

-- what is held behind some bytes is written
pub takes_flushed : {K F T : Type 0} (ghosts : sink.Ghosts K) (xs : List ℕ) (a m : Moment F)
    (x y : K) (s t : Session) (i : T) → Makes (Take xs) a (other ghosts x s m) None
    → Passes ghosts x y s.text.items t.text.items (Ok i) → IsBeside t s → t.line ≡ s.line
    → t.text.items ≡ [] → Makes (Take xs) a (other ghosts y t m) None
takes_flushed ghosts xs a m x y s t i p flush beside line none = record {
  done = done_join a (other ghosts x s m) (other ghosts y t m) None p.done
      (done_passed ghosts m x y s t _ _ (Ok i) flush);
  to = (
    (
      λ more room. record {
        held = omega (arith, ap length none);
        few = omega (arith, (p.to.0.0 more room).few, beside.counted);
      },
      λ unended. ap (λ (l : LineSoFar). l.has_ended) line ∙ p.to.0.1 unended,
    ),
    λ o first files w bytes at. let here = p.to.1 o first files w bytes at in record {
      reached = λ known. held_moved o files (ended_lines (bytes ++ xs)) w _ _ _ s t beside
          flush.moved (here.reached known);
      line = λ running. subst (λ l. IsReading l (bytes ++ xs)) (sym line)
          (here.line (sym beside.has_quit ∙ running));
    },
  );
}

-- it can't be written
pub takes_unflushed : {K F T : Type 0} (ghosts : sink.Ghosts K) (xs : List ℕ) (a m : Moment F)
    (x y : K) (s t : Session) (fault : SinkFault) → Makes (Take xs) a (other ghosts x s m) None
    → Passes {K = K} {T = T} ghosts x y s.text.items t.text.items (Err fault)
    → Makes (Take xs) a (other ghosts y t m) (Some (stop_of_sink fault))
takes_unflushed ghosts xs a m x y s t fault p flush = record {
  done = done_join a (other ghosts x s m) (other ghosts y t m) _ p.done
      (done_passed ghosts m x y s t _ _ (Err fault) flush);
  to = (
    halts_sink fault,
    λ o first files w bytes at known. held_cut o files (ended_lines (bytes ++ xs)) w _ _
        (m.desk first) s fault flush.cut
        (λ e. rose_since _ _ _ p.done.counted.1 (ran_short ghosts x y _ _ fault flush e))
        ((p.to.1 o first files w bytes at).reached known),
  );
}

-- a session that holds nothing has written all
pub at_of_held : (o : Setup) (files : Option Files) (w v : Option (List ℕ)) (d : Desk)
    (s : Session) (bytes : List ℕ) → s.text.items ≡ [] → IsHeldAt o files w v d s bytes
    → IsAt o files w v d s bytes
at_of_held o files w v d s bytes none at = record {
  reached = λ known. let here = at.reached known in record {
    between = here.between;
    written = holding_whole o files (ended_lines bytes) w v v s.text.items here.holding
        (appended_nil v ∙ ap (appended v) (sym none));
  };
  line = at.line;
}

-- bytes after a `quit` have no effect
pub takes_quit : {F : Type 0} (piece : List ℕ) (i : ℕ) (a b : Moment F) → i ≤ length piece
    → b.session.has_quit ≡ true → b.session.text.items ≡ []
    → Makes (Take (take i piece)) a b None → Makes (Take piece) a b None
takes_quit piece i a b within quit none p = record {
  done = p.done;
  to = (
    (
      λ more room. p.to.0.0 more (record {
        held = room.held;
        few = omega (arith, room.few, length-take i piece, within);
      }),
      p.to.0.1,
    ),
    λ o first files w bytes at. held_first o files w b.written (b.desk first) b.session
        (bytes ++ piece) none
        (at_quit o files w b.written (b.desk first) b.session bytes piece i quit
        (at_of_held o files w b.written (b.desk first) b.session (bytes ++ take i piece) none
        (p.to.1 o first files w bytes at))),
  );
}

-- a piece that was taken whole
pub takes_whole : {F : Type 0} (piece : List ℕ) (i : ℕ) (a b : Moment F) → length piece ≤ i
    → Makes (Take (take i piece)) a b None → Makes (Take piece) a b None
takes_whole piece i a b all p = subst (λ x. Makes (Take x) a b None) (take_all i piece all) p

-- a stop in a front of a piece
pub takes_part : {F : Type 0} (piece : List ℕ) (i : ℕ) (why : Stop) (a b : Moment F)
    → Makes (Take (take i piece)) a b (Some why) → Makes (Take piece) a b (Some why)
takes_part piece i why a b p = subst (λ x. Makes (Take x) a b (Some why)) (take-append-drop i piece)
    (takes_before (take i piece) (drop i piece) a b why p)

-- ---- the end of the script

-- no line stands there
pub rests_none : {F : Type 0} (a : Moment F) (has_rest : Bool) → a.session.has_quit ≡ false
    → has_rest ≡ false → a.session.text.items ≡ [] →
    ((bytes : List ℕ) → IsReading a.session.line bytes
    → last_line (rest_of bytes) ≡ cond has_rest (a.session.line.line ∷ []) [])
    → Makes Rest a a None
rests_none a has_rest running some none last = record {
  done = done_none a;
  to = (
    none,
    λ o first files w bytes at known.
        let lines : all_lines bytes ≡ ended_lines bytes = ap (λ x. ended_lines bytes ++ x)
        (standing a.session bytes has_rest false some (last bytes (at.line running)))
        ∙ append-nil (ended_lines bytes) in
        subst (λ x. HasReached o w a.written (a.desk first) a.session (progress o files x))
        (sym lines) (at.reached (subst (λ x. IsKnown (progress o files x)) lines known)),
  );
}

-- the last line is answered, and what is held is written
pub rests_answered : {K F T : Type 0} (ghosts : sink.Ghosts K) (a m : Moment F) (x y : K)
    (s t : Session) (has_rest : Bool) (i : T) → a.session.has_quit ≡ false → has_rest ≡ true
    → a.session.text.items ≡ [] →
    ((bytes : List ℕ) → IsReading a.session.line bytes
    → last_line (rest_of bytes) ≡ cond has_rest (a.session.line.line ∷ []) [])
    → Makes (Answer a.session.line.line) a (other ghosts x s m) None
    → Passes ghosts x y s.text.items t.text.items (Ok i) → IsBeside t s → t.text.items ≡ []
    → Makes Rest a (other ghosts y t m) None
rests_answered ghosts a m x y s t has_rest i running some none last p flush beside empty = record {
  done = done_join a (other ghosts x s m) (other ghosts y t m) None p.done
      (done_passed ghosts m x y s t _ _ (Ok i) flush);
  to = (
    empty,
    λ o. held_last o _ _ _ a.desk m.desk a.session s t has_rest running some none last (p.to.1 o)
        (all_written _ _ _ _ flush.moved empty) beside,
  );
}

-- a halt at it
pub rests_halt : {F : Type 0} (a b : Moment F) (has_rest : Bool) (why : Stop)
    → a.session.has_quit ≡ false → has_rest ≡ true → a.session.text.items ≡ [] →
    ((bytes : List ℕ) → IsReading a.session.line bytes
    → last_line (rest_of bytes) ≡ cond has_rest (a.session.line.line ∷ []) [])
    → Makes (Answer a.session.line.line) a b (Some why) → Makes Rest a b (Some why)
rests_halt a b has_rest why running some none last p = record {
  done = p.done;
  to = (
    p.to.0,
    λ o. last_halted why o _ _ a.desk b.desk a.session has_rest running some none last p.done.adds
        (p.to.1 o),
  );
}

-- what is held behind a line can't be written
pub line_unflushed : {K F T : Type 0} (ghosts : sink.Ghosts K) (a m : Moment F) (x y : K)
    (s t : Session) (line : Line) (fault : SinkFault)
    → Makes (Answer line) a (other ghosts x s m) None
    → Passes {K = K} {T = T} ghosts x y s.text.items t.text.items (Err fault)
    → Makes (Answer line) a (other ghosts y t m) (Some (stop_of_sink fault))
line_unflushed ghosts a m x y s t line fault p flush = record {
  done = done_join a (other ghosts x s m) (other ghosts y t m) _ p.done
      (done_passed ghosts m x y s t _ _ (Err fault) flush);
  to = (
    halts_sink fault,
    λ o. last_unwritten o _ _ _ fault a.desk m.desk a.session s line flush.cut
        (λ e. rose_since _ _ _ p.done.counted.1 (ran_short ghosts x y _ _ fault flush e))
        (p.to.1 o),
  );
}

-- what a call that closes the script did
counted_closed : {K F T : Type 0} (ghosts : sink.Ghosts K) (m : Moment F) (x y : K) (s t : Session)
    (r : Result T SinkFault) → Closes ghosts s x t y r
    → IsCounted (other ghosts x s m) (other ghosts y t m) (option_map stop_of_sink (fault_in r))
counted_closed ghosts m x y s t (Ok i) p = (p.counts.stays.0, p.counts.stays.1, refl)
counted_closed ghosts m x y s t (Err sink_fault.Failed) p =
    ((p.counts.failed refl).0, (p.counts.failed refl).1, refl)
counted_closed ghosts m x y s t (Err sink_fault.Memory) p =
    ((p.counts.memory refl).0, (p.counts.memory refl).1, refl)

done_closed : {K F T : Type 0} (ghosts : sink.Ghosts K) (m : Moment F) (x y : K) (s t : Session)
    (r : Result T SinkFault) → Closes ghosts s x t y r
    → IsDone (other ghosts x s m) (other ghosts y t m) (option_map stop_of_sink (fault_in r))
done_closed ghosts m x y s t r p = record {
  map_name = refl;
  store_name = refl;
  sink_name = refl;
  adds = p.adds;
  stands = λ o some. some;
  counted = counted_closed ghosts m x y s t r p;
}

-- after a `quit` the script is at its end
pub ends_quit : {F : Type 0} (a b : Moment F) → b.session.has_quit ≡ true → Makes Rest a b None
    → Makes End a b None
ends_quit a b quit p = record {
  done = p.done;
  to = (
    p.to.0,
    λ o first files w bytes at known. reached_quit o w b.written (b.desk first) b.session
        (progress o files (all_lines bytes)) quit (p.to.1 o first files w bytes at known),
  );
}

-- the script is closed
pub ends_closed : {K F T : Type 0} (ghosts : sink.Ghosts K) (a m : Moment F) (x y : K)
    (s t : Session) (i : T) → Makes Rest a (other ghosts x s m) None
    → Closes ghosts s x t y (Ok i) → Makes End a (other ghosts y t m) None
ends_closed ghosts a m x y s t i p close = record {
  done = done_join a (other ghosts x s m) (other ghosts y t m) None p.done
      (done_closed ghosts m x y s t (Ok i) close);
  to = (
    close.to.0,
    λ o. end_closed o _ _ _ a.desk m.desk a.session s t (p.to.1 o) close.to.1,
  );
}

-- a halt there
pub ends_unclosed : {K F T : Type 0} (ghosts : sink.Ghosts K) (a m : Moment F) (x y : K)
    (s t : Session) (fault : SinkFault) → Makes Rest a (other ghosts x s m) None
    → Closes {K = K} {T = T} ghosts s x t y (Err fault)
    → Makes End a (other ghosts y t m) (Some (stop_of_sink fault))
ends_unclosed ghosts a m x y s t fault p close = record {
  done = done_join a (other ghosts x s m) (other ghosts y t m) _ p.done
      (done_closed ghosts m x y s t (Err fault) close);
  to = (
    halts_sink fault,
    λ o. end_stopped fault o _ _ _ a.desk m.desk a.session s _ _ _ p.done.counted.1 (p.to.1 o)
        close.to,
  );
}

-- a halt at the last line is one at the end
pub ends_rest : {F : Type 0} (a b : Moment F) (why : Stop) → Makes Rest a b (Some why)
    → Makes End a b (Some why)
ends_rest a b why p = record {
  done = p.done;
  to = (p.to.0, λ o. stopped_last why o _ _ a.desk b.desk a.session (p.to.1 o));
}

-- ---- a call that closes the script

pub closes_on : {K T : Type 0} (ghosts : sink.Ghosts K) (r : Result T SinkFault)
    (fault : SinkFault) (s t : Session) (x y : K) → IsErrAnd r (λ e. e ≡ fault)
    → Closes {K = K} {T = T} ghosts s x t y (Err fault) → Closes ghosts s x t y r
closes_on ghosts (Ok i) fault s t x y is p = absurd is
closes_on {K = K} {T = T} ghosts (Err e) fault s t x y is p =
    subst (λ f. Closes {K = K} {T = T} ghosts s x t y (Err f)) (sym is) p

-- counts of a call that writes alone
pub counts_written : {T : Type 0} (r : Result T SinkFault) (n m k l : ℕ)
    → IsWriteCounted r n m k l → IsMakingCounted r n m k l
counts_written r n m k l p = record {
  stays = p.stays;
  failed = p.failed;
  memory = λ e. ((p.memory e).0, inr (p.memory e).1);
}

-- counts of a call that runs out of memory of its own
pub counts_unwritten : {T : Type 0} (n k : ℕ)
    → IsMakingCounted {T = T} (Err sink_fault.Memory) n n k k
counts_unwritten n k = record {
  stays = tt;
  failed = λ e. cc;
  memory = λ e. (refl, inl refl);
}
