-- A piece of a script, line by line, with replies that are held.
use Rattle.std.proofs.Common.{◌≡◌, ℕ, List, [], ◌∷◌, ◌++◌, take, drop, Option}
use Rattle.std.proofs.Common.{Bool, true, false, cond, inl}
use Rattle.std.proofs.Common.{refl, sym, ap, subst, ◌∙◌}
use Rattle.oct_io.specs.Files.{Files}
use Rattle.oct_io.specs.Taken.{IsCutOff}
use Rattle.oct_io.specs.Told.{appended}
use Rattle.oct_io.proofs.Appending.{appended_twice}
use Rattle.oct_io.specs.declared.sink.SinkFault.{SinkFault}
use Rattle.oct_script.specs.Lines.{Line, unread, ended_lines, rest_of, all_lines, last_line}
use Rattle.oct_script.specs.Lines.{LineSoFar, IsReading, HasEnded, HasJoined, Text, whole}
use Rattle.oct_io.specs.declared.stop.Stop.{Stop}
use Rattle.oct_session.specs.declared.session.Session.{Session}
use Rattle.oct_session.specs.Ending.{HasReplied, replies_within}
use Rattle.oct_session.specs.Leaving.{Desk, IsKnown, IsHalted}
use Rattle.oct_session.specs.Session.{progress}
use Rattle.oct_session.specs.Setup.{Setup}
use Rattle.oct_session.specs.Standing.{seated, IsHolding, HasHeld, IsHeldAt, TakesHeld, HaltsHeld}
use Rattle.oct_session.specs.Standing.{IsAt, Adds, Halts, HasReached, Reaches, IsShort, HoldsLine}
use Rattle.oct_session.specs.Standing.{HaltsLine}
use Rattle.oct_io.specs.Stops.{stop_of_sink, status_of}
use Rattle.oct_session.proofs.Halting.{halted_bytes}
use Rattle.oct_session.proofs.Holding.{holding_none, holding_whole, held_cut, held_moved}
use Rattle.oct_session.proofs.Holding.{between_beside}
use Rattle.oct_session.proofs.Pieces.{IsBeside, parts, reads_next, last_lines, standing}
use Rattle.oct_session.proofs.Progresses.{known_before, known_bytes}

-- a session that has other bytes of the line that stands
held_beside : (o : Setup) (files : Option Files) (lines : List Line) (w v : Option (List ℕ))
    (d : Desk) (s f : Session) → IsBeside f s → f.text.items ≡ s.text.items
    → HasHeld o files lines w v d s → HasHeld o files lines w v d f
held_beside o files lines w v d s f beside same at =
    held_moved o files lines w v v d s f beside (inl (refl, same)) at

-- a piece in which no line ends
pub held_joined : {H : Type 0} (o : Setup) (v : Option (List ℕ)) (d : H → Desk) (s f : Session)
    (piece : List ℕ) → s.has_quit ≡ false → ((bytes : List ℕ) → IsReading s.line bytes
    → HasJoined f.line bytes (bytes ++ piece)) → IsBeside f s → f.text.items ≡ s.text.items
    → TakesHeld o (seated d v) (seated d v) s f piece
held_joined o v d s f piece running joins beside same first files w bytes at =
    let done : HasJoined f.line bytes (bytes ++ piece) = joins bytes (at.line running) in
    record {
      reached = λ known. subst (λ x. HasHeld o files x w v (d first) f) (sym done.lines)
          (held_beside o files (ended_lines bytes) w v (d first) s f beside same
          (at.reached (subst (λ x. IsKnown (progress o files x)) done.lines known)));
      line = λ goes_on. done.reads;
    }

-- a piece up to a line feed, and the answer to the line that it ends
pub held_ended : {H : Type 0} (o : Setup) (v u : Option (List ℕ)) (d e : H → Desk) (s f t : Session)
    (reading : LineSoFar) (piece : List ℕ) → s.has_quit ≡ false → ((bytes : List ℕ)
    → IsReading s.line bytes
    → HasEnded reading bytes (bytes ++ piece)) → IsBeside f s → f.text.items ≡ s.text.items
    → HoldsLine o (seated d v) (seated e u) f t reading.line → t.line ≡ unread
    → TakesHeld o (seated d v) (seated e u) s t piece
held_ended o v u d e s f t reading piece running ends beside same answers next first files w
    bytes at =
    let done : HasEnded reading bytes (bytes ++ piece) = ends bytes (at.line running) in
    record {
      reached = λ known.
          let line : IsKnown (progress o files (ended_lines bytes ++ reading.line ∷ [])) =
          subst (λ x. IsKnown (progress o files x)) done.lines known in
          subst (λ x. HasHeld o files x w u (e first) t) (sym done.lines)
          (answers first files (ended_lines bytes) w line
          (held_beside o files (ended_lines bytes) w v (d first) s f beside same
          (at.reached (known_before o files (ended_lines bytes) (reading.line ∷ []) line))));
      line = λ goes_on. reads_next t.line (bytes ++ piece) next done.rest;
    }

-- and a halt there
pub held_halted : {short H : Type 0} (stop : Stop) (o : Setup) (v u : Option (List ℕ))
    (d e : H → Desk) (s f : Session) (reading : LineSoFar) (piece : List ℕ) (k : ℕ)
    → s.has_quit ≡ false →
    ((bytes : List ℕ) → IsReading s.line bytes → HasEnded reading bytes (bytes ++ take k piece))
    → IsBeside f s → f.text.items ≡ s.text.items →
    HaltsLine o (seated d v) (seated e u) f reading.line short (status_of stop) →
    HaltsHeld o (seated d v) (seated e u) s (λ bytes. ended_lines (bytes ++ piece)) short
    (status_of stop)
held_halted {short} stop o v u d e s f reading piece k running ends beside same halts
    first files w bytes at known =
    let done : HasEnded reading bytes (bytes ++ take k piece) = ends bytes (at.line running) in
    let front : IsKnown (progress o files (ended_lines (bytes ++ take k piece))) =
    known_bytes o files (bytes ++ take k piece) (drop k piece)
    (subst (λ x. IsKnown (progress o files (ended_lines x))) (sym (parts bytes piece k)) known) in
    let line : IsKnown (progress o files (ended_lines bytes ++ reading.line ∷ [])) =
    subst (λ x. IsKnown (progress o files x)) done.lines front in
    let h = halts first files (ended_lines bytes) w line
    (held_beside o files (ended_lines bytes) w v (d first) s f beside same
    (at.reached (known_before o files (ended_lines bytes) (reading.line ∷ []) line))) in
    let halted : IsHalted o files (ended_lines (bytes ++ take k piece)) w u (e first) short
    (status_of stop) =
    subst (λ x. IsHalted o files x w u (e first) short (status_of stop)) (sym done.lines) h in
    subst (λ x. IsHalted o files (ended_lines x) w u (e first) short (status_of stop))
    (parts bytes piece k)
    (halted_bytes o files (bytes ++ take k piece) (drop k piece) w u (e first) (status_of stop)
    halted)

-- a line that has ended
abbrev pub ended_line : Line → LineSoFar
ended_line line = record { line = line; has_ended = true }

-- a line that stands whole in a piece, as it was read
pub whole_read : (old : LineSoFar) (text piece : List ℕ) (line : Line) → line ≡ Text text
    → ((bytes : List ℕ) → IsReading old bytes → HasEnded (whole text) bytes (bytes ++ piece))
    → (bytes : List ℕ) → IsReading old bytes → HasEnded (ended_line line) bytes (bytes ++ piece)
whole_read old text piece line is ends bytes at =
    subst (λ l. HasEnded (ended_line l) bytes (bytes ++ piece)) (sym is) (ends bytes at)

-- a line that was fed, answered by a session that has begun the next one
pub fed_more : {H : Type 0} (o : Setup) (v u : Option (List ℕ)) (d e : H → Desk)
    (s f t : Session) (line : Line) → line ≡ s.line.line → IsBeside f s
    → f.text.items ≡ s.text.items → HoldsLine o (seated d v) (seated e u) f t line
    → HoldsLine o (seated d v) (seated e u) s t s.line.line
fed_more o v u d e s f t line is beside same answers first files lines w known at =
    subst (λ x. HasHeld o files (lines ++ x ∷ []) w u (e first) t) is
    (answers first files lines w (subst (λ x. IsKnown (progress o files (lines ++ x ∷ []))) (sym is)
    known) (held_beside o files lines w v (d first) s f beside same at))

-- and a halt there
pub fed_halted : {short H : Type 0} (stop : Stop) (o : Setup) (v u : Option (List ℕ))
    (d e : H → Desk) (s f : Session) (line : Line) → line ≡ s.line.line → IsBeside f s
    → f.text.items ≡ s.text.items
    → HaltsLine o (seated d v) (seated e u) f line short (status_of stop)
    → HaltsLine o (seated d v) (seated e u) s s.line.line short (status_of stop)
fed_halted {short} stop o v u d e s f line is beside same halts first files lines w known at =
    subst (λ x. IsHalted o files (lines ++ x ∷ []) w u (e first) short (status_of stop)) is
    (halts first files lines w (subst (λ x. IsKnown (progress o files (lines ++ x ∷ []))) (sym is)
    known) (held_beside o files lines w v (d first) s f beside same at))

-- a session that holds nothing
pub held_first : (o : Setup) (files : Option Files) (w v : Option (List ℕ)) (d : Desk)
    (s : Session) (bytes : List ℕ) → s.text.items ≡ [] → IsAt o files w v d s bytes
    → IsHeldAt o files w v d s bytes
held_first o files w v d s bytes none at = record {
  reached = λ known. let here = at.reached known in record {
    between = here.between;
    holding = subst (λ x. IsHolding o files (ended_lines bytes) w v x) (sym none)
        (holding_none o files (ended_lines bytes) w v here.written);
  };
  line = at.line;
}

-- what was written before a piece are the replies to the lines before it
pub replied_since : (o : Setup) (files : Option Files) (w v u : Option (List ℕ)) (d : Desk)
    (s : Session) (bytes : List ℕ) → IsKnown (progress o files (ended_lines bytes))
    → IsAt o files w v d s bytes → Adds v u → HasReplied o files bytes w u
replied_since o files w v u d s bytes known at (more, is) = record {
  more = more;
  written = is ∙ ap (λ x. appended x more) (at.reached known).written
      ∙ appended_twice w (replies_within o files bytes) more;
}

-- the last line, which lacks its line feed, answered, and what is held written
pub held_last : {H : Type 0} (o : Setup) (a v u : Option (List ℕ))
    (d e : H → Desk) (s t f : Session) (has_rest : Bool) → s.has_quit ≡ false → has_rest ≡ true →
    s.text.items ≡ [] →
    ((bytes : List ℕ) → IsReading s.line bytes
    → last_line (rest_of bytes) ≡ cond has_rest (s.line.line ∷ []) []) →
    HoldsLine o (seated d a) (seated e v) s t s.line.line → u ≡ appended v t.text.items
    → IsBeside f t → Reaches o (seated d a) (seated e u) s f (λ p. p)
held_last o a v u d e s t f has_rest running some none last answers wrote beside
    first files w bytes at known =
    let lines : all_lines bytes ≡ ended_lines bytes ++ s.line.line ∷ [] =
    last_lines bytes s.line.line
    (standing s bytes has_rest true some (last bytes (at.line running))) in
    let line : IsKnown (progress o files (ended_lines bytes ++ s.line.line ∷ [])) =
    subst (λ x. IsKnown (progress o files x)) lines known in
    let h = answers first files (ended_lines bytes) w line
    ((held_first o files w a (d first) s bytes none at).reached
    (known_before o files (ended_lines bytes) (s.line.line ∷ []) line)) in
    subst (λ x. HasReached o w u (e first) f (progress o files x)) (sym lines) (record {
      between = between_beside o (e first) t f
          (progress o files (ended_lines bytes ++ s.line.line ∷ [])) beside h.between;
      written = holding_whole o files (ended_lines bytes ++ s.line.line ∷ []) w v u t.text.items
          h.holding wrote;
    })

-- a halt at it
pub last_halted : {short H : Type 0} (stop : Stop) (o : Setup) (a u : Option (List ℕ))
    (d e : H → Desk) (s : Session) (has_rest : Bool) → s.has_quit ≡ false → has_rest ≡ true
    → s.text.items ≡ [] →
    ((bytes : List ℕ) → IsReading s.line bytes
    → last_line (rest_of bytes) ≡ cond has_rest (s.line.line ∷ []) []) → Adds a u →
    HaltsLine o (seated d a) (seated e u) s s.line.line short (status_of stop)
    → Halts o (seated d a) (seated e u) s all_lines short (status_of stop)
last_halted {short} stop o a u d e s has_rest running some none last adds halts
    first files w bytes at known =
    let lines : all_lines bytes ≡ ended_lines bytes ++ s.line.line ∷ [] =
    last_lines bytes s.line.line
    (standing s bytes has_rest true some (last bytes (at.line running))) in
    let line : IsKnown (progress o files (ended_lines bytes ++ s.line.line ∷ [])) =
    subst (λ x. IsKnown (progress o files x)) lines known in
    let before : IsKnown (progress o files (ended_lines bytes)) =
    known_before o files (ended_lines bytes) (s.line.line ∷ []) line in
    let h = halts first files (ended_lines bytes) w line
    ((held_first o files w a (d first) s bytes none at).reached before) in (
      subst (λ y. IsHalted o files y w u (e first) short (status_of stop)) (sym lines) h,
      replied_since o files w a u (d first) s bytes before at adds,
    )

-- what is held can't be written, behind the last line
pub last_unwritten : {short : Type 0} {H : Type 0} (o : Setup) (a v u : Option (List ℕ))
    (fault : SinkFault)
    (d e : H → Desk) (s t : Session) (line : Line) → IsCutOff v u t.text.items
    → IsShort fault short → HoldsLine o (seated d a) (seated e v) s t line
    → HaltsLine o (seated d a) (seated e u) s line short (status_of (stop_of_sink fault))
last_unwritten o a v u fault d e s t line cut ran answers first files lines w known at =
    held_cut o files (lines ++ line ∷ []) w v u (e first) t fault cut ran
    (answers first files lines w known at)
