-- A piece of a script, line by line.
use Rattle.std.proofs.Common.{◌≡◌, ℕ, ◌≤◌, List, [], ◌∷◌, ◌++◌, length, take, drop, Option}
use Rattle.std.proofs.Common.{None, Bool, true, cond}
use Rattle.std.proofs.Common.{inl, inr, sym, ap, subst, ◌∙◌, append_assoc}
use Rattle.std.proofs.lemmas.List.{take_all, take-append-drop}
use Rattle.oct_io.specs.Files.{Files}
use Rattle.oct_io.specs.Told.{Rose, appended}
use Rattle.oct_io.specs.declared.sink.SinkFault.{SinkFault}
use Rattle.oct_script.specs.Lines.{Line, LineSoFar, unread, ended_lines, rest_of, all_lines}
use Rattle.oct_script.specs.Lines.{last_line, line_of, IsReading}
use Rattle.oct_io.specs.declared.stop.Stop.{Stop}
use Rattle.oct_io.specs.declared.stop.Stop.TheVariants as stop_as
use Rattle.oct_session.specs.declared.session.Session.{Session}
use Rattle.oct_session.specs.Session.{Progress, progress, closed}
use Rattle.oct_session.specs.Setup.{Setup}
use Rattle.oct_session.specs.Leaving.{Desk, IsKnown, IsHaltedBetween}
use Rattle.oct_session.specs.Standing.{seated, Takes, Halts, IsInStep, HasReached, IsAt}
use Rattle.oct_session.specs.Standing.{IsHaltedBehind, Reaches, HaltsAtEnd, IsStoppedIn, StopsIn}
use Rattle.oct_session.specs.Standing.{IsCutBy}
use Rattle.oct_io.specs.Stops.{stop_of_sink, status_of, IsHalt}
use Rattle.oct_session.proofs.Halting.{halted_closed, reached_closed}
use Rattle.oct_session.proofs.Halting.{replied_between}
use Rattle.oct_session.proofs.Progresses.{progress_grows, bytes_behind_quit}
use Rattle.oct_session.proofs.Progresses.{known_bytes}

-- a piece cut in two
pub parts : (bytes piece : List ℕ) (i : ℕ)
    → (bytes ++ take i piece) ++ drop i piece ≡ bytes ++ piece
parts bytes piece i = append_assoc bytes (take i piece) (drop i piece)
    ∙ ap (λ x. bytes ++ x) (take-append-drop i piece)

-- two sessions that differ at most in the line that is being read
pub record IsBeside (f s : Session) : Type 0 where
  pub counted : f.line_count ≡ s.line_count
  pub block : f.block ≡ s.block
  pub refused : f.refused ≡ s.refused
  pub has_quit : f.has_quit ≡ s.has_quit
  pub tally : f.tally ≡ s.tally

-- a new line reads after a line feed
pub reads_next : (line : LineSoFar) (bytes : List ℕ) → line ≡ unread → rest_of bytes ≡ []
    → IsReading line bytes
reads_next line bytes is none =
    record {
      line = ap (λ (x : LineSoFar). x.line) is
          ∙ ap line_of (sym none);
      unended = ap (λ (x : LineSoFar). x.has_ended) is;
    }

-- a piece of which the front was taken
pub at_front : {H : Type 0} (o : Setup) (v u : Option (List ℕ)) (d e : H → Desk) (s t : Session)
    (piece front : List ℕ) (room : ℕ) → front ≡ take room piece
    → Takes o (seated d v) (seated e u) s t front
    → Takes o (seated d v) (seated e u) s t (take room piece)
at_front o v u d e s t piece front room is goes first files w bytes at =
    subst (λ x. IsAt o files w u (e first) t (bytes ++ x)) is (goes first files w bytes at)

-- a halt in what of a piece may be taken
stopped_as : {short : Type 0} (o : Setup) (files : Option Files) (old new : Option (List ℕ))
    (d : Desk) (s : Session)
    (bytes piece : List ℕ) (room : ℕ) (stop : Stop) → IsHalt stop →
    (IsKnown (progress o files (ended_lines (bytes ++ take room piece)))
    → IsHaltedBehind o files bytes (ended_lines (bytes ++ take room piece)) old new d short
    (status_of stop)) →
    IsStoppedIn o files old new d s bytes piece room short stop
stopped_as o files old new d s bytes piece room stop_as.TooLong halt halted = absurd halt
stopped_as o files old new d s bytes piece room stop_as.ReadFault halt halted = absurd halt
stopped_as o files old new d s bytes piece room stop_as.WriteFault halt halted = halted
stopped_as o files old new d s bytes piece room stop_as.Memory halt halted = halted
stopped_as o files old new d s bytes piece room stop_as.StoreFault halt halted = halted

-- a halt in a piece of which the front may be taken
pub stops_front : {short H : Type 0} (stop : Stop) (o : Setup) (v u : Option (List ℕ))
    (d e : H → Desk) (s t : Session) (piece front : List ℕ) (room : ℕ) → front ≡ take room piece
    → IsHalt stop →
    Halts o (seated d v) (seated e u) s (λ bytes. ended_lines (bytes ++ front)) short
    (status_of stop) → StopsIn o (seated d v) (seated e u) s t piece room short stop
stops_front {short} stop o v u d e s t piece front room cut halt halts first files w bytes at =
    stopped_as o files w u (e first) t bytes piece room stop halt
    (subst (λ y. IsKnown (progress o files (ended_lines (bytes ++ y)))
    → IsHaltedBehind o files bytes (ended_lines (bytes ++ y)) w u (e first) short (status_of stop))
    cut
    (halts first files w bytes at))

-- a halt in a piece of which all may be taken
pub stops_whole : {short H : Type 0} (stop : Stop) (o : Setup) (v u : Option (List ℕ))
    (d e : H → Desk) (s t : Session) (piece : List ℕ) (room : ℕ) → length piece ≤ room
    → IsHalt stop →
    Halts o (seated d v) (seated e u) s (λ bytes. ended_lines (bytes ++ piece)) short
    (status_of stop) → StopsIn o (seated d v) (seated e u) s t piece room short stop
stops_whole stop o v u d e s t piece room fits halt halts =
    stops_front stop o v u d e s t piece piece room (sym (take_all room piece fits)) halt halts

-- bytes after a `quit` have no effect
pub at_quit : (o : Setup) (files : Option Files) (w v : Option (List ℕ)) (d : Desk) (s : Session)
    (bytes piece : List ℕ) (i : ℕ) → s.has_quit ≡ true
    → IsAt o files w v d s (bytes ++ take i piece) → IsAt o files w v d s (bytes ++ piece)
at_quit o files w v d s bytes piece i quit at =
    let front : List ℕ = bytes ++ take i piece in
    subst (λ x. IsAt o files w v d s x) (parts bytes piece i) (record {
      reached = λ known.
          let reached = at.reached (known_bytes o files front (drop i piece) known) in
          subst (λ x. HasReached o w v d s x)
          (sym (bytes_behind_quit o files front (drop i piece)
          (sym reached.between.step.has_quit ∙ quit))) reached;
      line = λ goes_on. cc;
    })

-- all lines, where the line that stands is the last one
pub last_lines : (bytes : List ℕ) (line : Line) → last_line (rest_of bytes) ≡ line ∷ []
    → all_lines bytes ≡ ended_lines bytes ++ line ∷ []
last_lines bytes line last = ap (λ x. ended_lines bytes ++ x) last

-- what stands of a line where the script ends
pub standing : (s : Session) (bytes : List ℕ) (has_rest b : Bool) → has_rest ≡ b
    → last_line (rest_of bytes) ≡ cond has_rest (s.line.line ∷ []) []
    → last_line (rest_of bytes) ≡ cond b (s.line.line ∷ []) []
standing s bytes has_rest b is last =
    subst (λ x. last_line (rest_of bytes) ≡ cond x (s.line.line ∷ []) []) is last

-- the end of the script, after its last line
pub end_closed : {H : Type 0} (o : Setup) (a v u : Option (List ℕ)) (c d : H → Desk)
    (s t e : Session) → Reaches o (seated c a) (seated d v) s t (λ p. p) →
    ((w : Option (List ℕ)) (p : Progress) → IsInStep t p → v ≡ appended w p.text
    → IsInStep e (closed p) × (u ≡ appended w (closed p).text)) →
    Reaches o (seated c a) (seated d u) s e closed
end_closed o a v u c d s t e goes closes = λ first files w bytes at known.
    let p : Progress = progress o files (all_lines bytes) in
    let reached = goes first files w bytes at known in
    reached_closed o w v u (d first) t e p reached (closes w p reached.between.step reached.written)

-- a halt there
pub end_stopped : {H : Type 0} (fault : SinkFault) (o : Setup) (a v u : Option (List ℕ))
    (c d : H → Desk) (s t : Session) (x y z : ℕ) → y ≡ x
    → Reaches o (seated c a) (seated d v) s t (λ p. p) →
    ((w : Option (List ℕ)) (p : Progress) → IsInStep t p → v ≡ appended w p.text
    → IsCutBy p (closed p) w u (Rose y z) fault) →
    HaltsAtEnd o (seated c a) (seated d u) s (Rose x z) (status_of (stop_of_sink fault))
end_stopped fault o a v u c d s t x y z same goes cuts first files w bytes at known =
    let p : Progress = progress o files (all_lines bytes) in
    let reached = goes first files w bytes at known in
    let end = cuts w p reached.between.step reached.written in
    let halted : IsHaltedBetween o None p (closed p) w u (d first) (Rose y z)
    (status_of (stop_of_sink fault)) = halted_closed o w v u (d first) t p fault reached end in (
      inr (subst (λ n. IsHaltedBetween o None p (closed p) w u (d first) (Rose n z)
          (status_of (stop_of_sink fault))) same halted),
      replied_between o files bytes p (closed p) w u
          (progress_grows o files (ended_lines bytes) (last_line (rest_of bytes))) end.cut,
    )

-- a halt at the last line is one of the stops at the end
pub stopped_last : {short H : Type 0} (stop : Stop) (o : Setup) (v u : Option (List ℕ))
    (d e : H → Desk) (s : Session)
    → Halts o (seated d v) (seated e u) s all_lines short (status_of stop)
    → HaltsAtEnd o (seated d v) (seated e u) s short (status_of stop)
stopped_last stop o v u d e s halts first files w bytes at known =
    let h = halts first files w bytes at known in (inl h.0, h.1)
