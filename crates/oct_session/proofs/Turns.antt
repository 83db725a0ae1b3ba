-- What a read gave, and reads one after another.
use Rattle.std.proofs.Common.{◌≡◌, ◌≢◌, ◌^◌, ℕ, ◌+◌, ◌-◌, ◌<◌, ◌≤◌, List, [], ◌++◌, Option, Some}
use Rattle.std.proofs.Common.{None}
use Rattle.std.proofs.Common.{refl, sym, ap, subst, ◌∙◌, arith, Result, Ok, Err, OnOk, IfSome}
use Rattle.std.proofs.Common.{IsErrAnd, length, take, drop, true, false, true≢false}
use Rattle.std.proofs.lemmas.List.{length-take, take_all}
use Rattle.oct_io.specs.Stops.{IsHalt, status_of}
use Rattle.oct_io.specs.Told.{Rose}
use Rattle.oct_io.specs.declared.stop.Stop.{Stop}
use Rattle.oct_io.specs.declared.stop.Stop.TheVariants as stop
use Rattle.oct_session.specs.Moments.{Moment, IsDone, Makes, Take, End, stop_in, seat_at}
use Rattle.oct_session.specs.Moments.{TakesPiece, Reads, IsWaiting, HasRoom}
use Rattle.oct_session.specs.Setup.{Setup}
use Rattle.oct_session.specs.Standing.{Takes, Halts, IsFresh, IsResting, Serves, Finishes, Ends}
use Rattle.oct_session.specs.declared.session.Session.{Session}
use Rattle.oct_script.specs.Lines.{LineSoFar, ended_lines}
use Rattle.oct_session.proofs.Endings.{IsRead}
use Rattle.oct_session.proofs.HeldPieces.{held_first, replied_since}
use Rattle.oct_session.proofs.Moves.{done_join, done_none}
use Rattle.oct_session.proofs.PieceMoves.{at_of_held}
use Rattle.oct_session.proofs.Pieces.{at_front, stops_front, stops_whole}
use Rattle.oct_session.proofs.Progresses.{known_bytes}
use Rattle.oct_session.proofs.Serving.{stopped_by_source, stopped_in_piece, goes_on, quits_in}
use Rattle.oct_session.proofs.Serving.{stopped_in_turn, finished_at_end, stopped_at_end}

-- a halt isn't the input's
halt_read : (why : Stop) → IsHalt why → why ≢ stop.ReadFault
halt_read stop.TooLong halt = absurd halt
halt_read stop.ReadFault halt = absurd halt
halt_read stop.WriteFault halt = λ e. cc
halt_read stop.Memory halt = λ e. cc
halt_read stop.StoreFault halt = λ e. cc

-- bytes that are taken with nothing held before and after them
taken_all : {F : Type 0} (o : Setup) (a b : Moment F) (xs : List ℕ) → a.session.text.items ≡ []
    → b.session.text.items ≡ [] → Makes (Take xs) a b None
    → Takes o (seat_at a) (seat_at b) a.session b.session xs
taken_all o a b xs none empty p = λ first files w bytes at.
    at_of_held o files w b.written (b.desk first) b.session (bytes ++ xs) empty
    (p.to.1 o first files w bytes
    (held_first o files w a.written (a.desk first) a.session bytes none at))

-- a halt in them: the lines before them had been answered
halted_all : {F : Type 0} (o : Setup) (a b : Moment F) (xs : List ℕ) (why : Stop)
    → a.session.text.items ≡ [] → Makes (Take xs) a b (Some why)
    → Halts o (seat_at a) (seat_at b) a.session (λ bytes. ended_lines (bytes ++ xs))
    (Rose a.shortages b.shortages) (status_of why)
halted_all o a b xs why none p = λ first files w bytes at known. (
  p.to.1 o first files w bytes
      (held_first o files w a.written (a.desk first) a.session bytes none at) known,
  replied_since o files w a.written b.written (a.desk first) a.session bytes
      (known_bytes o files bytes xs known) at p.done.adds,
)

-- the session rests behind them
rests_behind : {F : Type 0} (a b : Moment F) (xs : List ℕ) (most : ℕ)
    → a.session.line_count + most < 2 ^ 63 → length xs ≤ most
    → IsResting a.session a.session.line_count → b.session.text.items ≡ []
    → Makes (Take xs) a b None → IsResting b.session (a.session.line_count + most)
rests_behind a b xs most small fits rests empty p =
    let more : ℕ = 9223372036854775807 - (a.session.line_count + length xs) in
    let room : HasRoom b.session more = p.to.0.0 more (record {
      held = omega (arith, ap length rests.empty);
      few = omega (arith, small, fits);
    }) in
    record {
      empty = empty;
      unended = p.to.0.1 rests.unended;
      counted = omega (arith, room.few, small, fits);
    }

pub piece_on : {F T : Type 0} (r : Result T Stop) (why : Stop) (piece : List ℕ) (room : ℕ)
    (a b : Moment F) → IsErrAnd r (λ e. e ≡ why) → TakesPiece piece room a b (Some why)
    → TakesPiece piece room a b (stop_in r)
piece_on (Ok x) why piece room a b is p = absurd is
piece_on (Err e) why piece room a b is p =
    subst (λ x. TakesPiece piece room a b (Some x)) (sym is) p

-- a piece of which all may be taken
pub piece_whole : {F T : Type 0} (r : Result T Stop) (piece : List ℕ) (room : ℕ) (a b : Moment F)
    → a.session.line_count + length piece < 2 ^ 63 → length piece ≤ room
    → IsResting a.session a.session.line_count → OnOk r (b.session.text.items ≡ [])
    → Makes (Take piece) a b (stop_in r) → TakesPiece piece room a b (stop_in r)
piece_whole (Ok x) piece room a b small fits rests empty p = record {
  done = p.done;
  to = (
    rests_behind a b piece (length piece) small (omega arith) rests empty p,
    λ running. fits,
    λ o. at_front o _ _ a.desk b.desk a.session b.session piece piece room
        (sym (take_all room piece fits)) (taken_all o a b piece rests.empty empty p),
  );
}
piece_whole (Err why) piece room a b small fits rests empty p = record {
  done = p.done;
  to = (
    halt_read why p.to.0,
    λ o. stops_whole why o _ _ a.desk b.desk a.session b.session piece room fits p.to.0
        (halted_all o a b piece why rests.empty p),
  );
}

-- a piece of which the front may be taken, with a `quit` in it
pub piece_front : {F : Type 0} (piece front : List ℕ) (room : ℕ) (a b : Moment F)
    → a.session.line_count + length piece < 2 ^ 63 → front ≡ take room piece
    → IsResting a.session a.session.line_count → b.session.text.items ≡ []
    → b.session.has_quit ≡ true → Makes (Take front) a b None → TakesPiece piece room a b None
piece_front piece front room a b small is rests empty quit p = record {
  done = p.done;
  to = (
    rests_behind a b front (length piece) small
        (omega (arith, ap length is, length-take room piece)) rests empty p,
    λ running. absurd (true≢false (sym quit ∙ running)),
    λ o. at_front o _ _ a.desk b.desk a.session b.session piece front room is
        (taken_all o a b front rests.empty empty p),
  );
}

-- or without one
pub piece_long : {F : Type 0} (piece front : List ℕ) (room : ℕ) (a b : Moment F)
    → room < length piece → front ≡ take room piece → a.session.text.items ≡ []
    → b.session.text.items ≡ [] → b.session.has_quit ≡ false → Makes (Take front) a b None
    → TakesPiece piece room a b (Some stop.TooLong)
piece_long piece front room a b long is none empty running p = record {
  done = record {
    map_name = p.done.map_name;
    store_name = p.done.store_name;
    sink_name = p.done.sink_name;
    adds = p.done.adds;
    stands = p.done.stands;
    counted = p.done.counted;
  };
  to = (
    λ e. cc,
    λ o first files w bytes at. (
      long,
      running,
      at_front o _ _ a.desk b.desk a.session b.session piece front room is
          (taken_all o a b front none empty p) first files w bytes at,
    ),
  );
}

-- a stop in that front
pub piece_stop : {F : Type 0} (piece front : List ℕ) (room : ℕ) (why : Stop) (a b : Moment F)
    → front ≡ take room piece → a.session.text.items ≡ [] → Makes (Take front) a b (Some why)
    → TakesPiece piece room a b (Some why)
piece_stop piece front room why a b is none p = record {
  done = p.done;
  to = (
    halt_read why p.to.0,
    λ o. stops_front why o _ _ a.desk b.desk a.session b.session piece front room is p.to.0
        (halted_all o a b front why none p),
  );
}

-- ---- a read

-- a new session waits for the first one
pub waits_first : (o : Setup) (s : Session) → IsFresh s → IsWaiting o s 0
waits_first o s fresh = record {
  running = fresh.running;
  rests = record {
    empty = fresh.empty;
    unended = ap (λ (l : LineSoFar). l.has_ended) fresh.line;
    counted = omega (arith, fresh.counted);
  };
  few = omega arith;
}

-- one read: the session goes on, behind the bytes that were read, or it is through, or it has ended
abbrev pub TurnsTo : {F : Type 0} → Setup → Option (List ℕ) → Option (List ℕ) → ℕ → Moment F
    → Moment F → Result ℕ Stop → Type 0
TurnsTo o left after taken a b (Ok n) = IsResting b.session (taken + n)
    × (b.session.has_quit ≡ false
    → Serves o left after (seat_at a) (seat_at b) a.session b.session taken (taken + n))
    × (b.session.has_quit ≡ true
    → Finishes o left after (seat_at a) (seat_at b) a.session b.session taken)
TurnsTo o left after taken a b (Err why) =
    Ends o left after (seat_at a) (seat_at b) a.session taken (Rose a.shortages b.shortages)
    (status_of why)

pub record Turns {F : Type 0} (o : Setup) (left after : Option (List ℕ)) (taken : ℕ)
    (a b : Moment F) (result : Result ℕ Stop) : Type 0 where
  pub done : IsDone a b (stop_in result)
  pub to : TurnsTo o left after taken a b result

-- the input failed
pub turn_unread : {F : Type 0} (o : Setup) (left after : Option (List ℕ)) (taken : ℕ) (a : Moment F)
    → after ≡ left → IsWaiting o a.session taken
    → Turns o left after taken a a (Err stop.ReadFault)
turn_unread o left after taken a same waits = record {
  done = record {
    map_name = refl;
    store_name = refl;
    sink_name = refl;
    adds = (done_none a).adds;
    stands = λ o some. some;
    counted = (refl, refl, refl);
  };
  to = stopped_by_source _ o left after _ a.desk a.session taken same waits.few waits.running;
}

-- what was read is answered
pub turn_taken : {F : Type 0} (o : Setup) (left after : Option (List ℕ)) (buffer piece : List ℕ)
    (taken n room : ℕ) (a b : Moment F) → IsWaiting o a.session taken
    → IsRead o buffer piece left after taken n room → TakesPiece piece room a b None
    → Turns o left after taken a b (Ok n)
turn_taken o left after buffer piece taken n room a b waits read p = record {
  done = p.done;
  to = (
    record {
      empty = p.to.0.empty;
      unended = p.to.0.unended;
      counted = omega (arith, p.to.0.counted, waits.rests.counted, read.len);
    },
    goes_on o buffer piece left after _ _ a.desk b.desk a.session b.session taken n room read
        p.to.1 (p.to.2 o),
    quits_in o buffer piece left after _ _ a.desk b.desk a.session b.session taken n room read
        waits.running (p.to.2 o),
  );
}

-- the session was stopped in it
pub turn_stopped : {F : Type 0} (o : Setup) (left after : Option (List ℕ)) (buffer piece : List ℕ)
    (taken n room : ℕ) (why : Stop) (a b : Moment F)
    → IsRead o buffer piece left after taken n room → TakesPiece piece room a b (Some why)
    → Turns o left after taken a b (Err why)
turn_stopped o left after buffer piece taken n room why a b read p = record {
  done = p.done;
  to = stopped_in_piece _ why o buffer piece left after _ _ a.desk b.desk a.session b.session taken
      n room read (p.to.1 o);
}

-- all that were read are within the limit, where so many may be taken
pub turn_fits : (o : Setup) (left after : Option (List ℕ)) (buffer piece : List ℕ)
    (taken n room : ℕ) → IsRead o buffer piece left after taken n room → length piece ≤ room
    → taken + n ≤ o.max_bytes
turn_fits o left after buffer piece taken n room read fits =
    omega (arith, read.few, read.size, read.len)

-- nothing is left where nothing was read
pub turn_end : (o : Setup) (left after : Option (List ℕ)) (buffer piece : List ℕ)
    (taken n room : ℕ) → IsRead o buffer piece left after taken n room → n ≡ 0
    → IfSome left (λ l. l ≡ []) → IfSome after (λ l. l ≡ [])
turn_end o None after buffer piece taken n room read end none =
    subst (λ l. IfSome l (λ l. l ≡ [])) (sym read.moved) tt
turn_end o (Some l) after buffer piece taken n room read end none =
    subst (λ l. IfSome l (λ l. l ≡ [])) (sym read.moved) (ap (λ k. drop k l) end ∙ none)

-- ---- a script

pub reads_on : {F T : Type 0} (r : Result T Stop) (why : Stop) (o : Setup)
    (left after : Option (List ℕ)) (a b : Moment F) → IsErrAnd r (λ e. e ≡ why)
    → Reads o left after a b (Some why) → Reads o left after a b (stop_in r)
reads_on (Ok x) why o left after a b is p = absurd is
reads_on (Err e) why o left after a b is p =
    subst (λ x. Reads o left after a b (Some x)) (sym is) p

-- a read in which the session was stopped, after others
pub reads_stopped : {F : Type 0} (o : Setup) (left mid after : Option (List ℕ)) (taken : ℕ)
    (why : Stop) (a b c : Moment F) → IsDone a b None
    → Serves o left mid (seat_at a) (seat_at b) a.session b.session 0 taken
    → Turns o mid after taken b c (Err why) → Reads o left after a c (Some why)
reads_stopped o left mid after taken why a b c done goes p = record {
  done = done_join a b c (Some why) done p.done;
  to = stopped_in_turn why o left mid after _ _ _ a.desk b.desk c.desk a.session b.session taken
      _ _ _ done.counted.1 goes p.to;
}

-- a read with a `quit` in it
pub reads_quit : {F : Type 0} (o : Setup) (left mid after : Option (List ℕ)) (taken n : ℕ)
    (a b c : Moment F) → IsDone a b None
    → Serves o left mid (seat_at a) (seat_at b) a.session b.session 0 taken
    → Turns o mid after taken b c (Ok n) → c.session.has_quit ≡ true → Reads o left after a c None
reads_quit o left mid after taken n a b c done goes p quit = record {
  done = done_join a b c None done p.done;
  to = λ first files bytes w at known.
      p.to.2 quit first files bytes w (goes first files bytes w at) known;
}

-- a read that goes on
pub reads_more : {F : Type 0} (o : Setup) (left mid after : Option (List ℕ)) (taken n : ℕ)
    (a b c : Moment F) → Serves o left mid (seat_at a) (seat_at b) a.session b.session 0 taken
    → Turns o mid after taken b c (Ok n) → c.session.has_quit ≡ false
    → Serves o left after (seat_at a) (seat_at c) a.session c.session 0 (taken + n)
reads_more o left mid after taken n a b c goes p running = λ first files bytes w at.
    p.to.1 running first files bytes w (goes first files bytes w at)

-- the end of the input
pub reads_end : {F : Type 0} (r : Result (Unit {0}) Stop) (o : Setup)
    (left after : Option (List ℕ)) (taken : ℕ) (a b c : Moment F) → taken ≤ o.max_bytes
    → IfSome after (λ l. l ≡ []) → IsDone a b None
    → Serves o left after (seat_at a) (seat_at b) a.session b.session 0 taken
    → Makes End b c (stop_in r) → Reads o left after a c (stop_in r)
reads_end (Ok x) o left after taken a b c few none done goes p = record {
  done = done_join a b c None done p.done;
  to = finished_at_end o left after _ _ _ a.desk b.desk c.desk a.session b.session c.session taken
      few none goes (p.to.1 o);
}
reads_end (Err why) o left after taken a b c few none done goes p = record {
  done = done_join a b c (Some why) done p.done;
  to = stopped_at_end why o left after _ _ _ a.desk b.desk c.desk a.session b.session taken _ _ _
      done.counted.1 few none goes p.to.0 (p.to.1 o);
}
