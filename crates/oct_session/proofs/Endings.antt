-- How a session ends.
use Rattle.std.proofs.Common.{◌≡◌, ℕ, ◌+◌, ◌-◌, ◌<◌, ◌≤◌, List, [], ◌++◌, length, take, drop, Bool}
use Rattle.std.proofs.Common.{true, false, cond, Option, Some, IfSome, inl, inr, refl, sym}
use Rattle.std.proofs.Common.{ap, subst, ◌∙◌, arith, append_assoc, append-nil, length-append}
use Rattle.std.proofs.Common.{length-drop}
use Rattle.std.proofs.Math.Seq.{take-add, take-append-add}
use Rattle.std.proofs.lemmas.List.{take-append-drop, take_all, drop-drop, length-take, take-take}
use Rattle.std.proofs.lemmas.Bool.{lt-ltb, le-ltb, cases_lt}
use Rattle.oct_io.specs.Files.{Files}
use Rattle.oct_io.specs.Told.{appended, dropped}
use Rattle.oct_io.proofs.Appending.{appended_nil}
use Rattle.oct_map.specs.Map.{Map}
use Rattle.oct_script.specs.Lines.{Line, LineSoFar, ended_lines, rest_of, last_line}
use Rattle.oct_script.specs.Lines.{all_lines}
use Rattle.oct_script.proofs.Cuts.{ended_lines-append}
use Rattle.oct_io.specs.declared.status.Status.{Status}
use Rattle.oct_io.specs.declared.status.Status.TheVariants as status
use Rattle.oct_io.specs.declared.stop.Stop.{Stop}
use Rattle.oct_io.specs.declared.stop.Stop.TheVariants.{TooLong, ReadFault, WriteFault}
use Rattle.oct_io.specs.declared.stop.Stop.TheVariants.{Memory, StoreFault as StoreStop}
use Rattle.oct_session.specs.declared.session.Session.{Session}
use Rattle.oct_io.specs.Taken.{HasTaken, IsBegun}
use Rattle.oct_session.specs.Ending.{HasHaltFault, IsReadToEnd, replies_within}
use Rattle.oct_session.specs.Ending.{has_quit_within}
use Rattle.oct_io.specs.Answer.{Outcome}
use Rattle.oct_io.specs.FaultCounts.{IsAsked}
use Rattle.oct_session.specs.Leaving.{StandsFor, Desk, desk, HasAsked, IsLikeAfter}
use Rattle.oct_io.specs.Shelf.{Shelf, shelf}
use Rattle.oct_session.specs.Leaving.{IsKnown, IsHalted, IsHaltedIn, HasEndedAs}
use Rattle.oct_session.specs.History.{start_state}
use Rattle.oct_session.specs.Session.{Progress, start, progress, lines_of, last_progress}
use Rattle.oct_session.specs.Session.{session, finished, overlong, closed, is_too_long}
use Rattle.oct_session.specs.Session.{status_at_end, ReadsTold}
use Rattle.oct_session.specs.Setup.{Setup}
use Rattle.oct_session.specs.Standing.{seated, Takes, IsFresh, IsHaltedBehind, IsHaltedLast}
use Rattle.oct_session.specs.Standing.{HasReached}
use Rattle.oct_session.specs.Standing.{IsAt, Reaches, HaltsAtEnd, HasServed, IsThrough, StopsIn}
use Rattle.oct_io.specs.Stops.{status_of, IsHalt}
use Rattle.oct_session.proofs.Progresses.{progress_grows, progress_behind_quit, no_quit_before}
use Rattle.oct_session.proofs.Progresses.{replied_first, known_before, known_bytes, asks_before}
use Rattle.oct_session.proofs.Progresses.{told_fold}
use Rattle.oct_session.proofs.Effects.{asked_most}
use Rattle.oct_session.proofs.Halting.{halted_more, halted_begun, halted_asked, between_begun}
use Rattle.oct_session.proofs.Halting.{closed_quit, closed_asks, closed_files, closed_grows}
use Rattle.oct_session.proofs.Halting.{like_unclosed}
use Rattle.oct_session.proofs.Prefixes.{begun_more, begun_whole}

-- the lines of a script that isn't too long
lines_short : (o : Setup) (bytes : List ℕ) → length bytes ≤ o.max_bytes
    → lines_of o bytes ≡ all_lines bytes
unfolding lines_of
lines_short o bytes few = rw (le-ltb o.max_bytes (length bytes) few) refl

-- the lines of a script that is too long
lines_long : (o : Setup) (bytes : List ℕ) → o.max_bytes < length bytes
    → lines_of o bytes ≡ ended_lines (take o.max_bytes bytes)
unfolding lines_of
lines_long o bytes more = rw (lt-ltb o.max_bytes (length bytes) more) refl

-- the session of a script that isn't too long
pub session_short : (o : Setup) (files : Option Files) (bytes : List ℕ) → length bytes ≤ o.max_bytes
    → session o files bytes ≡ finished (closed (last_progress o files bytes))
unfolding session
session_short o files bytes few = rw (le-ltb o.max_bytes (length bytes) few) refl

-- the same, by the test
session_whole : (o : Setup) (files : Option Files) (bytes : List ℕ) → is_too_long o bytes ≡ false
    → session o files bytes ≡ finished (closed (last_progress o files bytes))
unfolding session
session_whole o files bytes short = rw short refl

-- the session of a script that is too long
pub session_long : (o : Setup) (files : Option Files) (bytes : List ℕ) → o.max_bytes < length bytes
    → session o files bytes ≡ overlong (last_progress o files bytes)
unfolding session
session_long o files bytes more = rw (lt-ltb o.max_bytes (length bytes) more) refl

overlong_text : (p : Progress) → (overlong p).text ≡ p.text
overlong_text p = elim p.has_quit as
    (λ v. (cond v (finished p)
    (record { text = p.text; files = p.files; status = status.TooLong })).text ≡ p.text)
    [ true ↦ refl | false ↦ refl ]

pub overlong_files : (p : Progress) → (overlong p).files ≡ p.files
overlong_files p = elim p.has_quit as
    (λ v. (cond v (finished p)
    (record { text = p.text; files = p.files; status = status.TooLong })).files ≡ p.files)
    [ true ↦ refl | false ↦ refl ]

overlong_quit : (p : Progress) → p.has_quit ≡ true → overlong p ≡ finished p
overlong_quit p quit = rw quit refl

overlong_status : (p : Progress) → p.has_quit ≡ false → (overlong p).status ≡ status.TooLong
overlong_status p running = rw running refl

-- what the session of a script that is too long writes are the replies to its lines
text_long : (o : Setup) (files : Option Files) (bytes : List ℕ) → o.max_bytes < length bytes
    → (session o files bytes).text ≡ (last_progress o files bytes).text
text_long o files bytes more = ap (λ (a : Outcome). a.text) (session_long o files bytes more)
    ∙ overlong_text (last_progress o files bytes)

-- what a session writes begins with the replies to its lines
session_text : (o : Setup) (files : Option Files) (bytes : List ℕ)
    → (text : List ℕ) × ((session o files bytes).text ≡ (last_progress o files bytes).text ++ text)
session_text o files bytes = elim (cases_lt o.max_bytes (length bytes)) [
  | inl more ↦ (
    [],
    text_long o files bytes more
        ∙ sym (append-nil (last_progress o files bytes).text),
  )
  | inr few ↦ (let s = closed_grows (last_progress o files bytes) in
      (s.0, ap (λ (a : Outcome). a.text) (session_short o files bytes few) ∙ s.1))
]

-- the first bytes that count, of a script that is too long
front_long : (most : ℕ) (bytes front back : List ℕ) → bytes ≡ front ++ back → length front ≤ most
    → take most bytes ≡ front ++ take (most - length front) back
front_long most bytes front back parts few =
    let n : ℕ = most - length front in
    let size : most ≡ length front + n = omega arith in
    ap (λ k. take k bytes) size ∙ ap (λ x. take (length front + n) x) parts
    ∙ take-append-add front back n

-- the lines of a script begin with those that end in a front of it, within the limit
lines_within : (o : Setup) (bytes front back : List ℕ) → bytes ≡ front ++ back
    → length front ≤ o.max_bytes
    → (more : List Line) × (lines_of o bytes ≡ ended_lines front ++ more)
lines_within o bytes front back parts few = elim (cases_lt o.max_bytes (length bytes)) [
  | inl more ↦ (
      let s = ended_lines-append front (take (o.max_bytes - length front) back) in (
        s.0,
        lines_long o bytes more
            ∙ ap ended_lines (front_long o.max_bytes bytes front back parts few) ∙ s.1,
      ))
  | inr small ↦ (
      let s = ended_lines-append front back in (
        s.0 ++ last_line (rest_of bytes),
        lines_short o bytes small
            ∙ ap (λ x. x ++ last_line (rest_of bytes)) (ap ended_lines parts ∙ s.1)
            ∙ append_assoc (ended_lines front) s.0 (last_line (rest_of bytes)),
      ))
]

-- the replies to the lines that end in a front of the script, within the limit, begin the whole
-- answer
pub within_session : (o : Setup) (files : Option Files) (bytes front back : List ℕ)
    → bytes ≡ front ++ back → length front ≤ o.max_bytes →
    (text : List ℕ) × ((session o files bytes).text ≡ replies_within o files front ++ text)
within_session o files bytes front back parts few =
    let s = lines_within o bytes front back parts few in
    let t = progress_grows o files (ended_lines front) s.0 in
    let u = session_text o files bytes in (
      t.0 ++ u.0,
      u.1 ∙ ap (λ x. (progress o files x).text ++ u.0) s.1 ∙ ap (λ x. x ++ u.0) t.1
          ∙ append_assoc (replies_within o files front) t.0 u.0,
    )

-- a `quit` line that ends in a front of the script, within the limit, ends the session
last_quit : (o : Setup) (files : Option Files) (bytes front back : List ℕ) → bytes ≡ front ++ back
    → length front ≤ o.max_bytes → has_quit_within o files front ≡ true →
    last_progress o files bytes ≡ progress o files (ended_lines front)
last_quit o files bytes front back parts few quit =
    let s = lines_within o bytes front back parts few in
    ap (λ x. progress o files x) s.1 ∙ progress_behind_quit o files (ended_lines front) s.0 quit

-- and finishes it
session_quit : (o : Setup) (files : Option Files) (bytes : List ℕ)
    → (last_progress o files bytes).has_quit ≡ true
    → session o files bytes ≡ finished (closed (last_progress o files bytes))
session_quit o files bytes quit = elim (cases_lt o.max_bytes (length bytes)) [
  | inl more ↦ session_long o files bytes more ∙ overlong_quit (last_progress o files bytes) quit
      ∙ ap finished (sym (closed_quit (last_progress o files bytes) quit))
  | inr small ↦ session_short o files bytes small
]

-- a prefix of those replies is a prefix of the whole answer
begun_session : (o : Setup) (files : Option Files) (bytes front back : List ℕ)
    (old new : Option (List ℕ)) → bytes ≡ front ++ back → length front ≤ o.max_bytes →
    IsBegun (replies_within o files front) old new → IsBegun (session o files bytes).text old new
begun_session o files bytes front back old new parts few begun = let s =
    within_session o files bytes front back parts few in begun_more _ _ s.0 old new s.1 begun

-- what is known of the whole session is known of a front of the script
pub known_within : (o : Setup) (files : Option Files) (bytes front back : List ℕ)
    → bytes ≡ front ++ back → length front ≤ o.max_bytes → IsKnown (last_progress o files bytes)
    → IsKnown (progress o files (ended_lines front))
known_within o files bytes front back parts few known =
    let s = lines_within o bytes front back parts few in
    known_before o files (ended_lines front) s.0
    (subst (λ x. IsKnown (progress o files x)) s.1 known)

-- and a front names no more files
asks_within : (o : Setup) (files : Option Files) (bytes front back : List ℕ) → bytes ≡ front ++ back
    → length front ≤ o.max_bytes
    → (progress o files (ended_lines front)).asks ≤ (last_progress o files bytes).asks
asks_within o files bytes front back parts few =
    let s = lines_within o bytes front back parts few in
    subst (λ x. (progress o files (ended_lines front)).asks ≤ (progress o files x).asks) (sym s.1)
    (asks_before o files (ended_lines front) s.0)

-- a session whose files are told, or that names none, is known
pub known_told : (o : Setup) (files : Option Files) (bytes : List ℕ) → ReadsTold o files bytes
    → IsKnown (last_progress o files bytes)
known_told o files bytes (inl some) = inl (told_fold o (start files) (lines_of o bytes) some)
known_told o files bytes (inr none) = inr none

-- a halt within a front of the script is a halt of the session
halted_session : {short : Type 0} (o : Setup) (files : Option Files) (bytes front back : List ℕ)
    (old new : Option (List ℕ)) (d : Desk) (status : Status) → bytes ≡ front ++ back
    → length front ≤ o.max_bytes →
    IsHalted o files (ended_lines front) old new d short status
    → IsHaltedIn o files bytes old new d short status
halted_session {short} o files bytes front back old new d status parts few halted =
    let s = lines_within o bytes front back parts few in
    inl (subst (λ x. IsHalted o files x old new d short status) (sym s.1)
    (halted_more o files (ended_lines front) s.0 old new d status halted))

-- the files of the answer are those after the last line
pub session_files : (o : Setup) (files : Option Files) (bytes : List ℕ)
    → (session o files bytes).files ≡ (last_progress o files bytes).files
session_files o files bytes = elim (cases_lt o.max_bytes (length bytes)) [
  | inl more ↦ ap (λ (a : Outcome). a.files) (session_long o files bytes more)
      ∙ overlong_files (last_progress o files bytes)
  | inr few ↦ ap (λ (a : Outcome). a.files) (session_short o files bytes few)
      ∙ closed_files (last_progress o files bytes)
]

halted_as : {short : Type 0} (o : Setup) (files : Option Files) (bytes : List ℕ)
    (left w u : Option (List ℕ))
    (d : Desk) (stop : Stop) → IsHalt stop → IsHaltedIn o files bytes w u d short (status_of stop) →
    IsBegun (session o files bytes).text w u → HasHaltFault o files bytes left w u
    → HasAsked d (last_progress o files bytes).asks
    → HasEndedAs o files bytes left w u d short (status_of stop)
halted_as o files bytes left w u d WriteFault only halted begun input asked =
    record {
      answer = (begun, input);
      leaves = halted;
      asked = asked;
      files_told = λ all. absurd all;
    }
halted_as o files bytes left w u d Memory only halted begun input asked =
    record {
      answer = (begun, input);
      leaves = halted;
      asked = asked;
      files_told = λ all. absurd all;
    }
halted_as o files bytes left w u d StoreStop only halted begun input asked =
    record {
      answer = (begun, input);
      leaves = halted;
      asked = asked;
      files_told = λ all. absurd all;
    }
halted_as o files bytes left w u d TooLong only halted begun input asked = absurd only
halted_as o files bytes left w u d ReadFault only halted begun input asked = absurd only

-- what a session that was halted has written is a prefix of the whole answer
halted_text : {short : Type 0} (o : Setup) (files : Option Files) (bytes : List ℕ)
    (w u : Option (List ℕ)) (d : Desk)
    (status : Status) → IsHaltedIn o files bytes w u d short status
    → IsBegun (session o files bytes).text w u
halted_text o files bytes w u d status (inl halted) = let s = session_text o files bytes in
    begun_more _ _ s.0 w u s.1 (halted_begun o files (lines_of o bytes) w u d status halted)
halted_text o files bytes w u d status (inr end) =
    subst (λ x. IsBegun x w u)
    (sym (ap (λ (a : Outcome). a.text) (session_whole o files bytes end.0)))
    (between_begun (last_progress o files bytes) (closed (last_progress o files bytes)) w u
    end.1.cut)

-- the store was asked once at most for each line that names a file
halted_asks : {short : Type 0} (o : Setup) (files : Option Files) (bytes : List ℕ)
    (w u : Option (List ℕ)) (d : Desk)
    (status : Status) → IsHaltedIn o files bytes w u d short status
    → HasAsked d (last_progress o files bytes).asks
halted_asks o files bytes w u d status (inl halted) =
    halted_asked o files (lines_of o bytes) w u d status halted
halted_asks o files bytes w u d status (inr end) =
    subst (HasAsked d) (closed_asks (last_progress o files bytes)) end.1.asked

-- how a session ends that was halted by its sink or its store, or because memory ran out
halted_ends : {short : Type 0} (o : Setup) (files : Option Files) (bytes : List ℕ)
    (left w u : Option (List ℕ))
    (d : Desk) (stop : Stop) → IsHalt stop → IsHaltedIn o files bytes w u d short (status_of stop) →
    HasHaltFault o files bytes left w u → HasEndedAs o files bytes left w u d short (status_of stop)
halted_ends o files bytes left w u d stop only halted input =
    halted_as o files bytes left w u d stop only halted
    (halted_text o files bytes w u d (status_of stop) halted) input
    (halted_asks o files bytes w u d (status_of stop) halted)

-- map and session as they begin
pub record IsNew (o : Setup) (m : Map) (s : Session) : Type 0 where
  pub stands : StandsFor m (start_state o)
  pub fresh : IsFresh s

-- a store of these files, of which nothing was asked yet
pub record IsFirst (files : Option Files) (k : Shelf) : Type 0 where
  pub told : k.files ≡ files
  pub asked : IsAsked k.same k.first_calls k.calls 0

pub nothing_asked : {F : Type 0} (files : F → Option Files) (calls : F → ℕ) (first : F)
    → IsFirst (files first) (shelf files calls first first)
nothing_asked files calls first =
    record { told = refl; asked = record { unasked = λ none. refl; few = omega arith } }

-- before the first read
pub serving_start : (o : Setup) (files : Option Files) (bytes : List ℕ) (w : Option (List ℕ))
    (m : Map) (k : Shelf) (s : Session) → IsFirst files k → IsNew o m s
    → HasServed o files bytes (Some bytes) w w (desk m k) s 0
serving_start o files bytes w m k s first new = record {
  input = record { within = omega arith; rest = refl };
  at = record {
    reached = λ known. record {
      between = record {
        like = record { stands = new.stands; told = first.told };
        asked = first.asked;
        step = record {
          counted = new.fresh.counted;
          block = new.fresh.block;
          refused = new.fresh.refused;
          has_quit = new.fresh.running;
          tally = new.fresh.tally;
        };
      };
      written = appended_nil w;
    };
    line = λ goes_on. record {
      line = ap (λ (x : LineSoFar). x.line) new.fresh.line;
      unended = ap
          (λ (x : LineSoFar). x.has_ended) new.fresh.line;
    };
  };
}

-- what a read moved to the front of the buffer
piece_is : (bytes buffer piece : List ℕ) (left : Option (List ℕ)) (taken n : ℕ)
    → HasTaken taken bytes left → IfSome left (λ l. take n buffer ≡ take n l)
    → piece ≡ take n buffer →
    piece ≡ take n (drop taken bytes)
piece_is bytes buffer piece left taken n input moved is = is
    ∙ subst (λ (x : Option (List ℕ)). IfSome x (λ l. take n buffer ≡ take n l)) input.rest moved

-- what is taken after a read
taken_more : (bytes : List ℕ) (left after : Option (List ℕ)) (taken n : ℕ)
    → HasTaken taken bytes left → after ≡ dropped n left → IfSome left (λ l. n ≤ length l)
    → HasTaken (taken + n) bytes after
taken_more bytes left after taken n input moved enough =
    let few : n ≤ length (drop taken bytes) =
    subst (λ (x : Option (List ℕ)). IfSome x (λ l. n ≤ length l)) input.rest enough in
    record {
      within = omega (arith, few, length-drop taken bytes, input.within);
      rest = moved ∙ ap (dropped n) input.rest ∙ ap Some (drop-drop n taken bytes);
    }

-- what a read gave: the numbers of what was taken before, of what it gave, and of what of it may be
-- taken, and the bytes
pub record IsRead (o : Setup) (buffer piece : List ℕ) (left after : Option (List ℕ))
    (taken n room : ℕ) : Type 0 where
  pub few : taken ≤ o.max_bytes
  pub size : room ≡ o.max_bytes - taken
  pub most : n ≤ room + 1
  pub at_once : n ≤ 16384
  pub moved : after ≡ dropped n left
  pub same : IfSome left (λ l. take n buffer ≡ take n l)
  pub enough : IfSome left (λ l. n ≤ length l)
  pub is : piece ≡ take n buffer
  pub len : length piece ≡ n

-- a read whose bytes were all taken
pub serving_more : {H : Type 0} (o : Setup) (files : Option Files) (bytes buffer piece : List ℕ)
    (left after w v u : Option (List ℕ)) (d e : H → Desk) (first : H) (s t : Session)
    (taken n room : ℕ) → IsRead o buffer piece left after taken n room → length piece ≤ room
    → Takes o (seated d v) (seated e u) s t (take room piece)
    → HasServed o files bytes left w v (d first) s taken
    → HasServed o files bytes after w u (e first) t (taken + n)
serving_more o files bytes buffer piece left after w v u d e first s t taken n room read fits goes
    at =
    let p : piece ≡ take n (drop taken bytes) =
    piece_is bytes buffer piece left taken n at.input read.same read.is in
    let whole : take room piece ≡ take n (drop taken bytes) = take_all room piece fits ∙ p in
    record {
      input = taken_more bytes left after taken n at.input read.moved read.enough;
      at = subst (λ x. IsAt o files w u (e first) t x)
          (ap (λ x. take taken bytes ++ x) whole ∙ sym (take-add taken n bytes))
          (goes first files w (take taken bytes) at.at);
    }

-- the input failed
pub ends_read_fault : {short : Type 0} (o : Setup) (files : Option Files) (bytes : List ℕ)
    (left after w v : Option (List ℕ)) (d : Desk) (s : Session) (taken : ℕ) → after ≡ left
    → taken ≤ o.max_bytes → s.has_quit ≡ false →
    HasServed o files bytes left w v d s taken → IsKnown (last_progress o files bytes)
    → HasEndedAs o files bytes after w v d short (status_of ReadFault)
ends_read_fault o files bytes left after w v d s taken same few running at known =
    let size : length (take taken bytes) ≤ o.max_bytes = omega (arith, length-take taken bytes) in
    let input : HasTaken taken bytes after =
    record { within = at.input.within; rest = same ∙ at.input.rest } in
    let parts : bytes ≡ take taken bytes ++ drop taken bytes = sym (take-append-drop taken bytes) in
    let reached = at.at.reached
    (known_within o files bytes (take taken bytes) (drop taken bytes) parts size known) in
    record {
      answer = (
        begun_session o files bytes (take taken bytes) (drop taken bytes) w v parts size
            (begun_whole _ w v reached.written),
        record {
          taken = taken;
          few = few;
          input = input;
          no_quit = sym reached.between.step.has_quit ∙ running;
          written = reached.written;
        },
      );
      leaves = record { taken = taken; input = input; like = reached.between.like };
      asked = asked_most d _ _
          (asks_within o files bytes (take taken bytes) (drop taken bytes) parts size)
          reached.between.asked;
      files_told = λ all. absurd all;
    }

-- a script within a read: what was taken before, what of the piece may be taken, and what is after
-- it
parts_within : (bytes piece : List ℕ) (taken n room : ℕ) → piece ≡ take n (drop taken bytes)
    → bytes ≡ (take taken bytes ++ take room piece)
    ++ (drop room piece ++ drop n (drop taken bytes))
parts_within bytes piece taken n room is =
    sym (take-append-drop taken bytes)
    ∙ ap (λ x. take taken bytes ++ x)
    (sym (take-append-drop n (drop taken bytes))
    ∙ ap (λ x. x ++ drop n (drop taken bytes)) (sym is ∙ sym (take-append-drop room piece))
    ∙ append_assoc (take room piece) (drop room piece) (drop n (drop taken bytes)))
    ∙ sym (append_assoc (take taken bytes) (take room piece)
    (drop room piece ++ drop n (drop taken bytes)))

-- what of it counts lies within the limit
few_within : (bytes piece : List ℕ) (taken room most : ℕ) → taken ≤ most → room ≡ most - taken
    → length (take taken bytes ++ take room piece) ≤ most
few_within bytes piece taken room most few size =
    omega (
      arith,
      length-append (take taken bytes) (take room piece),
      length-take taken bytes,
      length-take room piece,
    )

-- the first bytes that count, of what was taken
counted : (bytes piece : List ℕ) (taken n room most : ℕ) → taken ≤ most → room ≡ most - taken
    → taken ≤ length bytes → piece ≡ take n (drop taken bytes) →
    take most (take (taken + n) bytes) ≡ take taken bytes ++ take room piece
counted bytes piece taken n room most few size within is =
    let front : take (taken + n) bytes ≡ take taken bytes ++ piece = take-add taken n bytes
    ∙ ap (λ x. take taken bytes ++ x) (sym is) in
    let most_is : most ≡ length (take taken bytes) + room =
    omega (arith, length-take taken bytes) in
    ap (λ x. take most x) front ∙ ap (λ k. take k (take taken bytes ++ piece)) most_is
    ∙ take-append-add (take taken bytes) piece room

-- a `quit` line in what a read gave
pub serving_quit : {H : Type 0} (o : Setup) (files : Option Files) (bytes buffer piece : List ℕ)
    (left after w v u : Option (List ℕ)) (d e : H → Desk) (first : H) (s t : Session)
    (taken n room : ℕ) → IsRead o buffer piece left after taken n room → s.has_quit ≡ false
    → t.has_quit ≡ true → Takes o (seated d v) (seated e u) s t (take room piece)
    → HasServed o files bytes left w v (d first) s taken → IsKnown (last_progress o files bytes)
    → IsThrough o files bytes after w u (e first) t
serving_quit o files bytes buffer piece left after w v u d e first s t taken n room read running
    quit goes at known =
    let p : piece ≡ take n (drop taken bytes) =
    piece_is bytes buffer piece left taken n at.input read.same read.is in
    let front : List ℕ = take taken bytes ++ take room piece in
    let back : List ℕ = drop room piece ++ drop n (drop taken bytes) in
    let parts = parts_within bytes piece taken n room p in
    let few = few_within bytes piece taken room o.max_bytes read.few read.size in
    let known_front : IsKnown (progress o files (ended_lines front)) =
    known_within o files bytes front back parts few known in
    let reached = (goes first files w (take taken bytes) at.at).reached known_front in
    let before = at.at.reached
    (known_bytes o files (take taken bytes) (take room piece) known_front) in
    let ends : has_quit_within o files front ≡ true = sym reached.between.step.has_quit ∙ quit in
    let last : last_progress o files bytes ≡ progress o files (ended_lines front) =
    last_quit o files bytes front back parts few ends in
    record {
      reached = subst (λ x. HasReached o w u (e first) t x)
          (sym (closed_quit (last_progress o files bytes)
          (ap (λ (x : Progress). x.has_quit) last ∙ ends) ∙ last)) reached;
      whole = session_quit o files bytes (ap (λ (x : Progress). x.has_quit) last ∙ ends);
      end = record {
        taken = taken + n;
        few = omega (arith, read.few, read.size, read.most);
        input = taken_more bytes left after taken n at.input read.moved read.enough;
        end = inr (record {
          quits = ap (has_quit_within o files)
              (counted bytes piece taken n room o.max_bytes read.few read.size at.input.within p)
              ∙ ends;
          at_once = no_quit_before o files bytes (taken + n - 16384) taken
              (omega (arith, read.at_once)) (sym before.between.step.has_quit ∙ running);
        });
      };
    }

-- a halt in what of the piece may be taken
stops_halted : {short : Type 0} (o : Setup) (files : Option Files) (bytes buffer piece : List ℕ)
    (left after w u : Option (List ℕ)) (d : Desk) (taken n room : ℕ) (stop : Stop) → IsHalt stop
    → IsRead o buffer piece left after taken n room →
    HasTaken taken bytes left
    → (IsKnown (progress o files (ended_lines (take taken bytes ++ take room piece)))
    → IsHaltedBehind o files (take taken bytes) (ended_lines (take taken bytes ++ take room piece))
    w u d short (status_of stop)) →
    IsKnown (last_progress o files bytes)
    → HasEndedAs o files bytes after w u d short (status_of stop)
stops_halted o files bytes buffer piece left after w u d taken n room stop only read input halts
    known =
    let p : piece ≡ take n (drop taken bytes) =
    piece_is bytes buffer piece left taken n input read.same read.is in
    let front : List ℕ = take taken bytes ++ take room piece in
    let back : List ℕ = drop room piece ++ drop n (drop taken bytes) in
    let parts = parts_within bytes piece taken n room p in
    let few = few_within bytes piece taken room o.max_bytes read.few read.size in
    let halted = halts (known_within o files bytes front back parts few known) in
    halted_ends o files bytes after w u d stop only
    (halted_session o files bytes front back w u d (status_of stop) parts few halted.0)
    (record {
      taken = taken + n;
      few = omega (arith, read.few, read.size, read.most);
      input = taken_more bytes left after taken n input read.moved read.enough;
      replied = replied_first o files bytes (taken + n - 16384) taken w u
          (omega (arith, read.at_once)) halted.1;
    })

-- more bytes than the script may have
stops_long : {short : Type 0} (o : Setup) (files : Option Files) (bytes buffer piece : List ℕ)
    (left after w u : Option (List ℕ)) (d : Desk) (t : Session) (taken n room : ℕ)
    → IsRead o buffer piece left after taken n room → room < length piece → t.has_quit ≡ false →
    HasTaken taken bytes left → IsAt o files w u d t (take taken bytes ++ take room piece)
    → IsKnown (last_progress o files bytes)
    → HasEndedAs o files bytes after w u d short status.TooLong
stops_long o files bytes buffer piece left after w u d t taken n room read more running input at
    known =
    let p : piece ≡ take n (drop taken bytes) =
    piece_is bytes buffer piece left taken n input read.same read.is in
    let k = taken_more bytes left after taken n input read.moved read.enough in
    let all : taken + n ≡ o.max_bytes + 1 =
    omega (arith, read.few, read.size, read.most, read.len) in
    let long : o.max_bytes < length bytes = omega (arith, k.within) in
    let front : take o.max_bytes bytes ≡ take taken bytes ++ take room piece =
    sym (take-take o.max_bytes (taken + n) bytes (omega arith))
    ∙ counted bytes piece taken n room o.max_bytes read.few read.size input.within p in
    let last : last_progress o files bytes
    ≡ progress o files (ended_lines (take taken bytes ++ take room piece)) =
    ap (λ x. progress o files x) (lines_long o bytes long ∙ ap ended_lines front) in
    let reached : HasReached o w u d t (last_progress o files bytes) =
    subst (λ x. HasReached o w u d t x) (sym last) (at.reached (subst IsKnown last known)) in
    record {
      answer = (
        record {
          written = reached.written ∙ ap (appended w) (sym (text_long o files bytes long));
          same_status = ap (λ (a : Outcome). a.status) (session_long o files bytes long)
              ∙ overlong_status (last_progress o files bytes)
              (sym reached.between.step.has_quit ∙ running);
        },
        subst (λ x. HasTaken x bytes after) all k,
      );
      leaves = reached.between.like;
      asked = reached.between.asked;
      files_told = λ all. reached.between.like.told ∙ sym (session_files o files bytes);
    }

-- a stop within what a read gave
pub ends_stop : {short H : Type 0} (o : Setup) (files : Option Files)
    (bytes buffer piece : List ℕ) (left after w v u : Option (List ℕ)) (d e : H → Desk) (first : H)
    (s t : Session) (taken n room : ℕ) (stop : Stop) → IsRead o buffer piece left after taken n room
    → StopsIn o (seated d v) (seated e u) s t piece room short stop
    → HasServed o files bytes left w v (d first) s taken → IsKnown (last_progress o files bytes)
    → HasEndedAs o files bytes after w u (e first) short (status_of stop)
ends_stop o files bytes buffer piece left after w v u d e first s t taken n room
    TooLong read stops at known =
    let p = stops first files w (take taken bytes) at.at in
    stops_long o files bytes buffer piece left after w u (e first) t taken n room read p.0 p.1
    at.input p.2 known
ends_stop o files bytes buffer piece left after w v u d e first s t taken n room
    WriteFault read stops at known =
    stops_halted o files bytes buffer piece left after w u (e first) taken n room WriteFault tt read
    at.input (stops first files w (take taken bytes) at.at) known
ends_stop o files bytes buffer piece left after w v u d e first s t taken n room
    Memory read stops at known =
    stops_halted o files bytes buffer piece left after w u (e first) taken n room Memory tt read
    at.input (stops first files w (take taken bytes) at.at) known
ends_stop o files bytes buffer piece left after w v u d e first s t taken n room
    StoreStop read stops at known =
    stops_halted o files bytes buffer piece left after w u (e first) taken n room StoreStop tt read
    at.input (stops first files w (take taken bytes) at.at) known
ends_stop o files bytes buffer piece left after w v u d e first s t taken n room
    ReadFault read stops at known = absurd (stops first files w (take taken bytes) at.at)

-- where nothing is left, all bytes were taken
all_taken : (bytes : List ℕ) (left : Option (List ℕ)) (taken : ℕ) → HasTaken taken bytes left
    → IfSome left (λ l. l ≡ []) → length bytes ≡ taken
all_taken bytes left taken input none =
    let e : drop taken bytes ≡ [] =
    subst (λ (x : Option (List ℕ)). IfSome x (λ l. l ≡ [])) input.rest none in
    omega (arith, ap length e, length-drop taken bytes, input.within)

-- the end of the input
pub through_end : {H : Type 0} (o : Setup) (files : Option Files) (bytes : List ℕ)
    (left w v u : Option (List ℕ)) (d e : H → Desk) (first : H) (s t : Session) (taken : ℕ)
    → taken ≤ o.max_bytes → IfSome left (λ l. l ≡ [])
    → Reaches o (seated d v) (seated e u) s t closed
    → HasServed o files bytes left w v (d first) s taken → IsKnown (last_progress o files bytes)
    → IsThrough o files bytes left w u (e first) t
through_end o files bytes left w v u d e first s t taken few none goes at known =
    let size : length bytes ≡ taken = all_taken bytes left taken at.input none in
    let whole : take taken bytes ≡ bytes = take_all taken bytes (omega arith) in
    let short : length bytes ≤ o.max_bytes = omega arith in
    let lines : all_lines (take taken bytes) ≡ lines_of o bytes = ap all_lines whole
    ∙ sym (lines_short o bytes short) in
    let rest : drop taken bytes ≡ [] =
    subst (λ (x : Option (List ℕ)). IfSome x (λ l. l ≡ [])) at.input.rest none in
    record {
      reached = subst (λ x. HasReached o w u (e first) t (closed (progress o files x))) lines
          (goes first files w (take taken bytes) at.at
          (subst (λ x. IsKnown (progress o files x)) (sym lines) known));
      whole = session_short o files bytes short;
      end = record {
        taken = taken;
        few = omega arith;
        input = at.input;
        end = inl
            (at.input.rest ∙ ap Some rest);
      };
    }

-- a halt at the last line, or at the end after it
stopped_end : {short : Type 0} (o : Setup) (files : Option Files) (front bytes : List ℕ)
    (w u : Option (List ℕ))
    (d : Desk) (status : Status) → length bytes ≤ o.max_bytes
    → IsHaltedLast o files front (lines_of o bytes) w u d short status
    → IsHaltedIn o files bytes w u d short status
stopped_end o files front bytes w u d status few (inl halted, replied) = inl halted
stopped_end o files front bytes w u d status few (inr end, replied) =
    inr (le-ltb o.max_bytes (length bytes) few, end)

-- a stop in the answer to the last line
pub ends_last : {short H : Type 0} (o : Setup) (files : Option Files) (bytes : List ℕ)
    (left w v u : Option (List ℕ)) (d e : H → Desk) (first : H) (s : Session) (taken : ℕ)
    (stop : Stop) → taken ≤ o.max_bytes → IfSome left (λ l. l ≡ []) → IsHalt stop
    → HaltsAtEnd o (seated d v) (seated e u) s short (status_of stop)
    → HasServed o files bytes left w v (d first) s taken → IsKnown (last_progress o files bytes)
    → HasEndedAs o files bytes left w u (e first) short (status_of stop)
ends_last {short} {H} o files bytes left w v u d e first s taken stop few none only halts at known =
    let size : length bytes ≡ taken = all_taken bytes left taken at.input none in
    let whole : take taken bytes ≡ bytes = take_all taken bytes (omega arith) in
    let within : length bytes ≤ o.max_bytes = omega arith in
    let lines : all_lines (take taken bytes) ≡ lines_of o bytes = ap all_lines whole
    ∙ sym (lines_short o bytes within) in
    let halted = halts first files w (take taken bytes) at.at
    (subst (λ x. IsKnown (progress o files x)) (sym lines) known) in
    halted_ends o files bytes left w u (e first) stop only
    (stopped_end o files (take taken bytes) bytes w u (e first) (status_of stop) within
    (subst (λ x. IsHaltedLast o files (take taken bytes) x w u (e first) short (status_of stop))
    lines halted))
    (record {
      taken = taken;
      few = omega arith;
      input = at.input;
      replied = replied_first o files bytes (taken - 16384) taken w u (omega arith) halted.1;
    })

ended_as : {short : Type 0} (o : Setup) (files : Option Files) (bytes : List ℕ)
    (left w v : Option (List ℕ))
    (d : Desk) (refused : Bool) (status : Status) → status ≡ status_at_end refused →
    (session o files bytes).status ≡ status_at_end refused
    → v ≡ appended w (session o files bytes).text → IsReadToEnd o files bytes left
    → IsLikeAfter o (last_progress o files bytes) d →
    HasAsked d (last_progress o files bytes).asks → HasEndedAs o files bytes left w v d short status
ended_as {short} o files bytes left w v d true status is same written end like asked =
    subst (HasEndedAs o files bytes left w v d short) (sym is)
    (record {
      answer = (record { written = written; same_status = same }, end);
      leaves = like;
      asked = asked;
      files_told = λ all. like.told ∙ sym (session_files o files bytes);
    })
ended_as {short} o files bytes left w v d false status is same written end like asked =
    subst (HasEndedAs o files bytes left w v d short) (sym is)
    (record {
      answer = (record { written = written; same_status = same }, end);
      leaves = like;
      asked = asked;
      files_told = λ all. like.told ∙ sym (session_files o files bytes);
    })

-- the whole script was answered
pub ends_through : {short : Type 0} (o : Setup) (files : Option Files) (bytes : List ℕ)
    (left w v : Option (List ℕ))
    (d : Desk) (s : Session) (status : Status) → status ≡ status_at_end s.refused →
    IsThrough o files bytes left w v d s → HasEndedAs o files bytes left w v d short status
ends_through o files bytes left w v d s status is through =
    ended_as o files bytes left w v d s.refused status is
    (ap (λ (a : Outcome). a.status) through.whole
    ∙ ap status_at_end (sym through.reached.between.step.refused))
    (through.reached.written ∙ ap (λ (a : Outcome). appended w a.text) (sym through.whole))
    through.end
    (like_unclosed o d (last_progress o files bytes) through.reached.between.like)
    (subst (HasAsked d) (closed_asks (last_progress o files bytes)) through.reached.between.asked)
