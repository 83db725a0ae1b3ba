-- What a line does, and where desk and session then stand.
use Rattle.std.proofs.Common.{◌≡◌, ℕ, ◌+◌, ◌≤◌, List, ◌++◌, ◌||◌, Bool, true, false}
use Rattle.std.proofs.Common.{cond, is_some, IsSome, IsErr, Some, None, refl, Option, Result, Ok}
use Rattle.std.proofs.Common.{Err}
use Rattle.std.proofs.Common.{IsErrAnd, MutBor, OnOk, OnErr, inl, inr, sym, ap, subst, ◌∙◌, arith}
use Rattle.std.specs.Prelude.{⊤}
use Rattle.oct_io.specs.Counts.{IsAskCounted}
use Rattle.oct_io.specs.Files.{Files}
use Rattle.oct_io.specs.declared.store.Store as store
use Rattle.oct_io.specs.declared.store.StoreFault.{StoreFault}
use Rattle.oct_io.specs.declared.store.StoreFault.TheVariants as store_fault
use Rattle.oct_key.specs.declared.point.Point.{Point}
use Rattle.oct_map.specs.Map.{Map}
use Rattle.oct_script.specs.declared.command.Command.{Command}
use Rattle.oct_script.specs.declared.reply.Refusal.{Refusal}
use Rattle.oct_script.specs.declared.reply.Reply.{Reply}
use Rattle.oct_script.specs.Lines.{Line}
use Rattle.oct_script.specs.Replies.{is_refusal}
use Rattle.oct_session.specs.declared.scan_block.ScanBlock.{ScanBlock}
use Rattle.oct_session.specs.declared.scan_block.ScanBlock.TheVariants.{Scanning, Spoilt}
use Rattle.oct_script.specs.declared.verbs.FileVerb.{FileVerb}
use Rattle.oct_session.specs.Kinds.{Kind, Adds, Names, kind_of}
use Rattle.oct_session.specs.declared.context.Context.{Context}
use Rattle.oct_session.specs.declared.lines.Parsed.{Parsed}
use Rattle.oct_session.specs.declared.session.Session.{Session}
use Rattle.oct_session.specs.Moments.{Works, UsesFile, HasParsed}
use Rattle.oct_session.specs.Parsed.{command_in, read_as, TellsOpening}
use Rattle.oct_session.specs.Commands.{Saving, command_on, is_quit, asked_of}
use Rattle.oct_session.specs.Commands.{kind_work, verb_work, file_named, asks_for}
use Rattle.oct_session.specs.Commands.{accepted, accepted_saving, stored}
use Rattle.oct_session.specs.ScanBlock.{opens_block, opened, kind_opened, is_end, does_close}
use Rattle.oct_session.specs.ScanBlock.{with_line, with_kind, block_with, GainsPoint}
use Rattle.oct_session.specs.ScanBlock.{spoilt_by, spoilt_reply, block_reply, block_action}
use Rattle.oct_session.specs.History.{History, State, after_all, state_after}
use Rattle.oct_io.specs.FaultCounts.{IsAsked}
use Rattle.oct_session.specs.Leaving.{StandsFor, StandsForSome, Desk, desk, HasAsked, IsLike}
use Rattle.oct_io.specs.Shelf.{shelf}
use Rattle.oct_session.specs.Leaving.{IsLikeAfter, IsKnown}
use Rattle.oct_session.specs.Session.{Progress, Effect, effect, effect_of_kind, unless_opened}
use Rattle.oct_session.specs.Session.{effect_opened}
use Rattle.oct_session.specs.Session.{effect_inside, effect_of, next_command, replied, silent}
use Rattle.oct_session.specs.Session.{after_line}
use Rattle.oct_session.specs.Setup.{Setup}
use Rattle.oct_session.specs.Tally.{capped, counted as count_reply}
use Rattle.oct_session.specs.declared.tally.Tally.{Tally}
use Rattle.oct_session.specs.Standing.{with_reply, KeepsStanding, HasAnswered, HasDone}
use Rattle.oct_session.specs.Standing.{HasWorked, FindsTold, TakesEffect, HasEffect}
use Rattle.oct_session.specs.Standing.{HasFailed, TakesMemory, StandsBeside, IsInStep}
use Rattle.oct_session.specs.Standing.{IsBetween, FailsLine}
use Rattle.oct_session.proofs.MapHistory.{state_more}
use Rattle.oct_session.proofs.Progresses.{after_answered, asks_next, asks_more, line_finds_told}

-- nothing is saved where there is nothing to save
pub saves_none : (r : Option Reply) (saving : Option Saving) → saving ≡ None
    → accepted_saving r saving ≡ None
saves_none r saving none =
    elim (is_refusal r) as (λ b. cond b None saving ≡ None) [ true ↦ refl | false ↦ none ]

-- a line inside a block saves nothing
inside_saves : (s : State) (number : ℕ) (c : Result Command Refusal) (block : ScanBlock)
    → (effect_inside s number c block).saving ≡ None
inside_saves s number c block =
    elim (is_end c) as (λ b.
    (cond {A = Effect} b (replied (block_reply s block) (block_action block) None)
    (silent (with_line number c block))).saving ≡ None) [
      | true ↦ saves_none (block_reply s block) None refl
      | false ↦ refl
    ]

-- a fault is one whatever stands in the place of its reply
pub failed_for : {A : Type 0} (r : Result A StoreFault) (a : Option Reply) (fault : StoreFault)
    → IsErrAnd r (λ x. x ≡ fault) → IsErrAnd (with_reply r a) (λ x. x ≡ fault)
failed_for (Ok x) a fault failed = failed
failed_for (Err x) a fault failed = failed

pub is_failed : {A E : Type 0} (r : Result A E) (a : Option Reply) → IsErr r
    → IsErr (with_reply r a)
is_failed (Ok x) a err = cc
is_failed (Err x) a err = err

-- files among which nothing was saved
pub same_files : (told files : Option Files) (saving : Option Saving) → told ≡ files → saving ≡ None
    → told ≡ stored files saving
same_files told files saving is none = is ∙ ap (stored files) (sym none)

-- a map that stands for some history after more commands
pub stands_after_more : (o : Setup) (m n : Map) (some : StandsForSome o m) (more : History)
    → StandsFor n (after_all (state_after o some.0) more) → StandsForSome o n
stands_after_more o m n some more at =
    (some.0 ++ more, subst (StandsFor n) (sym (state_more o some.0 more)) at)

-- a map on which something was done stands for some history, as before
pub stands_where_done : {E : Type 0} (r : Result (Option Reply) E) (m n : Map)
    (reply : State → Option Reply) (actions : State → History) → HasDone reply actions m n r
    → KeepsStanding m n
stands_where_done (Ok a) m n reply actions done =
    λ o some. stands_after_more o m n some (accepted a (actions (state_after o some.0)))
    (done (state_after o some.0) some.1).1
stands_where_done (Err x) m n reply actions done =
    λ o some. (some.0, (done (state_after o some.0) some.1).1)

-- and so does one that has worked on a line
pub stands_where_worked : {E : Type 0} (r : Result (Option Reply) E) (m n : Map)
    (before : ScanBlock) (block : Option ScanBlock) (e : State → Effect)
    → HasWorked e before m n block r → KeepsStanding m n
stands_where_worked (Ok a) m n before block e done =
    λ o some. stands_after_more o m n some (e (state_after o some.0)).added
    (done (state_after o some.0) some.1).2
stands_where_worked (Err x) m n before block e done = λ o some.
    (some.0, (done (state_after o some.0) some.1).1)

-- the block with a command more, by what does that
with_kind_of : (number : ℕ) (c : Command) (k : Kind) (first : ScanBlock) → kind_of c ≡ k
    → with_line number (Ok c) first ≡ block_with number k first
with_kind_of number c k (Spoilt refusal) is = refl
with_kind_of number c k (Scanning scan) is = ap (λ x. with_kind number x scan) is

-- a point was added to the block, or memory ran out for it
pub point_worked : {T E : Type 0} (r : Result T E) (m : Map) (number : ℕ) (c : Command) (p : Point)
    (first : ScanBlock) (new : Option ScanBlock) (a : Option Reply) → kind_of c ≡ Adds p → a ≡ None
    → OnOk r (new ≡ Some (block_with number (Adds p) first))
    → OnErr r (GainsPoint (Some first) (Some (block_with number (Adds p) first)))
    → HasWorked (λ s. effect_inside s number (Ok c) first) first m m new (with_reply r a)
point_worked (Ok x) m number c p first new a is silent done short = λ s at.
    let goes_on : is_end (Ok c) ≡ false = ap does_close is in
    rw goes_on (silent, done ∙ ap Some (sym (with_kind_of number c (Adds p) first is)), at)
point_worked (Err x) m number c p first new a is silent done short = λ s at.
    let goes_on : is_end (Ok c) ≡ false = ap does_close is in
    rw goes_on (
      inr (subst (λ b. GainsPoint (Some first) (Some b))
          (sym (with_kind_of number c (Adds p) first is)) short),
      at,
    )

-- a line in a block, with the files that stand by
pub inside_done : (m n : Map) (f : Option Files) (number : ℕ) (line : Line)
    (c : Result Command Refusal) (old new : Option ScanBlock) (a : Option Reply)
    → is_some old ≡ true →
    ((first : ScanBlock) → old ≡ Some first → (s : State) → StandsFor m s →
    (a ≡ (effect_inside s number c first).reply) × (new ≡ (effect_inside s number c first).block)
    × StandsFor n (after_all s (effect_inside s number c first).added)) →
    TakesEffect (λ files s. effect files s number line c old) (asked_of c) m f n f new a
inside_done m n f number line c None new a some worked = cc
inside_done m n f number line c (Some first) new a some worked = λ files s finds at.
    let took = worked first refl s at.stands in (
      took.0,
      took.1,
      record {
        stands = took.2;
        told = same_files f files
            (effect_inside s number c first).saving at.told (inside_saves s number c first);
      },
    )

-- a map on which a line in a block was done stands for some history, as before
pub stands_inside : {E : Type 0} (r : Result (Option Reply) E) (m n : Map) (number : ℕ)
    (c : Result Command Refusal) (old new : Option ScanBlock) → is_some old ≡ true →
    ((first : ScanBlock) → old ≡ Some first
    → HasWorked (λ s. effect_inside s number c first) first m n new r) → KeepsStanding m n
stands_inside r m n number c None new some works = cc
stands_inside r m n number c (Some first) new some works =
    stands_where_worked r m n first new (λ s. effect_inside s number c first) (works first refl)

-- what was answered and done on the map alone, with the files that stand by
map_done : (m n : Map) (f : Option Files) (block : Option ScanBlock) (a : Option Reply)
    (reply : State → Option Reply) (actions : State → History) → block ≡ None
    → HasAnswered reply actions m n a →
    TakesEffect (λ files s. replied (reply s) (actions s) None) None m f n f block a
map_done m n f block a reply actions closed done = λ files s finds at.
    let took = done s at.stands in (
      took.0,
      closed,
      record {
        stands = subst (λ x. StandsFor n (after_all s (accepted x (actions s)))) took.0 took.1;
        told = same_files f files (accepted_saving (reply s) None) at.told
            (saves_none (reply s) None refl);
      },
    )

map_failed : (x : StoreFault) (m n : Map) (f : Option Files) (block : Option ScanBlock)
    (reply : State → Option Reply) (actions : State → History) → x ≡ store_fault.Memory →
    ((s : State) → StandsFor m s → IsSome (reply s) × StandsFor n s)
    → HasEffect (λ files s. replied (reply s) (actions s) None) None None m f n f block (Err x)
map_failed x m n f block reply actions memory kept = λ files s finds at.
    let done = kept s at.stands in (
      inl done.0,
      subst (λ y. HasFailed None files s n f y) (sym memory)
          (record { stands = done.1; told = at.told }),
    )

-- what comes of a command outside a block, by what does it
abbrev pub KindEffect : ℕ → Kind → Option Files → State → Effect
KindEffect number k files s = unless_opened (effect_of_kind files s k) (kind_opened number k)

-- a verb with the name of a file had its effect where no block is open
pub verb_used : {K F T : Type 0} (ghosts : store.Ghosts F) (d e : Context K F)
    (r : Result T StoreFault) (a : Option Reply) (number : ℕ) (verb : FileVerb) (name : List ℕ)
    (block : Option ScanBlock) → block ≡ None → UsesFile ghosts verb name d e r a
    → Works ghosts (KindEffect number (Names verb name)) (kind_work (Names verb name)) None block
    d e r a
verb_used ghosts d e r a number verb name block closed used =
    subst (λ x. Works ghosts (λ files s. effect_of_kind files s (Names verb name))
    (Some (verb_work verb name)) None x d e r a) (sym closed) used

-- no refusal was read
pub none_read : (refusal : Option Refusal) → ((x : Refusal) → refusal ≡ Some x → ⊥)
    → refusal ≡ None
none_read None not = refl
none_read (Some x) not = absurd (not x refl)

-- no block is open
pub none_open : (block : Option ScanBlock) → is_some block ≡ false → block ≡ None
none_open None is = refl
none_open (Some inner) is = cc

-- a call that does a command outside a block does what does it
pub works_by_kind : {K F T : Type 0} (ghosts : store.Ghosts F) (d e : Context K F)
    (r : Result T StoreFault) (a : Option Reply) (number : ℕ) (line : Line) (c : Command) (k : Kind)
    (block : Option ScanBlock) → k ≡ kind_of c
    → Works ghosts (KindEffect number k) (kind_work k) None block d e r a
    → Works ghosts (λ files s. effect_opened files s (Ok c) (opened number line (Ok c)))
    (asked_of (Ok c)) None block d e r a
works_by_kind ghosts d e r a number line c k block is took =
    subst (λ x. Works ghosts (KindEffect number x) (kind_work x) None block d e r a) is took

-- a store that isn't asked is as it was
pub unasked : {F : Type 0} (store : F) (calls asks : ℕ) → IsAsked (store ≡ store) calls calls asks
unasked store calls asks = record { unasked = λ none. refl; few = omega arith }

-- and fails for nothing where the call ends well, or where memory runs out
pub well_counted : {T : Type 0} (x : T) (k : ℕ) → IsAskCounted {T = T} (Ok x) k k
well_counted x k = record { stays = refl; failed = λ is. cc; memory = λ is. cc }

pub counted_done : {A B : Type 0} (x : A) (y : B) (j k : ℕ) → IsAskCounted (Ok x) j k
    → IsAskCounted (Ok y) j k
counted_done x y j k counted =
    record { stays = counted.stays; failed = λ is. cc; memory = λ is. cc }

counted_alike : {A B : Type 0} (fault : StoreFault) (j k : ℕ) → IsAskCounted {T = B} (Err fault) j k
    → IsAskCounted {T = A} (Err fault) j k
counted_alike store_fault.Failed j k counted =
    record { stays = tt; failed = λ is. counted.failed refl; memory = λ is. cc }
counted_alike store_fault.Memory j k counted =
    record { stays = tt; failed = λ is. cc; memory = λ is. counted.memory refl }

pub counted_on : {A B : Type 0} (r : Result A StoreFault) (fault : StoreFault) (j k : ℕ)
    → IsErrAnd r (λ x. x ≡ fault) → IsAskCounted {T = B} (Err fault) j k → IsAskCounted r j k
counted_on (Ok x) fault j k is counted = absurd is
counted_on {A = A} (Err x) fault j k is counted =
    subst (λ a. IsAskCounted {T = A} (Err a) j k) (sym is) (counted_alike fault j k counted)

pub ran_out : {T : Type 0} (r : Result T StoreFault) (j k : ℕ)
    → IsErrAnd r (λ x. x ≡ store_fault.Memory) → k ≡ j → IsAskCounted r j k
ran_out (Ok x) j k memory same = absurd memory
ran_out (Err x) j k memory same = record { stays = tt; failed = λ is. cc; memory = λ is. same }

-- a context with another map and another store
abbrev pub with_desk : {K F : Type 0} → Context K F → MutBor Map → MutBor F → Context K F
with_desk d map store = record { alloc = d.alloc; map = map; store = store; sink = d.sink }

-- what the map alone answered and did, where no block is open
pub map_answered : {K F : Type 0} (ghosts : store.Ghosts F) (d : Context K F) (map : MutBor Map)
    (block : Option ScanBlock) (a : Option Reply) (reply : State → Option Reply)
    (actions : State → History) → map.ghost_name ≡ d.map.ghost_name → block ≡ None
    → HasAnswered reply actions d.map.now map.now a
    → Works ghosts (λ files s. replied (reply s) (actions s) None) None None block d
    (with_desk d map d.store) (Ok (tt {0})) a
map_answered ghosts d map block a reply actions name closed done = record {
  took = map_done d.map.now map.now (ghosts.files d.store.now) block a reply actions closed done;
  stands = stands_where_done {E = ⊤} (Ok a) d.map.now map.now reply actions done;
  asks = unasked _ _ _;
  counts = well_counted _ _;
  map_name = name;
  store_name = refl;
  sink_name = refl;
  sink = refl;
}

-- and where memory ran out for it
pub map_ran_out : {K F T : Type 0} (ghosts : store.Ghosts F) (d : Context K F) (map : MutBor Map)
    (block : Option ScanBlock) (r : Result T StoreFault) (a : Option Reply)
    (reply : State → Option Reply) (actions : State → History)
    → map.ghost_name ≡ d.map.ghost_name → IsErrAnd r (λ x. x ≡ store_fault.Memory)
    → ((s : State) → StandsFor d.map.now s → IsSome (reply s) × StandsFor map.now s)
    → Works ghosts (λ files s. replied (reply s) (actions s) None) None None block d
    (with_desk d map d.store) r a
map_ran_out ghosts d map block (Ok x) a reply actions name memory kept = absurd memory
map_ran_out ghosts d map block (Err x) a reply actions name memory kept = record {
  took = map_failed x d.map.now map.now (ghosts.files d.store.now) block reply actions memory kept;
  stands = λ o some. (some.0, (kept (state_after o some.0) some.1).1);
  asks = unasked _ _ _;
  counts = ran_out (Err x) _ _ memory refl;
  map_name = name;
  store_name = refl;
  sink_name = refl;
  sink = refl;
}

-- a line that isn't in the grammar, where no block is open
fault_before : (m : Map) (f : Option Files) (refusal : Refusal) (opens : Bool)
    (new : Option ScanBlock) (a : Option Reply) → new ≡ cond opens (Some (Spoilt refusal)) None
    → a ≡ spoilt_reply refusal new →
    TakesEffect (λ files s. effect_opened files s (Err refusal)
    (cond opens (Some (Spoilt refusal)) None)) None m f m f new a
fault_before m f refusal true new a is told =
    λ files s finds at. (told ∙ ap (spoilt_reply refusal) is, is, at)
fault_before m f refusal false new a is told =
    λ files s finds at. (told ∙ ap (spoilt_reply refusal) is, is, at)

-- such a line, wherever it stands
pub fault_taken : (m : Map) (f : Option Files) (number : ℕ) (line : Line) (opens : Bool)
    (refusal : Refusal) (old new : Option ScanBlock) (a : Option Reply) → opens ≡ opens_block line
    → new ≡ spoilt_by number opens refusal old → a ≡ spoilt_reply refusal new →
    TakesEffect (λ files s. effect files s number line (Err refusal) old) None m f m f new a
fault_taken m f number line opens refusal None new a so is told =
    subst (λ x. TakesEffect (λ files s. effect_opened files s (Err refusal)
    (cond x (Some (Spoilt refusal)) None)) None m f m f new a) so
    (fault_before m f refusal opens new a is told)
fault_taken m f number line opens refusal (Some block) new a so is told =
    λ files s finds at. (told ∙ ap (spoilt_reply refusal) is, is, at)

-- a line of a call
abbrev pub WorksAt : {K F T : Type 0} → store.Ghosts F → ℕ → Line → Result Command Refusal
    → Option ScanBlock → Option ScanBlock → Context K F → Context K F → Result T StoreFault
    → Option Reply → Type 0
WorksAt ghosts number line c old new d e r a =
    Works ghosts (λ files s. effect files s number line c old) (asked_of c) old new d e r a

-- by the command that was read of it
pub works_as_read : {K F T : Type 0} (ghosts : store.Ghosts F) (d e : Context K F)
    (r : Result T StoreFault) (a : Option Reply) (number : ℕ) (line : Line)
    (c read : Result Command Refusal) (old new : Option ScanBlock) → c ≡ read
    → WorksAt ghosts number line read old new d e r a → WorksAt ghosts number line c old new d e r a
works_as_read ghosts d e r a number line c read old new is took =
    subst (λ x. WorksAt ghosts number line x old new d e r a) (sym is) took

-- where no block is open
pub works_before : {K F T : Type 0} (ghosts : store.Ghosts F) (d e : Context K F)
    (r : Result T StoreFault) (a : Option Reply) (number : ℕ) (line : Line)
    (c : Result Command Refusal) (old new : Option ScanBlock) → is_some old ≡ false
    → Works ghosts (λ files s. effect_opened files s c (opened number line c)) (asked_of c) None new
    d e r a → WorksAt ghosts number line c old new d e r a
works_before ghosts d e r a number line c (Some inner) new none took = cc
works_before ghosts d e r a number line c None new none took = took

-- so does one that does what was read of a line outside a block
pub line_by_kind : {K F T : Type 0} (ghosts : store.Ghosts F) (d e : Context K F)
    (r : Result T StoreFault) (a : Option Reply) (parsed : Parsed) (line : Line) (k : Kind)
    (old new : Option ScanBlock) → parsed.refusal ≡ None → is_some old ≡ false
    → k ≡ kind_of parsed.command
    → Works ghosts (KindEffect parsed.number k) (kind_work k) None new d e r a
    → WorksAt ghosts parsed.number line (command_in parsed) old new d e r a
line_by_kind ghosts d e r a parsed line k old new read closed is took =
    works_as_read ghosts d e r a parsed.number line (command_in parsed) (Ok parsed.command) old new
    (ap (read_as parsed.command) read)
    (works_before ghosts d e r a parsed.number line (Ok parsed.command) old new closed
    (works_by_kind ghosts d e r a parsed.number line parsed.command k new is took))

-- the command that was read is that of the next line
pub same_command : (s : Session) (line : Line) (p : Progress) (c : Result Command Refusal)
    → IsInStep s p
    → c ≡ command_on (is_some s.block) (s.line_count + 1) line
    → c ≡ next_command p line
same_command s line p c at read =
    read ∙ ap (λ n. command_on (is_some s.block) (n + 1) line) at.counted
    ∙ ap (λ (b : Option ScanBlock). command_on (is_some b) (p.line_count + 1) line) at.block

-- and its effect that of the next line
same_effect : (o : Setup) (s : Session) (line : Line) (p : Progress) (c : Result Command Refusal)
    → IsInStep s p
    → c ≡ command_on (is_some s.block) (s.line_count + 1) line →
    effect p.files (state_after o p.history) (s.line_count + 1) line c s.block
    ≡ effect_of o p line
same_effect o s line p c at read =
    ap (λ x. effect p.files (state_after o p.history) (s.line_count + 1) line x s.block)
    (same_command s line p c at read)
    ∙ ap (λ n. effect p.files (state_after o p.history) (n + 1) line
    (next_command p line) s.block) at.counted
    ∙ ap (effect p.files (state_after o p.history) (p.line_count + 1) line
    (next_command p line)) at.block

-- what was read of a line, and what it did
pub record IsWorked (s : Session) (line : Line) (c : Result Command Refusal) (m n : Map)
    (f g : Option Files)
    (block : Option ScanBlock) (r : Result (Option Reply) StoreFault) : Type 0 where
  pub running : s.has_quit ≡ false
  pub read : c ≡ command_on (is_some s.block) (s.line_count + 1) line
  pub took : HasEffect (λ files q. effect files q (s.line_count + 1) line c s.block) (asked_of c)
      s.block m f n g block r

-- what was read of the next line, inside a block or outside
pub read_next : (c : Result Command Refusal) (inside : Bool) (block : Option ScanBlock) (number : ℕ)
    (line : Line) → c ≡ command_on inside number line → inside ≡ is_some block
    → c ≡ command_on (is_some block) number line
read_next c inside block number line read is =
    subst (λ b. c ≡ command_on b number line) is read

pub parsed_next : (s : Session) (line : Line) (parsed : Parsed) (inside : Bool)
    → s.has_quit ≡ false → parsed.number ≡ s.line_count + 1
    → command_in parsed ≡ command_on inside (s.line_count + 1) line → inside ≡ is_some s.block
    → TellsOpening parsed line → HasParsed s line parsed
parsed_next s line parsed inside running numbered read is opens = record {
  running = running;
  numbered = numbered;
  read = read_next (command_in parsed) inside s.block (s.line_count + 1) line read is;
  opens = opens;
}

-- so it was by a call that did the next line, of which this was read
pub worked : {K F T : Type 0} (ghosts : store.Ghosts F) (s : Session) (line : Line)
    (parsed : Parsed) (block : Option ScanBlock) (d e : Context K F) (r : Result T StoreFault)
    (a : Option Reply) → HasParsed s line parsed
    → WorksAt ghosts parsed.number line (command_in parsed) s.block block d e r a
    → IsWorked s line (command_in parsed) d.map.now e.map.now (ghosts.files d.store.now)
    (ghosts.files e.store.now) block (with_reply r a)
worked ghosts s line parsed block d e r a read w = record {
  running = read.running;
  read = read.read;
  took = subst (λ n. HasEffect (λ files q. effect files q n line (command_in parsed) s.block)
      (asked_of (command_in parsed)) s.block d.map.now (ghosts.files d.store.now) e.map.now
      (ghosts.files e.store.now) block (with_reply r a)) read.numbered w.took;
}

-- the file that the line names is told, if it names one
finds_line : (o : Setup) (s : Session) (line : Line) (p : Progress) (c : Result Command Refusal)
    → s.has_quit ≡ false → IsInStep s p
    → c ≡ command_on (is_some s.block) (s.line_count + 1) line →
    IsKnown (after_line o p line) → FindsTold (file_named c) p.files
finds_line o s line p c running at read known =
    subst (λ x. FindsTold (file_named x) p.files) (sym (same_command s line p c at read))
    (line_finds_told o p line (sym at.has_quit ∙ running) known)

-- the reply to the next line
pub told_line : (o : Setup) (d : Desk) (n : Map) (g : Option Files) (s : Session) (line : Line)
    (p : Progress)
    (c : Result Command Refusal) (block : Option ScanBlock) (a : Option Reply)
    → IsWorked s line c d.map n d.store.files g block (Ok a) →
    IsKnown (after_line o p line) → IsBetween o d s p → a ≡ (effect_of o p line).reply
told_line o d n g s line p c block a w known at =
    (w.took p.files (state_after o p.history)
    (finds_line o s line p c w.running at.step w.read known)
    at.like).0 ∙ ap (λ (x : Effect). x.reply) (same_effect o s line p c at.step w.read)

-- the desk after the next line
pub like_line : (o : Setup) (d e : Desk) (s : Session) (line : Line) (p : Progress)
    (c : Result Command Refusal)
    (block : Option ScanBlock) (a : Option Reply)
    → IsWorked s line c d.map e.map d.store.files e.store.files block (Ok a) →
    IsKnown (after_line o p line) → IsBetween o d s p
    → IsLikeAfter o (after_line o p line) e
like_line o d e s line p c block a w known at =
    let after : IsLike (stored p.files (effect_of o p line).saving)
    (after_all (state_after o p.history) (effect_of o p line).added) e.map e.store.files =
    subst (λ (x : Effect). IsLike (stored p.files x.saving)
    (after_all (state_after o p.history) x.added) e.map e.store.files)
    (same_effect o s line p c at.step w.read)
    (w.took p.files (state_after o p.history)
    (finds_line o s line p c w.running at.step w.read known)
    at.like).2 in
    subst (λ (x : Progress). IsLikeAfter o x e)
    (sym (after_answered o p line (sym at.step.has_quit ∙ w.running)))
    (subst (λ q. IsLike (stored p.files (effect_of o p line).saving) q e.map e.store.files)
    (sym (state_more o p.history (effect_of o p line).added)) after)

-- how often the store was asked after a call, by how often it was before
pub asked_more : {F : Type 0} (files : F → Option Files) (calls : F → ℕ) (first old new : F)
    (m n : Map) (k more : ℕ) → IsAsked (new ≡ old) (calls old) (calls new) more
    → HasAsked (desk m (shelf files calls first old)) k →
    HasAsked (desk n (shelf files calls first new)) (k + more)
asked_more files calls first old new m n k more step at =
    record {
      unasked = λ none. step.unasked (omega (arith, none))
          ∙ at.unasked (omega (arith, none));
      few = omega (arith, step.few, at.few);
    }

-- one that was asked more often than it was
pub asked_most : (d : Desk) (k most : ℕ) → k ≤ most → HasAsked d k → HasAsked d most
asked_most d k most few at =
    record {
      unasked = λ none. at.unasked (omega (arith, few, none));
      few = omega
          (arith, few, at.few);
    }

-- a call that asks the store so often
abbrev pub Asks : Desk → Desk → ℕ → Type 0
Asks d e more = (k : ℕ) → HasAsked d k → HasAsked e (k + more)

-- the store is asked once at most for each line that named a file
asked_line : (o : Setup) (d e : Desk) (s : Session) (line : Line) (p : Progress)
    (c : Result Command Refusal)
    → s.has_quit ≡ false → c ≡ command_on (is_some s.block) (s.line_count + 1) line →
    Asks d e (asks_for (file_named c)) → IsBetween o d s p
    → HasAsked e (after_line o p line).asks
asked_line o d e s line p c running read asks at =
    subst (HasAsked e) (ap (λ x. p.asks + asks_for (file_named x))
    (same_command s line p c at.step read)
    ∙ sym (asks_next o p line (sym at.step.has_quit ∙ running))) (asks p.asks at.asked)

-- desk and session after the next line
pub between_line : (o : Setup) (d e : Desk) (s t : Session) (line : Line) (p : Progress)
    (c : Result Command Refusal) (block : Option ScanBlock) (a : Option Reply)
    → IsWorked s line c d.map e.map d.store.files e.store.files block (Ok a) →
    Asks d e (asks_for (file_named c)) →
    t.line_count ≡ s.line_count + 1 → t.block ≡ block → t.refused ≡ (s.refused || is_refusal a)
    → t.has_quit ≡ is_quit c
    → ((u : Tally) → s.tally ≡ capped u → t.tally ≡ capped (count_reply u a)) →
    IsKnown (after_line o p line) → IsBetween o d s p
    → IsBetween o e t (after_line o p line)
between_line o d e s t line p c block a w asks counted is refused quit tally known at =
    let after = after_answered o p line (sym at.step.has_quit ∙ w.running) in
    record {
      like = like_line o d e s line p c block a w known at;
      asked = asked_line o d e s line p c w.running w.read asks at;
      step = record {
        counted = counted ∙ ap (λ k. k + 1) at.step.counted
            ∙ ap (λ (x : Progress). x.line_count) (sym after);
        block = is ∙ (w.took p.files (state_after o p.history)
            (finds_line o s line p c w.running at.step w.read known) at.like).1
            ∙ ap (λ (x : Effect). x.block) (same_effect o s line p c at.step w.read)
            ∙ ap (λ (x : Progress). x.block) (sym after);
        refused = refused ∙ ap (λ b. b || is_refusal a) at.step.refused
            ∙ ap (λ x. p.refused || is_refusal x)
            (told_line o d e.map e.store.files s line p c block a w known at)
            ∙ ap (λ (x : Progress). x.refused) (sym after);
        has_quit = quit ∙ ap is_quit (same_command s line p c at.step w.read)
            ∙ ap (λ (x : Progress). x.has_quit) (sym after);
        tally = tally p.tally at.step.tally
            ∙ ap (λ x. capped (count_reply p.tally x))
            (told_line o d e.map e.store.files s line p c block a w known at)
            ∙ ap (λ (x : Progress). capped x.tally) (sym after);
      };
    }

failed_beside : (o : Setup) (e : Desk) (p : Progress) (line : Line) (fault : StoreFault)
    → p.has_quit ≡ false →
    HasFailed (asked_of (next_command p line)) p.files (state_after o p.history) e.map
    e.store.files fault → StandsBeside o e p line fault
failed_beside o e p line store_fault.Failed running torn =
    (asks_more o p line running torn.0, torn.1)
failed_beside o e p line store_fault.Memory running less = inr less

-- where the command failed, nothing of the line is done, but for the file that it saves
pub command_fails_line : {H : Type 0} (fault : StoreFault) (o : Setup) (d e : H → Desk)
    (s : Session) (line : Line) (c : Result Command Refusal) (block : Option ScanBlock) →
    ((first : H) → IsWorked s line c (d first).map (e first).map (d first).store.files
    (e first).store.files
    block (Err fault)) → ((first : H) → Asks (d first) (e first) (asks_for (file_named c))) →
    FailsLine o d e s line fault
command_fails_line fault o d e s line c block works asks first p known at =
    let w = works first in
    let done = w.took p.files (state_after o p.history)
    (finds_line o s line p c w.running at.step w.read known) at.like in
    let failed : HasFailed (asked_of (next_command p line)) p.files (state_after o p.history)
    (e first).map (e first).store.files fault =
    subst (λ y. HasFailed (asked_of y) p.files (state_after o p.history) (e first).map
    (e first).store.files fault) (same_command s line p c at.step w.read) done.1 in
    record {
      takes = subst (λ b. TakesMemory b (effect_of o p line)) at.step.block
          (subst (λ (y : Effect). TakesMemory s.block y) (same_effect o s line p c at.step w.read)
          done.0);
      beside = failed_beside o (e first) p line fault (sym at.step.has_quit ∙ w.running) failed;
      asked = asked_line o (d first) (e first) s line p c w.running w.read (asks first) at;
    }

-- where memory runs out for the reply, all of it is done
pub reply_fails_line : {H : Type 0} (o : Setup) (d e : H → Desk) (s : Session) (line : Line)
    (c : Result Command Refusal) (block : Option ScanBlock) (a : Option Reply) →
    ((first : H) → IsWorked s line c (d first).map (e first).map (d first).store.files
    (e first).store.files
    block (Ok a)) → ((first : H) → Asks (d first) (e first) (asks_for (file_named c))) → IsSome a →
    FailsLine o d e s line store_fault.Memory
reply_fails_line o d e s line c block a works asks some first p known at =
    let w = works first in
    record {
      takes = inl (subst (λ (r : Option Reply). IsSome r)
          (told_line o (d first) (e first).map
          (e first).store.files s line p c block a w known at) some);
      beside = inl (like_line o (d first) (e first) s line p c block a w known at);
      asked = asked_line o (d first) (e first) s line p c w.running w.read (asks first) at;
    }
