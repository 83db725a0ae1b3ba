-- How a drill ends.
use Rattle.std.proofs.Common.{◌≡◌, ℕ, ◌+◌, ◌*◌, ◌^◌, ◌<◌, ◌≤◌, ◌++◌, List, [], length, Bool, true}
use Rattle.std.proofs.Common.{false, Option, Some, None, Result, Ok, Err, IfErr, IsErrAnd, OnOk}
use Rattle.std.proofs.Common.{OnErr, nat_lt, inl, refl, sym, ap, subst, ◌∙◌, arith, append_assoc}
use Rattle.std.specs.Prelude.{codes, decimal, IsErrOf}
use Rattle.std.proofs.lemmas.Nat.{mul-le}
use Rattle.oct_bt.specs.File.{bt_text}
use Rattle.oct_io.specs.Taken.{IsCutOff}
use Rattle.oct_tree.specs.Classes.{classes_in}
use Rattle.oct_gen.specs.Script.{script_of}
use Rattle.oct_gen.proofs.Lengths.{script_short}
use Rattle.oct_io.specs.Files.{Files, no_files}
use Rattle.oct_io.specs.Told.{appended}
use Rattle.oct_io.specs.declared.sink.SinkFault.{SinkFault}
use Rattle.oct_io.specs.declared.sink.SinkFault.TheVariants as sink
use Rattle.oct_io.proofs.Appending.{appended_nil}
use Rattle.oct_map.specs.Map.{Map, values_of}
use Rattle.oct_values.specs.Counts.{group_count, node_count}
use Rattle.oct_values.proofs.Uniform.{same_group_count, same_node_count}
use Rattle.oct_session.specs.Drill.{drill, drill_setup, drilled, drilled_state}
use Rattle.oct_session.specs.Drill.{summary, summary_of, lines_about, HasLeft}
use Rattle.oct_io.specs.Answer.{Answer, EndsUnread}
use Rattle.oct_session.specs.Leaving.{StandsFor, Desk, desk, IsKnown}
use Rattle.oct_io.specs.Shelf.{Shelf}
use Rattle.oct_session.specs.Session.{last_progress, status_at_end}
use Rattle.oct_session.specs.Moments.{AreCounted, stop_in}
use Rattle.oct_session.specs.Setup.{Setup}
use Rattle.oct_session.specs.Standing.{seated, HasServed, IsThrough, Finishes, Ends}
use Rattle.oct_io.specs.Stops.{status_of, status_written}
use Rattle.oct_io.specs.declared.status.Status.{Status}
use Rattle.oct_io.specs.declared.stop.Stop.{Stop}
use Rattle.oct_io.specs.declared.stop.Stop.TheVariants.{TooLong, ReadFault, WriteFault}
use Rattle.oct_io.specs.declared.stop.Stop.TheVariants.{Memory, StoreFault}
use Rattle.oct_session.specs.declared.drilling.Leavings.{Leavings}
use Rattle.oct_session.specs.declared.session.Session.{Session}
use Rattle.oct_session.specs.Tally.{capped}
use Rattle.oct_session.specs.declared.tally.Tally.{Tally}
use Rattle.oct_session.proofs.Built.{zero_stays}
use Rattle.oct_session.proofs.Endings.{IsFirst, IsNew, serving_start, known_told}
use Rattle.oct_session.proofs.Loading.{same_file}

-- the script isn't too long
script_fits : (seed scans points : ℕ) → seed < 2 ^ 64 → scans ≤ 1000 → points ≤ 100000
    → length (script_of seed scans points) < 2 ^ 40
script_fits seed scans points a b c =
    let short = script_short seed scans points a (omega (arith, b)) (omega (arith, c)) in
    let most = mul-le scans (59 + points * 41) 1000 4100059 b (omega (arith, c)) in
    omega (arith, short, most)

-- a session that begins on the script
script_begins : (o : Setup) (told : Files) (script : List ℕ) (left : Option (List ℕ)) (m : Map)
    (k : Shelf)
    (s : Session) → o ≡ drill_setup → left ≡ Some script → IsFirst (Some told) k
    → IsNew drill_setup m s → HasServed o (Some told) script left None None (desk m k) s 0
script_begins o told script left m k s is reads first new =
    subst (λ x. HasServed o (Some told) script x None None (desk m k) s 0) (sym reads)
    (serving_start o (Some told) script None m k s first (subst (λ x. IsNew x m s) (sym is) new))

script_known : (o : Setup) (told : Files) (script : List ℕ)
    → IsKnown (last_progress o (Some told) script)
script_known o told script = known_told o (Some told) script (inl refl)

-- the session has done the script
pub record HasDrilled (seed scans points : ℕ) (m : Map) (t : Session) : Type 0 where
  pub tally : t.tally ≡ capped (drilled seed scans points).tally
  pub stands : StandsFor m (drilled_state seed scans points)

through_drilled : (o : Setup) (told : Files) (seed scans points : ℕ) (after : Option (List ℕ))
    (d : Desk) (t : Session) → o ≡ drill_setup → told ≡ no_files
    → IsThrough o (Some told) (script_of seed scans points) after None None d t →
    HasDrilled seed scans points d.map t
unfolding drilled
through_drilled o told seed scans points after d t is none through =
    let script = script_of seed scans points in
    let at : IsThrough drill_setup (Some no_files) script after None None d t =
    subst (λ x. IsThrough drill_setup (Some x) script after None None d t) none
    (subst (λ x. IsThrough x (Some told) script after None None d t) is through) in
    record { tally = at.reached.between.step.tally; stands = at.reached.between.like.stands }

pub work_done : {H : Type 0} (o : Setup) (told : Files) (seed scans points : ℕ)
    (left after : Option (List ℕ)) (m : Map) (k : H → Shelf) (e : H → Desk) (first : H)
    (s t : Session) →
    o ≡ drill_setup → told ≡ no_files → left ≡ Some (script_of seed scans points)
    → IsFirst (Some told) (k first) → IsNew drill_setup m s →
    Finishes o left after (seated (λ first. desk m (k first)) None) (seated e None) s t 0 →
    HasDrilled seed scans points (e first).map t
work_done o told seed scans points left after m k e first s t is none reads at new does =
    through_drilled o told seed scans points after (e first) t is none
    (does first (Some told) (script_of seed scans points) None
    (script_begins o told (script_of seed scans points) left m (k first) s is reads at new)
    (script_known o told (script_of seed scans points)))

-- the session stops only where memory runs out
pub only_memory : {H : Type 0} (short : Type 0) (r : Result (Unit {0}) Stop) (o : Setup)
    (told : Files)
    (seed scans points : ℕ) (left after : Option (List ℕ)) (m : Map) (k : H → Shelf) (e : H → Desk)
    (first : H) (s : Session) →
    o ≡ drill_setup → left ≡ Some (script_of seed scans points) → IsFirst (Some told) (k first)
    → IsNew drill_setup m s → seed < 2 ^ 64 → scans ≤ 1000 → points ≤ 100000 →
    IfErr r (λ stop. Ends o left after (seated (λ first. desk m (k first)) None) (seated e None) s 0
    short (status_of stop)) → (IsErrOf r ReadFault → ⊥) → AreCounted (stop_in r) 0 0 0 0 0 0
    → IfErr r (λ stop. stop ≡ Memory)
only_memory short (Ok done) o told seed scans points left after m k e first s is reads at new a b c
    stops unread counted = tt
only_memory short (Err TooLong) o told seed scans points left after m k e first s is reads at new a
    b c stops unread counted =
    let script = script_of seed scans points in
    let ended = stops first (Some told) script None
    (script_begins o told script left m (k first) s is reads at new) (script_known o told script) in
    let most : o.max_bytes ≡ 2 ^ 40 = ap (λ (x : Setup). x.max_bytes) is in
    let few = script_fits seed scans points a b c in
    let long : o.max_bytes + 1 ≤ length script = ended.answer.1.within in
    absurd (omega (arith, most, few, long))
only_memory short (Err ReadFault) o told seed scans points left after m k e first s is reads at new
    a b c stops unread counted = absurd (unread refl)
only_memory short (Err WriteFault) o told seed scans points left after m k e first s is reads at new
    a b c stops unread counted = absurd (zero_stays counted.0)
only_memory short (Err Memory) o told seed scans points left after m k e first s is reads at new a b
    c stops unread counted = refl
only_memory short (Err StoreFault) o told seed scans points left after m k e first s is reads at new
    a b c stops unread counted = absurd (zero_stays counted.2)

-- the lines aren't empty
summary_some : (scans : ℕ) (tally : Tally) (groups nodes bytes : ℕ)
    → 0 < length (summary scans tally groups nodes bytes)
unfolding summary
summary_some scans tally groups nodes bytes = omega arith

-- nothing of them was written yet
pub summary_unwritten : (scans : ℕ) (tally : Tally) (groups nodes bytes : ℕ) (v : Option (List ℕ))
    → IsCutOff v v (summary scans tally groups nodes bytes)
summary_unwritten scans tally groups nodes bytes v =
    (0, summary_some scans tally groups nodes bytes, appended_nil v)

-- lines with numbers that are equal
pub summary_alike : (scans : ℕ) (tally : Tally) (groups nodes bytes g n b : ℕ) → groups ≡ g
    → nodes ≡ n → bytes ≡ b → summary scans tally groups nodes bytes ≡ summary scans tally g n b
summary_alike scans tally groups nodes bytes g n b eg en eb = rw (eg, en, eb) refl

-- the lines about what the script of a drill has left
pub summary_left : (seed scans points : ℕ) (left : Leavings) → HasLeft seed scans points left
    → lines_about scans left
    ≡ summary_of scans (drilled seed scans points).tally (drilled_state seed scans points)
summary_left seed scans points left has =
    let s = drilled_state seed scans points in
    ap (λ t. summary scans t (group_count (values_of left.map)) (node_count (values_of left.map))
    (length (bt_text left.map.tree.res (classes_in left.map.tree)))) has.tally
    ∙ summary_alike scans (drilled seed scans points).tally _ _ _ _ _ _
    (sym (same_group_count s.values (values_of left.map) has.stands.values))
    (sym (same_node_count s.values (values_of left.map) has.stands.values))
    (ap length (same_file left.map s has.stands))

-- a text that was written, or a part of it
pub text_ends : (r : Result (Unit {0}) SinkFault) (whole : Answer) (refused : Bool) (text : List ℕ)
    (v u : Option (List ℕ)) → whole.status ≡ status_at_end refused → text ≡ whole.text
    → OnOk r (u ≡ appended v text) → OnErr r (IsCutOff v u text) →
    EndsUnread whole v u (status_written (status_at_end refused) r)
text_ends (Ok done) whole true text v u status is written cut =
    record { written = written ∙ ap (appended v) is; same_status = status }
text_ends (Ok done) whole false text v u status is written cut =
    record { written = written ∙ ap (appended v) is; same_status = status }
text_ends (Err sink.Failed) whole refused text v u status is written cut =
    subst (IsCutOff v u) is cut
text_ends (Err sink.Memory) whole refused text v u status is written cut =
    subst (IsCutOff v u) is cut

-- numbers and the words before them that are appended in turn, in four lines
pub appended_in_turn : (z a b c d e f g h : List ℕ) (v w x y t u s : List ℕ)
    (i j k l m n o : List ℕ) (end : List ℕ) → z ≡ [] → a ≡ z ++ v ++ i → b ≡ a ++ w ++ j
    → c ≡ b ++ (end ++ x) ++ k → d ≡ c ++ y ++ l → e ≡ d ++ (end ++ t) ++ m → f ≡ e ++ u ++ n
    → g ≡ f ++ (end ++ s) ++ o → h ≡ g ++ end
    → h ≡ (v ++ i ++ w ++ j ++ end) ++ (x ++ k ++ y ++ l ++ end) ++ (t ++ m ++ u ++ n ++ end)
    ++ (s ++ o ++ end)
appended_in_turn z a b c d e f g h v w x y t u s i j k l m n o end ez ea eb ec ed ee ef eg eh =
    rw (eh, eg, ef, ee, ed, ec, eb, ea, ez) (simp append_assoc refl)

-- the four lines, as they are put together
pub summary_built : (scans : ℕ) (tally : Tally) (groups nodes bytes : ℕ)
    (z a b c d e f g h : List ℕ) → z ≡ [] → a ≡ z ++ codes "scans " ++ decimal scans
    → b ≡ a ++ codes " refused " ++ decimal tally.refused
    → c ≡ b ++ codes "\nhits " ++ decimal tally.hits
    → d ≡ c ++ codes " frees " ++ decimal tally.frees
    → e ≡ d ++ codes "\ngroups " ++ decimal groups → f ≡ e ++ codes " nodes " ++ decimal nodes
    → g ≡ f ++ codes "\nbt " ++ decimal bytes → h ≡ g ++ codes "\n"
    → h ≡ summary scans tally groups nodes bytes
unfolding summary
summary_built scans tally groups nodes bytes z a b c d e f g h ez ea eb ec ed ee ef eg eh =
    appended_in_turn z a b c d e f g h (codes "scans ") (codes " refused ") (codes "hits ")
    (codes " frees ") (codes "groups ") (codes " nodes ") (codes "bt ") (decimal scans)
    (decimal tally.refused) (decimal tally.hits) (decimal tally.frees) (decimal groups)
    (decimal nodes) (decimal bytes) (codes "\n") ez ea eb ec ed ee ef eg eh

-- a stop that is passed on
pub passed_stop : {T : Type 0} (r : Result T Stop) (stop : Stop) → IsErrAnd r (λ x. x ≡ stop)
    → stop ≡ Memory → IfErr r (λ x. x ≡ Memory)
passed_stop (Ok done) stop same is = tt
passed_stop (Err x) stop same is = same ∙ is

-- a drill whose session is through
pub drill_told : (r : Result (Unit {0}) SinkFault) (seed scans points : ℕ) (left : Leavings)
    (v u : Option (List ℕ)) (ended result : Status) (refused : Bool)
    → HasLeft seed scans points left → refused ≡ nat_lt 0 left.tally.refused
    → ended ≡ status_at_end refused → result ≡ status_written ended r
    → OnOk r (u ≡ appended v (lines_about scans left))
    → OnErr r (IsCutOff v u (lines_about scans left))
    → EndsUnread (drill seed scans points) v u result
drill_told r seed scans points left v u ended result refused has some is ends written cut =
    subst (EndsUnread (drill seed scans points) v u)
    (sym (ends ∙ ap (λ x. status_written x r) is))
    (text_ends r (drill seed scans points) refused _ v u
    (ap (λ (t : Tally). status_at_end (nat_lt 0 t.refused)) (sym has.tally)
    ∙ ap status_at_end (sym some))
    (summary_left seed scans points left has) written cut)

-- a drill whose session was stopped
pub drill_stopped : (seed scans points : ℕ) (v : Option (List ℕ)) (stop : Stop) (result : Status)
    → stop ≡ Memory → result ≡ status_of stop → EndsUnread (drill seed scans points) v v result
drill_stopped seed scans points v stop result is ends =
    subst (EndsUnread (drill seed scans points) v v) (sym (ends ∙ ap status_of is))
    (summary_unwritten scans (drilled seed scans points).tally _ _ _ v)
