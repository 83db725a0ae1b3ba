-- How a drill ends, and how large its sums are.
use Rattle.std.proofs.Common.{◌≡◌, ℕ, ◌+◌, ◌-◌, ◌*◌, ◌^◌, ◌<◌, ◌||◌, min, List, [], ◌∷◌}
use Rattle.std.proofs.Common.{length, Bool, true, false, cond, Option, Some, None, refl, sym, ap}
use Rattle.std.proofs.Common.{◌∙◌, arith}
use Rattle.std.specs.Prelude.{nat_lt}
use Rattle.std.specs.List.{fold}
use Rattle.std.proofs.lemmas.Bool.{lt-ltb, le-ltb}
use Rattle.std.proofs.lemmas.Nat.{mul-le}
use Rattle.oct_io.specs.Answer.{Outcome}
use Rattle.oct_gen.specs.Script.{script_of}
use Rattle.oct_gen.proofs.Lengths.{script_short}
use Rattle.oct_io.specs.Files.{Files, no_files}
use Rattle.oct_script.specs.Lines.{Line}
use Rattle.oct_script.specs.Replies.{is_refusal}
use Rattle.oct_script.specs.declared.reply.Reply.{Reply}
use Rattle.oct_script.specs.declared.reply.Reply.TheVariants as reply
use Rattle.oct_session.specs.Drill.{drill_setup, drilled, drill}
use Rattle.oct_session.specs.ScanBlock.{end_reply}
use Rattle.oct_session.specs.Session.{Progress, start, effect_of, answered, after_line, progress}
use Rattle.oct_session.specs.Session.{ended, closed, finished, overlong, is_too_long}
use Rattle.oct_session.specs.Session.{last_progress, lines_of, session, status_at_end}
use Rattle.oct_session.specs.Setup.{Setup}
use Rattle.oct_session.specs.Tally.{counted, capped}
use Rattle.oct_session.specs.declared.tally.Tally.{Tally}
use Rattle.oct_session.proofs.FewCounted.{drill_low}
use Rattle.oct_promise.specs.Sums.{IsDrill, IsBelow, drill_session}

-- ---- whether a reply was a refusal, by how many were

or_true : (b : Bool) → (b || true) ≡ true
or_true true = refl
or_true false = refl

or_false : (b : Bool) → (b || false) ≡ b
or_false true = refl
or_false false = refl

-- with one reply more
reply_known : (b : Bool) (t : Tally) (r : Option Reply) → b ≡ nat_lt 0 t.refused
    → (b || is_refusal r) ≡ nat_lt 0 (counted t r).refused
reply_known b t None is = or_false b ∙ is
reply_known b t (Some reply.Ok) is = or_false b ∙ is
reply_known b t (Some (reply.Known v c)) is = or_false b ∙ is
reply_known b t (Some reply.Unknown) is = or_false b ∙ is
reply_known b t (Some (reply.Scanned done)) is = or_false b ∙ is
reply_known b t (Some (reply.Blocks l n)) is = or_false b ∙ is
reply_known b t (Some (reply.Changed c)) is = or_false b ∙ is
reply_known b t (Some (reply.Counted c)) is = or_false b ∙ is
reply_known b t (Some (reply.Casted c)) is = or_false b ∙ is
reply_known b t (Some (reply.Saved n)) is = or_false b ∙ is
reply_known b t (Some (reply.Loaded n)) is = or_false b ∙ is
reply_known b t (Some (reply.Restored n)) is = or_false b ∙ is
reply_known b t (Some (reply.Refused refusal)) is =
    or_true b ∙ sym (lt-ltb 0 (t.refused + 1) (omega arith))

-- a reply was a refusal exactly where their number isn't 0
abbrev IsRefusedAsCounted : Progress → Type 0
IsRefusedAsCounted p = p.refused ≡ nat_lt 0 p.tally.refused

line_known : (o : Setup) (p : Progress) (line : Line) → IsRefusedAsCounted p
    → IsRefusedAsCounted (after_line o p line)
line_known o p line is =
    elim p.has_quit as (λ v. IsRefusedAsCounted (cond v p (answered o p line))) [
      | true ↦ is
      | false ↦ reply_known p.refused p.tally (effect_of o p line).reply is
    ]

lines_known : (o : Setup) (p : Progress) (lines : List Line) → IsRefusedAsCounted p
    → IsRefusedAsCounted (fold (after_line o) p lines)
lines_known o p [] is = is
lines_known o p (line ∷ lines) is =
    lines_known o (after_line o p line) lines (line_known o p line is)

end_known : (p : Progress) → IsRefusedAsCounted p → IsRefusedAsCounted (closed p)
end_known p is = elim p.has_quit as (λ v. IsRefusedAsCounted (cond v p (ended p))) [
  | true ↦ is
  | false ↦ reply_known p.refused p.tally (end_reply p.block) is
]

session_known : (o : Setup) (files : Option Files) (lines : List Line)
    → IsRefusedAsCounted (closed (progress o files lines))
session_known o files lines = end_known (progress o files lines)
    (lines_known o (start files) lines (sym (le-ltb 0 0 (omega arith))))

-- ---- a drill

-- a session whose script isn't too long is read to its end
session_whole : (o : Setup) (files : Option Files) (bytes : List ℕ) → is_too_long o bytes ≡ false
    → session o files bytes ≡ finished (closed (last_progress o files bytes))
unfolding session
session_whole o files bytes fits =
    ap (λ b. cond {A = Outcome} b (overlong (last_progress o files bytes))
    (finished (closed (last_progress o files bytes)))) fits

drill_fits : (seed scans points : ℕ) → IsDrill seed scans points
    → is_too_long drill_setup (script_of seed scans points) ≡ false
drill_fits seed scans points is =
    let few = is.few_scans in
    let small = is.few_points in
    let short = script_short seed scans points is.low (omega (arith, few)) (omega (arith, small)) in
    let most = mul-le scans (59 + points * 41) 1000 4100059 few (omega (arith, small)) in
    le-ltb (2 ^ 40) (length (script_of seed scans points)) (omega (arith, short, most))

pub drill_ends : (seed scans points : ℕ) → IsDrill seed scans points
    → (drill seed scans points).status ≡ (drill_session seed scans points).status
unfolding drilled
drill_ends seed scans points is =
    ap status_at_end (sym (session_known drill_setup (Some no_files)
    (lines_of drill_setup (script_of seed scans points))))
    ∙ sym (ap (λ (a : Outcome). a.status) (session_whole drill_setup (Some no_files)
    (script_of seed scans points) (drill_fits seed scans points is)))

-- a number that is kept as it is
low_of : (n : ℕ) → min n (2 ^ 64 - 1) ≡ n → n < 2 ^ 64
low_of n same = grind (arith, same)

pub drill_below : (seed scans points : ℕ) → IsDrill seed scans points
    → IsBelow (2 ^ 64) (drilled seed scans points).tally
drill_below seed scans points is =
    let t : Tally = (drilled seed scans points).tally in
    let same : capped t ≡ t = drill_low seed scans points is.low is.few_scans is.few_points in
    record {
      refused = low_of t.refused (ap (λ (x : Tally). x.refused) same);
      hits = low_of t.hits (ap (λ (x : Tally). x.hits) same);
      frees = low_of t.frees (ap (λ (x : Tally). x.frees) same);
    }
