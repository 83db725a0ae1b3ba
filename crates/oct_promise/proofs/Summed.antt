-- The numbers of a tally are the sums over the replies.
use Rattle.std.proofs.Common.{◌≡◌, ℕ, ◌+◌, List, [], ◌∷◌, ◌++◌, true, false}
use Rattle.std.proofs.Common.{cond, Option, Some, None, refl, sym, subst, arith}
use Rattle.std.proofs.Common.{append_assoc, append-nil}
use Rattle.std.specs.Prelude.{sum_by}
use Rattle.std.specs.List.{fold}
use Rattle.std.proofs.lemmas.List.Sums.{sum_by_push}
use Rattle.oct_gen.specs.Script.{script_of}
use Rattle.oct_io.specs.Files.{Files, no_files}
use Rattle.oct_script.specs.Lines.{Line}
use Rattle.oct_script.specs.declared.reply.Reply.{Reply}
use Rattle.oct_script.specs.declared.reply.Reply.TheVariants as reply
use Rattle.oct_session.specs.Drill.{drill_setup, drilled}
use Rattle.oct_session.specs.ScanBlock.{end_reply}
use Rattle.oct_session.specs.Session.{Progress, start, effect_of, answered, after_line, progress}
use Rattle.oct_session.specs.Session.{ended, closed, lines_of}
use Rattle.oct_session.specs.Setup.{Setup}
use Rattle.oct_session.specs.Tally.{counted}
use Rattle.oct_session.specs.declared.tally.Tally.{Tally}
use Rattle.oct_promise.specs.Sums.{reply_to, replies_to, reply_at_end, all_replies}
use Rattle.oct_promise.specs.Sums.{drill_replies, hits_in, frees_in, refusals_in, IsSummed}

-- ---- one reply

-- one that adds nothing to a sum
kept : (f : Option Reply → ℕ) (rs : List (Option Reply)) (r : Option Reply) (n : ℕ) → f r ≡ 0
    → n ≡ sum_by f rs → n ≡ sum_by f (rs ++ r ∷ [])
kept f rs r n none is = let push = sum_by_push f rs r in omega (arith, push, none, is)

-- and one that does
added : (f : Option Reply → ℕ) (rs : List (Option Reply)) (r : Option Reply) (n : ℕ)
    → n ≡ sum_by f rs → n + f r ≡ sum_by f (rs ++ r ∷ [])
added f rs r n is = let push = sum_by_push f rs r in omega (arith, push, is)

same_summed : (t : Tally) (rs : List (Option Reply)) (r : Option Reply) → refusals_in r ≡ 0
    → hits_in r ≡ 0 → frees_in r ≡ 0 → IsSummed t rs → IsSummed t (rs ++ r ∷ [])
same_summed t rs r refusals hits frees is = record {
  refused = kept refusals_in rs r t.refused refusals is.refused;
  hits = kept hits_in rs r t.hits hits is.hits;
  frees = kept frees_in rs r t.frees frees is.frees;
}

reply_summed : (t : Tally) (rs : List (Option Reply)) (r : Option Reply) → IsSummed t rs
    → IsSummed (counted t r) (rs ++ r ∷ [])
reply_summed t rs None is = same_summed t rs None refl refl refl is
reply_summed t rs (Some reply.Ok) is = same_summed t rs (Some reply.Ok) refl refl refl is
reply_summed t rs (Some (reply.Known v c)) is =
    same_summed t rs (Some (reply.Known v c)) refl refl refl is
reply_summed t rs (Some reply.Unknown) is = same_summed t rs (Some reply.Unknown) refl refl refl is
reply_summed t rs (Some (reply.Scanned done)) is = record {
  refused = kept refusals_in rs (Some (reply.Scanned done)) t.refused refl is.refused;
  hits = added hits_in rs (Some (reply.Scanned done)) t.hits is.hits;
  frees = added frees_in rs (Some (reply.Scanned done)) t.frees is.frees;
}
reply_summed t rs (Some (reply.Blocks b n)) is =
    same_summed t rs (Some (reply.Blocks b n)) refl refl refl is
reply_summed t rs (Some (reply.Changed c)) is =
    same_summed t rs (Some (reply.Changed c)) refl refl refl is
reply_summed t rs (Some (reply.Counted c)) is =
    same_summed t rs (Some (reply.Counted c)) refl refl refl is
reply_summed t rs (Some (reply.Casted c)) is =
    same_summed t rs (Some (reply.Casted c)) refl refl refl is
reply_summed t rs (Some (reply.Saved n)) is =
    same_summed t rs (Some (reply.Saved n)) refl refl refl is
reply_summed t rs (Some (reply.Loaded n)) is =
    same_summed t rs (Some (reply.Loaded n)) refl refl refl is
reply_summed t rs (Some (reply.Restored n)) is =
    same_summed t rs (Some (reply.Restored n)) refl refl refl is
reply_summed t rs (Some (reply.Refused refusal)) is = record {
  refused = added refusals_in rs (Some (reply.Refused refusal)) t.refused is.refused;
  hits = kept hits_in rs (Some (reply.Refused refusal)) t.hits refl is.hits;
  frees = kept frees_in rs (Some (reply.Refused refusal)) t.frees refl is.frees;
}

-- ---- lines

line_summed : (o : Setup) (p : Progress) (line : Line) (rs : List (Option Reply))
    → IsSummed p.tally rs → IsSummed (after_line o p line).tally (rs ++ reply_to o p line ∷ [])
line_summed o p line rs is =
    elim p.has_quit as (λ v. IsSummed (cond v p (answered o p line)).tally
    (rs ++ (cond {A = Option Reply} v None (effect_of o p line).reply) ∷ [])) [
      | true ↦ reply_summed p.tally rs None is
      | false ↦ reply_summed p.tally rs (effect_of o p line).reply is
    ]

lines_summed : (o : Setup) (p : Progress) (lines : List Line) (rs : List (Option Reply))
    → IsSummed p.tally rs
    → IsSummed (fold (after_line o) p lines).tally (rs ++ replies_to o p lines)
unfolding replies_to
lines_summed o p [] rs is = subst (IsSummed p.tally) (sym (append-nil rs)) is
lines_summed o p (line ∷ lines) rs is =
    let r : Option Reply = reply_to o p line in
    subst (IsSummed (fold (after_line o) (after_line o p line) lines).tally)
    (append_assoc rs (r ∷ []) (replies_to o (after_line o p line) lines))
    (lines_summed o (after_line o p line) lines (rs ++ r ∷ []) (line_summed o p line rs is))

end_summed : (p : Progress) (rs : List (Option Reply)) → IsSummed p.tally rs
    → IsSummed (closed p).tally (rs ++ reply_at_end p ∷ [])
end_summed p rs is =
    elim p.has_quit as (λ v. IsSummed (cond v p (ended p)).tally
    (rs ++ (cond {A = Option Reply} v None (end_reply p.block)) ∷ [])) [
      | true ↦ reply_summed p.tally rs None is
      | false ↦ reply_summed p.tally rs (end_reply p.block) is
    ]

session_summed : (o : Setup) (files : Option Files) (lines : List Line)
    → IsSummed (closed (progress o files lines)).tally (all_replies o files lines)
session_summed o files lines =
    end_summed (progress o files lines) (replies_to o (start files) lines)
    (lines_summed o (start files) lines [] (record { refused = refl; hits = refl; frees = refl }))

-- the law
pub drill_summed : (seed scans points : ℕ)
    → IsSummed (drilled seed scans points).tally (drill_replies seed scans points)
unfolding drilled
drill_summed seed scans points = session_summed drill_setup (Some no_files)
    (lines_of drill_setup (script_of seed scans points))
