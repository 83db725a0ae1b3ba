-- What the replies of a session come to.
use Rattle.std.specs.Prelude.{◌+◌, ◌-◌, ◌^◌, min, Option, Some}
use Rattle.oct_script.specs.declared.reply.Reply.{Reply}
use Rattle.oct_script.specs.declared.reply.Reply.TheVariants.{Scanned, Refused}
use Rattle.oct_session.specs.declared.tally.Tally.{Tally}

-- before the first reply
abbrev pub no_replies : Tally
no_replies = record { refused = 0; hits = 0; frees = 0 }

-- with one reply more, if there is one: refusals are counted, and the hits and frees of the scans
-- that were done are summed up
abbrev pub counted : Tally → Option Reply → Tally
counted t (Some (Refused refusal)) =
    record { refused = t.refused + 1; hits = t.hits; frees = t.frees }
counted t (Some (Scanned done)) = record {
  refused = t.refused;
  hits = t.hits + done.hits;
  frees = t.frees + done.frees;
}
counted t _ = t

-- working word: the numbers as a session keeps them, each at most 2^64 - 1
abbrev pub capped : Tally → Tally
capped t = record {
  refused = min t.refused (2 ^ 64 - 1);
  hits = min t.hits (2 ^ 64 - 1);
  frees = min t.frees (2 ^ 64 - 1);
}
