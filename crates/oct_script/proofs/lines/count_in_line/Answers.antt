use Rattle.std.proofs.Common.{◌∙◌, arith}
use Rattle.oct_script.proofs.LineFeeds.{line_feed_at, line_feed_within}
use Rattle.oct_script.proofs.lines.count_in_line.Goals as goal

pub returns-clause-count : goal.returns-clause-count
returns-clause-count c = c.unwrap_or.ensures ∙ line_feed_at _ _ c.memchr.ensures

pub returns-clause-within : goal.returns-clause-within
returns-clause-within c = omega (arith, c.unwrap_or.ensures, line_feed_within _ _ c.memchr.ensures)
