use Rattle.std.proofs.Common.{refl, ◌∙◌}
use Rattle.oct_file_tasks.proofs.Inputs.{read_short, too_long, piece_read, stopped_at_end}
use Rattle.oct_file_tasks.proofs.Inputs.{stopped_in_piece}
use Rattle.oct_file_tasks.proofs.EndCounts.{end_counts}
use Rattle.oct_file_tasks.proofs.input.read_file.Goals as goal

pub returns-in_err-finish-clause-answer : goal.returns-in_err-finish-clause-answer
returns-in_err-finish-clause-answer g c =
    stopped_at_end _ _ c.reading.taken _ _ _ _ _ _ c.from_residual-in_err-finish.ensures.1
    c.reading.invariant.few
    (record {
      zero = c.if-count-eq0.true;
      moved = c.in_ok-count.ensures.moved;
      none = c.in_ok-count.ensures.end c.if-count-eq0.true;
    })
    c.reading.invariant.fed c.in_err-finish.ensures.answer

pub returns-in_err-finish-clause-counts : goal.returns-in_err-finish-clause-counts
returns-in_err-finish-clause-counts g c =
    end_counts _ _ _ c.reading.invariant.fed.bytes _ _ _ _ c.from_residual-in_err-finish.ensures.1
    (c.in_err-finish.ensures.answer _ c.reading.invariant.fed.stands)
    (c.in_ok-count.ensures.counts.stays ∙ c.reading.invariant.read)
    (rw (← c.reading.invariant.ends) c.in_ok-count.ensures.ends.few)

pub returns-then-count-eq0-clause-few : goal.returns-then-count-eq0-clause-few
returns-then-count-eq0-clause-few g c =
    read_short _ c.reading.taken _ _ _ _ c.reading.invariant.few c.reading.invariant.fed
    c.in_ok-finish.ensures.answer

pub returns-then-count-room-clause-answer : goal.returns-then-count-room-clause-answer
returns-then-count-room-clause-answer g c =
    too_long _ c.reading.taken _ _ _ _ _ _ c.reading.invariant.few c.if-count-room.true
    c.in_ok-count.ensures.few
    (piece_read _ c.read_piece.new.buffer c.reading.buffer _ _ _ refl c.in_ok-count.ensures.within
    c.in_ok-count.ensures.len
    c.in_ok-count.ensures.moved c.in_ok-count.ensures.bytes) c.reading.invariant.fed

pub returns-in_err-feed-clause-answer : goal.returns-in_err-feed-clause-answer
returns-in_err-feed-clause-answer g c =
    stopped_in_piece _ _ c.reading.taken _ _ _ _ _ _ c.from_residual-in_err-feed.ensures.1
    c.reading.invariant.few c.if-count-room.false
    (piece_read _ c.read_piece.new.buffer c.reading.buffer _ _ _ c.split_at.ensures.front
    c.in_ok-count.ensures.within c.in_ok-count.ensures.len
    c.in_ok-count.ensures.moved c.in_ok-count.ensures.bytes) c.reading.invariant.fed
