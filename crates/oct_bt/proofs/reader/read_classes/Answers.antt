use Rattle.std.proofs.Common.{[], sym, ◌∙◌}
use Rattle.oct_bt.proofs.Keeping.{kept_of_file}
use Rattle.oct_bt.proofs.NoWant.{reading_wants_nothing}
use Rattle.oct_bt.proofs.reader.read_classes.Goals as goal

pub returns-in_err-feed-clause-memory : goal.returns-in_err-feed-clause-memory
returns-in_err-feed-clause-memory c = λ is.
    kept_of_file _ c.args.bytes.now c.in_err-feed.ensures.memory c.new-reader.ensures

pub returns-clause-memory : goal.returns-clause-memory
returns-clause-memory c = λ is.
    let whole = c.in_ok-feed.ensures.reads [] c.new-reader.ensures in
    absurd
    (reading_wants_nothing c.args.bytes.now
    (sym is ∙ c.finish.ensures.answer c.args.bytes.now whole))
