use Rattle.oct_odds.specs.Odds.{odds_of}
use Rattle.oct_tasks.specs.Words.{bytes_of}
use Rattle.oct_tasks.proofs.Choosing.{chosen_model_read}
use Rattle.oct_tasks.proofs.task.choose_model.Goals as goal

pub returns : goal.returns
returns c =
    chosen_model_read _ _ (bytes_of c.args.words.now) (odds_of c.default-default.result) _ _ _ _ _
    c.default-default.ensures
    (record { exact = c.in_ok-hit.ensures.exact; small = c.in_ok-hit.ensures.small })
    (record { exact = c.in_ok-miss.ensures.exact; small = c.in_ok-miss.ensures.small })
    (record { exact = c.in_ok-min.ensures.exact; small = c.in_ok-min.ensures.small })
    (record { exact = c.in_ok-max.ensures.exact; small = c.in_ok-max.ensures.small })
    (record { exact = c.in_ok-thr.ensures.exact; small = c.in_ok-thr.ensures.small })
    c.new.ensures.ok c.new.ensures.none_bad c.new.ensures.first_bad c.ok.ensures.value
