use Rattle.std.proofs.Common.{◌-◌, take, ap, ◌∙◌}
use Rattle.oct_script.proofs.WordsAt.{first_at}
use Rattle.oct_script.proofs.words.first_word.Goals as goal

pub returns : goal.returns
returns c =
    first_at _ _ _ _ c.skip_blanks-start.ensures.end c.skip_blanks-start.ensures.within
    c.skip_word.ensures.end c.skip_word.ensures.within
    (c.split_at-2.ensures.front
    ∙ ap (take (c.skip_word.result - c.skip_blanks-start.result)) c.split_at.ensures.back)
