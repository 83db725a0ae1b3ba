use Rattle.std.proofs.Common.{◌-◌, take, sym, ap, ◌∙◌}
use Rattle.oct_script.specs.Reading.{Unread}
use Rattle.oct_script.proofs.WordsAt.{none_at, word_at}
use Rattle.oct_script.proofs.words.Words.next_word.Goals as goal

pub returns-then-start-end-clause-words : goal.returns-then-start-end-clause-words
returns-then-start-end-clause-words c =
    ap (λ (u : Unread). u.words) (sym c.self.view_is)
    ∙ sym (none_at _ _ _ _ c.skip_blanks-start.ensures.end c.skip_word-end.ensures.end
    c.if-start-end.true)

pub returns-clause-words : goal.returns-clause-words
returns-clause-words c =
    ap (λ (u : Unread). u.words) (sym c.self.view_is)
    ∙ word_at _ _ _ _ _ c.skip_blanks-start.ensures.end c.skip_blanks-start.ensures.within
    c.skip_word-end.ensures.end c.skip_word-end.ensures.within c.if-start-end.false
    (c.split_at-2.ensures.front
    ∙ ap (take (c.skip_word-end.result - c.skip_blanks-start.result)) c.split_at.ensures.back)
