use Rattle.std.proofs.Common.{◌∙◌, sym, ap, refl}
use Rattle.oct_script.specs.Grammar.{length_of}
use Rattle.oct_script.specs.Reading.{Unread, number_in}
use Rattle.oct_num.proofs.Fronts.{kept}
use Rattle.oct_script.proofs.WordsAt.{length_at}
use Rattle.oct_script.proofs.words.Words.take_length.Goals as goal

pub returns-then-skip_word-end-clause-exact : goal.returns-then-skip_word-end-clause-exact
returns-then-skip_word-end-clause-exact c =
    ap (λ (u : Unread). number_in length_of u.end u.words) (sym c.self.view_is)
    ∙ length_at _ _ _ _ _ _ _ _ c.skip_blanks-start.ensures.end c.skip_blanks-start.ensures.within
    c.in-Some.ensures.begins c.in-Some.ensures.within c.skip_word.ensures.end
    c.if-skip_word-end.true (kept _ _ refl c.in-Some.ensures.reach)
