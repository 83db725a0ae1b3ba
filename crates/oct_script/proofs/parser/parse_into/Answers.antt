use Rattle.std.proofs.Common.{◌+◌, length, ap, ◌∙◌}
use Rattle.oct_script.specs.Commands.{command_in, command_of}
use Rattle.oct_script.proofs.Leaving.{same_read, means_read, leaves_read}
use Rattle.oct_script.proofs.Parsing.{line_is}
use Rattle.oct_script.proofs.parser.parse_into.Goals as goal

pub returns-clause-exact : goal.returns-clause-exact
unfolding command_of
returns-clause-exact c =
    same_read c.read_words.result c.read_words.new.command _ _
    (line_is c.args.inside c.new.result.end c.new.result.words
    ∙ ap (λ end. command_in c.args.inside end c.new.result.words) c.new.ensures.end
    ∙ ap (λ words. command_in c.args.inside (length c.args.line.now + 1) words)
    c.new.ensures.words)
    c.read_words.ensures.exact

pub returns-clause-means : goal.returns-clause-means
unfolding command_of
returns-clause-means c = means_read _ _ _ _ _ (returns-clause-exact c)

pub returns-clause-leaves : goal.returns-clause-leaves
unfolding command_of
returns-clause-leaves c = leaves_read _ _ _ _ _ (returns-clause-exact c)
