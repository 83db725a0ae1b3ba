use Rattle.std.proofs.Common.{ap, ◌∙◌}
use Rattle.oct_bt.specs.Reading.{Heading}
use Rattle.oct_bt.proofs.HeadSteps.{file_empty}
use Rattle.oct_bt.proofs.reader.Reader.new.Goals as goal

pub returns : goal.returns
returns c = ap Heading c.new.ensures ∙ file_empty
