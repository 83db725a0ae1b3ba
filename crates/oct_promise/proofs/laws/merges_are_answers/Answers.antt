use Rattle.oct_promise.proofs.RegionFiles.{merge_replies}
use Rattle.oct_promise.proofs.laws.merges_are_answers.Goals as goal

pub returns : goal.returns
returns c = merge_replies
