use Rattle.oct_promise.proofs.BlockReplies.{block_replies}
use Rattle.oct_promise.proofs.laws.blocks_have_one_reply.Goals as goal

pub returns : goal.returns
returns c = block_replies
