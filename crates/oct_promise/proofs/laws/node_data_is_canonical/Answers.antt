use Rattle.oct_bt.proofs.Injective.{data_tells_classes}
use Rattle.oct_bt.proofs.Standing.{least_of_all}
use Rattle.oct_promise.proofs.SameFiles.{codes_saved}
use Rattle.oct_promise.proofs.laws.node_data_is_canonical.Goals as goal

pub returns-clause-saved : goal.returns-clause-saved
returns-clause-saved c = codes_saved _ c.keep.ensures.set_up

pub returns-clause-equal : goal.returns-clause-equal
returns-clause-equal c = data_tells_classes

pub returns-clause-least : goal.returns-clause-least
returns-clause-least c = λ a bytes is. (least_of_all a bytes is).0

pub returns-clause-only : goal.returns-clause-only
returns-clause-only c = λ a bytes is. (least_of_all a bytes is).1
