use Rattle.std.proofs.Common.{rules}
use Rattle.oct_ray.proofs.Rests.{later_room}
use Rattle.oct_ray.proofs.axis.Axis.after.Goals as goal

pub returns-clause-left : goal.returns-clause-left
returns-clause-left c = search rules

pub returns-clause-room : goal.returns-clause-room
returns-clause-room c =
    later_room c.args.part c.args.self.now _ (returns-clause-left c) c.requires.room
