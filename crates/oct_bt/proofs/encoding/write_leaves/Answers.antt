use Rattle.std.proofs.Common.{sym, subst}
use Rattle.std.proofs.lemmas.Result.{on_err_weaker}
use Rattle.oct_odds.specs.declared.event.Class.{Class}
use Rattle.oct_io.specs.Taken.{IsTaken, IsRefused}
use Rattle.oct_io.proofs.Gathering.{taken_none}
use Rattle.oct_bt.specs.Mixtures.{leaves_text}
use Rattle.oct_bt.proofs.encoding.write_leaves.Goals as goal

pub returns-in-Unknown-clause-written : goal.returns-in-Unknown-clause-written
returns-in-Unknown-clause-written g c =
    subst (λ (x : Class). IsTaken (leaves_text x)
    (g.K.Sink.written c.args.sink.now) c.args.gather.now (g.K.Sink.written c.args.sink.now)
    c.args.gather.now)
    (sym c.in-Unknown.is) (taken_none (g.K.Sink.written c.args.sink.now) c.args.gather.now)

pub returns-in-Free-clause-cut : goal.returns-in-Free-clause-cut
returns-in-Free-clause-cut g c = on_err_weaker c.write_record.result
    (λ is. subst (λ (x : Class). IsRefused (leaves_text x)
    (g.K.Sink.written c.args.sink.now) c.args.gather.now
    (g.K.Sink.written c.write_record.new.sink)) (sym c.in-Free.is) is)
    c.write_record.ensures.cut

pub returns-in-Occupied-clause-cut : goal.returns-in-Occupied-clause-cut
returns-in-Occupied-clause-cut g c = on_err_weaker c.write_record-in-Occupied.result
    (λ is. subst (λ (x : Class). IsRefused (leaves_text x)
    (g.K.Sink.written c.args.sink.now) c.args.gather.now
    (g.K.Sink.written c.write_record-in-Occupied.new.sink)) (sym c.in-Occupied.is) is)
    c.write_record-in-Occupied.ensures.cut
