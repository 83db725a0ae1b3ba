use Rattle.std.proofs.Common.{rules, ◌≡◌, ◌++◌, List, ℕ, [], ◌∷◌, sym, subst}
use Rattle.oct_num.proofs.Results.{on_any_err}
use Rattle.oct_io.specs.Taken.{IsCutOff, IsRefused}
use Rattle.oct_io.proofs.Gathering.{gathered_refused}
use Rattle.oct_snap.specs.Nodes.{whole_text}
use Rattle.oct_snap.proofs.writing.write_whole.Goals as goal

pub returns-in_err-push-clause-cut : goal.returns-in_err-push-clause-cut
returns-in_err-push-clause-cut g c = on_any_err c.from_residual.result _
    (let same : whole_text c.args.value ≡ 0 ∷ [] = search rules in
    subst (λ (t : List ℕ). IsRefused t (g.K.Sink.written c.args.sink.now) c.args.gather.now
    (g.K.Sink.written c.push.new.sink)) (sym same)
    c.in_err-push.ensures.refused)

pub returns-in_err-push-2-clause-cut : goal.returns-in_err-push-2-clause-cut
returns-in_err-push-2-clause-cut g c = on_any_err c.from_residual-in_err-push-2.result _
    (λ text start gathered.
    (let cut : IsCutOff (g.K.Sink.written c.args.sink.now) (g.K.Sink.written c.push-2.new.sink)
    (c.args.gather.now ++ whole_text c.args.value) = search rules in
    gathered_refused text (whole_text c.args.value) c.args.gather.now start
    (g.K.Sink.written c.args.sink.now) (g.K.Sink.written c.push-2.new.sink) gathered cut))
