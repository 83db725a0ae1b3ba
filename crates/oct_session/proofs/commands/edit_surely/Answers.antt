use Rattle.std.proofs.Common.{Ok, ap, ◌∙◌}
use Rattle.oct_tree.specs.Tree.{Tree}
use Rattle.oct_session.specs.History.{edit_event}
use Rattle.oct_session.proofs.Replying.{edit_carried}
use Rattle.oct_session.proofs.commands.edit_surely.Goals as goal

pub returns-clause-done : goal.returns-clause-done
returns-clause-done c =
    edit_carried (Ok tt) c.args.map.now c.edit.new.self c.args.edit.p c.args.edit.e
    c.args.edit.lazy c.event_of-event.result _
    (c.event_of-event.ensures.exact
    ∙ ap (λ odds. edit_event odds c.args.edit.e)
    (c.odds.ensures ∙ ap (λ (t : Tree). t.odds) c.tree.ensures.exact))
    c.in-Ok.ensures.answer c.in-Ok.ensures.edited c.in-Ok.ensures.refused
    (record { ground = c.edit.ensures.setup; mark = c.edit.ensures.mark })
