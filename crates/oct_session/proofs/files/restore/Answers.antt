use Rattle.std.proofs.Common.{refl}
use Rattle.oct_session.specs.FileCommands.{restore_reply, restore_action}
use Rattle.oct_session.proofs.Loading.{read_done, read_failed, read_ran_out}
use Rattle.oct_session.proofs.Restoring.{restore_some}
use Rattle.oct_session.proofs.files.restore.Goals as goal

pub returns-in_err-loaded : goal.returns-in_err-loaded
returns-in_err-loaded g c =
    read_failed g.F.Store restore_reply restore_action c.args.context.now _ _ _
    c.args.name.now _ restore_some refl c.from_residual.ensures.1 c.load.ensures.same
    c.load.ensures.called c.in_err-loaded.ensures.counts

pub returns-in_err-take_back : goal.returns-in_err-take_back
returns-in_err-take_back g c =
    read_ran_out g.F.Store restore_reply restore_action c.args.context.now _ _ _ _
    c.args.name.now _ c.in_ok-loaded.loaded restore_some refl refl
    c.from_residual-in_err-take_back.ensures.1 c.load.ensures.same c.load.ensures.called
    c.in_ok-loaded.ensures.counts c.in_err-take_back.ensures.done

pub returns : goal.returns
returns g c =
    read_done g.F.Store restore_reply restore_action c.args.context.now _ _ _
    c.as_str.result.now c.args.name.now c.in_ok-loaded.loaded refl refl c.as_str.ensures
    c.in_ok-loaded.ensures.found c.load.ensures.same c.load.ensures.called
    c.in_ok-loaded.ensures.counts c.in_ok-take_back.ensures.done
