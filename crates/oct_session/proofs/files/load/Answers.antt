use Rattle.std.proofs.Common.{refl}
use Rattle.oct_session.specs.FileCommands.{load_reply, load_action}
use Rattle.oct_session.proofs.Loading.{load_some, read_done, read_failed, read_ran_out}
use Rattle.oct_session.proofs.files.load.Goals as goal

pub returns-in_err-loaded : goal.returns-in_err-loaded
returns-in_err-loaded g c =
    read_failed g.F.Store load_reply (λ g found. load_action found) c.args.context.now _ _ _
    c.args.name.now _ load_some refl c.from_residual.ensures.1 c.load.ensures.same
    c.load.ensures.called c.in_err-loaded.ensures.counts

pub returns-in_err-take_in : goal.returns-in_err-take_in
returns-in_err-take_in g c =
    read_ran_out g.F.Store load_reply (λ g found. load_action found) c.args.context.now _ _ _ _
    c.args.name.now _ c.in_ok-loaded.loaded load_some refl refl
    c.from_residual-in_err-take_in.ensures.1 c.load.ensures.same c.load.ensures.called
    c.in_ok-loaded.ensures.counts c.in_err-take_in.ensures.done

pub returns : goal.returns
returns g c =
    read_done g.F.Store load_reply (λ g found. load_action found) c.args.context.now _ _ _
    c.as_str.result.now c.args.name.now c.in_ok-loaded.loaded refl refl c.as_str.ensures
    c.in_ok-loaded.ensures.found c.load.ensures.same c.load.ensures.called
    c.in_ok-loaded.ensures.counts c.in_ok-take_in.ensures.done
