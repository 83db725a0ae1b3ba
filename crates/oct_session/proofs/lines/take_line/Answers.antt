use Rattle.std.proofs.Common.{◌≡◌, ◌∷◌, ◌∙◌, [], Ok, Err, None, Option, Result, ap, refl, sym}
use Rattle.oct_io.specs.declared.store.StoreFault.{StoreFault}
use Rattle.oct_script.specs.declared.reply.Reply.{Reply}
use Rattle.oct_script.specs.declared.verbs.FileVerb.TheVariants as verb
use Rattle.oct_script.specs.Lines.{Line}
use Rattle.oct_session.specs.Commands.{kind_work, order_reply, order_action}
use Rattle.oct_session.specs.Commands.{question_reply, question_action}
use Rattle.oct_session.specs.FileCommands.{classes_file, snapshot_file}
use Rattle.oct_session.specs.Kinds.{Orders, Asks, Names, Kind, kind_seen}
use Rattle.oct_session.specs.Moments.{Works}
use Rattle.oct_session.specs.Parsed.{command_in, read_as}
use Rattle.oct_session.specs.Standing.{with_reply}
use Rattle.oct_session.specs.declared.context.Context.{Context}
use Rattle.oct_session.specs.declared.scan_block.ScanBlock.{ScanBlock}
use Rattle.oct_session.proofs.Effects.{KindEffect, WorksAt, fault_taken, inside_done}
use Rattle.oct_session.proofs.Effects.{line_by_kind, map_answered, map_ran_out, none_open}
use Rattle.oct_session.proofs.Effects.{none_read, stands_inside, unasked, verb_used}
use Rattle.oct_session.proofs.Effects.{well_counted, works_as_read}
use Rattle.oct_session.proofs.Loading.{classes_made}
use Rattle.oct_session.proofs.Restoring.{values_made}
use Rattle.oct_session.proofs.lines.take_line.Given.{Over}
use Rattle.oct_session.proofs.lines.take_line.Goals.{After-kind_of}
use Rattle.oct_session.proofs.lines.take_line.Goals as goal

-- no block is open
closed : (g : Over) (c : After-kind_of g) → c.args.block.now ≡ None
closed g c = none_open c.args.block.now (sym c.is_some.ensures ∙ c.if-is_some.false)

-- what does the command of the line does what was read of it
as_read : (g : Over) (c : After-kind_of g) {T : Type 0} (line : Line) (k : Kind)
    (e : Context g.row.K.Denot g.row.F.Denot) (r : Result T StoreFault) (a : Option Reply)
    (new : Option ScanBlock) → kind_seen c.kind_of.result ≡ k
    → Works g.F.Store (KindEffect c.args.parsed.now.number k) (kind_work k) None new
    c.args.context.now e r a
    → WorksAt g.F.Store c.args.parsed.now.number line (command_in c.args.parsed.now)
    c.args.block.now new c.args.context.now e r a
as_read g c line k e r a new is took =
    line_by_kind g.F.Store c.args.context.now e r a c.args.parsed.now line k c.args.block.now new
    (none_read c.args.parsed.now.refusal c.in_default.not-Some)
    (sym c.is_some.ensures ∙ c.if-is_some.false) (sym is ∙ c.kind_of.ensures.exact) took

pub returns-in-Some : goal.returns-in-Some
returns-in-Some g c = λ line opens.
    works_as_read g.F.Store c.args.context.now c.args.context.now (Ok tt) c.take_fault.new.reply
    c.args.parsed.now.number line _ (Err c.in-Some.refusal) c.args.block.now c.take_fault.new.block
    (ap (read_as c.args.parsed.now.command) c.in-Some.is)
    (record {
      took = fault_taken c.args.context.now.map.now _ c.args.parsed.now.number line
          c.args.parsed.now.opens c.in-Some.refusal c.args.block.now c.take_fault.new.block
          c.take_fault.new.reply (opens c.in-Some.refusal c.in-Some.is)
          (c.take_fault.ensures.block c.args.parsed.now.number) c.take_fault.ensures.reply;
      stands = λ o some. some;
      asks = unasked _ _ _;
      counts = well_counted _ _;
      map_name = refl;
      store_name = refl;
      sink_name = refl;
      sink = refl;
    })

pub returns-then-is_some : goal.returns-then-is_some
returns-then-is_some g c = λ line opens.
    works_as_read g.F.Store c.args.context.now _ (Ok tt) c.inside.new.reply c.args.parsed.now.number
    line _ (Ok c.args.parsed.now.command) c.args.block.now c.inside.new.block
    (ap (read_as c.args.parsed.now.command)
    (none_read c.args.parsed.now.refusal c.in_default.not-Some))
    (record {
      took = inside_done c.args.context.now.map.now c.inside.new.map _ c.args.parsed.now.number line
          (Ok c.args.parsed.now.command) c.args.block.now c.inside.new.block c.inside.new.reply
          (sym c.is_some.ensures ∙ c.if-is_some.true) c.in_ok-inside.ensures;
      stands = stands_inside (with_reply c.inside.result c.inside.new.reply)
          c.args.context.now.map.now
          c.inside.new.map c.args.parsed.now.number (Ok c.args.parsed.now.command) c.args.block.now
          c.inside.new.block (sym c.is_some.ensures ∙ c.if-is_some.true) c.inside.ensures;
      asks = unasked _ _ _;
      counts = well_counted _ _;
      map_name = refl;
      store_name = refl;
      sink_name = refl;
      sink = refl;
    })

pub returns-in_err-execute-in-Orders : goal.returns-in_err-execute-in-Orders
returns-in_err-execute-in-Orders g c = λ line opens.
    as_read g (goal.at.returns-in_err-execute-in-Orders g c).After-kind_of line
    (Orders c.in-Orders.order) _ _ _ _ (ap kind_seen c.in-Orders.is)
    (map_ran_out g.F.Store c.args.context.now _ c.args.block.now _ _
    (λ s. order_reply s c.in-Orders.order) (λ s. order_action c.in-Orders.order ∷ []) refl
    c.from_residual-in_err-execute-in-Orders.ensures.1 c.in_err-execute-in-Orders.ensures.obeyed)

pub returns-in_ok-execute-in-Orders : goal.returns-in_ok-execute-in-Orders
returns-in_ok-execute-in-Orders g c = λ line opens.
    let at = (goal.at.returns-in_ok-execute-in-Orders g c).After-kind_of in
    as_read g at line (Orders c.in-Orders.order) _ _ _ _ (ap kind_seen c.in-Orders.is)
    (map_answered g.F.Store c.args.context.now _ c.args.block.now _
    (λ s. order_reply s c.in-Orders.order) (λ s. order_action c.in-Orders.order ∷ []) refl
    (closed g at) c.in_ok-execute-in-Orders.ensures.obeyed)

pub returns-in_err-ask-in-Asks : goal.returns-in_err-ask-in-Asks
returns-in_err-ask-in-Asks g c = λ line opens.
    as_read g (goal.at.returns-in_err-ask-in-Asks g c).After-kind_of line
    (Asks c.in-Asks.question) _ _ _ _ (ap kind_seen c.in-Asks.is)
    (map_ran_out g.F.Store c.args.context.now _ c.args.block.now _ _
    (λ s. question_reply s c.in-Asks.question) (λ s. question_action c.in-Asks.question) refl
    c.from_residual-in_err-ask-in-Asks.ensures.1 c.in_err-ask-in-Asks.ensures.told)

pub returns-in_ok-ask-in-Asks : goal.returns-in_ok-ask-in-Asks
returns-in_ok-ask-in-Asks g c = λ line opens.
    let at = (goal.at.returns-in_ok-ask-in-Asks g c).After-kind_of in
    as_read g at line (Asks c.in-Asks.question) _ _ _ _ (ap kind_seen c.in-Asks.is)
    (map_answered g.F.Store c.args.context.now _ c.args.block.now _
    (λ s. question_reply s c.in-Asks.question) (λ s. question_action c.in-Asks.question) refl
    (closed g at) c.in_ok-ask-in-Asks.ensures.told)

pub returns-in-Saves : goal.returns-in-Saves
returns-in-Saves g c = λ line opens.
    let at = (goal.at.returns-in-Saves g c).After-kind_of in
    as_read g at line (Names verb.Save c.in-Saves.name.now) _ _ _ _ (ap kind_seen c.in-Saves.is)
    (verb_used g.F.Store c.args.context.now _ _ _ c.args.parsed.now.number verb.Save
    c.in-Saves.name.now c.args.block.now (closed g at)
    (c.save.ensures.saves classes_file (classes_made c.args.context.now.map.now c.to_bt-file.result
    (λ bytes. bytes.items) c.to_bt-file.ensures.file)))

pub returns-in-Snaps : goal.returns-in-Snaps
returns-in-Snaps g c = λ line opens.
    let at = (goal.at.returns-in-Snaps g c).After-kind_of in
    as_read g at line (Names verb.Snapshot c.in-Snaps.name.now) _ _ _ _
    (ap kind_seen c.in-Snaps.is)
    (verb_used g.F.Store c.args.context.now _ _ _ c.args.parsed.now.number verb.Snapshot
    c.in-Snaps.name.now c.args.block.now (closed g at)
    (c.save-in-Snaps.ensures.saves snapshot_file (values_made c.args.context.now.map.now
    c.to_snapshot-file.result (λ bytes. bytes.items) c.to_snapshot-file.ensures.snapshot)))
