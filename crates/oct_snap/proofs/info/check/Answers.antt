use Rattle.std.proofs.Common.{◌≤◌, arith, length}
use Rattle.std.proofs.lemmas.Result.{err_from_is_err_and}
use Rattle.oct_odds.specs.Odds.{odds_of}
use Rattle.oct_snap.proofs.Whole.{checked_fields, checked_fault, checked_trailing, checked_whole}
use Rattle.oct_snap.proofs.info.check.Goals as goal

pub returns-in_err-fields : goal.returns-in_err-fields
returns-in_err-fields c =
    let p = err_from_is_err_and c.from_residual.result c.from_residual.ensures.1 in
    rw (p.1, p.2) (checked_fields (odds_of c.args.odds) c.args.bytes.now _ c.in_err-fields.ensures)

pub returns-in_err-node : goal.returns-in_err-node
returns-in_err-node c =
    let p = err_from_is_err_and c.from_residual-in_err-node.result
    c.from_residual-in_err-node.ensures.1 in
    rw (p.1, p.2)
    (checked_fault (odds_of c.args.odds) c.args.bytes.now c.in_ok-fields.fields _
    c.in_ok-fields.ensures c.in_err-node.ensures)

pub returns-then-node-bytes : goal.returns-then-node-bytes
returns-then-node-bytes c =
    checked_trailing (odds_of c.args.odds) c.args.bytes.now c.in_ok-fields.fields c.in_ok-node.node
    c.in_ok-fields.ensures c.in_ok-node.ensures c.if-node-bytes.true

pub returns : goal.returns
returns c =
    let all : length c.args.bytes.now ≤ c.in_ok-node.node.next =
    (let end = c.if-node-bytes.false in omega (arith, end)) in
    checked_whole (odds_of c.args.odds) c.args.bytes.now c.in_ok-fields.fields c.in_ok-node.node
    c.in_ok-fields.ensures c.in_ok-node.ensures all
