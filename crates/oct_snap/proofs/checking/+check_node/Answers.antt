use Rattle.std.proofs.Common.{rules, ◌≡◌, ◌∙◌, ◌+◌, ◌-◌, true, false, sym, arith}
use Rattle.std.specs.Prelude.{Ok, Err}
use Rattle.std.proofs.lemmas.Bool.{false≢true}
use Rattle.std.proofs.lemmas.Result.{err_from_is_err_and}
use Rattle.oct_odds.specs.Odds.{odds_of}
use Rattle.oct_snap.specs.declared.common.Common.TheVariants.{Several}
use Rattle.oct_snap.specs.declared.fault.SnapFault.TheVariants.{BadSnapshot}
use Rattle.oct_snap.proofs.Checks.{node_as_leaf, node_of_eight, row_first, row_next, first_stops}
use Rattle.oct_snap.proofs.Checks.{row_stops, eight_alike, eight_varied}
use Rattle.oct_snap.proofs.checking.+check_node.Goals as goal

pub returns-then-not-is_parted : goal.returns-then-not-is_parted
returns-then-not-is_parted t c =
    let not_it : c.is_parted.result ≡ false = search rules in
    node_as_leaf (odds_of c.args.odds.now) c.args.bytes.now c.args.at c.args.depth
    c.check_leaf.result c.requires.inside
    (λ parted. false≢true (sym not_it ∙ c.is_parted.ensures.1 parted)) c.check_leaf.ensures

pub returns-in_err-first : goal.returns-in_err-first
returns-in_err-first t c =
    let it : c.is_parted.result ≡ true = search rules in
    let p = err_from_is_err_and c.from_residual.result c.from_residual.ensures.1 in
    rw (p.1, p.2)
    (node_of_eight (odds_of c.args.odds.now) c.args.bytes.now c.args.at c.args.depth _
    (c.is_parted.ensures.0 it)
    (first_stops (odds_of c.args.odds.now)
    (16 - (c.args.depth + 1)) c.args.bytes.now c.args.at _ c.in_err-first.ensures))

pub loop-init : goal.loop-init
loop-init t c = row_first (odds_of c.args.odds.now)
    (16 - (c.args.depth + 1)) c.args.bytes.now c.args.at c.in_ok-first.first c.in_ok-first.ensures

pub returns-in_err-child : goal.returns-in_err-child
returns-in_err-child t c =
    let it : c.is_parted.result ≡ true = search rules in
    let p = err_from_is_err_and c.from_residual-in_err-child.result
    c.from_residual-in_err-child.ensures.1 in
    rw (p.1, p.2)
    (node_of_eight (odds_of c.args.odds.now) c.args.bytes.now c.args.at c.args.depth _
    (c.is_parted.ensures.0 it)
    (row_stops (odds_of c.args.odds.now)
    (16 - (c.args.depth + 1)) c.args.bytes.now c.args.at c.loop.counter c.loop.read _
    (omega arith) c.loop.invariant c.in_err-child.ensures))

pub loop-preserved : goal.loop-preserved
loop-preserved t c =
    row_next (odds_of c.args.odds.now)
    (16 - (c.args.depth + 1)) c.args.bytes.now c.args.at c.loop.counter c.loop.read
    c.in_ok-child.child c.both.result (omega arith)
    c.loop.invariant c.in_ok-child.ensures c.both.ensures.same c.both.ensures.other

pub returns-in-Value : goal.returns-in-Value
returns-in-Value t c =
    let it : c.is_parted.result ≡ true = search rules in
    node_of_eight (odds_of c.args.odds.now) c.args.bytes.now c.args.at c.args.depth
    (Err (BadSnapshot c.args.at)) (c.is_parted.ensures.0 it)
    (eight_alike (odds_of c.args.odds.now)
    (16 - (c.args.depth + 1)) c.args.bytes.now c.args.at c.loop.counter c.loop.read
    c.in-Value.field-0 (omega arith) c.loop.invariant c.in-Value.is)

pub returns : goal.returns
returns t c =
    let it : c.is_parted.result ≡ true = search rules in
    node_of_eight (odds_of c.args.odds.now) c.args.bytes.now c.args.at c.args.depth
    (Ok (record { next = c.loop.read.next; groups = 1 + c.loop.read.groups; common = Several }))
    (c.is_parted.ensures.0 it)
    (eight_varied (odds_of c.args.odds.now)
    (16 - (c.args.depth + 1)) c.args.bytes.now c.args.at c.loop.counter c.loop.read
    (omega arith) c.loop.invariant c.in_default.not-Value)
