use Rattle.std.proofs.Common.{rules, ◌≡◌, List, ℕ, Result, Ok, Err, length, ◌+◌, ◌<◌, ◌^◌, false}
use Rattle.std.proofs.Common.{subst, sym, ap, ◌∙◌, arith}
use mir.Val.{bool_byte}
use Rattle.std.specs.Prelude.{is_some}
use Rattle.oct_bt.specs.declared.fault.BtFault.{BtFault}
use Rattle.oct_bt.specs.declared.fault.BtFault.TheVariants.{Truncated, SizeMismatch}
use Rattle.oct_bt.specs.NodeData.{Reading, Reads, after_bytes, read_nodes, IsAccepted}
use Rattle.oct_bt.specs.Path.{pending_at}
use Rattle.oct_bt.specs.Canonical.{node_total}
use Rattle.oct_bt.proofs.Steps.{not_stopping}
use Rattle.oct_bt.proofs.Endings.{whole_small}
use Rattle.oct_bt.proofs.Endings.{ends_stopped, ends_short, ends_equal, ends_unequal}
use Rattle.oct_bt.proofs.Endings.{reached_accepted}
use Rattle.oct_bt.proofs.node_reader.NodeReader.finish.Goals as goal

pub returns-in-Some-clause-answer : goal.returns-in-Some-clause-answer
returns-in-Some-clause-answer c = λ bytes h.
    subst (λ (r : Reading). ◌≡◌ {A = Result (List ℕ) BtFault} (Err c.in-Some.fault)
    (read_nodes r.start r.size bytes)) c.self.view_is
    (ends_stopped c.self.inside.start c.self.inside.size bytes c.self.inside.stop c.in-Some.fault
    (Reads (pending_at 0 c.self.inside.path.items) c.self.inside.half c.self.inside.records)
    c.in-Some.is
    (subst (λ (r : Reading). r.progress ≡ after_bytes r.start r.size bytes) (sym c.self.view_is) h))

pub returns-then-not-is_empty-clause-answer : goal.returns-then-not-is_empty-clause-answer
returns-then-not-is_empty-clause-answer c =
    let going_on : is_some c.self.inside.stop ≡ false =
    not_stopping c.self.inside.stop c.in_default.not-Some in
    let some : 0 < length c.self.inside.path.items = search rules in
    λ bytes h.
    subst (λ (r : Reading). ◌≡◌ {A = Result (List ℕ) BtFault}
    (Err (Truncated (c.self.inside.start + c.len.result + c.from.result)))
    (read_nodes r.start r.size bytes)) c.self.view_is
    (ap (λ (n : ℕ). Err (Truncated (c.self.inside.start + n + c.from.result)))
    c.len.ensures.exact
    ∙ ends_short c.self.inside.start c.self.inside.size bytes c.self.inside.path.items
    c.self.inside.records c.self.inside.stop c.self.inside.half c.from.result
    going_on some c.self.invariant.0
    (subst (λ (r : Reading). r.progress ≡ after_bytes r.start r.size bytes)
    (sym c.self.view_is) h) (c.from.ensures ∙ ap bool_byte c.is_some.ensures))

pub overflow_cast-found : goal.overflow_cast-found
overflow_cast-found c =
    let (topped, low, reached) = c.self.invariant in
    let small : node_total c.self.inside.records < 2 ^ 64 =
    whole_small c.self.inside.start c.self.inside.size c.self.inside.path.items c.self.inside.stop
    c.self.inside.half c.self.inside.records
    (not_stopping c.self.inside.stop c.in_default.not-Some) (search rules) reached in
    let counted : c.nodes_in-found.result ≡ node_total c.self.inside.records =
    c.nodes_in-found.ensures ∙ ap node_total c.as_slice.ensures in
    let fits : c.nodes_in-found.result < 2 ^ 64 = omega (arith, small, counted) in
    search rules

pub returns-then-found-self-clause-answer : goal.returns-then-found-self-clause-answer
returns-then-found-self-clause-answer c =
    let going_on : is_some c.self.inside.stop ≡ false =
    not_stopping c.self.inside.stop c.in_default.not-Some in
    let none : length c.self.inside.path.items ≡ 0 = search rules in
    let counted : c.nodes_in-found.result ≡ node_total c.self.inside.records =
    c.nodes_in-found.ensures ∙ ap node_total c.as_slice.ensures in
    λ bytes h.
    subst (λ (r : Reading). ◌≡◌ {A = Result (List ℕ) BtFault}
    (Err (SizeMismatch c.self.inside.size c.nodes_in-found.result))
    (read_nodes r.start r.size bytes)) c.self.view_is
    (ap (λ (n : ℕ). Err (SizeMismatch c.self.inside.size n)) counted
    ∙ ends_unequal c.self.inside.start c.self.inside.size bytes c.self.inside.path.items
    c.self.inside.records c.self.inside.stop c.self.inside.half
    going_on none (subst (λ (r : Reading). r.progress ≡ after_bytes r.start r.size bytes)
    (sym c.self.view_is) h) (λ same. c.if-found-self.true (counted ∙ same)))

pub returns-clause-answer : goal.returns-clause-answer
returns-clause-answer c =
    let going_on : is_some c.self.inside.stop ≡ false =
    not_stopping c.self.inside.stop c.in_default.not-Some in
    let none : length c.self.inside.path.items ≡ 0 = search rules in
    let counted : c.nodes_in-found.result ≡ node_total c.self.inside.records =
    c.nodes_in-found.ensures ∙ ap node_total c.as_slice.ensures in
    λ bytes h.
    subst (λ (r : Reading). ◌≡◌ {A = Result (List ℕ) BtFault} (Ok c.self.inside.records)
    (read_nodes r.start r.size bytes)) c.self.view_is
    (ends_equal c.self.inside.start c.self.inside.size bytes c.self.inside.path.items
    c.self.inside.records c.self.inside.stop c.self.inside.half
    going_on none (subst (λ (r : Reading). r.progress ≡ after_bytes r.start r.size bytes)
    (sym c.self.view_is) h) (sym counted ∙ c.if-found-self.false))

pub returns-clause-accepted : goal.returns-clause-accepted
returns-clause-accepted c =
    let going_on : is_some c.self.inside.stop ≡ false =
    not_stopping c.self.inside.stop c.in_default.not-Some in
    let none : length c.self.inside.path.items ≡ 0 = search rules in
    let (topped, low, reached) = c.self.invariant in
    let counted : c.nodes_in-found.result ≡ node_total c.self.inside.records =
    c.nodes_in-found.ensures ∙ ap node_total c.as_slice.ensures in
    subst (λ (r : Reading). IsAccepted r.size c.self.inside.records) c.self.view_is
    (reached_accepted c.self.inside.start c.self.inside.size c.self.inside.records _ reached
    (λ bytes at. ends_equal c.self.inside.start c.self.inside.size bytes c.self.inside.path.items
    c.self.inside.records c.self.inside.stop c.self.inside.half
    going_on none at (sym counted ∙ c.if-found-self.false)))
