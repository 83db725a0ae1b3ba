use Rattle.std.proofs.Common.{rules, ◌≡◌, ◌++◌, ℕ, [], length, ◌+◌, ◌<◌, ◌∷◌, Some, None, false}
use Rattle.std.proofs.Common.{subst, sym, ap, ◌∙◌, arith, inl, inr}
use Rattle.std.specs.Prelude.{is_some, replicate, Option}
use Rattle.oct_bt.specs.NodeData.{Reading, Reads, Stopped, after_byte, data_kept, progress_by}
use Rattle.oct_bt.specs.NodeData.{records_in}
use Rattle.oct_bt.specs.Path.{pending_at, without_next}
use Rattle.oct_bt.specs.declared.fault.BtFault.TheVariants.{TooDeep, TrailingBytes}
use Rattle.oct_bt.proofs.Steps.{byte_trails, byte_begins, byte_deep, byte_ends, never_some}
use Rattle.oct_bt.proofs.Endings.{reached_next}
use Rattle.oct_num.proofs.Results.{on_any_err}
use Rattle.oct_bt.proofs.Keeping.{record_kept}
use Rattle.oct_bt.proofs.node_reader.NodeReader.take.Goals as goal

pub returns-then-is_empty-clause-taken : goal.returns-then-is_empty-clause-taken
returns-then-is_empty-clause-taken c =
    let going_on : is_some c.self.inside.stop ≡ false = sym c.is_some.ensures ∙ c.if-is_some.false
    in
    let none : length c.self.inside.path.items ≡ 0 = search rules in
    ap (λ (n : ℕ). Stopped (TrailingBytes (c.self.inside.start + n))) c.len.ensures.exact
    ∙ subst (λ (r : Reading). Stopped
    (TrailingBytes (c.self.inside.start + length c.self.inside.records))
    ≡ after_byte r.start r.progress c.args.byte) c.self.view_is
    (byte_trails c.self.inside.start c.self.inside.stop c.self.inside.path.items c.self.inside.half
    c.self.inside.records c.args.byte going_on none)

pub returns-in_default-clause-taken : goal.returns-in_default-clause-taken
returns-in_default-clause-taken c =
    let going_on : is_some c.self.inside.stop ≡ false = sym c.is_some.ensures ∙ c.if-is_some.false
    in
    let some : 0 < length c.self.inside.path.items = search rules in
    let none : c.self.inside.half ≡ None = never_some c.self.inside.half c.in_default.not-Some in
    subst (λ (r : Reading). progress_by c.self.inside.stop
    (Reads (pending_at 0 c.self.inside.path.items)
    (Some c.args.byte) c.self.inside.records)
    ≡ after_byte r.start r.progress c.args.byte) c.self.view_is
    (byte_begins c.self.inside.start c.self.inside.stop c.self.inside.path.items
    c.self.inside.records c.args.byte going_on some c.self.invariant.0
    ∙ ap (λ half. after_byte c.self.inside.start
    (progress_by c.self.inside.stop
    (Reads (pending_at 0 c.self.inside.path.items) half c.self.inside.records))
    c.args.byte) (sym none))

pub returns-then-deeper-gt0-clause-taken : goal.returns-then-deeper-gt0-clause-taken
returns-then-deeper-gt0-clause-taken c =
    let going_on : is_some c.self.inside.stop ≡ false = sym c.is_some.ensures ∙ c.if-is_some.false
    in
    let deep : length c.self.inside.path.items ≡ 16 = sym c.len-2.ensures.value ∙ c.if-len-eq16.true
    in
    let more : 0 < records_in c.in-Some.first c.args.byte =
    subst (λ (n : ℕ). 0 < n) c.records_in-deeper.ensures.count c.if-deeper-gt0.true in
    ap (λ (n : ℕ). Stopped (TooDeep (c.self.inside.start + n)))
    c.len-then-deeper-gt0.ensures.exact
    ∙ subst (λ (r : Reading). Stopped
    (TooDeep (c.self.inside.start + length c.self.inside.records))
    ≡ after_byte r.start r.progress c.args.byte) c.self.view_is
    (byte_deep c.self.inside.start c.self.inside.stop c.self.inside.path.items
    c.self.inside.records c.in-Some.first c.args.byte going_on c.self.invariant.0 deep
    more
    ∙ ap (λ half. after_byte c.self.inside.start
    (progress_by c.self.inside.stop
    (Reads (pending_at 0 c.self.inside.path.items) half c.self.inside.records))
    c.args.byte) (sym c.in-Some.is))

pub returns-clause-taken : goal.returns-clause-taken
returns-clause-taken c =
    let going_on : is_some c.self.inside.stop ≡ false = sym c.is_some.ensures ∙ c.if-is_some.false
    in
    let some : 0 < length c.self.inside.path.items = search rules in
    let high : length c.self.inside.path.items ≡ 16 → records_in c.in-Some.first c.args.byte ≡ 0 =
    λ deep.
    elim c.else-len-eq16.either [
      | inl w ↦ (let count = c.records_in-deeper.ensures.count in let few = w.1 in
          omega arith)
      | inr other ↦ absurd (other (c.len-2.ensures.value ∙ deep))
    ] in
    let counted = c.records_in-deeper.ensures.count in
    let now = c.descend.ensures.pending in
    let kept = c.in_ok-push.ensures.ok in
    subst (λ (r : Reading). progress_by c.self.inside.stop
    (Reads (pending_at 0 c.descend.new.path.items) None c.push.new.self)
    ≡ after_byte r.start r.progress c.args.byte) c.self.view_is
    (ap (progress_by c.self.inside.stop)
    (ap (λ pending. Reads pending None c.push.new.self) now
    ∙ ap (Reads (replicate c.records_in-deeper.result (length c.self.inside.path.items)
    ++ pending_at 0 (without_next c.self.inside.path.items)) None) kept
    ∙ ap (λ (n : ℕ). Reads
    (replicate n (length c.self.inside.path.items)
    ++ pending_at 0 (without_next c.self.inside.path.items)) None
    (c.self.inside.records ++ c.in-Some.first ∷ c.args.byte ∷ [])) counted)
    ∙ byte_ends c.self.inside.start c.self.inside.stop c.self.inside.path.items
    c.self.inside.records c.in-Some.first c.args.byte going_on some c.self.invariant.0
    high
    ∙ ap (λ half. after_byte c.self.inside.start
    (progress_by c.self.inside.stop
    (Reads (pending_at 0 c.self.inside.path.items) half c.self.inside.records))
    c.args.byte) (sym c.in-Some.is))

pub returns-in_err-push-clause-memory : goal.returns-in_err-push-clause-memory
returns-in_err-push-clause-memory c =
    let going_on : is_some c.self.inside.stop ≡ false = sym c.is_some.ensures ∙ c.if-is_some.false
    in
    let some : 0 < length c.self.inside.path.items = search rules in
    let high : length c.self.inside.path.items ≡ 16 → records_in c.in-Some.first c.args.byte ≡ 0 =
    λ deep.
    elim c.else-len-eq16.either [
      | inl w ↦ (let count = c.records_in-deeper.ensures.count in let few = w.1 in
          omega arith)
      | inr other ↦ absurd (other (c.len-2.ensures.value ∙ deep))
    ] in
    let kept = record_kept c.self.inside.stop (pending_at 0 c.self.inside.path.items) _
    c.self.inside.records (Some c.in-Some.first) c.in-Some.first c.args.byte c.self.inside.start
    going_on
    (byte_ends c.self.inside.start c.self.inside.stop c.self.inside.path.items
    c.self.inside.records c.in-Some.first c.args.byte going_on some c.self.invariant.0 high) in
    on_any_err c.from_residual.result _
    (subst (λ (r : Reading). data_kept r.progress
    < data_kept (after_byte r.start r.progress c.args.byte)) c.self.view_is
    (subst (λ (half : Option ℕ). data_kept (progress_by c.self.inside.stop
    (Reads (pending_at 0 c.self.inside.path.items) half c.self.inside.records))
    < data_kept (after_byte c.self.inside.start (progress_by c.self.inside.stop
    (Reads (pending_at 0 c.self.inside.path.items) half c.self.inside.records)) c.args.byte))
    (sym c.in-Some.is) kept))

pub invariant_of-self : goal.invariant_of-self
invariant_of-self c =
    let going_on : is_some c.self.inside.stop ≡ false = sym c.is_some.ensures ∙ c.if-is_some.false
    in
    let none : length c.self.inside.path.items ≡ 0 = search rules in
    let small : c.args.byte < 256 = search rules in
    let (topped, low, reached) = c.self.invariant in (
      topped,
      low,
      reached_next c.self.inside.start c.self.inside.size c.args.byte _ _ small reached
          (ap (λ (n : ℕ). Stopped (TrailingBytes (c.self.inside.start + n))) c.len.ensures.exact
          ∙ byte_trails c.self.inside.start c.self.inside.stop c.self.inside.path.items
          c.self.inside.half c.self.inside.records c.args.byte going_on none),
    )

pub invariant_of-self-in_default : goal.invariant_of-self-in_default
invariant_of-self-in_default c =
    let going_on : is_some c.self.inside.stop ≡ false = sym c.is_some.ensures ∙ c.if-is_some.false
    in
    let some : 0 < length c.self.inside.path.items = search rules in
    let none : c.self.inside.half ≡ None = never_some c.self.inside.half c.in_default.not-Some in
    let small : c.args.byte < 256 = search rules in
    let (topped, low, reached) = c.self.invariant in (
      topped,
      low,
      reached_next c.self.inside.start c.self.inside.size c.args.byte _ _ small reached
          (byte_begins c.self.inside.start c.self.inside.stop c.self.inside.path.items
          c.self.inside.records c.args.byte going_on some c.self.invariant.0
          ∙ ap (λ half. after_byte c.self.inside.start
          (progress_by c.self.inside.stop
          (Reads (pending_at 0 c.self.inside.path.items) half c.self.inside.records))
          c.args.byte) (sym none)),
    )

pub invariant_of-self-then-deeper-gt0 : goal.invariant_of-self-then-deeper-gt0
invariant_of-self-then-deeper-gt0 c =
    let going_on : is_some c.self.inside.stop ≡ false = sym c.is_some.ensures ∙ c.if-is_some.false
    in
    let deep : length c.self.inside.path.items ≡ 16 = sym c.len-2.ensures.value ∙ c.if-len-eq16.true
    in
    let more : 0 < records_in c.in-Some.first c.args.byte =
    subst (λ (n : ℕ). 0 < n) c.records_in-deeper.ensures.count c.if-deeper-gt0.true in
    let small : c.args.byte < 256 = search rules in
    let (topped, low, reached) = c.self.invariant in (
      topped,
      low,
      reached_next c.self.inside.start c.self.inside.size c.args.byte _ _ small reached
          (ap (λ (n : ℕ). Stopped (TooDeep (c.self.inside.start + n)))
          c.len-then-deeper-gt0.ensures.exact
          ∙ byte_deep c.self.inside.start c.self.inside.stop c.self.inside.path.items
          c.self.inside.records c.in-Some.first c.args.byte going_on c.self.invariant.0
          deep more
          ∙ ap (λ half. after_byte c.self.inside.start
          (progress_by c.self.inside.stop
          (Reads (pending_at 0 c.self.inside.path.items) half c.self.inside.records))
          c.args.byte) (sym c.in-Some.is)),
    )

pub invariant_of-self-2 : goal.invariant_of-self-2
invariant_of-self-2 c =
    let going_on : is_some c.self.inside.stop ≡ false = sym c.is_some.ensures ∙ c.if-is_some.false
    in
    let some : 0 < length c.self.inside.path.items = search rules in
    let high : length c.self.inside.path.items ≡ 16 → records_in c.in-Some.first c.args.byte ≡ 0 =
    λ deep.
    elim c.else-len-eq16.either [
      | inl w ↦ (let count = c.records_in-deeper.ensures.count in let few = w.1 in
          omega arith)
      | inr other ↦ absurd (other (c.len-2.ensures.value ∙ deep))
    ] in
    let counted = c.records_in-deeper.ensures.count in
    let now = c.descend.ensures.pending in
    let kept = c.in_ok-push.ensures.ok in
    let small : c.args.byte < 256 = search rules in
    let (topped, low, reached) = c.self.invariant in (
      c.descend.ensures.topped,
      low,
      reached_next c.self.inside.start c.self.inside.size c.args.byte _ _ small reached
          (ap (progress_by c.self.inside.stop)
          (ap (λ pending. Reads pending None c.push.new.self) now
          ∙ ap (Reads (replicate c.records_in-deeper.result (length c.self.inside.path.items)
          ++ pending_at 0 (without_next c.self.inside.path.items)) None) kept
          ∙ ap (λ (n : ℕ). Reads
          (replicate n (length c.self.inside.path.items)
          ++ pending_at 0 (without_next c.self.inside.path.items)) None
          (c.self.inside.records ++ c.in-Some.first ∷ c.args.byte ∷ [])) counted)
          ∙ byte_ends c.self.inside.start c.self.inside.stop c.self.inside.path.items
          c.self.inside.records c.in-Some.first c.args.byte going_on some
          c.self.invariant.0 high
          ∙ ap (λ half. after_byte c.self.inside.start
          (progress_by c.self.inside.stop
          (Reads (pending_at 0 c.self.inside.path.items) half c.self.inside.records))
          c.args.byte) (sym c.in-Some.is)),
    )
