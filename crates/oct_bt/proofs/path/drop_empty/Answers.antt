use Rattle.std.proofs.Common.{rules, ◌≡◌, ◌<◌, length, ℕ, ◌-◌, List, sym, ap, ◌∙◌, get_or}
use Rattle.oct_bt.specs.Path.{pending_at}
use Rattle.oct_bt.proofs.Paths.{end_dropped}
use Rattle.oct_bt.proofs.path.drop_empty.Goals as goal

pub loop-path-preserved : goal.loop-path-preserved
loop-path-preserved c =
    let path : List ℕ = c.loop-path.path.items in
    let some : 0 < length c.loop-path.path.items = search rules in
    let none : get_or c.loop-path.path.items (length c.loop-path.path.items - 1) 0 ≡ 0 =
    ap (λ t. get_or t (length c.loop-path.path.items - 1) 0) (sym c.deref.ensures.0)
    ∙ ap (λ (n : ℕ). get_or c.deref.result.now (n - 1) 0) (sym c.len.ensures.value)
    ∙ c.if-deref-len-eq0.true in
    ap (pending_at 0) c.pop.ensures.rest ∙ end_dropped c.loop-path.path.items some none
    ∙ c.loop-path.invariant
