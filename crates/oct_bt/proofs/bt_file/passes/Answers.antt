use Rattle.std.proofs.Common.{rules, ℕ, get_or, refl, sym, ap, ◌∙◌, arith}
use Rattle.std.specs.Prelude.{nat_eq, not}
use Rattle.oct_bt.proofs.Plains.{test_of_few, test_of_root, test_of_none}
use Rattle.oct_bt.proofs.bt_file.passes.Goals as goal

pub returns-then-codes-lt2 : goal.returns-then-codes-lt2
returns-then-codes-lt2 c =
    test_of_few c.args.codes.now c.is_empty.result (search rules) c.is_empty.ensures

pub returns-then-root-ne0 : goal.returns-then-root-ne0
returns-then-root-ne0 c =
    test_of_root c.args.codes.now c.split_at.result.1.now (get_or c.args.codes.now 0 0)
    (get_or c.args.codes.now 1 0) c.has_plain.result (omega arith) refl refl
    c.split_at.ensures.back c.has_plain.ensures
    (λ none. c.if-root-ne0.true (c.record_codes-root.ensures ∙ none))

pub returns-else-root-ne0 : goal.returns-else-root-ne0
returns-else-root-ne0 c =
    ap (λ (n : ℕ). not (nat_eq n 0)) c.if-root-ne0.false
    ∙ test_of_none c.args.codes.now (get_or c.args.codes.now 0 0) (get_or c.args.codes.now 1 0)
    (omega arith) refl refl (sym c.record_codes-root.ensures ∙ c.if-root-ne0.false)
