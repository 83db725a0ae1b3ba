use Rattle.std.proofs.Common.{◌≡◌, length, vec_len, rules}
use Rattle.oct_num.proofs.Results.{on_any_err}
use Rattle.oct_script.proofs.Appending.{begun_kept}
use Rattle.oct_script.proofs.reply.append_each.Goals as goal

pub returns-in_err-append_change-clause-err : goal.returns-in_err-append_change-clause-err
returns-in_err-append_change-clause-err c =
    let many : vec_len c.args.out.now ≡ length c.args.out.now.items = search rules in
    let most : vec_len c.loop-change.out ≡ length c.loop-change.out.items = search rules in
    on_any_err c.from_residual.result _
    (begun_kept _ _ _ _ _ _ many most c.loop-change.invariant
    c.in_err-append_change.ensures.err)
