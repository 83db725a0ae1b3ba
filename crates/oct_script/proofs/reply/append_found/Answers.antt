use Rattle.std.proofs.Common.{◌≡◌, length, vec_len, rules}
use Rattle.oct_num.proofs.Results.{on_any_err}
use Rattle.oct_script.proofs.Appending.{begun_kept}
use Rattle.oct_script.proofs.reply.append_found.Goals as goal

pub returns-in_err-append_block-clause-err : goal.returns-in_err-append_block-clause-err
returns-in_err-append_block-clause-err c =
    let many : vec_len c.args.out.now ≡ length c.args.out.now.items = search rules in
    let most : vec_len c.loop-found.out ≡ length c.loop-found.out.items = search rules in
    on_any_err c.from_residual.result _
    (begun_kept _ _ _ _ _ _ many most c.loop-found.invariant c.in_err-append_block.ensures.err)
