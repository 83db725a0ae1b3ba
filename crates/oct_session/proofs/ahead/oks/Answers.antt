use Rattle.std.proofs.Common.{◌≡◌, ◌+◌, ◌-◌, ◌*◌, take, ap, ◌∙◌, arith}
use Rattle.oct_session.specs.Ahead.{oks}
use Rattle.oct_session.proofs.EditRuns.{oks_front}
use Rattle.oct_session.proofs.ahead.oks.Goals as goal

pub returns : goal.returns
returns c =
    let rest = 16 - c.args.count in
    let all : 16 ≡ c.args.count + rest = omega (arith, c.requires) in
    c.split_at.ensures.front ∙ ap (λ x. take (3 * c.args.count) x) (c.as_slice.ensures ∙ ap oks all)
    ∙ oks_front c.args.count rest
