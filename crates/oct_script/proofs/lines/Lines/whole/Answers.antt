use Rattle.std.proofs.Common.{rules, ◌≡◌, ◌<◌, ◌≤◌, length, false, refl, sym, ◌∙◌}
use Rattle.oct_script.specs.Lines.{unread}
use Rattle.oct_script.proofs.Feeding.{fresh_line, piece_whole}
use Rattle.oct_script.proofs.lines.Lines.whole.Goals as goal

pub returns-clause-ends : goal.returns-clause-ends
returns-clause-ends c = λ bytes at.
    let more : c.count_in_line-count.result < length c.args.piece.now = search rules in
    let few : c.count_in_line-count.result ≤ 4096 = search rules in
    let kept : length c.self.inside.bytes.items ≡ 0 = search rules in
    let unended : c.self.inside.ended ≡ false = search rules in
    let none : c.args.self.now ≡ unread = sym c.self.view_is ∙ fresh_line _ _ _ c.if-self.false kept
    unended in
    piece_whole _ _ _ _ bytes _ _ c.count_in_line-count.ensures.count c.split_at.ensures.front
    more few c.trimmed.ensures refl none at
