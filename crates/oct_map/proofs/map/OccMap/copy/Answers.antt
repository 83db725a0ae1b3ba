use Rattle.std.proofs.Common.{◌≡◌, ◌+◌, ◌*◌, length, ap, arith, ◌∙◌}
use Rattle.std.proofs.lemmas.Bool.{false≢true}
use Rattle.std.proofs.lemmas.List.{nil_from_length}
use Rattle.oct_arena.specs.Entries.{live, spare}
use Rattle.oct_arena.proofs.Entries.{live_spare}
use Rattle.oct_map.specs.Memory.{memory_of}
use Rattle.oct_map.specs.Notes.{note_room}
use Rattle.oct_map.proofs.map.OccMap.copy.Goals as goal

pub returns-in_err-copy-clause-none : goal.returns-in_err-copy-clause-none
returns-in_err-copy-clause-none c = λ none.
    let groups = c.self.inside.tree.groups in
    let held : 72 * (live groups + spare groups) + 8 * note_room c.self.inside.mark ≡ 0 =
    ap memory_of c.self.view_is ∙ none in
    let all : live groups + spare groups ≡ length groups = live_spare groups in
    let empty : length groups ≡ 0 = omega arith in
    absurd (false≢true (c.in_err-copy.ensures.none (nil_from_length groups empty)))
