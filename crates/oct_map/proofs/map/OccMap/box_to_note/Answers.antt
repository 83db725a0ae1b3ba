use Rattle.std.proofs.Common.{◌≡◌, true, None, Ok, sym, ◌∙◌, subst, arith, rules}
use Rattle.std.specs.Prelude.{Option, is_some}
use Rattle.oct_key.specs.Boxes.{Window}
use Rattle.oct_map.specs.Map.{Map}
use Rattle.oct_map.specs.Merges.{IsKnownBox, note_answer}
use Rattle.oct_map.proofs.Merges.{noted_fits, noted_nothing, noted_wide, one_extent}
use Rattle.oct_map.proofs.map.OccMap.box_to_note.Goals.{After-bounds-window}
use Rattle.oct_map.proofs.map.OccMap.box_to_note.Goals.{in-Some+else-count-gt-MOST_NOTED}
use Rattle.oct_map.proofs.map.OccMap.box_to_note.Goals.{in_default}
use Rattle.oct_map.proofs.map.OccMap.box_to_note.Goals as goal

-- what was found is the least box
found : (c : After-bounds-window) (extent : Option Window) → IsKnownBox c.args.other.now extent
    → c.bounds-window.result ≡ extent
found c extent is =
    one_extent _ c.bounds-window.result extent
    (subst (λ (m : Map). IsKnownBox m c.bounds-window.result) c.other.view_is
    c.bounds-window.ensures.exact) is

pub returns-then-count-gt-MOST_NOTED-clause-answer :
    goal.returns-then-count-gt-MOST_NOTED-clause-answer
returns-then-count-gt-MOST_NOTED-clause-answer c extent is =
    let b = (goal.at.returns-then-count-gt-MOST_NOTED-clause-answer c).After-bounds-window in
    noted_wide (is_some c.args.self.now.mark) extent c.in-Some.window c.volume-count.result
    (search rules) (sym c.in-Some.is ∙ found b extent is) c.volume-count.ensures
    (let over = c.if-count-gt-MOST_NOTED.true in omega (arith, over))

pub returns-clause-answer : goal.returns-clause-answer
returns-clause-answer c extent is =
    let b = (goal.at.returns-clause-answer c).After-bounds-window in
    let mark : is_some c.args.self.now.mark ≡ true = search rules in
    elim c.match-window.branch [
      | in-Some+else-count-gt-MOST_NOTED w ↦
          let same : c.match-window.window ≡ c.bounds-window.result = search rules in
          subst (λ x. Ok x ≡ note_answer (is_some c.args.self.now.mark) extent)
          (sym (same ∙ found b extent is))
          (noted_fits (is_some c.args.self.now.mark) extent w.in-Some.window mark
          (sym w.in-Some.is ∙ found b extent is)
          (let counted = w.volume-count.ensures in let fits = w.if-count-gt-MOST_NOTED.false in
          omega (arith, counted, fits)))
      | in_default w ↦
          let same : c.match-window.window ≡ c.bounds-window.result = search rules in
          let none : c.bounds-window.result ≡ None = search rules in
          subst (λ x. Ok x ≡ note_answer (is_some c.args.self.now.mark) extent)
          (sym (same ∙ found b extent is))
          (noted_nothing (is_some c.args.self.now.mark) extent mark
          (sym (found b extent is) ∙ none))
    ]
