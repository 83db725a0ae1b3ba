use Rattle.std.proofs.Common.{◌≡◌, sym, ◌∙◌, ap}
use Rattle.std.proofs.lemmas.Bool.{false≢true}
use Rattle.oct_arena.specs.Entries.{live}
use Rattle.oct_edit.specs.Keep.{keep_need}
use Rattle.oct_map.specs.Edits.{KeepsAllElse}
use Rattle.oct_map.specs.Map.{Map}
use Rattle.oct_map.proofs.KeepFits.{own_fit, pruned_fit, full_fit}
use Rattle.oct_map.proofs.map.OccMap.fit_to_keep.Goals.{After-has_room_for, After-prune}
use Rattle.oct_map.proofs.map.OccMap.fit_to_keep.Goals.{After-keep_need-need-2}
use Rattle.oct_map.proofs.map.OccMap.fit_to_keep.Goals as goal

-- what was counted is what the tree takes
counted : (c : After-has_room_for)
    → c.keep_need-need.result ≡ keep_need c.args.self.now.tree c.args.low c.args.high
counted c =
    c.keep_need-need.ensures.exact
    ∙ ap (λ (m : Map). keep_need m.tree c.args.low c.args.high) c.self.view_is

again : (c : After-keep_need-need-2)
    → c.keep_need-need-2.result ≡ keep_need c.prune.new.self.tree c.args.low c.args.high
again c =
    c.keep_need-need-2.ensures.exact
    ∙ ap (λ (m : Map). keep_need m.tree c.args.low c.args.high) c.self-2.view_is

keeps : (c : After-prune) → KeepsAllElse c.args.self.now c.prune.new.self
keeps c = record {
  setup = c.prune.ensures.setup;
  values = c.prune.ensures.values;
  stale = c.prune.ensures.stale;
  notes = c.prune.ensures.notes;
  fresh = c.prune.ensures.fresh;
  pruned = λ _. c.prune.ensures.pruned;
}

pub returns-then-has_room_for : goal.returns-then-has_room_for
returns-then-has_room_for c = record {
  fitted = own_fit c.args.self.now c.args.low c.args.high c.keep_need-need.result
      c.has_room_for.ensures.map
      (counted (goal.at.returns-then-has_room_for c).After-has_room_for)
      (c.has_room_for.ensures.room.0 c.if-has_room_for.true);
}

pub returns-then-has_room_for-2 : goal.returns-then-has_room_for-2
returns-then-has_room_for-2 c = record {
  fitted = pruned_fit c.args.self.now c.prune.new.self c.args.low c.args.high
      c.keep_need-need.result c.keep_need-need-2.result c.has_room_for.ensures.map
      c.prune.ensures.map (counted (goal.at.returns-then-has_room_for-2 c).After-has_room_for)
      (λ room. false≢true (sym c.if-has_room_for.false ∙ c.has_room_for.ensures.room.1 room))
      c.prune.ensures.groups (keeps (goal.at.returns-then-has_room_for-2 c).After-prune)
      c.prune.ensures.pruned
      (again (goal.at.returns-then-has_room_for-2 c).After-keep_need-need-2)
      (c.has_room_for-2.ensures.room.0 c.if-has_room_for-2.true);
}

pub returns : goal.returns
returns c = record {
  fitted = full_fit c.args.self.now c.prune.new.self c.args.low c.args.high
      c.keep_need-need.result c.keep_need-need-2.result c.from.result c.has_room_for.ensures.map
      c.prune.ensures.map (counted (goal.at.returns c).After-has_room_for)
      (λ room. false≢true (sym c.if-has_room_for.false ∙ c.has_room_for.ensures.room.1 room))
      c.prune.ensures.groups (keeps (goal.at.returns c).After-prune) c.prune.ensures.pruned
      (again (goal.at.returns c).After-keep_need-need-2)
      (λ room. false≢true (sym c.if-has_room_for-2.false ∙ c.has_room_for-2.ensures.room.1 room))
      (c.from.ensures ∙ c.live.ensures.exact ∙ ap live c.arena.ensures.exact
      ∙ ap (λ (m : Map). live m.tree.groups) c.self-2.view_is);
}
