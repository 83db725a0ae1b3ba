use Rattle.std.proofs.Common.{◌≡◌, ◌∙◌, IsOk, inl, inr, refl, sym, subst, rules}
use Rattle.std.specs.Prelude.{OnOk}
use Rattle.oct_key.specs.Values.{SameValues}
use Rattle.oct_map.specs.Map.{values_of}
use Rattle.oct_map.specs.Answers.{IsAnswerOrMemory}
use Rattle.oct_map.specs.Notes.{LacksNotes}
use Rattle.oct_map.specs.Merges.{IsMergeRefused, IsPrunedAtMost, IsWide, given_events}
use Rattle.oct_map.specs.Merges.{given_volume, merged_values, more_groups, then_answer}
use Rattle.oct_map.specs.Merges.{union_answer}
use Rattle.oct_map.proofs.Edits.{handed_as, if_err}
use Rattle.oct_map.proofs.Marks.{few_after, same_few}
use Rattle.oct_map.proofs.Merges.{given_few, has_merged, lacks_given, merged_into, never_wide}
use Rattle.oct_map.proofs.Merges.{of_fault}
use Rattle.oct_map.proofs.Merges.{on_err}
use Rattle.oct_map.proofs.Merges.{pruned_itself, pruned_lacks, pruned_limit, pruned_reserved}
use Rattle.oct_map.proofs.Merges.{refused_wide, same_answer}
use Rattle.oct_map.proofs.map.OccMap.merge.Goals.{After-prune-2}
use Rattle.oct_map.proofs.map.OccMap.merge.Goals as goal

pub returns-in_err-noted-clause-answered : goal.returns-in_err-noted-clause-answered
returns-in_err-noted-clause-answered c = record {
  answer = search rules;
  memory = λ e. (let (count, wide) = of_fault _ _ IsWide c.box_to_note.ensures.wide
      (handed_as _ _ _ _ c.in_err-noted.was c.from_residual.ensures.1 e) in cc);
  narrow = λ e extent is. (let (count, wide) = of_fault _ _ IsWide c.box_to_note.ensures.wide
      (handed_as _ _ _ _ c.in_err-noted.was c.from_residual.ensures.1 e) in cc);
}

pub returns-in_err-noted-clause-refused : goal.returns-in_err-noted-clause-refused
returns-in_err-noted-clause-refused c =
    if_err c.from_residual.result (IsMergeRefused c.args.self.now c.args.self.now) (λ fault e.
    refused_wide c.args.self.now fault (of_fault _ fault IsWide c.box_to_note.ensures.wide
    (handed_as _ _ _ _ c.in_err-noted.was c.from_residual.ensures.1 e)))

pub returns-in_err-noted-clause-kept : goal.returns-in_err-noted-clause-kept
returns-in_err-noted-clause-kept c = record {
  reserved = search rules;
  stale = refl;
  mark = search rules;
  noted = λ extent is. same_few (given_volume extent) c.args.self.now.mark c.args.self.now.mark
      (given_events extent) refl;
  setup = refl;
  map = c.box_to_note.ensures.map;
}

pub returns-in_err-noted-clause-other : goal.returns-in_err-noted-clause-other
returns-in_err-noted-clause-other c = record {
  kept = pruned_itself c.args.other.now;
  pruned = search rules;
  map = c.box_to_note.ensures.other_map;
}

-- both are pruned
mine : (c : After-prune-2) → IsPrunedAtMost c.args.self.now c.prune.new.self
mine c = record {
  same = c.prune.ensures.same;
  shrunk = c.prune.ensures.groups;
  keeps = record {
    setup = c.prune.ensures.setup;
    values = c.prune.ensures.values;
    stale = c.prune.ensures.stale;
    notes = c.prune.ensures.notes;
    fresh = c.prune.ensures.fresh;
    pruned = λ _. c.prune.ensures.pruned;
  };
}

theirs : (c : After-prune-2) → IsPrunedAtMost c.args.other.now c.prune-2.new.self
theirs c = record {
  same = c.prune-2.ensures.same;
  shrunk = c.prune-2.ensures.groups;
  keeps = record {
    setup = c.prune-2.ensures.setup;
    values = c.prune-2.ensures.values;
    stale = c.prune-2.ensures.stale;
    notes = c.prune-2.ensures.notes;
    fresh = c.prune-2.ensures.fresh;
    pruned = λ _. c.prune-2.ensures.pruned;
  };
}

-- so that they answer as the first two
same : (c : After-prune-2)
    → union_answer c.args.self.now.max_groups (values_of c.args.self.now)
    (values_of c.args.other.now)
    ≡ union_answer c.prune.new.self.max_groups (values_of c.prune.new.self)
    (values_of c.prune-2.new.self)
same c = same_answer c.args.self.now.max_groups c.prune.new.self.max_groups
    (values_of c.args.self.now) (values_of c.args.other.now) (values_of c.prune.new.self)
    (values_of c.prune-2.new.self)
    (sym (pruned_limit c.args.self.now c.prune.new.self (mine c).keeps)) c.prune.ensures.values
    c.prune-2.ensures.values

pub returns-clause-answered : goal.returns-clause-answered
returns-clause-answered c =
    let p = (goal.at.returns-clause-answered c).After-prune-2 in
    record {
      answer = λ extent is.
          subst (λ noted. IsAnswerOrMemory (then_answer noted
          (union_answer c.args.self.now.max_groups
          (values_of c.args.self.now) (values_of c.args.other.now))) c.merge_pruned.result)
          (c.in_ok-noted.ensures.answer extent is)
          (subst (λ answer. IsAnswerOrMemory answer c.merge_pruned.result)
          (sym (same p)) c.merge_pruned.ensures.answer);
      memory = λ e.
          let (room, lacks) = c.merge_pruned.ensures.memory e in (
            subst IsOk (sym (same p)) room,
            elim lacks [
              | inl few ↦ inl (pruned_lacks c.args.self.now c.prune.new.self
                  (values_of c.args.other.now)
                  (values_of c.prune-2.new.self) c.prune.ensures.map c.prune.ensures.pruned (mine p)
                  c.prune-2.ensures.values few)
              | inr notes ↦ inr (λ extent is. lacks_given c.args.self.now.mark c.in_ok-noted.noted
                  extent (c.in_ok-noted.ensures.answer extent is)
                  (subst (λ mark. LacksNotes mark (given_volume c.in_ok-noted.noted))
                  c.prune.ensures.notes notes))
            ],
          );
      narrow = λ e extent is. subst IsOk (c.in_ok-noted.ensures.answer extent is) refl;
    }

pub returns-clause-done : goal.returns-clause-done
returns-clause-done c =
    let p = (goal.at.returns-clause-done c).After-prune-2 in
    let merged : OnOk c.merge_pruned.result (SameValues
    (merged_values c.args.rule (values_of c.args.self.now) (values_of c.args.other.now))
    (values_of c.merge_pruned.new.self)) = search rules in
    has_merged c.args.rule c.args.self.now c.args.other.now c.merge_pruned.new.self
    c.merge_pruned.result merged
    (merged_into c.args.rule c.args.self.now c.args.other.now c.prune.new.self c.prune-2.new.self
    c.merge_pruned.new.self
    (more_groups (values_of c.prune.new.self) (values_of c.prune-2.new.self))
    c.merge_pruned.result (mine p) c.prune-2.ensures.values c.merge_pruned.ensures.edited)
    c.merge_pruned.ensures.pruned

pub returns-clause-refused : goal.returns-clause-refused
returns-clause-refused c =
    let p = (goal.at.returns-clause-refused c).After-prune-2 in
    on_err c.args.self.now c.prune.new.self c.merge_pruned.new.self
    (more_groups (values_of c.prune.new.self) (values_of c.prune-2.new.self))
    c.merge_pruned.result (mine p) c.prune.ensures.pruned c.merge_pruned.ensures.refused

pub returns-clause-wide : goal.returns-clause-wide
returns-clause-wide c count e = absurd (never_wide _ _ count _ _ c.merge_pruned.ensures.answer e)

pub returns-clause-kept : goal.returns-clause-kept
returns-clause-kept c =
    let p = (goal.at.returns-clause-kept c).After-prune-2 in
    record {
      reserved = pruned_reserved c.args.self.now c.prune.new.self c.merge_pruned.new.self
          (values_of c.args.other.now) (values_of c.prune-2.new.self) c.prune.ensures.map
          c.prune.ensures.pruned (mine p) c.prune-2.ensures.values c.merge_pruned.ensures.reserved;
      stale = c.merge_pruned.ensures.stale ∙ c.prune.ensures.stale;
      mark = search rules;
      noted = λ extent is.
          given_few c.args.self.now.mark c.merge_pruned.new.self.mark c.in_ok-noted.noted extent
          (c.in_ok-noted.ensures.answer extent is)
          (few_after (given_volume c.in_ok-noted.noted) c.args.self.now.mark c.prune.new.self.mark
          c.merge_pruned.new.self.mark (given_events c.in_ok-noted.noted) c.prune.ensures.notes
          c.merge_pruned.ensures.noted);
      setup = c.merge_pruned.ensures.setup ∙ c.prune.ensures.setup;
      map = c.merge_pruned.ensures.map;
    }

pub returns-clause-other : goal.returns-clause-other
returns-clause-other c =
    let p = (goal.at.returns-clause-other c).After-prune-2 in
    record {
      kept = theirs p;
      pruned = search rules;
      map = c.prune-2.ensures.map;
    }
