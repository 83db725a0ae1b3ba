use Rattle.std.proofs.Common.{◌∙◌, sym, subst}
use Rattle.oct_map.specs.Keeps.{IsFittedToKeep}
use Rattle.oct_map.specs.Merges.{IsWide}
use Rattle.oct_map.proofs.KeepFits.{is_handed, kept_after, kept_full, kept_wide}
use Rattle.oct_map.proofs.Merges.{of_fault}
use Rattle.oct_map.proofs.map.OccMap.keep_between.Goals as goal

pub returns-in_err-noted : goal.returns-in_err-noted
returns-in_err-noted c = record {
  kept = kept_wide c.args.self.now c.args.low c.args.high _ c.from_residual.result
      c.box_to_note.ensures.map (is_handed c.from_residual.result _ c.from_residual.ensures.1)
      (of_fault _ _ IsWide c.box_to_note.ensures.wide c.in_err-noted.was)
      (λ extent is. sym c.in_err-noted.was ∙ c.box_to_note.ensures.answer extent is);
}

pub returns-in_err-need : goal.returns-in_err-need
returns-in_err-need c = record {
  kept = kept_full c.args.self.now c.fit_to_keep.new.self c.args.low c.args.high
      c.in_ok-noted.noted _ c.from_residual-in_err-need.result
      (is_handed c.from_residual-in_err-need.result _ c.from_residual-in_err-need.ensures.1)
      (subst (IsFittedToKeep c.args.self.now c.fit_to_keep.new.self c.args.low c.args.high)
      c.in_err-need.was c.fit_to_keep.ensures.fitted)
      (λ extent is. sym c.in_ok-noted.was ∙ c.box_to_note.ensures.answer extent is);
}

pub returns : goal.returns
returns c = record {
  kept = kept_after c.args.self.now c.fit_to_keep.new.self c.keep_fitted.new.self c.args.low
      c.args.high c.in_ok-need.need c.in_ok-noted.noted c.keep_fitted.result
      (subst (IsFittedToKeep c.args.self.now c.fit_to_keep.new.self c.args.low c.args.high)
      c.in_ok-need.was c.fit_to_keep.ensures.fitted)
      (λ extent is. sym c.in_ok-noted.was ∙ c.box_to_note.ensures.answer extent is)
      (record {
        answer = c.keep_fitted.ensures.answer;
        memory = c.keep_fitted.ensures.memory;
        edited = c.keep_fitted.ensures.edited;
        path = c.keep_fitted.ensures.path;
        refused = c.keep_fitted.ensures.refused;
        reserved = c.keep_fitted.ensures.reserved;
        mark = c.keep_fitted.ensures.mark;
        few = c.keep_fitted.ensures.noted;
        setup = c.keep_fitted.ensures.setup;
        map = c.keep_fitted.ensures.map;
      });
}
