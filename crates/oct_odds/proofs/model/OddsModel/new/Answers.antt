use Rattle.std.proofs.Common.{sym, refl}
use Rattle.std.proofs.lemmas.Int.{to_z-of_z}
use mir.Val.{SFits}
use mir.Syntax.{w32}
use Rattle.oct_odds.specs.Odds.{odds}
use Rattle.oct_odds.proofs.Soundness.{sound_from_none, some_unsound}
use Rattle.oct_odds.proofs.model.OddsModel.new.Goals as goal

pub invariant_of-result : goal.invariant_of-result
invariant_of-result c =
    let hit : SFits w32 c.args.hit = c.ranges.hit in
    let miss : SFits w32 c.args.miss = c.ranges.miss in
    let min : SFits w32 c.args.min = c.ranges.min in
    let max : SFits w32 c.args.max = c.ranges.max in
    let thr : SFits w32 c.args.thr = c.ranges.thr in
    let none = simp to_z-of_z at c.in-None.ensures in
    let sound =
    sound_from_none (odds c.args.hit c.args.miss c.args.min c.args.max c.args.thr) (sym none) in
    simp to_z-of_z (record {
      hit_positive = sound.hit_positive;
      hit_small = sound.small.0.1;
      miss_negative = sound.miss_negative;
      miss_small = sound.small.1.0;
      min_below = sound.zero_within.0;
      min_small = sound.small.2.0;
      max_above = sound.zero_within.1;
      max_small = sound.small.3.1;
      thr_above = sound.thr_within.0;
      thr_below = sound.thr_within.1;
    })

pub returns-in-Some-clause-sound : goal.returns-in-Some-clause-sound
returns-in-Some-clause-sound c =
    let hit : SFits w32 c.args.hit = c.ranges.hit in
    let miss : SFits w32 c.args.miss = c.ranges.miss in
    let min : SFits w32 c.args.min = c.ranges.min in
    let max : SFits w32 c.args.max = c.ranges.max in
    let thr : SFits w32 c.args.thr = c.ranges.thr in
    let some = simp to_z-of_z at c.in-Some.ensures in
    (λ h. cc, λ sound. absurd (some_unsound _ _ (sym some) sound))

pub returns-in-None-clause-sound : goal.returns-in-None-clause-sound
returns-in-None-clause-sound c =
    let hit : SFits w32 c.args.hit = c.ranges.hit in
    let miss : SFits w32 c.args.miss = c.ranges.miss in
    let min : SFits w32 c.args.min = c.ranges.min in
    let max : SFits w32 c.args.max = c.ranges.max in
    let thr : SFits w32 c.args.thr = c.ranges.thr in
    let none = simp to_z-of_z at c.in-None.ensures in (
      λ _. sound_from_none (odds c.args.hit c.args.miss c.args.min c.args.max c.args.thr)
          (sym none),
      λ _. refl,
    )
