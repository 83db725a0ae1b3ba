use Rattle.std.proofs.Common.{length, All, refl, sym, subst, ◌∙◌, arith, rules}
use Rattle.std.specs.Prelude.{IsSome}
use Rattle.std.proofs.lemmas.List.Elements.{All-contains}
use Rattle.oct_key.specs.Voxel.{IsInMap, key_at}
use Rattle.oct_ray.specs.Met.{met_by}
use Rattle.oct_ray.specs.Segment.{Meets}
use Rattle.oct_ray.proofs.ComputedAxes.{met_by_new}
use Rattle.oct_scan.proofs.BeamSpans.{met_spanned, walk_on_map}
use Rattle.oct_scan.specs.Beam.{bare_beam}
use Rattle.oct_scan.specs.Gathered.{kept}
use Rattle.oct_scan.proofs.Ends.{ends_at}
use Rattle.oct_scan.proofs.Holding.{beam_held}
use Rattle.oct_scan.proofs.LaterSpans.{walk_onward}
use Rattle.oct_scan.proofs.Parts.{AreAdded}
use Rattle.oct_scan.proofs.gather.add_beam.Goals as goal

pub push_kept-requires-clause-way : goal.push_kept-requires-clause-way
push_kept-requires-clause-way c =
    let range = c.args.view.now.ranged in
    let first = c.args.view.now.placed in
    let some : IsSome (key_at c.args.view.now.res c.args.view.now.origin) = search rules in
    let last = c.requires.placed in
    let inside : IsSome (key_at c.args.view.now.res c.args.beam.end) = rw last refl in
    let way = met_by c.args.view.now.res c.args.view.now.origin c.args.beam.end in
    let new =
    met_by_new c.args.view.now.res c.args.view.now.origin c.args.beam.end range some inside in
    record {
      ends = ends_at way c.args.beam.voxel (new.last ∙ last) new.walk.once;
      between = λ k there.
          met_spanned c.args.view.now.res c.args.view.now.origin c.args.beam.end
          c.args.view.now.start c.args.beam.voxel k (omega (arith, range.0)) first last
          (All-contains (Meets c.args.view.now.res c.args.view.now.origin c.args.beam.end) way k
          new.walk.met there);
      onward = walk_onward c.args.view.now.res c.args.view.now.origin c.args.beam.end
          c.args.beam.voxel way (omega (arith, range.0)) last new.walk;
    }

pub returns-clause-added : goal.returns-clause-added
returns-clause-added c =
    let first = c.args.view.now.placed in
    let some : IsSome (key_at c.args.view.now.res c.args.view.now.origin) = search rules in
    let key = c.requires.placed in
    let inside : IsSome (key_at c.args.view.now.res c.args.beam.end) = rw key refl in
    let range = c.args.view.now.ranged in
    let met = met_by c.args.view.now.res c.args.view.now.origin c.args.beam.end in
    let new =
    met_by_new c.args.view.now.res c.args.view.now.origin c.args.beam.end range some inside in
    let on_map : All IsInMap met =
    walk_on_map c.args.view.now.res c.args.view.now.origin c.args.beam.end c.args.view.now.start
    c.args.beam.voxel met (omega (arith, range.0)) first key new.walk in
    let way = subst (λ e. AreAdded c.args.bricks.now c.push_kept.new.bricks
    (kept c.args.view.now.window met) e) (sym c.morton.ensures.exact)
    c.in_ok-push_kept.ensures.scanned in (
      length met,
      beam_held c.args.view.now.res c.args.view.now.window c.args.view.now.origin
          (bare_beam c.args.beam) (length met)
          c.morton.result c.is_mute.result c.args.bricks.now c.push_kept.new.bricks
          c.push_end.new.bricks met c.args.beam.voxel new.walk new.last key on_map refl
          c.morton.ensures.exact c.is_mute.ensures way c.in_ok-push_kept.ensures.hits
          c.in_ok-push_end.ensures.scanned c.in_ok-push_end.ensures.hits,
    )
