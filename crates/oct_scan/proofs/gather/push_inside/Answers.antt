use Rattle.std.proofs.Common.{List, sym, subst, rules}
use Rattle.oct_key.specs.Voxel.{Voxel, IsInMap}
use Rattle.oct_scan.specs.Gathered.{GoesTo}
use Rattle.oct_scan.proofs.Ends.{end_is_last}
use Rattle.oct_scan.proofs.gather.push_inside.Goals as goal

pub near-requires : goal.near-requires
near-requires c =
    let on_map : IsInMap c.args.end = search rules in
    record {
      voxel = c.args.end;
      on_map = on_map;
      last = end_is_last c.args.end c.args.walk c.requires.ends;
      coded = c.morton.ensures.exact;
    }

pub push_within-requires-clause-onward : goal.push_within-requires-clause-onward
push_within-requires-clause-onward c =
    subst (λ (ks : List Voxel). GoesTo c.args.end ks) (sym c.in-Ok.ensures.near) c.requires.onward

pub push_within-requires-in-Err-clause-onward : goal.push_within-requires-in-Err-clause-onward
push_within-requires-in-Err-clause-onward c =
    subst (λ (ks : List Voxel). GoesTo c.args.end ks) (sym c.in-Err.ensures.far) c.requires.onward
