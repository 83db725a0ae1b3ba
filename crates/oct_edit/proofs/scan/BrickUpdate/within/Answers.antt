use Rattle.std.proofs.Common.{refl}
use Rattle.oct_edit.proofs.scan.BrickUpdate.within.Goals as goal

pub returns : goal.returns
returns c = record {
  brick = record {
    code = c.within.ensures.code;
    scanned = c.within.ensures.scanned;
    hits = c.within.ensures.hits;
  };
  hit = refl;
  miss = refl;
}
