use Rattle.std.proofs.Common.{◌≡◌, drop, map, take}
use Rattle.octofix.specs.Buffers.{fronted}
use Rattle.octofix.specs.Points.{key_told}
use Rattle.octofix.proofs.rays.put_walk.Given as goal

abbrev pub invariant-loop-i : goal.invariant-loop-i
invariant-loop-i l = record {
  rest : l.walk ≡ drop l.i l.initial.walk;
  keys : l.keys ≡ fronted l.initial.keys (map key_told (take l.i l.initial.walk));
}
