use Rattle.std.proofs.Common.{◌≡◌, ◌≤◌, ◌-◌, length, take, drop}
use Rattle.oct_gen.proofs.generator.Generator.fill.Given as goal

abbrev pub invariant-loop-filled : goal.invariant-loop-filled
invariant-loop-filled l = record {
  within : l.filled ≤ length l.fn.buffer;
  enough : l.filled ≤ length l.fn.self;
  bytes : take l.filled l.buffer ≡ take l.filled l.fn.self;
  moved : l.self ≡ drop l.filled l.fn.self;
  rest : drop l.filled l.buffer ≡ drop l.filled l.fn.buffer;
}

abbrev pub decreases-loop-filled : goal.decreases-loop-filled
decreases-loop-filled l = length l.fn.buffer - l.filled
