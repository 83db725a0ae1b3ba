use Rattle.std.proofs.Common.{◌≡◌, ◌*◌, ◌≤◌, take}
use Rattle.oct_bt.specs.Canonical.{known_codes}
use Rattle.oct_bt.proofs.node_reader.nodes_in.Given as goal

abbrev pub invariant-loop-byte : goal.invariant-loop-byte
invariant-loop-byte l = (l.known ≡ known_codes (take l.byte-index l.records))
    × (l.known ≤ 4 * l.byte-index)
