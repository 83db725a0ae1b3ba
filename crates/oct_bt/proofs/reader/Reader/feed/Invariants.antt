use Rattle.std.proofs.Common.{◌≡◌, ◌++◌, List, ℕ, take}
use Rattle.std.specs.Prelude.{fold}
use Rattle.oct_bt.specs.Reading.{StandsFor, after_file_byte}
use Rattle.oct_bt.proofs.reader.Reader.feed.Given as goal

abbrev pub invariant-loop-byte : goal.invariant-loop-byte
invariant-loop-byte l =
    ((text : List ℕ) → StandsFor l.fn.self text
    → StandsFor l.self (text ++ take l.byte-index l.piece))
    × (l.self ≡ fold after_file_byte l.fn.self (take l.byte-index l.piece))
