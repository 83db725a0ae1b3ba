-- Whether the whole answer was given, by the status.
use Rattle.std.specs.Prelude.{⊤}
use Rattle.oct_io.specs.declared.status.Status.{Status}
use Rattle.oct_io.specs.declared.status.Status.TheVariants.{ReadFault, WriteFault, Memory}
use Rattle.oct_io.specs.declared.status.Status.TheVariants.{StoreFault}

-- a status that comes with the whole answer
abbrev pub IsWhole : Status → Type 0
IsWhole ReadFault = ⊥
IsWhole WriteFault = ⊥
IsWhole Memory = ⊥
IsWhole StoreFault = ⊥
IsWhole _ = ⊤
