-- The files that a store in memory holds.
use Rattle.std.specs.BTreeMap.{get_by_text}
use Rattle.oct_io.specs.Files.{Files}
use Rattle.oct_io.specs.declared.memory_store.MemoryStore.{MemoryStore}

-- the files of a store in memory
abbrev pub files_of : MemoryStore → Files
files_of store name = get_by_text store.files name
