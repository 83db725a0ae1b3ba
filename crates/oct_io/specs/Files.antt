-- Files by name, and what a save leaves of them.
use Rattle.std.specs.Prelude.{◌≡◌, ◌≢◌, ◌<◌, ℕ, List, Option, Some, None, IfSome}
use Rattle.std.specs.Prelude.{if◌then◌else◌, ⊤}
use Rattle.std.specs.List.{All}
use Rattle.std.specs.Str.{bytes_eq}

-- the bytes of each name, or none where there is no such file
abbrev pub Files : Type 0
Files = List ℕ → Option (List ℕ)

-- no name has a file
abbrev pub no_files : Files
no_files name = None

-- the files consist of bytes
abbrev pub AreBytes : Files → Type 0
AreBytes files = (name : List ℕ) → IfSome (files name) (All (λ byte. byte < 256))

-- the files with these bytes under this name, and with every other name as it was
abbrev pub with_file : Files → List ℕ → List ℕ → Files
with_file files name bytes other = if bytes_eq name other then Some bytes else files other

-- the files after a save, where they are told
abbrev pub saved : Option Files → List ℕ → List ℕ → Option Files
saved None name bytes = None
saved (Some files) name bytes = Some (with_file files name bytes)

-- every name but this one has what it had, and files that are told stay told
abbrev pub KeepsOthers : Option Files → Option Files → List ℕ → Type 0
KeepsOthers None None name = ⊤
KeepsOthers None (Some new) name = ⊥
KeepsOthers (Some old) None name = ⊥
KeepsOthers (Some old) (Some new) name = (other : List ℕ) → other ≢ name → new other ≡ old other
