-- The children of a block that need more than a code.
use Rattle.std.specs.Prelude.{◌≡◌, ℕ, ◌+◌, ◌-◌, ◌<◌, List, [], ◌∷◌, ◌++◌, ⊤}
use Rattle.oct_key.specs.Block.{Cube, child_of}
use Rattle.oct_values.specs.Classes.{Classes}
use Rattle.oct_bt.specs.declared.writing.Part.{Part}
use Rattle.oct_bt.specs.Records.{code_bytes}
use Rattle.oct_bt.specs.Canonical.{data_below}
use Rattle.oct_bt.specs.Mixtures.{IsFirstOther}

-- the part is a child of several classes of a block of this depth
pub record IsPart (classes : Classes) (depth : ℕ) (b : Cube) (part : Part) : Type 0 where
  pub few : part.i < 8
  pub some : 0 < part.way
  pub first : IsFirstOther classes part.class (16 - (depth + 1)) (child_of b part.i) part.way

-- all of them are
unfoldable pub ArePart : Classes → ℕ → Cube → List Part → Type 0
ArePart classes depth b [] = ⊤
ArePart classes depth b (part ∷ more) = IsPart classes depth b part × ArePart classes depth b more

-- their data, that of the last one first
unfoldable pub parts_text : Classes → ℕ → Cube → List Part → List ℕ
parts_text classes depth b [] = []
parts_text classes depth b (part ∷ more) =
    parts_text classes depth b more ++ data_below classes (16 - (depth + 1)) (child_of b part.i)

-- the record of a block: its codes, and its children that are written after them
pub record IsRecordOf (classes : Classes) (depth : ℕ) (b : Cube) (codes : ℕ) (parts : List Part)
    : Type 0 where
  pub are : ArePart classes depth b parts
  pub text : data_below classes (16 - depth) b
      ≡ code_bytes codes ++ parts_text classes depth b parts
