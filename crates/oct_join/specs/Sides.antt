-- A block in one of two files, and what both have come to: the working words of a merge.
use Rattle.std.specs.Prelude.{◌≡◌, ◌⊎◌, ℕ, nat_eq, List, [], ◌∷◌, ◌++◌, length, Option, Some, None}
use Rattle.std.specs.Prelude.{if◌then◌else◌}
use Rattle.oct_odds.specs.declared.event.Class.{Class}
use Rattle.oct_odds.specs.declared.event.Class.TheVariants.{Unknown, Free, Occupied}
use Rattle.oct_bt.specs.Canonical.{block_code, data_of_child}
use Rattle.oct_bt.specs.Records.{Entries, IsRecord, class_code, codes_of, flat}
use Rattle.oct_join.specs.Joined.{alike, joined, one_class}
use Rattle.oct_join.specs.declared.joining.Part.{Part}

-- the entries of a block of this depth and of this code: those of its record, or eight leaves of
-- its class
abbrev pub IsSide : ℕ → ℕ → Entries → Type 0
IsSide depth code r =
    IsRecord depth r × ((code ≡ 3) ⊎ ((c : Class) × (code ≡ class_code c) × (r ≡ alike c 8)))

-- the text of such a block: none where it is of one class
abbrev pub side_text : ℕ → Entries → List ℕ
side_text code r = if nat_eq code 3 then flat r else []

-- The part is what the block of these sides has come to: its code, and how many bytes of each text
-- were read. What was appended is the data of a block of several classes, and nothing where it is
-- of one.
pub record IsJoined (with : Class → Class → Class) (a b : ℕ) (r s : Entries) (old new : List ℕ)
    (part : Part) : Type 0 where
  pub code : part.code ≡ block_code (one_class (codes_of (joined with r s)))
  pub text : new ≡ old ++ data_of_child (one_class (codes_of (joined with r s)))
      (flat (joined with r s))
  pub first : part.first ≡ length (side_text a r)
  pub second : part.second ≡ length (side_text b s)

-- the text of the whole map, by the class that its block has come to: a record of eight leaves of
-- a known class stays
abbrev pub root_text : Option Class → List ℕ → List ℕ
root_text (Some Unknown) text = []
root_text (Some Free) text = 85 ∷ 85 ∷ []
root_text (Some Occupied) text = 170 ∷ 170 ∷ []
root_text None text = text
