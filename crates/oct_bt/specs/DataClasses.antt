-- The classes that node data gives the voxels of the map.
use Rattle.std.specs.Prelude.{ℕ, zero, suc, Bool, List, [], ◌∷◌, ◌++◌, bytes_eq}
use Rattle.oct_odds.specs.declared.event.Class.{Class}
use Rattle.oct_odds.specs.declared.event.Class.TheVariants.{Unknown, Free, Occupied}
use Rattle.oct_values.specs.Classes.{Classes}
use Rattle.oct_bt.specs.Canonical.{canonical_data, codes_in}
use Rattle.oct_bt.specs.Records.{Entries, End, Plain, Record, class_by}

-- the entries that some codes say, and what stands after the text of the records among them
pub record Split : Type 0 where
  pub entries : Entries
  pub rest : List ℕ

-- a child that is all of a class, before the entries of those after it
abbrev pub with_plain : Class → Split → Split
with_plain class later = record { entries = Plain class later.entries; rest = later.rest }

-- a child with a record of its own, before the entries of those after it
abbrev pub with_record : Split → Split → Split
with_record first later = record {
  entries = Record first.entries later.entries;
  rest = later.rest;
}

-- The entries of these codes, from the left. A code of 0, 1 or 2 is an entry by itself and has no
-- text. A code of 3 says that the child has a record of its own, and that stands at the front of
-- the text: it is split off, and what stands after it is the text of the codes that follow. How a
-- record of the depth below is split off a text is the first argument, which `split_record` fills
-- in.
unfoldable pub split_entries : (List ℕ → Split) → List ℕ → List ℕ → Split
split_entries first_record [] text = record { entries = End; rest = text }
split_entries first_record (zero ∷ codes) text =
    with_plain Unknown (split_entries first_record codes text)
split_entries first_record (suc zero ∷ codes) text =
    with_plain Free (split_entries first_record codes text)
split_entries first_record (suc (suc zero) ∷ codes) text =
    with_plain Occupied (split_entries first_record codes text)
split_entries first_record (suc (suc (suc more)) ∷ codes) text =
    with_record (first_record text) (split_entries first_record codes (first_record text).rest)

-- the record of a block that stands this many depths above the voxels, at the front of a text: two
-- bytes with the codes of its children, and then the records of those that have one
unfoldable pub split_record : ℕ → List ℕ → Split
split_record zero text = record { entries = End; rest = text }
split_record (suc depths) (first ∷ second ∷ text) =
    split_entries (split_record depths) (codes_in first ++ codes_in second) text
split_record (suc depths) text = record { entries = End; rest = text }

-- the class that node data gives each voxel: without data all are unknown, else each has that of
-- the entry which covers it
unfoldable pub data_classes : List ℕ → Classes
data_classes [] k = Unknown
data_classes (byte ∷ bytes) k = class_by 0 (split_record 16 (byte ∷ bytes)).entries k

-- whether node data is the canonical one of the classes that it gives the voxels
unfoldable pub is_canonical : List ℕ → Bool
is_canonical bytes = bytes_eq bytes (canonical_data (data_classes bytes))
