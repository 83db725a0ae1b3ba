-- Two records side by side: the working words of a merge.
use Rattle.std.specs.Prelude.{ℕ, zero, suc, ◌-◌, ◌*◌, nat_eq, Option, Some, None}
use Rattle.std.specs.Prelude.{if◌then◌else◌, bit_and, bit_or}
use Rattle.oct_odds.specs.declared.event.Class.{Class}
use Rattle.oct_odds.specs.declared.event.Class.TheVariants.{Unknown, Free, Occupied}
use Rattle.oct_merge.specs.declared.rule.Rule.{Rule}
use Rattle.oct_merge.specs.declared.rule.Rule.TheVariants.{Greatest, Least, First}
use Rattle.oct_bt.specs.Masks.{threes}
use Rattle.oct_bt.specs.Records.{Entries, End, Plain, Record, codes_of}

-- the class of a block whose eight children have these codes, where all are of that class
unfoldable pub one_class : ℕ → Option Class
one_class codes =
    if nat_eq codes 0 then Some Unknown
    else if nat_eq codes 21845 then Some Free
    else if nat_eq codes 43690 then Some Occupied
    else None

-- a child of this class, or else with this record, before other entries
abbrev pub child_before : Option Class → Entries → Entries → Entries
child_before (Some class) r later = Plain class later
child_before None r later = Record r later

-- a child with this record, before other entries; one of eight equal leaves is such a leaf
abbrev pub closed : Entries → Entries → Entries
closed r later = child_before (one_class (codes_of r)) r later

-- the entries with each class exchanged for another
unfoldable pub recoded : (Class → Class) → Entries → Entries
recoded to End = End
recoded to (Plain class later) = Plain (to class) (recoded to later)
recoded to (Record r later) = closed (recoded to r) (recoded to later)

-- the entries of two records joined, each class of the one with that of the other
unfoldable pub joined : (Class → Class → Class) → Entries → Entries → Entries
joined with (Plain a es) (Plain b fs) = Plain (with a b) (joined with es fs)
joined with (Plain a es) (Record s fs) = closed (recoded (with a) s) (joined with es fs)
joined with (Record r es) (Plain b fs) = closed (recoded (λ a. with a b) r) (joined with es fs)
joined with (Record r es) (Record s fs) = closed (joined with r s) (joined with es fs)
joined with _ _ = End

-- this many leaves of one class
unfoldable pub alike : Class → ℕ → Entries
alike class zero = End
alike class (suc n) = Plain class (alike class n)

-- this many codes, each what a rule makes of two, by masks: where an or of both is 3, they are two
-- known classes
unfoldable pub merged_codes : ℕ → Rule → ℕ → ℕ → ℕ
merged_codes n Greatest a b = bit_or a b - threes n (bit_or a b)
merged_codes n Least a b = bit_or a b - 2 * threes n (bit_or a b)
merged_codes n First a b = bit_or a b - bit_and b (3 * threes n (bit_or a b))
