-- The code's test for canonical data answers what a comparison with the canonical data of its
-- classes would.
use Rattle.std.proofs.Common.{◌≡◌, ℕ, List, bytes_eq}
use Rattle.std.proofs.lemmas.Bool.Decides.{same_from_decides}
use Rattle.std.proofs.lemmas.Slice.Eq.{bytes_eq-Decides}
use Rattle.oct_bt.specs.Canonical.{canonical_data}
use Rattle.oct_bt.specs.DataClasses.{data_classes, is_canonical}
use Rattle.oct_bt.specs.NodeData.{IsAccepted}
use Rattle.oct_bt.specs.Plain.{is_canonical_data}
use Rattle.oct_bt.proofs.DataClassed.{data_classed}
use Rattle.oct_bt.proofs.Plains.{canonical_data_exactly}

pub tested : (size : ℕ) (bytes : List ℕ) → IsAccepted size bytes
    → is_canonical_data bytes ≡ is_canonical bytes
unfolding is_canonical
tested size bytes is =
    same_from_decides (is_canonical_data bytes)
    (bytes_eq bytes (canonical_data (data_classes bytes)))
    (canonical_data_exactly (data_classes bytes) bytes
    (data_classed size bytes is))
    (bytes_eq-Decides bytes (canonical_data (data_classes bytes)))
