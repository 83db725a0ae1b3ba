-- The canonical record of a block: its text is the canonical data, and it gives each voxel its
-- class.
use Rattle.std.proofs.Common.{◌≡◌, ℕ, zero, suc, ◌+◌, ◌*◌, ◌<◌, Option, Some, None, List, [], ◌∷◌}
use Rattle.std.proofs.Common.{◌++◌, refl, sym, subst, ◌∙◌, ap, arith}
use Rattle.std.specs.Prelude.{is_some}
use Rattle.std.proofs.lemmas.Bool.{false≢true}
use Rattle.std.specs.List.{All, flat_map}
use Rattle.oct_key.specs.Voxel.{Voxel}
use Rattle.oct_key.specs.Block.{Cube, IsBlock, HoldsVoxel, child_of, child_index_of}
use Rattle.oct_key.proofs.Blocks.{child_index_below, depth_child_of, child_in_map, child_holds}
use Rattle.oct_odds.specs.declared.event.Class.{Class}
use Rattle.oct_values.specs.Blocks.{child_numbers}
use Rattle.oct_values.proofs.Eights.{all_eight}
use Rattle.oct_key.proofs.Held.{held_by_child}
use Rattle.oct_values.specs.Classes.{Classes, class_of_block}
use Rattle.oct_bt.specs.Records.{Entries, End, Plain, Record, AreEntries, IsRecord, codes_of}
use Rattle.oct_bt.specs.Records.{bodies_of, flat, class_in, class_by}
use Rattle.oct_bt.specs.Canonical.{block_code, child_codes, data_of_child, data_below}
use Rattle.oct_bt.proofs.Numbering.{numbers_from}
use Rattle.oct_bt.proofs.Alike.{class_of_each, class_of_voxel}

-- an entry for a class, or for this record where there is none, before others
abbrev pub entry_before : Option Class → Entries → Entries → Entries
entry_before (Some c) r later = Plain c later
entry_before None r later = Record r later

-- the entries for these children, by the class of each and the record of each
unfoldable pub entries_of : (ℕ → Option Class) → (ℕ → Entries) → List ℕ → Entries
entries_of class record_of [] = End
entries_of class record_of (i ∷ more) = entry_before (class i) (record_of i)
    (entries_of class record_of more)

-- the record of a block that stands this many depths above the voxels
unfoldable pub canonical_record : Classes → ℕ → Cube → Entries
canonical_record classes zero b = End
canonical_record classes (suc h) b = entries_of (λ i. class_of_block classes (child_of b i))
    (λ i. canonical_record classes h (child_of b i)) child_numbers

-- the entries of that record from child m on, where the children stand h depths above the voxels
abbrev pub canonical_from : Classes → ℕ → Cube → ℕ → ℕ → Entries
canonical_from classes h b m n = entries_of (λ i. class_of_block classes (child_of b i))
    (λ i. canonical_record classes h (child_of b i)) (numbers_from m n)

pub all_children : (classes : Classes) (h : ℕ) (b : Cube) → canonical_record classes (suc h) b
    ≡ canonical_from classes h b 0 8
unfolding canonical_record numbers_from
all_children classes h b = refl

-- a child's depth and height
pub child_height : (b : Cube) (d h i : ℕ) → b.depth ≡ d → d + suc h ≡ 16
    → ((child_of b i).depth ≡ suc d) × (suc d + h ≡ 16)
child_height b d h i e all = let deep = depth_child_of b i in (omega arith, omega arith)

-- a child is a block
pub child_is_block : (b : Cube) (d h i : ℕ) → b.depth ≡ d → d + suc h ≡ 16 → IsBlock b
    → IsBlock (child_of b i)
child_is_block b d h i e all ok = child_in_map b i ok (omega arith)

-- the codes of the entries are those of the children
pub codes_are : (classes : Classes) (record_of : ℕ → Entries) (b : Cube) (list : List ℕ)
    → child_codes classes b list
    ≡ codes_of (entries_of (λ i. class_of_block classes (child_of b i)) record_of list)
unfolding entries_of child_codes codes_of
codes_are classes record_of b [] = refl
codes_are classes record_of b (i ∷ more) = by_class (class_of_block classes (child_of b i))
    (codes_are classes record_of b more)
  where
    rest : Entries
    rest = entries_of (λ i. class_of_block classes (child_of b i)) record_of more

    by_class : (o : Option Class) → child_codes classes b more ≡ codes_of rest
        → block_code o + 4 * child_codes classes b more
        ≡ codes_of (entry_before o (record_of i) rest)
    by_class (Some c) e = rw e refl
    by_class None e = rw e refl

-- and their text is that of the children's records
bodies_are : (class : ℕ → Option Class) (record_of : ℕ → Entries) (list : List ℕ)
    → flat_map (λ i. data_of_child (class i) (flat (record_of i))) list
    ≡ bodies_of (entries_of class record_of list)
unfolding entries_of bodies_of
bodies_are class record_of [] = refl
bodies_are class record_of (i ∷ more) = by_class (class i) (bodies_are class record_of more)
  where
    rest : Entries
    rest = entries_of class record_of more

    by_class : (o : Option Class)
        → flat_map (λ i. data_of_child (class i) (flat (record_of i))) more ≡ bodies_of rest
        → data_of_child o (flat (record_of i))
        ++ flat_map (λ i. data_of_child (class i) (flat (record_of i))) more
        ≡ bodies_of (entry_before o (record_of i) rest)
    by_class (Some c) e = e
    by_class None e = rw e refl

-- joined lists of the same pieces
pub flat_map-same : (f g : ℕ → List ℕ) (xs : List ℕ) → All (λ i. f i ≡ g i) xs
    → flat_map f xs ≡ flat_map g xs
flat_map-same f g [] h = refl
flat_map-same f g (x ∷ xs) h =
    let here : f x ≡ g x = h 0 x (omega arith) in
    let rest : flat_map f xs ≡ flat_map g xs =
    flat_map-same f g xs (λ k d l. h (suc k) d (omega arith)) in
    rw (here, rest) refl

-- the canonical data of a block is the text of its canonical record
pub data_is_flat : (classes : Classes) (h d : ℕ) (b : Cube) → b.depth ≡ d → d + suc h ≡ 16
    → IsBlock b
    → data_below classes (suc h) b ≡ flat (canonical_record classes (suc h) b)
unfolding data_below canonical_record
data_is_flat classes zero d b e all ok =
    let class : ℕ → Option Class = λ i. class_of_block classes (child_of b i) in
    let record_of : ℕ → Entries = λ i. canonical_record classes zero (child_of b i) in
    let pieces : flat_map (λ i. data_of_child (class i) (data_below classes zero (child_of b i)))
    child_numbers
    ≡ flat_map (λ i. data_of_child (class i) (flat (record_of i))) child_numbers =
    flat_map-same (λ i. data_of_child (class i) (data_below classes zero (child_of b i)))
    (λ i. data_of_child (class i) (flat (record_of i))) child_numbers
    (all_eight (λ i. data_of_child (class i) (data_below classes zero (child_of b i))
    ≡ data_of_child (class i) (flat (record_of i)))
    (λ i li. rw (class_of_voxel classes (child_of b i)
    (let deep = depth_child_of b i in omega arith) (child_is_block b d zero i e all ok)) refl))
    in
    rw (
      codes_are classes record_of b child_numbers,
      pieces,
      bodies_are class record_of child_numbers,
    ) refl
data_is_flat classes (suc h) d b e all ok =
    let class : ℕ → Option Class = λ i. class_of_block classes (child_of b i) in
    let record_of : ℕ → Entries = λ i. canonical_record classes (suc h) (child_of b i) in
    let pieces : flat_map (λ i. data_of_child (class i) (data_below classes (suc h) (child_of b i)))
    child_numbers
    ≡ flat_map (λ i. data_of_child (class i) (flat (record_of i))) child_numbers =
    flat_map-same (λ i. data_of_child (class i) (data_below classes (suc h) (child_of b i)))
    (λ i. data_of_child (class i) (flat (record_of i))) child_numbers
    (all_eight (λ i. data_of_child (class i) (data_below classes (suc h) (child_of b i))
    ≡ data_of_child (class i) (flat (record_of i)))
    (λ i li. ap (data_of_child (class i))
    (data_is_flat classes h (suc d) (child_of b i)
    (child_height b d (suc h) i e all).0 (child_height b d (suc h) i e all).1
    (child_is_block b d (suc h) i e all ok)))) in
    rw (
      codes_are classes record_of b child_numbers,
      pieces,
      bodies_are class record_of child_numbers,
    ) refl

-- this many entries of the block, where each child that isn't of one class has a record
entries_are : (class : ℕ → Option Class) (record_of : ℕ → Entries) (d m n : ℕ)
    → ((i : ℕ) → i < m + n → class i ≡ None → (d < 15) × IsRecord (suc d) (record_of i))
    → AreEntries d n (entries_of class record_of (numbers_from m n))
unfolding entries_of numbers_from
entries_are class record_of d m zero h = tt
entries_are class record_of d m (suc n) h =
    by_class (class m) refl
    (entries_are class record_of d (suc m) n (λ i l none. h i (omega arith) none))
  where
    rest : Entries
    rest = entries_of class record_of (numbers_from (suc m) n)

    by_class : (o : Option Class) → class m ≡ o → AreEntries d n rest
        → AreEntries d (suc n) (entry_before o (record_of m) rest)
    by_class (Some c) is later = later
    by_class None is later = (let here = h m (omega arith) is in (here.0, here.1, later))

-- none where a class is known: no
pub not_none : (o : Option Class) (c : Class) → o ≡ Some c → o ≡ None → ⊥
not_none o c some none = false≢true (ap is_some (sym none ∙ some))

-- the canonical record of a block is a record
pub canonical_is_record : (classes : Classes) (h d : ℕ) (b : Cube) → b.depth ≡ d → d + suc h ≡ 16
    → IsBlock b
    → IsRecord d (canonical_record classes (suc h) b)
canonical_is_record classes zero d b e all ok =
    rw (all_children classes zero b)
    (entries_are (λ i. class_of_block classes (child_of b i))
    (λ i. canonical_record classes zero (child_of b i)) d 0 8
    (λ i l none. absurd (not_none (class_of_block classes (child_of b i)) _
    (class_of_voxel classes (child_of b i) (let deep = depth_child_of b i in omega arith)
    (child_is_block b d zero i e all ok)) none)))
canonical_is_record classes (suc h) d b e all ok =
    rw (all_children classes (suc h) b)
    (entries_are (λ i. class_of_block classes (child_of b i))
    (λ i. canonical_record classes (suc h) (child_of b i)) d 0 8
    (λ i l none. (
      omega arith,
      canonical_is_record classes h (suc d) (child_of b i)
          (child_height b d (suc h) i e all).0 (child_height b d (suc h) i e all).1
          (child_is_block b d (suc h) i e all ok),
    )))

-- entries give the voxels of the block's children, from child m on, their classes
abbrev pub Gives : Classes → Cube → ℕ → ℕ → ℕ → Entries → Type 0
Gives classes b d m n es = (j : ℕ) (k : Voxel) → j < n → HoldsVoxel (child_of b (m + j)) k
    → class_in d es j k ≡ classes k

-- entries that give each child its classes
gives_from : (classes : Classes) (class : ℕ → Option Class) (record_of : ℕ → Entries) (b : Cube)
    (d m n : ℕ)
    → ((i : ℕ) (k : Voxel) (later : Entries) → i < m + n → HoldsVoxel (child_of b i) k
    → class_in d (entry_before (class i) (record_of i) later) 0 k ≡ classes k)
    → Gives classes b d m n (entries_of class record_of (numbers_from m n))
unfolding entries_of numbers_from class_in
gives_from classes class record_of b d m zero each = λ j k l held. absurd (omega arith)
gives_from classes class record_of b d m (suc n) each =
    by_number (gives_from classes class record_of b d (suc m) n
    (λ i k later l held. each i k later (omega arith) held))
  where
    rest : Entries
    rest = entries_of class record_of (numbers_from (suc m) n)

    by_class : (o : Option Class) (j : ℕ) (k : Voxel) → class_in d rest j k ≡ classes k
        → class_in d (entry_before o (record_of m) rest) (suc j) k ≡ classes k
    by_class (Some c) j k is = is
    by_class None j k is = is

    by_number : Gives classes b d (suc m) n rest → Gives classes b d m (suc n)
        (entry_before (class m) (record_of m) rest)
    by_number later zero k l held =
        (let at : m + 0 ≡ m = omega arith in
        each m k rest (omega arith) (subst (λ i. HoldsVoxel (child_of b i) k) at held))
    by_number later (suc j) k l held = (let at : m + suc j ≡ suc m + j = omega arith in
        by_class (class m) j k
        (later j k (omega arith) (subst (λ i. HoldsVoxel (child_of b i) k) at held)))

-- a record that gives the voxels of each child their classes gives those of the block theirs
pub gives_block : (classes : Classes) (b : Cube) (d : ℕ) (r : Entries) → b.depth ≡ d → d < 16
    → Gives classes b d 0 8 r → (k : Voxel) → HoldsVoxel b k
    → class_by d r k ≡ classes k
gives_block classes b d r e low gives k held =
    let index : ℕ = child_index_of d k in
    let there : HoldsVoxel (child_of b (child_index_of d k)) k =
    subst (λ (d : ℕ). HoldsVoxel (child_of b (child_index_of d k)) k) e
    (held_by_child b k (omega arith) held) in
    gives (child_index_of d k) k (child_index_below d k)
    (let at : 0 + child_index_of d k ≡ child_index_of d k = omega arith in
    subst (λ i. HoldsVoxel (child_of b i) k) (sym at) there)

-- the other way
pub gives_children : (classes : Classes) (b : Cube) (d : ℕ) (r : Entries) → b.depth ≡ d → d < 16
    → ((k : Voxel) → HoldsVoxel b k → class_by d r k ≡ classes k) → Gives classes b d 0 8 r
gives_children classes b d r e low gives j k l held =
    let at : 0 + j ≡ j = omega arith in
    let there : HoldsVoxel (child_of b j) k = subst (λ i. HoldsVoxel (child_of b i) k) at held in
    let (here, index) = (child_holds b j k (omega arith) l).0 there in
    let same : child_index_of d k ≡ j = subst (λ (d : ℕ). child_index_of d k ≡ j) e index in
    subst (λ i. class_in d r i k ≡ classes k) same (gives k here)

-- an entry that is a block's class, or else a record that gives its voxels their classes
entry_gives : (classes : Classes) (o : Option Class) (r : Entries) (d : ℕ) (c : Cube) → IsBlock c
    → class_of_block classes c ≡ o
    → (o ≡ None → (k : Voxel) → HoldsVoxel c k → class_by (suc d) r k ≡ classes k)
    → (k : Voxel) (later : Entries) → HoldsVoxel c k → class_in d (entry_before o r later) 0 k
    ≡ classes k
unfolding class_in
entry_gives classes (Some x) r d c ok is inner k later held =
    sym (class_of_each classes c x k ok is held)
entry_gives classes None r d c ok is inner k later held = inner refl k held

-- the canonical record of a block gives each of its voxels its class
pub canonical_gives : (classes : Classes) (h d : ℕ) (b : Cube) → b.depth ≡ d → d + suc h ≡ 16
    → IsBlock b
    → (k : Voxel) → HoldsVoxel b k → class_by d (canonical_record classes (suc h) b) k ≡ classes k
canonical_gives classes zero d b e all ok =
    gives_block classes b d (canonical_record classes 1 b) e (omega arith)
    (rw (all_children classes zero b)
    (gives_from classes (λ i. class_of_block classes (child_of b i))
    (λ i. canonical_record classes zero (child_of b i)) b d 0 8
    (λ i k later l held. entry_gives classes (class_of_block classes (child_of b i))
    (canonical_record classes zero (child_of b i)) d (child_of b i)
    (child_is_block b d zero i e all ok) refl
    (λ none. absurd (not_none (class_of_block classes (child_of b i)) _
    (class_of_voxel classes (child_of b i) (let deep = depth_child_of b i in omega arith)
    (child_is_block b d zero i e all ok)) none)) k later held)))
canonical_gives classes (suc h) d b e all ok =
    gives_block classes b d (canonical_record classes (suc (suc h)) b) e (omega arith)
    (rw (all_children classes (suc h) b)
    (gives_from classes (λ i. class_of_block classes (child_of b i))
    (λ i. canonical_record classes (suc h) (child_of b i)) b d 0 8
    (λ i k later l held. entry_gives classes (class_of_block classes (child_of b i))
    (canonical_record classes (suc h) (child_of b i)) d (child_of b i)
    (child_is_block b d (suc h) i e all ok) refl
    (λ none. canonical_gives classes h (suc d) (child_of b i)
    (child_height b d (suc h) i e all).0 (child_height b d (suc h) i e all).1
    (child_is_block b d (suc h) i e all ok)) k later held)))
