-- Canonical data is the same exactly where the classes are.
use Rattle.std.proofs.Common.{◌≡◌, ℕ, zero, suc, ◌+◌, ◌≤◌, ◌↔◌, Bool, true, false, List, [], ◌∷◌}
use Rattle.std.proofs.Common.{◌++◌, length, refl, sym, ◌∙◌, ap, arith}
use Rattle.std.specs.List.{All, flat_map}
use Rattle.std.proofs.lemmas.Bool.{false≢true}
use Rattle.oct_key.specs.Voxel.{Voxel, IsInMap}
use Rattle.oct_key.specs.Block.{Cube, IsBlock, child_of, root_block}
use Rattle.oct_key.proofs.Blocks.{root_holds}
use Rattle.oct_odds.specs.declared.event.Class.TheVariants.{Unknown}
use Rattle.oct_values.specs.Blocks.{child_numbers}
use Rattle.oct_values.proofs.Eights.{all_eight}
use Rattle.oct_key.proofs.Held.{held_in_map}
use Rattle.oct_values.proofs.Held.{all_pass, each_passes}
use Rattle.oct_key.proofs.Blocks.{root_in_map}
use Rattle.oct_values.specs.Classes.{Classes, is_same_class, class_of_block}
use Rattle.oct_bt.specs.Records.{Entries, flat, class_by}
use Rattle.oct_bt.specs.Canonical.{child_codes, data_of_child, data_below, is_unknown}
use Rattle.oct_bt.specs.Canonical.{canonical_data}
use Rattle.oct_bt.proofs.Texts.{same_record}
use Rattle.oct_values.proofs.Alike.{is_same_class_exact}
use Rattle.oct_bt.proofs.Alike.{same_class_of_block}
use Rattle.oct_bt.proofs.Canonicals.{canonical_record, flat_map-same, child_height, child_is_block}
use Rattle.oct_bt.proofs.Canonicals.{data_is_flat, canonical_is_record, canonical_gives}

-- two maps give each voxel the same class
abbrev pub SameClasses : Classes → Classes → Type 0
SameClasses c e = (k : Voxel) → IsInMap k → c k ≡ e k

-- blocks of the map have the same codes
same_child_codes : (c e : Classes) (b : Cube) (list : List ℕ)
    → All (λ i. class_of_block c (child_of b i) ≡ class_of_block e (child_of b i)) list
    → child_codes c b list ≡ child_codes e b list
unfolding child_codes
same_child_codes c e b [] h = refl
same_child_codes c e b (i ∷ more) h =
    let here : class_of_block c (child_of b i) ≡ class_of_block e (child_of b i) =
    h 0 i (omega arith) in
    let rest : child_codes c b more ≡ child_codes e b more =
    same_child_codes c e b more (λ k d l. h (suc k) d (omega arith)) in
    rw (here, rest) refl

-- and the same data
pub same_data_below : (c e : Classes) (h d : ℕ) (b : Cube) → b.depth ≡ d → d + h ≡ 16 → IsBlock b
    → SameClasses c e → data_below c h b ≡ data_below e h b
unfolding data_below
same_data_below c e zero d b is all ok same = refl
same_data_below c e (suc h) d b is all ok same =
    let class : (i : ℕ) → class_of_block c (child_of b i) ≡ class_of_block e (child_of b i) =
    λ i. same_class_of_block c e (child_of b i) (child_is_block b d h i is all ok) same in
    let codes : child_codes c b child_numbers ≡ child_codes e b child_numbers =
    same_child_codes c e b child_numbers
    (all_eight (λ i. class_of_block c (child_of b i) ≡ class_of_block e (child_of b i))
    (λ i li. class i)) in
    let piece_of : Classes → ℕ → List ℕ = λ c i. data_of_child (class_of_block c (child_of b i))
    (data_below c h (child_of b i)) in
    let pieces : flat_map (piece_of c) child_numbers ≡ flat_map (piece_of e) child_numbers =
    flat_map-same (piece_of c)
    (piece_of e) child_numbers (all_eight (λ i. piece_of c i ≡ piece_of e i)
    (λ i li. rw (
      class i,
      same_data_below c e h (suc d) (child_of b i)
          (child_height b d h i is all).0 (child_height b d h i is all).1
          (child_is_block b d h i is all ok) same,
    ) refl)) in
    rw (codes, pieces) refl

-- the test tells the unknown world
pub unknown_exactly : (c : Classes) → is_unknown c ≡ true
    ↔ ((k : Voxel) → IsInMap k → c k ≡ Unknown)
unfolding is_unknown
unknown_exactly c =
    let to : is_unknown c ≡ true → (k : Voxel) → IsInMap k → c k ≡ Unknown = λ h k ok.
    is_same_class_exact (c k) Unknown
    (each_passes (λ k. is_same_class (c k) Unknown) root_block root_in_map h k
    (root_holds k ok)) in
    let from : ((k : Voxel) → IsInMap k → c k ≡ Unknown) → is_unknown c ≡ true = λ h.
    all_pass (λ k. is_same_class (c k) Unknown) root_block root_in_map
    (λ k held. ap (λ x. is_same_class x Unknown)
    (h k (held_in_map root_block k root_in_map held))) in
    (to, from)

-- the data of a block is not empty
pub data_is_some : (c : Classes) (h : ℕ) (b : Cube) → 2 ≤ length (data_below c (suc h) b)
unfolding data_below
data_is_some c h b = omega arith

-- the data of the whole map, where something is known and where nothing is
pub data_of_known : (c : Classes) → is_unknown c ≡ false → canonical_data c
    ≡ data_below c 16 root_block
unfolding canonical_data
data_of_known c h = rw h refl

pub data_of_unknown : (c : Classes) → is_unknown c ≡ true → canonical_data c ≡ []
unfolding canonical_data
data_of_unknown c h = rw h refl

-- the canonical record of the whole map
unfoldable pub root_record : Classes → Entries
root_record c = canonical_record c 16 root_block

pub root_data : (c : Classes) → is_unknown c ≡ false → canonical_data c ≡ flat (root_record c)
unfolding root_record
root_data c h = data_of_known c h ∙ data_is_flat c 15 0 root_block refl (omega arith) root_in_map

pub root_classes : (c : Classes) (k : Voxel) → IsInMap k → class_by 0 (root_record c) k ≡ c k
unfolding root_record
root_classes c k ok =
    canonical_gives c 15 0 root_block refl (omega arith) root_in_map k (root_holds k ok)

-- the same classes, the same data
pub same_data : (c e : Classes) → SameClasses c e → canonical_data c ≡ canonical_data e
same_data c e same = by_test (is_unknown c) (is_unknown e) refl refl
  where
    by_test : (x y : Bool) → is_unknown c ≡ x → is_unknown e ≡ y → canonical_data c
        ≡ canonical_data e
    by_test true true is_x is_y = data_of_unknown c is_x ∙ sym (data_of_unknown e is_y)
    by_test false false is_x is_y = data_of_known c is_x
        ∙ same_data_below c e 16 0 root_block refl (omega arith) root_in_map same
        ∙ sym (data_of_known e is_y)
    by_test true false is_x is_y =
        absurd (false≢true (sym is_y
        ∙ (unknown_exactly e).1 (λ k ok. sym (same k ok) ∙ (unknown_exactly c).0 is_x k ok)))
    by_test false true is_x is_y =
        absurd (false≢true (sym is_x
        ∙ (unknown_exactly c).1 (λ k ok. same k ok ∙ (unknown_exactly e).0 is_y k ok)))

-- the same data, the same classes
pub same_classes : (c e : Classes) → canonical_data c ≡ canonical_data e → SameClasses c e
unfolding root_record
same_classes c e texts = by_test (is_unknown c) (is_unknown e) refl refl
  where
    some_data : (c e : Classes) → canonical_data c ≡ canonical_data e → is_unknown c ≡ true
        → is_unknown e ≡ false → ⊥
    some_data c e same is_x is_y =
        (let l : length (data_below e 16 root_block) ≡ 0 =
        ap length (sym (data_of_known e is_y) ∙ sym same ∙ data_of_unknown c is_x) in
        let m : 2 ≤ length (data_below e 16 root_block) = data_is_some e 15 root_block in
        omega arith)

    by_test : (x y : Bool) → is_unknown c ≡ x → is_unknown e ≡ y → SameClasses c e
    by_test true true is_x is_y = λ k ok. (unknown_exactly c).0 is_x k ok
        ∙ sym ((unknown_exactly e).0 is_y k ok)
    by_test false false is_x is_y = (λ k ok.
        let flats : flat (root_record c) ++ [] ≡ flat (root_record e) ++ [] =
        ap (λ t. t ++ []) (sym (root_data c is_x) ∙ texts ∙ root_data e is_y) in
        let same = same_record (root_record c)
        (root_record e) 0 [] []
        (canonical_is_record c 15 0 root_block refl (omega arith) root_in_map)
        (canonical_is_record e 15 0 root_block refl (omega arith) root_in_map) flats in
        sym (root_classes c k ok) ∙ ap (λ r. class_by 0 r k) same.0 ∙ root_classes e k ok)
    by_test true false is_x is_y = absurd (some_data c e texts is_x is_y)
    by_test false true is_x is_y = absurd (some_data e c (sym texts) is_y is_x)

pub data_tells_classes : (c e : Classes) → canonical_data c ≡ canonical_data e ↔ SameClasses c e
data_tells_classes c e = (same_classes c e, same_data c e)
