-- What node data stands for.
use Rattle.std.proofs.Common.{◌≡◌, ℕ, ◌≤◌, inl, inr, Bool, true, false, Ok, List, [], ◌++◌, length}
use Rattle.std.proofs.Common.{refl, sym, ◌∙◌, ap, arith}
use Rattle.oct_key.specs.Block.{root_block}
use Rattle.oct_key.proofs.Blocks.{root_in_map}
use Rattle.oct_values.specs.Classes.{Classes}
use Rattle.oct_bt.specs.Records.{Entries, flat, class_by}
use Rattle.oct_bt.specs.Canonical.{is_unknown, canonical_data, canonical_size, node_total}
use Rattle.oct_bt.specs.NodeData.{IsAccepted, IsDataOf, read_nodes}
use Rattle.oct_bt.proofs.Texts.{same_record}
use Rattle.oct_bt.proofs.Canonicals.{canonical_is_record}
use Rattle.oct_bt.proofs.Injective.{SameClasses, root_record, root_data, root_classes}
use Rattle.oct_bt.proofs.Injective.{unknown_exactly, data_of_unknown}
use Rattle.oct_bt.proofs.Least.{least_data, length_of_flat}
use Rattle.oct_bt.proofs.Codes.{total_of_flat}
use Rattle.oct_bt.proofs.Walks.{accepts}

-- the text of a record isn't empty
some_text : (r : Entries) → flat r ≡ [] → ⊥
some_text r e =
    (let l : length (flat r) ≡ 0 = ap length e in let m = length_of_flat r in omega arith)

-- node data stands for one classification
pub one_meaning : (c e : Classes) (bytes : List ℕ) → IsDataOf c bytes → IsDataOf e bytes
    → SameClasses c e
one_meaning c e bytes (inl (empty, all)) (inl (empty', all')) = λ k ok. all k ok ∙ sym (all' k ok)
one_meaning c e bytes (inl (empty, all)) (inr (q, is_q, text', gives')) =
    absurd (some_text q (sym text' ∙ empty))
one_meaning c e bytes (inr (r, is, text, gives)) (inl (empty', all')) =
    absurd (some_text r (sym text ∙ empty'))
one_meaning c e bytes (inr (r, is, text, gives)) (inr (q, is_q, text', gives')) =
    let same = same_record r q 0 [] [] is is_q (ap (λ t. t ++ []) (sym text ∙ text')) in
    λ k ok. sym (gives k ok) ∙ ap (λ r. class_by 0 r k) same.0 ∙ gives' k ok

-- and isn't shorter than the canonical data
pub least_of_all : (c : Classes) (bytes : List ℕ) → IsDataOf c bytes
    → (length (canonical_data c) ≤ length bytes)
    × (length bytes ≡ length (canonical_data c) → bytes ≡ canonical_data c)
least_of_all c bytes (inl (empty, all)) =
    let same : bytes ≡ canonical_data c =
    empty ∙ sym (data_of_unknown c ((unknown_exactly c).1 all)) in
    let long : length bytes ≡ length (canonical_data c) = ap length same in
    (omega arith, λ l. same)
least_of_all c bytes (inr (r, is, text, gives)) =
    let (shortest, only) = least_data c r is gives in
    let long : length bytes ≡ length (flat r) = ap length text in
    (omega (arith, shortest, long), λ l. text ∙ only (sym long ∙ l))

-- the canonical data stands for its classes
pub canonical_stands : (c : Classes) → IsDataOf c (canonical_data c)
unfolding root_record
canonical_stands c = by_test (is_unknown c) refl
  where
    by_test : (unknown : Bool) → is_unknown c ≡ unknown → IsDataOf c (canonical_data c)
    by_test true e = inl (data_of_unknown c e, (unknown_exactly c).0 e)
    by_test false e =
        inr (
          root_record c,
          canonical_is_record c 15 0 root_block refl (omega arith) root_in_map,
          root_data c e,
          root_classes c,
        )

-- and is accepted
pub canonical_accepted : (c : Classes) → IsAccepted (canonical_size c) (canonical_data c)
unfolding root_record canonical_size
canonical_accepted c = by_test (is_unknown c) refl
  where
    by_test : (unknown : Bool) → is_unknown c ≡ unknown → IsAccepted (canonical_size c)
        (canonical_data c)
    by_test true e = inl (ap node_total (data_of_unknown c e), data_of_unknown c e)
    by_test false e =
        (let is = canonical_is_record c 15 0 root_block refl (omega arith) root_in_map in
        inr (
          root_record c,
          is,
          root_data c e,
          ap node_total (root_data c e)
              ∙ total_of_flat (root_record c) 0 is,
        ))

pub canonical_reads : (c : Classes) (start : ℕ) → read_nodes start (canonical_size c)
    (canonical_data c) ≡ Ok (canonical_data c)
canonical_reads c start = accepts start (canonical_size c) (canonical_data c) (canonical_accepted c)
