-- Node data gives the voxels the classes of the record whose text it is.
use Rattle.std.proofs.Common.{◌≡◌, ℕ, zero, suc, ◌+◌, List, [], ◌++◌, refl, sym, ◌∙◌, ap, arith}
use Rattle.std.proofs.Common.{append-nil, inl, inr}
use Rattle.oct_odds.specs.declared.event.Class.TheVariants.{Unknown, Free, Occupied}
use Rattle.oct_bt.specs.Records.{Entries, End, Plain, Record, AreEntries, IsRecord, bodies_of, flat}
use Rattle.oct_bt.specs.NodeData.{IsAccepted, IsDataOf}
use Rattle.oct_bt.specs.DataClasses.{Split, split_entries, split_record, data_classes}
use Rattle.oct_bt.proofs.Codes.{code_list, codes_of_record}
use Rattle.oct_bt.proofs.Texts.{behind_record}

-- these entries, and this text after them
abbrev into : Entries → List ℕ → Split
into es rest = record { entries = es; rest = rest }

-- the text of entries is split into them, where each record's is
entries_split : (es : Entries) (d n depths : ℕ) (rest : List ℕ) → d + suc depths ≡ 16
    → AreEntries d n es
    → split_entries (split_record depths) (code_list es) (bodies_of es ++ rest) ≡ into es rest
unfolding code_list bodies_of split_entries split_record
entries_split End d zero depths rest high h = refl
entries_split End d (suc n) depths rest high h = absurd h
entries_split (Plain c es) d zero depths rest high h = absurd h
entries_split (Plain Unknown es) d (suc n) depths rest high h =
    rw (entries_split es d n depths rest high h) refl
entries_split (Plain Free es) d (suc n) depths rest high h =
    rw (entries_split es d n depths rest high h) refl
entries_split (Plain Occupied es) d (suc n) depths rest high h =
    rw (entries_split es d n depths rest high h) refl
entries_split (Record r es) d zero depths rest high h = absurd h
entries_split (Record r es) d (suc n) zero rest high (low, inner, h) =
    absurd (omega (arith, high, low))
entries_split (Record r es) d (suc n) (suc depths) rest high (low, inner, h) =
    let first : split_record (suc depths) (bodies_of (Record r es) ++ rest)
    ≡ into r (bodies_of es ++ rest) =
    ap (split_record (suc depths)) (behind_record r es rest)
    ∙ ap (λ codes. split_entries (split_record depths) codes
    (bodies_of r ++ (bodies_of es ++ rest))) (codes_of_record r (suc d) inner)
    ∙ entries_split r (suc d) 8 depths (bodies_of es ++ rest) (omega (arith, high)) inner in
    rw (first, entries_split es d n (suc depths) rest high h) refl

-- the text of a record is split into it
pub record_split : (r : Entries) → IsRecord 0 r → split_record 16 (flat r) ≡ into r []
unfolding split_record
record_split r h =
    ap (λ codes. split_entries (split_record 15) codes (bodies_of r)) (codes_of_record r 0 h)
    ∙ ap (split_entries (split_record 15) (code_list r)) (sym (append-nil (bodies_of r)))
    ∙ entries_split r 0 8 15 [] (omega arith) h

-- node data that is accepted stands for its classes
pub data_classed : (size : ℕ) (bytes : List ℕ) → IsAccepted size bytes
    → IsDataOf (data_classes bytes) bytes
unfolding data_classes
data_classed size bytes (inl (none, empty)) = inl (empty, λ k in_map. rw empty refl)
data_classed size bytes (inr (r, is, text, count)) =
    inr (r, is, text, λ k in_map. rw (text, record_split r is) refl)
