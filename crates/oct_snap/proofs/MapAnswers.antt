-- Each snapshot whose fields are read has one answer, and it is that of the reading.
use Rattle.std.proofs.Common.{◌≡◌, ℕ, zero, suc, ◌+◌, ◌↔◌, List, [], ◌∷◌, length, drop, refl}
use Rattle.std.proofs.Common.{sym, subst, ◌∙◌, ap, arith, append-nil}
use Rattle.std.specs.Prelude.{Result}
use Rattle.std.specs.Prelude.{Ok, Err}
use Rattle.oct_odds.specs.Odds.{Odds, IsSound}
use Rattle.oct_snap.specs.declared.fault.SnapFault.{SnapFault}
use Rattle.oct_snap.specs.declared.fault.SnapFault.TheVariants.{BadMagic, Truncated, TrailingBytes}
use Rattle.oct_snap.specs.declared.fault.SnapFault.TheVariants.{BadSnapshot}
use Rattle.oct_snap.specs.Nodes.{Nodes, text_of}
use Rattle.oct_snap.specs.Reading.{Found, found, read_node, Fields, Snapshot, with_nodes}
use Rattle.oct_snap.specs.Reading.{with_fields}
use Rattle.oct_snap.specs.Reading.{read_fields, read_snapshot}
use Rattle.oct_snap.specs.Refusals.{IsNodeAnswer, IsMapAnswer}
use Rattle.oct_snap.proofs.Exact.{AreSmall}
use Rattle.oct_snap.proofs.Sound.{fields_sound}
use Rattle.oct_snap.proofs.Answered.{answer_reads, read_answers}

-- ---- the bytes after the fields

-- an answer is that of the reading
map_reads : (head : Fields) (bytes : List ℕ) (answer : Result Snapshot SnapFault)
    → IsSound head.odds → IsMapAnswer head bytes answer
    → with_nodes head (read_node head.odds 16 head.start bytes) ≡ answer
map_reads head bytes (Ok s) sound (same, are, text) =
    ap (with_nodes head)
    (answer_reads head.odds 16 head.start bytes
    (Ok (found s.nodes (head.start + length (text_of s.nodes)) [])) sound
    (are, text ∙ sym (append-nil (text_of s.nodes)), refl))
    ∙ ap (λ (h : Fields). Ok (record { head = h; nodes = s.nodes })) (sym same)
map_reads head bytes (Err (Truncated place)) sound is =
    ap (with_nodes head)
    (answer_reads head.odds 16 head.start bytes (Err (Truncated place)) sound is)
map_reads head bytes (Err (BadSnapshot place)) sound is =
    ap (with_nodes head)
    (answer_reads head.odds 16 head.start bytes (Err (BadSnapshot place)) sound is)
map_reads head bytes (Err (TrailingBytes place)) sound (nodes, byte, rest, are, text, at) =
    ap (with_nodes head)
    (answer_reads head.odds 16 head.start bytes
    (Ok (found nodes (head.start + length (text_of nodes)) (byte ∷ rest))) sound
    (are, text, refl))
    ∙ ap (λ (k : ℕ). Err (TrailingBytes k)) (sym at)
map_reads head bytes (Err BadMagic) sound is = absurd is

-- and the reading's is an answer
map_answers : (head : Fields) (bytes : List ℕ) → AreSmall bytes
    → IsMapAnswer head bytes (with_nodes head (read_node head.odds 16 head.start bytes))
map_answers head bytes small =
    by (read_node head.odds 16 head.start bytes)
    (read_answers head.odds 16 head.start bytes (read_node head.odds 16 head.start bytes) small
    refl)
  where
    by_rest : (nodes : Nodes) (at : ℕ) (rest : List ℕ)
        → IsNodeAnswer head.odds 16 head.start bytes (Ok (found nodes at rest))
        → IsMapAnswer head bytes (with_nodes head (Ok (found nodes at rest)))
    by_rest nodes at [] (are, text, place) = (refl, are, text ∙ append-nil (text_of nodes))
    by_rest nodes at (byte ∷ rest) (are, text, place) = (nodes, byte, rest, are, text, place)

    by : (r : Result Found SnapFault) → IsNodeAnswer head.odds 16 head.start bytes r
        → IsMapAnswer head bytes (with_nodes head r)
    by (Ok f) is = by_rest f.nodes f.at f.rest is
    by (Err (Truncated place)) is = is
    by (Err (BadSnapshot place)) is = is
    by (Err (TrailingBytes place)) is = absurd is
    by (Err BadMagic) is = absurd is

-- ---- a snapshot

drop_small : (n : ℕ) (xs : List ℕ) → AreSmall xs → AreSmall (drop n xs)
drop_small zero xs small = small
drop_small (suc n) [] small = small
drop_small (suc n) (x ∷ xs) small =
    drop_small n xs (λ k d l. small (suc k) d (omega (arith, l)))

pub fields_refused : (o : Odds) (file : List ℕ) (fault : SnapFault) → read_fields o file ≡ Err fault
    → read_snapshot o file ≡ Err fault
unfolding read_snapshot
fields_refused o file fault is = ap (with_fields file) is

pub snapshot_answered : (o : Odds) (file : List ℕ) (head : Fields)
    (answer : Result Snapshot SnapFault) → IsSound o → AreSmall file → read_fields o file ≡ Ok head
    → read_snapshot o file ≡ answer ↔ IsMapAnswer head (drop head.start file) answer
unfolding read_snapshot
snapshot_answered o file head answer sound small is =
    let bytes : List ℕ = drop head.start file in
    let there : read_snapshot o file ≡ with_nodes head (read_node head.odds 16 head.start bytes) =
    ap (with_fields file) is in (
      λ e. subst (IsMapAnswer head bytes) (sym there ∙ e)
          (map_answers head bytes (drop_small head.start file small)),
      λ s. there ∙ map_reads head bytes answer (fields_sound o file head sound small is).odds s,
    )
