-- What a new chunk makes of the memory and of the entries.
use Rattle.std.proofs.Common.{◌≡◌, ℕ, zero, suc, ◌+◌, ◌<◌, ◌≤◌, ◌^◌, List, [], ◌∷◌, ◌++◌, length}
use Rattle.std.proofs.Common.{refl, sym, subst, ◌∙◌, ap, arith, None}
use Rattle.std.specs.Prelude.{slice_set, is_some}
use Rattle.std.proofs.lemmas.List.{set-append_left}
use Rattle.oct_arena.specs.Entries.{Groups, IsArena, node_of, vacant}
use Rattle.oct_arena.specs.Free.{linked_number, next, chain, without, AreOnce, IsThreaded}
use Rattle.oct_arena.proofs.Entries.{entry_grown, length_grown}
use Rattle.oct_arena.proofs.FreeLists.{entries, length_without}

chain_grown : (k h : ℕ) (m : Groups) (c : ℕ) → chain k h (m ++ vacant c) ≡ chain k h m
chain_grown zero h m c = refl
chain_grown (suc k) h m c =
    ap (λ p. h ∷ chain k p (m ++ vacant c))
    (ap (λ e. linked_number (node_of e 0)) (entry_grown m c h))
    ∙ ap (λ is. h ∷ is) (chain_grown k (next m h) m c)

without_left : (m gs : Groups) (is : List ℕ) (n : ℕ) → n ≤ length m → AreOnce is n
    → without (m ++ gs) is ≡ without m is ++ gs
without_left m gs [] n l h = refl
without_left m gs (i ∷ is) n l h =
    let within : i < length (without m is) = omega (arith, length_without m is, l, h.0) in
    ap (λ xs. slice_set xs i None) (without_left m gs is n l h.2)
    ∙ set-append_left (without m is) gs i None within

arena_grown : (m : Groups) (c : ℕ) → IsArena m → length m + c ≤ 2 ^ 31 + 1023
    → IsArena (m ++ vacant c)
arena_grown m c h room = record {
  few = (let n = length_grown m c in omega arith);
  eight = λ i g at. h.eight i g (sym (entry_grown m c i) ∙ at);
}

-- a new chunk is added
pub grown : (m : Groups) (h k n : ℕ) → IsThreaded m h k n → length m + 1024 ≤ 2 ^ 31 + 1023
    → IsThreaded (m ++ vacant 1024) h k n
    × (entries (m ++ vacant 1024) h k ≡ entries m h k ++ vacant 1024)
grown m h k n w room =
    let m2 = m ++ vacant 1024 in
    let longer = length_grown m 1024 in
    let few = w.within in
    let chained : chain k h m2 ≡ chain k h m = chain_grown k h m 1024 in (
      record {
        within = omega arith;
        full = λ i l. ap is_some (entry_grown m 1024 i) ∙ w.full i l;
        empty = λ i l. entry_grown m 1024 i ∙ w.empty i l;
        arena = arena_grown m 1024 w.arena room;
        once = subst (λ is. AreOnce is n) (sym chained) w.once;
      },
      ap (without m2) chained ∙ without_left m (vacant 1024) (chain k h m) n w.within w.once,
    )
