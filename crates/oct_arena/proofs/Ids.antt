-- Ids and their numbers.
use Rattle.std.specs.Prelude.{◌≡◌, ℕ, ◌<◌, ◌+◌, ◌^◌}
use Rattle.std.proofs.Common.{subst, ap}
use Rattle.std.proofs.Math.Bridge.{le_prop}
use Rattle.oct_arena.specs.declared.node.GroupId.{GroupId}

-- two ids of one number are one
pub same_ids : (a b : GroupId) → a.number ≡ b.number → a ≡ b
same_ids a b e = with_bound b.number e b.small
  where
    with_bound : (n : ℕ) → a.number ≡ n → (small : n < 2 ^ 31 + 1023)
        → a ≡ record { number = n; small = small }
    with_bound n h =
        subst (λ (m : ℕ). (small : m < 2 ^ 31 + 1023)
        → ◌≡◌ {A = GroupId} a (record { number = m; small = small }))
        h
        (λ small. ap (λ (q : a.number < 2 ^ 31 + 1023). record { number = a.number; small = q })
        (le_prop a.small small))
