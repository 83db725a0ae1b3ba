-- A node in eight bytes, the number bits: the value in the lower four, the link in the upper four.
use Rattle.std.specs.Prelude.{◌≡◌, ℕ, ◌<◌, ◌≤◌, ◌+◌, ◌*◌, ◌/◌, ◌%◌, ◌^◌, ℤ, ◌==◌, if◌then◌else◌}
use Rattle.std.specs.Prelude.{◌⊎◌}
use Rattle.std.specs.Int.{cast_signed, cast_unsigned}
use Rattle.std.proofs.Common.{arith, ap, ◌∙◌, inl, inr, refl, w32}
use Rattle.std.proofs.lemmas.Bool.{cases_lt}
use Rattle.std.proofs.lemmas.Int.{of_z-to_z}
use Rattle.oct_arena.specs.declared.node.Node.{Node}
use Rattle.oct_arena.specs.declared.node.Node.TheVariants.{Absent, Leaf, Inner}
use Rattle.oct_arena.specs.declared.node.PackedNode.TheInside.{Inside}

-- the link that stands for a leaf
abbrev pub leaf_link : ℕ
leaf_link = 4294967294

-- the link that stands for an absent node
abbrev pub absent_link : ℕ
absent_link = 4294967295

-- the bits of an absent node, whose value is the least
abbrev pub absent_bits : ℕ
absent_bits = 2 ^ 32 * absent_link + 2 ^ 31

-- the node of a link and a value: inner where the link is the number of a group
abbrev pub linked : (link : ℕ) → (link < 2 ^ 31 + 1023) ⊎ (2 ^ 31 + 1023 ≤ link) → ℤ → Node
linked link (inl small) value = Inner value (record { number = link; small = small })
linked link (inr large) value = if link == leaf_link then Leaf value else Absent

-- the node that the bits stand for
abbrev pub node_of_bits : ℕ → Node
node_of_bits bits =
    linked (bits / 2 ^ 32) (cases_lt (bits / 2 ^ 32) (2 ^ 31 + 1023))
    (cast_signed w32 (bits % 2 ^ 32))

-- the bits of a node
abbrev pub bits_of : Node → ℕ
bits_of Absent = absent_bits
bits_of (Leaf value) = 2 ^ 32 * leaf_link + cast_unsigned w32 value
bits_of (Inner value id) = 2 ^ 32 * id.number + cast_unsigned w32 value

-- the link is a group's number, or stands for a leaf, or all bits are those of an absent node
abbrev pub IsPacked : ℕ → Type 0
IsPacked bits = ((bits / 2 ^ 32 < 2 ^ 31 + 1023) ⊎ (bits / 2 ^ 32 ≡ leaf_link))
    ⊎ (bits ≡ absent_bits)

bits_of_linked : (link low : ℕ) (c : (link < 2 ^ 31 + 1023) ⊎ (2 ^ 31 + 1023 ≤ link)) → low < 2 ^ 32
    → ((link < 2 ^ 31 + 1023) ⊎ (link ≡ leaf_link)) ⊎ ((link ≡ absent_link) × (low ≡ 2 ^ 31))
    → bits_of (linked link c (cast_signed w32 low)) ≡ 2 ^ 32 * link + low
bits_of_linked link low (inl small) l h = ap (λ n. 2 ^ 32 * link + n) (of_z-to_z w32 low l)
bits_of_linked link low (inr large) l (inl (inl small)) = absurd (omega arith)
bits_of_linked link low (inr large) l (inl (inr leaf)) =
    let e = of_z-to_z w32 low l in rw (leaf) (ap (λ n. 2 ^ 32 * leaf_link + n) e)
bits_of_linked link low (inr large) l (inr absent) = rw (absent.0, absent.1) refl

-- packing gives back the bits
pub packed-unpacked : (p : Inside) → IsPacked p.bits
    → record { bits = bits_of (node_of_bits p.bits) } ≡ p
packed-unpacked p h =
    let whole : 2 ^ 32 * (p.bits / 2 ^ 32) + p.bits % 2 ^ 32 ≡ p.bits = omega arith in
    let parts : ((p.bits / 2 ^ 32 < 2 ^ 31 + 1023) ⊎ (p.bits / 2 ^ 32 ≡ leaf_link))
    ⊎ ((p.bits / 2 ^ 32 ≡ absent_link) × (p.bits % 2 ^ 32 ≡ 2 ^ 31)) = elim h [
      | inl some ↦ inl some
      | inr absent ↦ inr (omega arith, omega arith)
    ] in
    let same : bits_of (node_of_bits p.bits) ≡ p.bits =
    bits_of_linked (p.bits / 2 ^ 32) (p.bits % 2 ^ 32)
    (cases_lt (p.bits / 2 ^ 32) (2 ^ 31 + 1023)) (omega arith) parts ∙ whole in
    λ i. record { bits = same i }
