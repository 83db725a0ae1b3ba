-- Packing and unpacking undo each other.
use Rattle.std.proofs.Common.{◌≡◌, ℕ, ◌+◌, ◌/◌, ◌%◌, ◌^◌, ◌<◌, ◌≤◌, ◌⊎◌, ℤ, refl, sym, ◌∙◌, ap}
use Rattle.std.proofs.Common.{arith, inl, inr, w32, List, [], ◌∷◌, length, get_or}
use Rattle.std.specs.Int.{cast_signed}
use Rattle.std.proofs.lemmas.Bool.{cases_lt}
use Rattle.oct_arena.specs.declared.node.Node.{Node}
use Rattle.oct_arena.specs.declared.node.Node.TheVariants.{Inner}
use Rattle.oct_arena.specs.declared.node.GroupId.{GroupId}
use Rattle.oct_arena.proofs.Ids.{same_ids}
use Rattle.oct_arena.specs.declared.node.PackedNode.TheInside.{Inside}
use Rattle.oct_arena.specs.Packing.{linked, node_of_bits, bits_of, IsPacked}
use Rattle.oct_arena.specs.Packing.{packed-unpacked}

linked_inner : (id : GroupId) (c : (id.number < 2 ^ 31 + 1023) ⊎ (2 ^ 31 + 1023 ≤ id.number))
    (v : ℤ)
    → linked id.number c v ≡ Inner v id
linked_inner id (inl small) v =
    ap (λ i. Inner v i) (same_ids (record { number = id.number; small = small }) id refl)
linked_inner id (inr large) v = absurd (let small = id.small in omega arith)

parts : (bits link : ℕ) (v : ℤ) → bits / 2 ^ 32 ≡ link → v ≡ cast_signed w32 (bits % 2 ^ 32)
    → node_of_bits bits ≡ linked link (cases_lt link (2 ^ 31 + 1023)) v
parts bits link v e f = λ i. linked (e i) (cases_lt (e i) (2 ^ 31 + 1023)) (sym f i)

pub is_inner : (bits : ℕ) (id : GroupId) (v : ℤ) → bits / 2 ^ 32 ≡ id.number
    → v ≡ cast_signed w32 (bits % 2 ^ 32) → node_of_bits bits ≡ Inner v id
is_inner bits id v e f =
    parts bits id.number v e f ∙ linked_inner id (cases_lt id.number (2 ^ 31 + 1023)) v

-- one node has one pattern of bits
pub same_bits : (p q : Inside) → IsPacked p.bits → IsPacked q.bits
    → node_of_bits p.bits ≡ node_of_bits q.bits → p.bits ≡ q.bits
same_bits p q hp hq e =
    ap (λ (i : Inside). i.bits) (sym (packed-unpacked p hp)) ∙ ap bits_of e
    ∙ ap (λ (i : Inside). i.bits) (packed-unpacked q hq)

-- eight reads of a list of eight are the list
pub eight : (xs : List Node) → length xs ≡ 8 → (a b c d e f g h : Node) → a ≡ get_or xs 0 a
    → b ≡ get_or xs 1 b → c ≡ get_or xs 2 c → d ≡ get_or xs 3 d → e ≡ get_or xs 4 e
    → f ≡ get_or xs 5 f
    → g ≡ get_or xs 6 g → h ≡ get_or xs 7 h → a ∷ b ∷ c ∷ d ∷ e ∷ f ∷ g ∷ h ∷ [] ≡ xs
eight (x0 ∷ x1 ∷ x2 ∷ x3 ∷ x4 ∷ x5 ∷ x6 ∷ x7 ∷ []) n a b c d e f g h p0 p1 p2 p3 p4 p5 p6 p7 = cc
eight _ n a b c d e f g h p0 p1 p2 p3 p4 p5 p6 p7 = absurd (omega arith)

pub read : (xs : List Node) (k : ℕ) (i o : Node) → i ≡ get_or xs k i → o ≡ get_or xs k i
    → o ≡ get_or xs k o
read xs k i o e f = f ∙ ap (λ d. get_or xs k d) (e ∙ sym f)
