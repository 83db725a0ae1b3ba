-- Blocks of one class and their children, and the codes of eight equal leaves.
use Rattle.std.proofs.Common.{◌≡◌, ℕ, zero, suc, ◌+◌, ◌*◌, ◌<◌, Option, Some, None, arith}
use Rattle.oct_key.specs.Block.{Cube, IsBlock, child_of, child_index_of}
use Rattle.oct_key.proofs.Blocks.{child_in_map, child_index_below}
use Rattle.oct_key.proofs.Held.{held_by_parent, held_by_child}
use Rattle.oct_odds.specs.declared.event.Class.{Class}
use Rattle.oct_odds.specs.declared.event.Class.TheVariants.{Unknown, Free, Occupied}
use Rattle.oct_values.specs.Classes.{Classes, class_of_block}
use Rattle.oct_bt.specs.Canonical.{block_code}
use Rattle.oct_bt.proofs.Alike.{class_of_all, class_of_each}

-- a block of one class, and its children
pub one_class_down : (c : Classes) (b : Cube) (i : ℕ) (x : Class) → IsBlock b → b.depth < 16 → i < 8
    → class_of_block c b ≡ Some x
    → class_of_block c (child_of b i) ≡ Some x
one_class_down c b i x ok low li is =
    class_of_all c (child_of b i) x (child_in_map b i ok low)
    (λ k held. class_of_each c b x k ok is (held_by_parent b i k low li held))

pub one_class_up : (c : Classes) (b : Cube) (x : Class) → IsBlock b → b.depth < 16
    → ((i : ℕ) → i < 8 → class_of_block c (child_of b i) ≡ Some x)
    → class_of_block c b ≡ Some x
one_class_up c b x ok low h =
    class_of_all c b x ok
    (λ k held. class_of_each c (child_of b (child_index_of b.depth k)) x k
    (child_in_map b (child_index_of b.depth k) ok low)
    (h (child_index_of b.depth k) (child_index_below b.depth k)) (held_by_child b k low held))

pub block_code_below : (o : Option Class) → block_code o < 4
block_code_below None = omega arith
block_code_below (Some Unknown) = omega arith
block_code_below (Some Free) = omega arith
block_code_below (Some Occupied) = omega arith

-- eight codes of one class
unfoldable pub repeated : ℕ → ℕ → ℕ
repeated code zero = 0
repeated code (suc n) = code + 4 * repeated code n
