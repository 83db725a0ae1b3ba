-- Blocks of one class, in words of voxels.
use Rattle.std.proofs.Common.{◌≡◌, Some}
use Rattle.oct_key.specs.Voxel.{Voxel, IsInMap}
use Rattle.oct_key.specs.Block.{Cube, IsBlock, HoldsVoxel, lowest_voxel}
use Rattle.oct_odds.specs.declared.event.Class.{Class}
use Rattle.oct_values.specs.Classes.{Classes, is_same_class, class_of_block}
use Rattle.oct_values.proofs.Alike.{same_class_equality, answer_of_all, answer_of_each}
use Rattle.oct_values.proofs.Alike.{answer_of_voxel, same_uniform_answer}

-- the class of a block whose voxels are all of this one
pub class_of_all : (classes : Classes) (b : Cube) (c : Class) → IsBlock b
    → ((k : Voxel) → HoldsVoxel b k → classes k ≡ c)
    → class_of_block classes b ≡ Some c
class_of_all classes b c = answer_of_all is_same_class classes b c same_class_equality

-- the other way
pub class_of_each : (classes : Classes) (b : Cube) (c : Class) (k : Voxel) → IsBlock b
    → class_of_block classes b ≡ Some c → HoldsVoxel b k
    → classes k ≡ c
class_of_each classes b c k = answer_of_each is_same_class classes b c k same_class_equality

-- a voxel is of one class
pub class_of_voxel : (classes : Classes) (b : Cube) → b.depth ≡ 16 → IsBlock b
    → class_of_block classes b ≡ Some (classes (lowest_voxel b))
class_of_voxel classes b = answer_of_voxel is_same_class classes b same_class_equality

-- classes that agree in the map make the same of a block
pub same_class_of_block : (c e : Classes) (b : Cube) → IsBlock b
    → ((k : Voxel) → IsInMap k → c k ≡ e k)
    → class_of_block c b ≡ class_of_block e b
same_class_of_block c e b = same_uniform_answer is_same_class c e b same_class_equality
