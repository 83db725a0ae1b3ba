-- The class of a merged value.
use Rattle.std.proofs.Common.{◌≡◌, refl}
use Rattle.oct_merge.specs.declared.rule.Rule.{Rule}
use Rattle.oct_merge.specs.declared.rule.Rule.TheVariants.{Greatest, Least, First}
use Rattle.oct_merge.specs.Merged.{merged}
use Rattle.oct_odds.specs.Odds.{default_odds}
use Rattle.oct_odds.specs.Update.{class_of}
use Rattle.oct_odds.specs.declared.event.Class.{Class}
use Rattle.oct_odds.specs.declared.event.Class.TheVariants.{Unknown, Free, Occupied}
use Rattle.oct_bt.specs.Classes.{value_for}
use Rattle.oct_join.specs.Merged.{merged_class}

-- the merged class is that of the merged value
pub class_merged : (rule : Rule) (a b : Class)
    → class_of default_odds (merged rule (value_for default_odds a) (value_for default_odds b))
    ≡ merged_class rule a b
class_merged rule Unknown Unknown = refl
class_merged rule Unknown Free = refl
class_merged rule Unknown Occupied = refl
class_merged rule Free Unknown = refl
class_merged rule Occupied Unknown = refl
class_merged Greatest Free Free = refl
class_merged Greatest Free Occupied = refl
class_merged Greatest Occupied Free = refl
class_merged Greatest Occupied Occupied = refl
class_merged Least Free Free = refl
class_merged Least Free Occupied = refl
class_merged Least Occupied Free = refl
class_merged Least Occupied Occupied = refl
class_merged First Free Free = refl
class_merged First Free Occupied = refl
class_merged First Occupied Free = refl
class_merged First Occupied Occupied = refl
