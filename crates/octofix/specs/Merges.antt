-- What a merge of the maps of two handles does.
use Rattle.std.specs.Prelude.{◌≡◌, ◌==◌, ℕ, ◌&&◌, nat_eq, pos, Bool, if◌then◌else◌, ⊤}
use Rattle.std.specs.Prelude.{Option, Some, None, Result, Ok, Err, OnOk, IfErr}
use Rattle.std.specs.Ordering.{int_eq}
use Rattle.oct_map.specs.Map.{Map}
use Rattle.oct_map.specs.Merges.{HasMerged, IsKeptByMerge, IsLeftByMerge, IsMergeAnswered}
use Rattle.oct_map.specs.Merges.{IsMergeRefused}
use Rattle.oct_map.specs.declared.fault.MapFault.{MapFault}
use Rattle.oct_map.specs.declared.fault.MapFault.TheVariants as fault
use Rattle.oct_merge.specs.declared.rule.Rule.{Rule}
use Rattle.oct_merge.specs.declared.rule.Rule.TheVariants.{First, Greatest, Least}
use Rattle.oct_odds.specs.Odds.{Odds}
use Rattle.octofix.specs.Codes.{answer_code, answer_details, of_map}
use Rattle.octofix.specs.HandleLends.{open_with}
use Rattle.octofix.specs.Handles.{Handle}
use Rattle.octofix.specs.declared.refusal.Refusal.{Refusal}
use Rattle.octofix.specs.declared.refusal.Refusal.TheVariants as refusal
use Rattle.octofix.specs.declared.types.Details.{Details}

-- the rule of this number
abbrev pub rule_of : ℕ → Result Rule Refusal
rule_of rule =
    if rule == 0 then Ok First else if rule == 1 then Ok Greatest else if rule == 2 then Ok Least
    else Err (refusal.BadArgument 0)

-- whether two models have the same numbers
abbrev pub are_same : Odds → Odds → Bool
are_same a b =
    int_eq a.hit b.hit && int_eq a.miss b.miss && int_eq a.min b.min && int_eq a.max b.max
    && int_eq a.thr b.thr

-- whether another map is of the same resolution and log-odds, or what isn't the same
abbrev pub alike_answer : Map → Map → Result ⊤ Refusal
alike_answer m o =
    if nat_eq o.tree.res m.tree.res then
    if are_same m.tree.odds o.tree.odds then Ok tt else Err refusal.OtherOdds
    else Err (refusal.Map (fault.OtherResolution (pos o.tree.res) (pos m.tree.res)))

-- What a merge of the map o, which p is left of, makes of a map: all that the map says of it.
pub record IsMapMerge (rule : Rule) (m o n p : Map) (done : Result ⊤ MapFault) : Type 0 where
  pub answered : IsMergeAnswered m o done
  pub merged : OnOk done (HasMerged rule m o n)
  pub refused : IfErr done (IsMergeRefused m n)
  pub wide : (count : ℕ) → done ≡ Err (fault.WideWhileTracked count) → (n ≡ m) × (p ≡ o)
  pub kept : IsKeptByMerge m o n
  pub other : IsLeftByMerge o p done

-- two maps are refused, and stay, or else they are merged
abbrev pub MergeBy : Result ⊤ Refusal → Rule → Map → Map → Map → Map → Result ⊤ Refusal → Type 0
MergeBy (Err refused) rule m o n p answer = (answer ≡ Err refused) × (n ≡ m) × (p ≡ o)
MergeBy (Ok alike) rule m o n p answer =
    (done : Result ⊤ MapFault) × IsMapMerge rule m o n p done × (answer ≡ of_map done)

-- the same by the two maps
abbrev pub IsMerge : Rule → Map → Map → Map → Map → Result ⊤ Refusal → Type 0
IsMerge rule m o = MergeBy (alike_answer m o) rule m o

-- a rule is refused, and both maps stay, or else they are merged by it
abbrev pub RuledBy : Result Rule Refusal → Map → Map → Map → Map → Result ⊤ Refusal → Type 0
RuledBy (Err refused) m o n p answer = (answer ≡ Err refused) × (n ≡ m) × (p ≡ o)
RuledBy (Ok rule) m o n p answer = IsMerge rule m o n p answer

-- one of two handles has no map, and both stay, or else each is the same but for its map, and what
-- is made of the two maps is so
abbrev pub BothFrom : Option Map → Option Map → Handle → Handle → Handle → Handle
    → (Map → Map → Map → Map → Result ⊤ Refusal → Type 0) → Result ⊤ Refusal → Type 0
BothFrom None other h g n p R answer = (n ≡ h) × (p ≡ g) × (answer ≡ Err refusal.Closed)
BothFrom (Some m) None h g n p R answer = (n ≡ h) × (p ≡ g) × (answer ≡ Err refusal.Closed)
BothFrom (Some m) (Some o) h g n p R answer =
    (u : Map) × (v : Map) × (n ≡ open_with h u) × (p ≡ open_with g v) × R m o u v answer

-- what a merge by the rule of this number makes of two handles
abbrev pub AreMerged : ℕ → Handle → Handle → Handle → Handle → Result ⊤ Refusal → Type 0
AreMerged rule h g n p answer =
    BothFrom h.slot.map g.slot.map h g n p (RuledBy (rule_of rule)) answer

-- the same, of an answer that is told by its code and its details
pub record AreMergedTold (rule : ℕ) (h g n p : Handle) (code : ℕ) (details : Details) : Type 0 where
  pub answer : Result ⊤ Refusal
  pub done : AreMerged rule h g n p answer
  pub coded : code ≡ answer_code answer
  pub detailed : details ≡ answer_details answer
