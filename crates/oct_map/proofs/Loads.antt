-- What a load leaves of a map.
use Rattle.std.proofs.Common.{◌≡◌, ℕ, ◌+◌, ◌≤◌, [], length, true, false, None, Ok, refl, sym, ◌∙◌}
use Rattle.std.proofs.Common.{ap, arith}
use Rattle.std.specs.Prelude.{max, nat_eq, nat_lt}
use Rattle.std.proofs.Math.Nat.{max-eq_right}
use Rattle.std.proofs.lemmas.Bool.{eq-eqb, le-ltb}
use Rattle.oct_key.specs.Voxel.{Voxel, IsInMap}
use Rattle.oct_odds.specs.Odds.{Odds}
use Rattle.oct_arena.specs.Entries.{live, spare}
use Rattle.oct_arena.proofs.Entries.{live_spare}
use Rattle.oct_tree.specs.Tree.{Tree, value_at}
use Rattle.oct_tree.specs.Shape.{IsPruned}
use Rattle.oct_tree.specs.Changes.{IsGrown}
use Rattle.oct_values.specs.Classes.{Classes}
use Rattle.oct_bt.specs.Classes.{value_for}
use Rattle.oct_bt.specs.DataClasses.{data_classes}
use Rattle.oct_bt.specs.File.{FileRead}
use Rattle.oct_bt.specs.NodeData.{IsAccepted, IsDataOf}
use Rattle.oct_bt.specs.Records.{record_total}
use Rattle.oct_bt.proofs.DataClassed.{data_classed}
use Rattle.oct_map.specs.Map.{Map}
use Rattle.oct_map.specs.Ground.{Ground}
use Rattle.oct_map.specs.Loads.{IsMapLoaded, load_answer}

-- what filling a new tree leaves, which room was made in before
pub loaded_right : (m : Map) (file : FileRead) (s t u : Tree) → s.groups ≡ []
    → s.odds ≡ m.tree.odds → IsGrown s t
    → spare t.groups ≤ max (spare s.groups) (record_total file.codes + 1023)
    → (record_total file.codes ≤ spare s.groups → t ≡ s) → IsAccepted file.nodes file.codes
    → ((classes : Classes) → IsDataOf classes file.codes → (k : Voxel) → IsInMap k
    → value_at u k ≡ value_for t.odds (classes k))
    → IsPruned u → live u.groups ≤ record_total file.codes
    → live u.groups + spare u.groups ≡ spare t.groups
    → IsMapLoaded m (record m { tree = u; is_stale = false; mark = None }) file.codes
loaded_right m file s t u empty odds grown few enough accepted values pruned groups room = record {
  values = λ k v. sym (values (data_classes file.codes)
      (data_classed file.nodes file.codes accepted) k v
      ∙ ap (λ (o : Odds). value_for o (data_classes file.codes k)) (grown.odds ∙ odds));
  stale = refl;
  mark = refl;
  pruned = pruned;
  groups = groups;
  reserved = (let most : max (spare s.groups) (record_total file.codes + 1023)
      ≡ record_total file.codes + 1023 =
      max-eq_right (omega (arith, none)) in omega (arith, few, most, room));
  unreserved = λ no_records. (let same : spare t.groups ≡ spare s.groups =
      ap (λ (t : Tree). spare t.groups) (enough (omega (arith, no_records))) in
      omega (arith, same, none, room));
}
  where
    none : spare s.groups ≡ 0
    none = (let all = live_spare s.groups in let no_entries = ap length empty in
        omega (arith, all, no_entries))

-- a file of the map's resolution with no more records than the map may have groups is accepted
pub load_fits : (g : Ground) (res records : ℕ) → res ≡ g.res → records ≤ g.max_groups
    → load_answer g res records ≡ Ok tt
load_fits g res records same fits =
    let one : nat_eq res g.res ≡ true = eq-eqb res g.res same in
    let room : nat_lt g.max_groups records ≡ false = le-ltb g.max_groups records fits in
    rw (one, room) refl
