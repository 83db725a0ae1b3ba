-- What a restore answers, and what it leaves of a map.
use Rattle.std.proofs.Common.{◌≡◌, ℕ, ◌+◌, ◌<◌, ◌≤◌, List, [], length, true, false, None, Ok, Err}
use Rattle.std.proofs.Common.{refl, sym, ◌∙◌, ap, subst, arith, cond}
use Rattle.std.specs.Prelude.{Bool, not, Option, Result, max, pos, nat_eq, nat_lt}
use Rattle.std.proofs.Math.Nat.{max-eq_right}
use Rattle.std.proofs.lemmas.Bool.{false≢true, eq-eqb, le-ltb, lt-ltb}
use Rattle.oct_key.specs.Boxes.{Window}
use Rattle.oct_key.specs.Values.{SameValues}
use Rattle.oct_odds.specs.Odds.{Odds, odds_of}
use Rattle.oct_arena.specs.Entries.{live, spare}
use Rattle.oct_arena.proofs.Entries.{live_spare}
use Rattle.oct_tree.specs.Tree.{Tree, value_at}
use Rattle.oct_tree.specs.Shape.{IsPruned}
use Rattle.oct_tree.specs.Changes.{IsGrown}
use Rattle.oct_snap.specs.declared.fault.SnapFault.{SnapFault}
use Rattle.oct_snap.specs.declared.info.SnapInfo.{SnapInfo}
use Rattle.oct_snap.specs.Nodes.{group_total}
use Rattle.oct_snap.specs.Reading.{Snapshot, read_snapshot}
use Rattle.oct_snap.specs.Reading as snapshot
use Rattle.oct_snap.specs.Checked.{IsInfo, IsChecked}
use Rattle.oct_snap.proofs.Again.{read_again}
use Rattle.oct_snap.proofs.WholeFills.{same_snapshot}
use Rattle.oct_map.specs.declared.fault.MapFault.{MapFault}
use Rattle.oct_map.specs.declared.fault.MapFault.TheVariants.{OtherResolution, Full}
use Rattle.oct_map.specs.Ground.{Ground}
use Rattle.oct_map.specs.Map.{Map}
use Rattle.oct_map.specs.Restores.{restored_room, restore_answer, box_after, IsMapRestored}

-- ---- the answer

abbrev Answer : Type 0
Answer = Result ℕ MapFault

-- the snapshot that was checked
pub info_of : (r : Result Snapshot SnapFault) (info : SnapInfo) → IsChecked r (Ok info)
    → (s : Snapshot) × (r ≡ Ok s) × IsInfo s info
info_of (Ok s) info is = (s, refl, is)
info_of (Err e) info is = absurd is

answer_by : (g : Ground) (r : Result Snapshot SnapFault) (info : SnapInfo) (same over : Bool)
    → IsChecked r (Ok info)
    → nat_eq info.res g.res ≡ same → nat_lt g.max_groups info.groups ≡ over
    → restore_answer g r ≡ cond {A = Answer} same
    (cond {A = Answer} over (Err (Full 0 info.groups)) (Ok info.groups))
    (Err (OtherResolution (pos info.res) (pos g.res)))
answer_by g r info same over is res room =
    let (s, ok, i) = info_of r info is in
    ap (restore_answer g) ok
    ∙ ap (λ (n : ℕ). cond {A = Answer} (nat_eq n g.res)
    (restored_room g.max_groups (group_total s.nodes)) (Err (OtherResolution (pos n) (pos g.res))))
    (sym i.res)
    ∙ ap (λ (n : ℕ). cond {A = Answer} (nat_eq info.res g.res) (restored_room g.max_groups n)
    (Err (OtherResolution (pos info.res) (pos g.res)))) (sym i.groups)
    ∙ ap (λ (b : Bool). cond {A = Answer} b (restored_room g.max_groups info.groups)
    (Err (OtherResolution (pos info.res) (pos g.res)))) res
    ∙ ap (λ (b : Bool). cond {A = Answer} same
    (cond {A = Answer} b (Err (Full 0 info.groups)) (Ok info.groups))
    (Err (OtherResolution (pos info.res) (pos g.res)))) room

pub other_answered : (g : Ground) (r : Result Snapshot SnapFault) (info : SnapInfo)
    → IsChecked r (Ok info) → (info.res ≡ g.res → ⊥)
    → restore_answer g r ≡ Err (OtherResolution (pos info.res) (pos g.res))
other_answered g r info is other =
    answer_by g r info false (nat_lt g.max_groups info.groups) is (grind (arith, other)) refl

pub full_answered : (g : Ground) (r : Result Snapshot SnapFault) (info : SnapInfo)
    → IsChecked r (Ok info) → info.res ≡ g.res
    → g.max_groups < info.groups → restore_answer g r ≡ Err (Full 0 info.groups)
full_answered g r info is same over =
    answer_by g r info true true is (eq-eqb info.res g.res same)
    (lt-ltb g.max_groups info.groups over)

pub groups_answered : (g : Ground) (r : Result Snapshot SnapFault) (info : SnapInfo)
    → IsChecked r (Ok info) → info.res ≡ g.res
    → info.groups ≤ g.max_groups → restore_answer g r ≡ Ok info.groups
groups_answered g r info is same fits =
    answer_by g r info true false is (eq-eqb info.res g.res same)
    (le-ltb g.max_groups info.groups fits)

pub are_other : (test : Bool) (a b c : ℕ) → test ≡ not (nat_eq a b) → test ≡ true → b ≡ c → a ≡ c
    → ⊥
are_other test a b c is true_is same other =
    (let equal : nat_eq a b ≡ true = eq-eqb a b (other ∙ sym same) in
    false≢true (sym (ap not equal) ∙ sym is ∙ true_is))

-- some group is needed
groups_in : Answer → ℕ
groups_in (Ok n) = n
groups_in (Err e) = 0

pub not_none : (g : Ground) (r : Result Snapshot SnapFault) (info : SnapInfo)
    → restore_answer g r ≡ Ok info.groups → 0 < info.groups
    → restore_answer g r ≡ Ok 0 → ⊥
unfolding groups_in
not_none g r info is some none =
    (let same : info.groups ≡ 0 = ap groups_in (sym is ∙ none) in omega (arith, same, some))

-- ---- the new map

-- what filling needs
pub record IsFillable (t : Tree) (bytes : List ℕ) (s : Snapshot) : Type 0 where
  pub read : read_snapshot t.odds bytes ≡ Ok s
  pub odds : s.head.odds ≡ t.odds
  pub room : group_total s.nodes ≤ spare t.groups

pub fillable : (o : Odds) (t : Tree) (bytes : List ℕ) (s : Snapshot) (info : SnapInfo)
    → read_snapshot o bytes ≡ Ok s → IsInfo s info
    → t.odds ≡ odds_of info.odds → info.groups ≤ spare t.groups → IsFillable t bytes s
fillable o t bytes s info is i same room =
    let odds : s.head.odds ≡ t.odds = sym i.odds ∙ sym same in
    let groups = i.groups in
    record {
      read = ap (λ (p : Odds). read_snapshot p bytes) (sym odds) ∙ read_again o bytes s is;
      odds = odds;
      room = omega (arith, groups, room);
    }

-- the snapshot that is read is the one that was checked
pub info_is : (r : Result Snapshot SnapFault) (s : Snapshot) (info : SnapInfo)
    → IsChecked r (Ok info) → r ≡ Ok s → IsInfo s info
info_is r s info is read =
    (let (q, ok, i) = info_of r info is in
    subst (λ (s : Snapshot). IsInfo s info) (same_snapshot q s (sym ok ∙ read)) i)

pub restored_right : (m n : Map) (s : Snapshot) (info : SnapInfo) (a t u : Tree) → IsInfo s info
    → a.groups ≡ [] → a.odds ≡ odds_of info.odds
    → a.res ≡ m.tree.res → IsGrown a t → spare t.groups ≤ max (spare a.groups) (info.groups + 1023)
    → (info.groups ≤ spare a.groups → t ≡ a)
    → SameValues (snapshot.values_of s) (value_at u) → IsPruned u
    → live u.groups ≡ group_total s.nodes
    → live u.groups + spare u.groups ≡ spare t.groups → u.odds ≡ t.odds → u.res ≡ t.res
    → n.tree ≡ u → n.is_stale ≡ false → n.mark ≡ None
    → n.update_box ≡ box_after m.update_box info.version info.window
    → n.max_groups ≡ m.max_groups → n.max_cells ≡ m.max_cells
    → IsMapRestored m n s
restored_right m n s info a t u i empty odds res grown few enough values pruned groups room
    same_odds same_res tree stale mark box most cells = record {
      values = subst (λ (t : Tree). SameValues (snapshot.values_of s) (value_at t)) (sym tree)
          values;
      stale = stale;
      mark = mark;
      pruned = subst IsPruned (sym tree) pruned;
      groups = ap (λ (t : Tree). live t.groups) tree ∙ groups;
      reserved = (let most : max (spare a.groups) (info.groups + 1023)
          ≡ info.groups + 1023 = max-eq_right (omega (arith, none)) in
          let total = i.groups in
          let here : live n.tree.groups + spare n.tree.groups ≡ live u.groups + spare u.groups =
          ap (λ (t : Tree). live t.groups + spare t.groups) tree in
          omega (arith, few, most, room, total, here));
      unreserved = λ no_groups. (let total = i.groups in
          let same : spare t.groups ≡ spare a.groups =
          ap (λ (t : Tree). spare t.groups) (enough (omega (arith, no_groups, total))) in
          let here : live n.tree.groups + spare n.tree.groups ≡ live u.groups + spare u.groups =
          ap (λ (t : Tree). live t.groups + spare t.groups) tree in
          omega (arith, same, none, room, here));
      setup = ground_is n.tree.res m.tree.res n.tree.odds s.head.odds n.update_box
          (box_after m.update_box s.head.version s.head.window) n.max_groups m.max_groups
          n.max_cells m.max_cells
          (ap (λ (t : Tree). t.res) tree ∙ same_res ∙ grown.res ∙ res)
          (ap (λ (t : Tree). t.odds) tree ∙ same_odds ∙ grown.odds ∙ odds ∙ i.odds)
          (box ∙ ap (λ (v : ℕ). box_after m.update_box v info.window) i.version
          ∙ ap (box_after m.update_box s.head.version) i.window)
          most cells;
    }
  where
    none : spare a.groups ≡ 0
    none = (let all = live_spare a.groups in let no_entries = ap length empty in
        omega (arith, all, no_entries))

    ground_is : (r q : ℕ) (o p : Odds) (b w : Option Window) (g h c d : ℕ) → r ≡ q → o ≡ p → b ≡ w
        → g ≡ h → c ≡ d
        → ◌≡◌ {A = Ground} (record
        { res = r; odds = o; update_box = b; max_groups = g; max_cells = c })
        (record { res = q; odds = p; update_box = w; max_groups = h; max_cells = d })
    ground_is r q o p b w g h c d x y z v w2 = rw (x, y, z, v, w2) refl
