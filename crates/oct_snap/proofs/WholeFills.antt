-- Filling a tree from a whole snapshot.
use Rattle.std.proofs.Common.{◌≡◌, ℕ, ◌+◌, List, [], ◌∷◌, length, drop, refl, sym, subst, ◌∙◌, ap}
use Rattle.std.proofs.Common.{arith}
use Rattle.std.specs.Prelude.{Result, Ok, Err, is_ok}
use Rattle.std.proofs.lemmas.Bool.{false≢true}
use Rattle.oct_key.specs.Voxel.{Voxel, IsInMap}
use Rattle.oct_key.specs.Block.{root_block}
use Rattle.oct_key.proofs.Blocks.{root_holds}
use Rattle.oct_odds.specs.Odds.{Odds}
use Rattle.oct_arena.specs.declared.node.Node.TheVariants.{Absent}
use Rattle.oct_arena.specs.Entries.{live, spare}
use Rattle.oct_arena.specs.Nodes.{link_of}
use Rattle.oct_arena.proofs.Entries.{live_spare}
use Rattle.oct_tree.specs.Tree.{Tree, IsLinked, value_at}
use Rattle.oct_tree.specs.Shape.{IsShaped, IsFresh, IsPruned}
use Rattle.oct_tree.proofs.Tidy.{tidy_whole, none_live}
use Rattle.oct_snap.specs.declared.fault.SnapFault.{SnapFault}
use Rattle.oct_snap.specs.declared.head.FieldsRead.{FieldsRead}
use Rattle.oct_snap.specs.Nodes.{Nodes, group_total, value_in}
use Rattle.oct_snap.specs.Reading.{Found, Fields, Snapshot, ended_by, with_nodes, with_fields}
use Rattle.oct_snap.specs.Reading.{read_node, read_fields, read_snapshot, values_of}
use Rattle.oct_snap.specs.Checked.{IsFieldsRead, AreFieldsRead}
use Rattle.oct_snap.specs.Filled.{IsNodeFilled}

-- what a snapshot was read from
pub record IsWholeRead (o : Odds) (bytes : List ℕ) (s : Snapshot) : Type 0 where
  pub fields : read_fields o bytes ≡ Ok s.head
  pub one : Found
  pub node : read_node s.head.odds 16 s.head.start (drop s.head.start bytes) ≡ Ok one
  pub nodes : one.nodes ≡ s.nodes
  pub none : one.rest ≡ []

snapshot_of : Result Snapshot SnapFault → Snapshot → Snapshot
snapshot_of (Ok s) other = s
snapshot_of (Err fault) other = other

pub same_snapshot : (s q : Snapshot) → ◌≡◌ {A = Result Snapshot SnapFault} (Ok s) (Ok q) → s ≡ q
unfolding snapshot_of
same_snapshot s q e = ap (λ r. snapshot_of r s) e

fault_not_ok : (fault : SnapFault) (s : Snapshot) → ◌≡◌ {A = Result Snapshot SnapFault} (Err fault)
    (Ok s) → ⊥
fault_not_ok fault s e = false≢true (ap is_ok e)

pub whole_read : (o : Odds) (bytes : List ℕ) (s : Snapshot) → read_snapshot o bytes ≡ Ok s
    → IsWholeRead o bytes s
unfolding read_snapshot
whole_read o bytes s is = by_fields (read_fields o bytes) refl is
  where
    by_rest : (h : Fields) (f : Found) → read_fields o bytes ≡ Ok h
        → read_node h.odds 16 h.start (drop h.start bytes) ≡ Ok f
        → (rest : List ℕ) → f.rest ≡ rest → ended_by h f.nodes f.at rest ≡ Ok s
        → IsWholeRead o bytes s
    by_rest h f fields node [] none is = subst (IsWholeRead o bytes) (same_snapshot _ s is)
        (record { fields = fields; one = f; node = node; nodes = refl; none = none })
    by_rest h f fields node (byte ∷ more) some is = absurd (fault_not_ok _ s is)

    by_node : (h : Fields) → read_fields o bytes ≡ Ok h → (r : Result Found SnapFault)
        → read_node h.odds 16 h.start (drop h.start bytes) ≡ r → with_nodes h r ≡ Ok s
        → IsWholeRead o bytes s
    by_node h fields (Err fault) e is = absurd (fault_not_ok fault s is)
    by_node h fields (Ok f) e is = by_rest h f fields e f.rest refl is

    by_fields : (r : Result Fields SnapFault) → read_fields o bytes ≡ r → with_fields bytes r ≡ Ok s
        → IsWholeRead o bytes s
    by_fields (Err fault) e is = absurd (fault_not_ok fault s is)
    by_fields (Ok h) e is = by_node h e (read_node h.odds 16 h.start (drop h.start bytes)) refl is

-- the code reads the same fields
pub fields_are : (o p : Odds) (bytes : List ℕ) (s : Snapshot) (f : FieldsRead)
    → read_snapshot o bytes ≡ Ok s → p ≡ o
    → AreFieldsRead bytes (read_fields p bytes) (Ok f) → IsFieldsRead bytes s.head f
fields_are o p bytes s f is same read =
    subst (λ (r : Result Fields SnapFault). AreFieldsRead bytes r (Ok f))
    (ap (λ (o : Odds). read_fields o bytes) same ∙ (whole_read o bytes s is).fields) read

pub fields_there : (o p : Odds) (bytes : List ℕ) (s : Snapshot) (fault : SnapFault)
    → read_snapshot o bytes ≡ Ok s → p ≡ o
    → AreFieldsRead bytes (read_fields p bytes) (Err fault) → ⊥
fields_there o p bytes s fault is same read =
    subst (λ (r : Result Fields SnapFault). AreFieldsRead bytes r (Err fault))
    (ap (λ (o : Odds). read_fields o bytes) same ∙ (whole_read o bytes s is).fields) read

-- and its node
pub node_there : (o : Odds) (bytes : List ℕ) (s : Snapshot) (start : ℕ)
    → (w : IsWholeRead o bytes s) → s.head.odds ≡ o → start ≡ s.head.start
    → read_node o 16 start (drop start bytes) ≡ Ok w.one
node_there o bytes s start w same at =
    ap (λ (k : ℕ). read_node o 16 k (drop k bytes)) at
    ∙ ap (λ (o : Odds). read_node o 16 s.head.start (drop s.head.start bytes)) (sym same) ∙ w.node

-- what filling a tree of the unknown world leaves
pub record HasFilled (t u : Tree) (s : Snapshot) : Type 0 where
  pub values : (k : Voxel) → IsInMap k → values_of s k ≡ value_at u k
  pub fresh : IsFresh u
  pub pruned : IsPruned u
  pub groups : live u.groups ≡ group_total s.nodes
  pub spare : live u.groups + spare u.groups ≡ spare t.groups
  pub length : length u.groups ≡ length t.groups
  pub res : u.res ≡ t.res
  pub odds : u.odds ≡ t.odds

pub has_filled : (t u : Tree) (bytes : List ℕ) (s : Snapshot) (f : Found) (next : ℕ) → IsShaped t
    → IsLinked t → IsLinked u → t.root ≡ Absent
    → f.nodes ≡ s.nodes → IsNodeFilled t u root_block 0 bytes f next → HasFilled t u s
has_filled t u bytes s f next shape lt l none same n =
    let filled = n.filled in
    let empty = none_live t.groups (shape.bare (ap link_of none)) in
    let tidy = tidy_whole u l filled.whole.tidy in
    let before = live_spare t.groups in
    let after = live_spare u.groups in
    let kept = filled.whole.outside.length in
    let taken = filled.room in
    let groups : group_total f.nodes ≡ group_total s.nodes = ap group_total same in
    record {
      values = λ k ok. ap (λ (n : Nodes). value_in 0 n 0 k) (sym same)
          ∙ sym (filled.whole.inside k ok (root_holds k ok));
      fresh = tidy.fresh;
      pruned = tidy.pruned;
      groups = omega (arith, empty, before, after, kept, taken, groups);
      spare = omega (arith, empty, before, after, kept);
      length = kept;
      res = filled.whole.outside.res;
      odds = filled.whole.outside.odds;
    }
