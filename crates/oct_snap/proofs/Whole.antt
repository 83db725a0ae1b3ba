-- A whole snapshot, from its fields and its node.
use Rattle.std.proofs.Common.{ℕ, ◌+◌, ◌<◌, ◌≤◌, List, length, drop, refl, sym, subst, ◌∙◌, ap}
use Rattle.std.specs.Prelude.{Result, Ok, Err}
use Rattle.oct_odds.specs.Odds.{Odds, odds_of}
use Rattle.oct_snap.specs.declared.fault.SnapFault.{SnapFault}
use Rattle.oct_snap.specs.declared.fault.SnapFault.TheVariants.{TrailingBytes}
use Rattle.oct_snap.specs.declared.checking.NodeRead.{NodeRead}
use Rattle.oct_snap.specs.declared.head.FieldsRead.{FieldsRead}
use Rattle.oct_snap.specs.declared.info.SnapInfo.{SnapInfo}
use Rattle.oct_snap.specs.Reading.{Found, Fields, ended_by, with_nodes, with_fields, read_node}
use Rattle.oct_snap.specs.Reading.{read_fields, read_snapshot}
use Rattle.oct_snap.specs.Checked.{IsNodeRead, IsFieldsRead, AreFieldsRead, IsChecked}
use Rattle.oct_snap.proofs.Drops.{drop_at, drop_end}

-- a fault in the fields
fields_fault : (bytes : List ℕ) (r : Result Fields SnapFault) (fault : SnapFault)
    → AreFieldsRead bytes r (Err fault)
    → IsChecked (with_fields bytes r) (Err fault)
fields_fault bytes (Ok h) fault is = absurd is
fields_fault bytes (Err e) fault is = is

pub checked_fields : (o : Odds) (bytes : List ℕ) (fault : SnapFault)
    → AreFieldsRead bytes (read_fields o bytes) (Err fault)
    → IsChecked (read_snapshot o bytes) (Err fault)
unfolding read_snapshot
checked_fields o bytes fault is = fields_fault bytes (read_fields o bytes) fault is

-- the node after the fields
node_moved : (bytes : List ℕ) (h : Fields) (f : FieldsRead) (seen : Result NodeRead SnapFault)
    → IsFieldsRead bytes h f
    → IsNodeRead bytes f.start (read_node (odds_of f.odds) 16 f.start (drop f.start bytes)) seen
    → IsNodeRead bytes f.start (read_node h.odds 16 h.start (drop h.start bytes)) seen
node_moved bytes h f seen s is =
    subst (λ (o : Odds). IsNodeRead bytes f.start (read_node o 16 h.start (drop h.start bytes))
    seen) s.odds
    (subst (λ (k : ℕ). IsNodeRead bytes f.start (read_node (odds_of f.odds) 16 k (drop k bytes))
    seen) s.start is)

fault_of : (bytes : List ℕ) (at : ℕ) (h : Fields) (r : Result Found SnapFault) (fault : SnapFault)
    → IsNodeRead bytes at r (Err fault)
    → IsChecked (with_nodes h r) (Err fault)
fault_of bytes at h (Ok f) fault is = absurd is
fault_of bytes at h (Err e) fault is = is

trailing_of : (bytes : List ℕ) (at : ℕ) (h : Fields) (r : Result Found SnapFault) (n : NodeRead)
    → IsNodeRead bytes at r (Ok n)
    → n.next < length bytes → IsChecked (with_nodes h r) (Err (TrailingBytes n.next))
trailing_of bytes at h (Err e) n is more = absurd is
trailing_of bytes at h (Ok f) n is more =
    subst (λ (rest : List ℕ). IsChecked (ended_by h f.nodes f.at rest) (Err (TrailingBytes n.next)))
    (sym (is.rest ∙ drop_at bytes n.next (n.next + 1) refl more)) (ap TrailingBytes is.next)

whole_of : (bytes : List ℕ) (at : ℕ) (h : Fields) (f : FieldsRead) (r : Result Found SnapFault)
    (n : NodeRead) → IsFieldsRead bytes h f
    → IsNodeRead bytes at r (Ok n) → length bytes ≤ n.next
    → IsChecked (with_nodes h r) (Ok (record {
      res = f.res;
      groups = n.groups;
      version = f.version;
      odds = f.odds;
      window = f.window;
    }))
whole_of bytes at h f (Err e) n s is all = absurd is
whole_of bytes at h f (Ok g) n s is all =
    subst (λ (rest : List ℕ). IsChecked (ended_by h g.nodes g.at rest)
    (Ok (record {
      res = f.res;
      groups = n.groups;
      version = f.version;
      odds = f.odds;
      window =
          f.window;
    })))
    (sym (is.rest ∙ drop_end bytes n.next all))
    (record {
      res = s.res;
      groups = is.groups;
      version = s.version;
      odds = s.odds;
      window = s.window;
    })

by_fields : (bytes : List ℕ) (r : Result Fields SnapFault) (f : FieldsRead)
    (seen : Result SnapInfo SnapFault) → AreFieldsRead bytes r (Ok f)
    → ((h : Fields) → IsFieldsRead bytes h f
    → IsChecked (with_nodes h (read_node h.odds 16 h.start (drop h.start bytes))) seen)
    → IsChecked (with_fields bytes r) seen
by_fields bytes (Ok h) f seen is go = go h is
by_fields bytes (Err e) f seen is go = absurd is

pub checked_fault : (o : Odds) (bytes : List ℕ) (f : FieldsRead) (fault : SnapFault)
    → AreFieldsRead bytes (read_fields o bytes) (Ok f)
    → IsNodeRead bytes f.start (read_node (odds_of f.odds) 16 f.start (drop f.start bytes))
    (Err fault)
    → IsChecked (read_snapshot o bytes) (Err fault)
unfolding read_snapshot
checked_fault o bytes f fault is node = by_fields bytes (read_fields o bytes) f (Err fault) is
    (λ h s. fault_of bytes f.start h (read_node h.odds 16 h.start (drop h.start bytes)) fault
    (node_moved bytes h f (Err fault) s node))

pub checked_trailing : (o : Odds) (bytes : List ℕ) (f : FieldsRead) (n : NodeRead)
    → AreFieldsRead bytes (read_fields o bytes) (Ok f)
    → IsNodeRead bytes f.start (read_node (odds_of f.odds) 16 f.start (drop f.start bytes)) (Ok n)
    → n.next < length bytes
    → IsChecked (read_snapshot o bytes) (Err (TrailingBytes n.next))
unfolding read_snapshot
checked_trailing o bytes f n is node more =
    by_fields bytes (read_fields o bytes) f (Err (TrailingBytes n.next)) is
    (λ h s. trailing_of bytes f.start h (read_node h.odds 16 h.start (drop h.start bytes)) n
    (node_moved bytes h f (Ok n) s node) more)

pub checked_whole : (o : Odds) (bytes : List ℕ) (f : FieldsRead) (n : NodeRead)
    → AreFieldsRead bytes (read_fields o bytes) (Ok f)
    → IsNodeRead bytes f.start (read_node (odds_of f.odds) 16 f.start (drop f.start bytes)) (Ok n)
    → length bytes ≤ n.next
    → IsChecked (read_snapshot o bytes) (Ok (record {
      res = f.res;
      groups = n.groups;
      version = f.version;
      odds = f.odds;
      window = f.window;
    }))
unfolding read_snapshot
checked_whole o bytes f n is node all = by_fields bytes (read_fields o bytes) f
    (Ok (record {
      res = f.res;
      groups = n.groups;
      version = f.version;
      odds = f.odds;
      window =
          f.window;
    })) is
    (λ h s. whole_of bytes f.start h f (read_node h.odds 16 h.start (drop h.start bytes)) n s
    (node_moved bytes h f (Ok n) s node) all)
