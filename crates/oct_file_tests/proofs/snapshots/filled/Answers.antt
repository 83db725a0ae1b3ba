use Rattle.std.proofs.Common.{rules, ◌≡◌, ◌≤◌, ℕ, List, Result, Ok, Err, refl, sym, ap, ◌∙◌, arith}
use Rattle.oct_odds.specs.Odds.{Odds, odds_of}
use Rattle.oct_tree.specs.Tree.{Tree}
use Rattle.oct_snap.specs.declared.fault.SnapFault.{SnapFault}
use Rattle.oct_snap.specs.declared.info.SnapInfo.{SnapInfo}
use Rattle.oct_snap.specs.Nodes.{group_total}
use Rattle.oct_snap.specs.Reading.{Snapshot, read_snapshot}
use Rattle.oct_snap.specs.Checked.{IsChecked}
use Rattle.oct_snap.proofs.Again.{read_again}
use Rattle.oct_file_tests.proofs.snapshots.filled.Goals as goal

-- a snapshot that was checked, and for whose groups there is room
asked : (o p : Odds) (bytes : List ℕ) (info : SnapInfo) (room : ℕ)
    → IsChecked (read_snapshot o bytes) (Ok info) → p ≡ odds_of info.odds → info.groups ≤ room
    → (s : Snapshot) × (read_snapshot p bytes ≡ Ok s) × (s.head.odds ≡ p)
    × (group_total s.nodes ≤ room)
asked o p bytes info room checked odds few = by (read_snapshot o bytes) refl checked
  where
    by : (r : Result Snapshot SnapFault) → read_snapshot o bytes ≡ r → IsChecked r (Ok info)
        → (s : Snapshot) × (read_snapshot p bytes ≡ Ok s) × (s.head.odds ≡ p)
        × (group_total s.nodes ≤ room)
    by (Ok s) is i =
        let same : s.head.odds ≡ p = sym i.odds ∙ sym odds in
        let groups = i.groups in (
          s,
          ap (λ (q : Odds). read_snapshot q bytes) (sym same) ∙ read_again o bytes s is,
          same,
          omega (arith, groups, few),
        )
    by (Err fault) is i = absurd i

pub fill-requires-clause-accepted : goal.fill-requires-clause-accepted
fill-requires-clause-accepted g c =
    asked (odds_of c.default.result) _ c.args.bytes.now c.in_ok-info.info _ c.in_ok-info.ensures
    (c.reserve.ensures.kept.odds ∙ ap (λ (t : Tree). t.odds) c.new-tree.ensures.exact)
    (search rules)
