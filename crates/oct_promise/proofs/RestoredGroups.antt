-- That the values which a snapshot gives need no more groups than it says.
use Rattle.std.proofs.Common.{◌≡◌, ℕ, ◌≤◌, drop, Bool, true, false, cond, List, Some, None, refl}
use Rattle.std.proofs.Common.{ap, subst, arith}
use Rattle.std.specs.Prelude.{not, Ok}
use Rattle.std.proofs.lemmas.Bool.{false≢true}
use Rattle.oct_key.specs.Block.{Cube, IsBlock}
use Rattle.oct_key.specs.Values.{Values}
use Rattle.oct_odds.specs.Odds.{Odds}
use Rattle.oct_odds.specs.Update.{Value}
use Rattle.oct_session.specs.History.{value_event}
use Rattle.oct_snap.specs.Nodes.{Nodes, AreNodes, group_total}
use Rattle.oct_snap.specs.Reading.{Snapshot, read_snapshot, values_of}
use Rattle.oct_snap.proofs.FoundNodes.{node_one}
use Rattle.oct_snap.proofs.GroupCounts.{groups_are}
use Rattle.oct_snap.proofs.WholeFills.{whole_read}
use Rattle.oct_values.specs.Blocks.{blocks_above_voxels}
use Rattle.oct_values.specs.Counts.{is_uniform, group_count}
use Rattle.oct_values.specs.Events.{after_event, updated}
use Rattle.oct_values.proofs.Listed.{all_above_voxels}
use Rattle.oct_values.proofs.Sums.{All-follows, sum_by-each_le}
use Rattle.oct_values.proofs.Uniform.{uniform_exactly, same_group_count}

-- a block of one value has one value whatever is made of each value
uniform_made : (make : Value → Value) (values : Values) (b : Cube) → IsBlock b
    → is_uniform values b ≡ true → is_uniform (λ k. make (values k)) b ≡ true
uniform_made make values b ok uniform =
    let before = (uniform_exactly values b ok).0 uniform in
    (uniform_exactly (λ k. make (values k)) b ok).1
    (λ j k in_j in_k. ap make (before j k in_j in_k))

counted_made : (before after : Bool) → (before ≡ true → after ≡ true)
    → cond {A = ℕ} (not after) 1 0 ≤ cond {A = ℕ} (not before) 1 0
counted_made before true h = omega arith
counted_made false false h = omega arith
counted_made true false h = absurd (false≢true (h refl))

-- so no more groups are needed
groups_made : (make : Value → Value) (values : Values)
    → group_count (λ k. make (values k)) ≤ group_count values
unfolding group_count
groups_made make values =
    sum_by-each_le (λ b. cond (not (is_uniform (λ k. make (values k)) b)) 1 0)
    (λ b. cond (not (is_uniform values b)) 1 0) blocks_above_voxels
    (All-follows (λ b. IsBlock b × (b.depth ≤ 15))
    (λ b. cond {A = ℕ} (not (is_uniform (λ k. make (values k)) b)) 1 0
    ≤ cond {A = ℕ} (not (is_uniform values b)) 1 0) blocks_above_voxels
    (λ b at. counted_made (is_uniform values b) (is_uniform (λ k. make (values k)) b)
    (uniform_made make values b at.0)) all_above_voxels)

-- a snapshot that was read has as many groups as its values need
pub groups_of_snapshot : (o : Odds) (bytes : List ℕ) (s : Snapshot) → read_snapshot o bytes ≡ Ok s
    → group_total s.nodes ≡ group_count (values_of s)
groups_of_snapshot o bytes s is =
    let w = whole_read o bytes s is in
    groups_are s.head.odds (values_of s) s.nodes
    (subst (λ (n : Nodes). AreNodes s.head.odds 16 1 n) w.nodes
    (node_one s.head.odds 16 s.head.start (drop s.head.start bytes) w.one w.node)) (λ k ok. refl)

-- the value of a voxel of this value after a restore
abbrev given : Odds → Value → Value
given odds v = after_event odds (Some (value_event v)) None

given_to : (odds : Odds) (v old : Value)
    → after_event odds (Some (value_event v)) old ≡ given odds v
given_to odds None None = refl
given_to odds None (Some n) = refl
given_to odds (Some n) None = refl
given_to odds (Some n) (Some m) = refl

-- the values after its restore need no more
pub groups_restored : (odds o : Odds) (bytes : List ℕ) (s : Snapshot) (values : Values)
    → read_snapshot o bytes ≡ Ok s →
    group_count (updated odds (λ k. Some (value_event (values_of s k))) values)
    ≤ group_total s.nodes
groups_restored odds o bytes s values is =
    let same : group_count (updated odds (λ k. Some (value_event (values_of s k))) values)
    ≡ group_count (λ k. given odds (values_of s k)) =
    same_group_count (updated odds (λ k. Some (value_event (values_of s k))) values)
    (λ k. given odds (values_of s k)) (λ k low. given_to odds (values_of s k) (values k)) in
    let made = groups_made (given odds) (values_of s) in
    let total = groups_of_snapshot o bytes s is in
    omega (arith, same, made, total)
