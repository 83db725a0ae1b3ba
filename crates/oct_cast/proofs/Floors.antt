-- In a fresh tree no voxel under an Inner node is above its value, so a cast that ignores unknown
-- voxels passes where that is below the threshold.
use Rattle.std.proofs.Common.{◌≡◌, ℕ, zero, suc, ◌+◌, ◌-◌, ◌<◌, ◌≤◌, Bool, true, false}
use Rattle.std.proofs.Common.{Some, None, refl, sym, ap, subst, ◌∙◌, arith}
use Rattle.std.specs.Prelude.{ℤ, ◌≤ℤ◌, ◌<ℤ◌, int_lt, ⊤}
use Rattle.std.proofs.lemmas.Int.{ints}
use Rattle.oct_key.specs.Voxel.{Voxel}
use Rattle.oct_key.specs.Block.{child_index_of}
use Rattle.oct_key.proofs.Blocks.{child_index_below}
use Rattle.oct_odds.specs.Odds.{Odds}
use Rattle.oct_odds.specs.Update.{Value, class_of}
use Rattle.oct_odds.specs.declared.event.Class.{Class}
use Rattle.oct_arena.specs.declared.node.GroupId.{GroupId}
use Rattle.oct_arena.specs.declared.node.Node.{Node}
use Rattle.oct_arena.specs.declared.node.Node.TheVariants.{Absent, Leaf, Inner}
use Rattle.oct_arena.specs.Entries.{node_at}
use Rattle.oct_arena.specs.Nodes.{link_of, stored_in, value_of}
use Rattle.oct_tree.specs.Nodes.{IsGreatest}
use Rattle.oct_tree.specs.Shape.{IsFresh}
use Rattle.oct_tree.specs.Classes.{classes_in}
use Rattle.oct_tree.specs.Tree.{Tree, reach, step, value_at}
use Rattle.oct_tree.proofs.Over.{reach_place}
use Rattle.oct_tree.proofs.Paths.{reach_suc, value_at_last, value_at_leaf}
use Rattle.oct_cast.specs.Cast.{stops}
use Rattle.oct_cast.specs.Way.{IsFloor, IsLast, stop_at}

-- a value, if there is one, is at most this
abbrev IsAtMost : ℤ → Value → Type 0
IsAtMost most None = ⊤
IsAtMost most (Some v) = v ≤ℤ most

-- what a node gives its voxels is what stands in it
given_at_most : (most : ℤ) (n : Node) → IsAtMost most (stored_in n) → IsAtMost most (value_of n)
given_at_most most Absent h = tt
given_at_most most (Leaf v) h = h
given_at_most most (Inner v id) h = tt

-- no child is above its node
child_at_most : (t : Tree) (most : ℤ) (n : Node) (i : ℕ) → i < 8
    → ((id : GroupId) (v : ℤ) → n ≡ Inner v id → IsGreatest t.groups id.number v)
    → IsAtMost most (stored_in n) → IsAtMost most (stored_in (step t.groups n i))
child_at_most t most Absent i li greatest h = tt
child_at_most t most (Leaf v) i li greatest h = h
child_at_most t most (Inner v id) i li greatest h =
    by_child (stored_in (node_at t.groups id.number i)) refl
  where
    by_child : (o : Value) → stored_in (node_at t.groups id.number i) ≡ o → IsAtMost most o
    by_child None e = tt
    by_child (Some w) e =
        let least = (greatest id v refl).most i w li e in omega (arith, ints, least, h)

-- so no voxel is above a node on the way to it
voxel_at_most : (t : Tree) (most : ℤ) (k : Voxel) → IsFresh t → (h d : ℕ) → d + h ≡ 16
    → IsAtMost most (stored_in (reach t d k)) → IsAtMost most (value_at t k)
voxel_at_most t most k f zero d e low =
    subst (IsAtMost most) (sym (value_at_leaf t k d (omega arith)))
    (given_at_most most (reach t d k) low)
voxel_at_most t most k f (suc h) d e low =
    let (p, stands) = reach_place t d k in
    voxel_at_most t most k f h (d + 1) (omega arith)
    (subst (λ n. IsAtMost most (stored_in n)) (sym (reach_suc t d k))
    (child_at_most t most (reach t d k) (child_index_of d k) (child_index_below d k)
    (λ id v is. f.greatest p id v (stands ∙ is)) low))

-- what is below the threshold isn't occupied
below_passed : (o : Odds) (most : ℤ) (value : Value) → IsAtMost most value → most <ℤ o.thr
    → stops true (class_of o value) ≡ false
below_passed o most None h low = refl
below_passed o most (Some v) h low =
    let below : int_lt v o.thr ≡ true = free v o.thr (omega (arith, ints, h, low)) in rw below refl
  where
    free : (a b : ℤ) → a <ℤ b → int_lt a b ≡ true
    free a b l = grind (arith, ints)

-- a fresh tree's threshold is a floor for casts that ignore unknown voxels
pub fresh_floor : (t : Tree) (ignore : Bool) (floor : ℤ) → IsFresh t → ignore ≡ true
    → floor ≡ t.odds.thr → IsFloor t ignore floor
fresh_floor t ignore floor f ignores is k d v id deep node (_, low) = rw ignores (
  refl,
  below_passed t.odds v (value_at t k)
      (voxel_at_most t v k f (16 - d) d (omega arith)
      (subst (λ n. IsAtMost v (stored_in n)) (sym node) (omega (arith, ints))))
      (subst (λ z. v <ℤ z) is low),
)

-- the value of an unlinked node is that of all voxels under it
alike : (t : Tree) (d : ℕ) (k l : Voxel) → d ≤ 16 → reach t d l ≡ reach t d k
    → link_of (reach t d k) ≡ None → value_at t l ≡ value_at t k
alike t d k l deep same none =
    value_at_last t l d deep (ap link_of same ∙ none) ∙ ap value_of same
    ∙ sym (value_at_last t k d deep none)

-- of the voxels under a last node all stop a cast, or none does
pub stops_alike : (t : Tree) (ignore : Bool) (floor : ℤ) (d : ℕ) (k l : Voxel) (n : Node)
    → IsFloor t ignore floor → d ≤ 16 → reach t d l ≡ reach t d k → reach t d k ≡ n
    → IsLast floor n → stops ignore (classes_in t l) ≡ stops ignore (classes_in t k)
stops_alike t ignore floor d k l Absent f deep same is last =
    ap (λ v. stops ignore (class_of t.odds v)) (alike t d k l deep same (ap link_of is))
stops_alike t ignore floor d k l (Leaf v) f deep same is last =
    ap (λ v. stops ignore (class_of t.odds v)) (alike t d k l deep same (ap link_of is))
stops_alike t ignore floor d k l (Inner v id) f deep same is last =
    (f l d v id deep (same ∙ is) last).1 ∙ sym (f k d v id deep is last).1

-- what doesn't stop a cast is passed
pub passed : (ignore : Bool) (class : Class) (k : Voxel) → stops ignore class ≡ false
    → stop_at ignore class k ≡ None
passed ignore class k e = rw e refl

-- what a cast asks of a last node it asks of the voxel
pub last_asked : (t : Tree) (ignore : Bool) (floor : ℤ) (d : ℕ) (k : Voxel) (n : Node)
    → IsFloor t ignore floor → d ≤ 16 → n ≡ reach t d k → IsLast floor n
    → stop_at ignore (class_of t.odds (value_of n)) k ≡ stop_at ignore (classes_in t k) k
last_asked t ignore floor d k Absent f deep is last =
    ap (λ v. stop_at ignore (class_of t.odds v) k)
    (ap value_of is ∙ sym (value_at_last t k d deep (sym (ap link_of is))))
last_asked t ignore floor d k (Leaf v) f deep is last =
    ap (λ v. stop_at ignore (class_of t.odds v) k)
    (ap value_of is ∙ sym (value_at_last t k d deep (sym (ap link_of is))))
last_asked t ignore floor d k (Inner v id) f deep is last =
    let (unknown, here) = f k d v id deep (sym is) last in
    passed ignore (class_of t.odds None) k unknown
    ∙ sym (passed ignore (classes_in t k) k here)
