-- Filling a block with classes, child by child.
use Rattle.std.proofs.Common.{◌≡◌, ℕ, ◌+◌, ◌<◌, ◌≤◌, Some, None, subst, ◌∙◌, ap, arith}
use Rattle.std.specs.Prelude.{ℤ, Bool, IsTrue, ◌↔◌}
use Rattle.std.specs.Bool.{OnTrue, OnFalse}
use Rattle.oct_key.specs.Voxel.{Voxel, IsInMap}
use Rattle.oct_key.specs.Values.{SameValues}
use Rattle.oct_key.specs.Block.{Cube, HoldsVoxel, child_of}
use Rattle.oct_odds.specs.declared.event.Class.{Class}
use Rattle.oct_odds.specs.declared.event.Class.TheVariants.{Unknown, Free, Occupied}
use Rattle.oct_arena.specs.declared.node.GroupId.{GroupId}
use Rattle.oct_arena.specs.declared.node.Node.{Node}
use Rattle.oct_arena.specs.declared.node.Node.TheVariants.{Absent}
use Rattle.oct_arena.specs.Nodes.{link_of}
use Rattle.oct_tree.specs.declared.place.Place.{Place}
use Rattle.oct_tree.specs.Tree.{Tree, IsLinked, IsPlace, node_in, block_in, value_at}
use Rattle.oct_tree.specs.Changes.{IsSplit, IsWritten, IsSameOutside, SetsBlock, CanCollapse}
use Rattle.oct_tree.specs.Changes.{IsCollapsed, IsRenewed}
use Rattle.oct_tree.proofs.Fillings as fillings
use Rattle.oct_values.specs.Classes.{Classes}
use Rattle.oct_bt.specs.Classes.{value_for}
use Rattle.oct_bt.specs.Records.{class_code}
use Rattle.oct_bt.specs.Filled.{IsFilled, IsFilling}

-- the place's group has come to be
pub filling_first : (t u : Tree) (p : Place) (id : GroupId) (v : ℤ) (b : Cube) (classes : Classes)
    → IsLinked u
    → IsSplit t u p id v → node_in t p ≡ Absent → block_in t p ≡ Some b
    → IsFilling t u p id b 0 classes 1
filling_first t u p id v b classes m s none at = record {
  part = fillings.filling_first t u p id v b (λ k. value_for t.odds (classes k)) m s none at;
  room = (let spare_is = s.spare in omega (arith, spare_is));
}

-- one child more is filled
pub filling_next : (t u w : Tree) (p : Place) (id : GroupId) (b : Cube) (n m more : ℕ)
    (classes f : Classes)
    → b.depth ≤ 15 → n < 8 → IsLinked t → IsFilling t u p id b n classes m → IsLinked w
    → IsFilled u w (child_of b n) f more
    → ((k : Voxel) → IsInMap k → HoldsVoxel (child_of b n) k → f k ≡ classes k)
    → IsFilling t w p id b (n + 1) classes (m + more)
filling_next t u w p id b n m more classes f low ln lt s lw d same = record {
  part = fillings.filling_next t u w p id b n (λ k. value_for t.odds (classes k))
      (λ k. value_for u.odds (f k)) low ln lt s.part lw d.whole
      (λ k inmap held. ap (value_for u.odds) (same k inmap held)
      ∙ ap (λ o. value_for o (classes k)) s.part.outside.odds);
  room = (let before = s.room in let after = d.room in omega (arith, before, after));
}

-- all are, and the place is settled
pub filling_all : (t u w : Tree) (p : Place) (id : GroupId) (b : Cube) (m : ℕ) (classes : Classes)
    (done : Bool)
    → b.depth ≤ 15 → IsLinked t → IsPlace t p → IsFilling t u p id b 8 classes m → IsLinked w
    → SameValues (value_at u) (value_at w)
    → ((c : Cube) → block_in u p ≡ Some c → IsSameOutside u w c)
    → (IsTrue done ↔ CanCollapse u p) → OnTrue done (IsCollapsed u w p)
    → OnFalse done (IsRenewed u w p)
    → IsFilled t w b classes m
filling_all t u w p id b m classes done low lt ok s lw values outside when to_leaf to_inner =
    let (whole, settled) =
    fillings.filling_all t u w p id b (λ k. value_for t.odds (classes k)) done low lt ok s.part
    lw values outside
    when to_leaf to_inner in
    record {
      whole = whole;
      room = (let before = s.room in let after = settled.room in omega (arith, before, after));
    }

-- a block that becomes a leaf of a class
put_filled : (t u : Tree) (p : Place) (n : Node) (b : Cube) (c : Class) → IsLinked t → IsLinked u
    → IsPlace t p → block_in t p ≡ Some b
    → link_of n ≡ None → SetsBlock (value_at t) (value_at u) b (value_for t.odds c)
    → IsSameOutside t u b → IsWritten t u p n
    → IsFilled t u b (λ k. c) 0
put_filled t u p n b c l lu ok at none sets outside written = record {
  whole = fillings.put_filled t u p n b (value_for t.odds c) l lu ok at none sets outside written;
  room = (let same = written.spare in omega (arith, same));
}

pub left_absent : (t : Tree) (p : Place) (b : Cube) (c : Class) → IsLinked t → IsPlace t p
    → block_in t p ≡ Some b
    → node_in t p ≡ Absent → class_code c ≡ 0 → IsFilled t t b (λ k. c) 0
left_absent t p b Unknown l place at none is = record {
  whole = fillings.left_absent t p b l place at none;
  room = omega arith;
}
left_absent t p b Free l place at none is = absurd (omega arith)
left_absent t p b Occupied l place at none is = absurd (omega arith)

pub put_low : (t u : Tree) (p : Place) (n : Node) (b : Cube) (c : Class) (v : ℤ) → IsLinked t
    → IsLinked u → IsPlace t p
    → block_in t p ≡ Some b → link_of n ≡ None → class_code c ≡ 1 → Some v ≡ Some t.odds.min
    → SetsBlock (value_at t) (value_at u) b (Some v) → IsSameOutside t u b → IsWritten t u p n
    → IsFilled t u b (λ k. c) 0
put_low t u p n b Unknown v l lu ok at none is value sets outside written = absurd (omega arith)
put_low t u p n b Free v l lu ok at none is value sets outside written =
    put_filled t u p n b Free l lu ok at none
    (subst (SetsBlock (value_at t) (value_at u) b) value sets) outside written
put_low t u p n b Occupied v l lu ok at none is value sets outside written = absurd (omega arith)

pub put_high : (t u : Tree) (p : Place) (n : Node) (b : Cube) (c : Class) (v : ℤ) → IsLinked t
    → IsLinked u → IsPlace t p
    → block_in t p ≡ Some b → link_of n ≡ None → class_code c ≡ 2 → Some v ≡ Some t.odds.max
    → SetsBlock (value_at t) (value_at u) b (Some v) → IsSameOutside t u b → IsWritten t u p n
    → IsFilled t u b (λ k. c) 0
put_high t u p n b Unknown v l lu ok at none is value sets outside written = absurd (omega arith)
put_high t u p n b Free v l lu ok at none is value sets outside written = absurd (omega arith)
put_high t u p n b Occupied v l lu ok at none is value sets outside written =
    put_filled t u p n b Occupied l lu ok at none
    (subst (SetsBlock (value_at t) (value_at u) b) value sets) outside written
