-- Counting a block of two files child by child.
use Rattle.std.proofs.Common.{◌≡◌, ℕ, zero, suc, ◌+◌, ◌*◌, ◌/◌, ◌%◌, ◌^◌, ◌<◌, ◌≤◌, Bool}
use Rattle.std.proofs.Common.{List, [], ◌∷◌, ◌++◌, length, drop, cond, inl, inr, refl, sym, subst}
use Rattle.std.proofs.Common.{◌∙◌, ap}
use Rattle.std.proofs.Common.{arith, slice_index_or, replicate}
use Rattle.std.proofs.Math.Nat.{mul-le-mul}
use Rattle.std.specs.Prelude.{nat_eq, if◌then◌else◌}
use Rattle.std.proofs.lemmas.Bool.Decides.{eqb_tells}
use Rattle.oct_key.specs.Voxel.{Voxel, IsInMap}
use Rattle.oct_key.specs.Block.{Cube, IsBlock, HoldsVoxel, child_of, child_index_of, side}
use Rattle.oct_key.specs.Block.{root_block}
use Rattle.oct_key.proofs.Blocks.{child_holds, child_index_below, child_in_map, depth_child_of}
use Rattle.oct_key.proofs.Blocks.{root_in_map}
use Rattle.oct_odds.specs.declared.event.Class.{Class}
use Rattle.oct_values.specs.Blocks.{voxels_of}
use Rattle.oct_values.specs.Classes.{Classes}
use Rattle.oct_values.proofs.Axes.{sum_below}
use Rattle.oct_values.proofs.Held.{all_held}
use Rattle.oct_values.proofs.Sums.{All-follows, count_by-same}
use Rattle.oct_merge.specs.Pairs.{pair_of, pair_counts, is_counted, pairs_in}
use Rattle.oct_merge.specs.Shared.{shared, shared_in}
use Rattle.oct_merge.proofs.Tables.{pairs_plain, child_room, child_first, child_next}
use Rattle.oct_merge.proofs.Tables.{child_last, counted_none, counted_room, empty_room, whole_table}
use Rattle.oct_merge.proofs.Tables.{zeros, from_none}
use Rattle.oct_bt.specs.Records.{Entries, End, Plain, Record, AreEntries, class_code}
use Rattle.oct_bt.specs.Records.{bodies_of, class_in, class_by, codes_of, flat}
use Rattle.oct_bt.specs.DataClasses.{data_classes}
use Rattle.oct_join.specs.Sides.{IsSide, side_text}
use Rattle.oct_join.specs.Tabled.{pairs_by, AreAtHand, IsTabled}
use Rattle.oct_join.specs.declared.table.Read.{Read}
use Rattle.oct_join.proofs.Records.{alike_class}
use Rattle.oct_join.proofs.Walks.{IsAhead, ahead_first, side_next, next_child, after_child}
use Rattle.oct_join.proofs.Walks.{codes_of_class, ends}
use Rattle.oct_join.proofs.Whole.{IsRoot}

-- ---- the classes that entries give

-- two pairs of classes that agree in a block have as many voxels there at each place
pub pairs_same : (lo hi : Voxel) (a b x y : Classes) (n : ℕ) (c : Cube) → IsBlock c
    → ((k : Voxel) → HoldsVoxel c k → a k ≡ x k) → ((k : Voxel) → HoldsVoxel c k → b k ≡ y k)
    → pairs_in lo hi a b n c ≡ pairs_in lo hi x y n c
unfolding pairs_in
pairs_same lo hi a b x y n c ok ha hb =
    count_by-same (is_counted lo hi a b n) (is_counted lo hi x y n) (voxels_of c)
    (All-follows (HoldsVoxel c) (λ k. is_counted lo hi a b n k ≡ is_counted lo hi x y n k)
    (voxels_of c) (λ k held. rw (ha k held, hb k held) refl) (all_held c ok))

-- the first of the entries that are left gives its voxels what the record of the child gives them
next_gives : (d n : ℕ) (es : Entries) (k : Voxel) → AreEntries d (suc n) es
    → class_in d es 0 k ≡ class_by (suc d) (next_child es) k
unfolding next_child class_in
next_gives d n End k are = absurd are
next_gives d n (Plain c es) k are =
    sym (alike_class c (suc d) 8 (child_index_of (suc d) k) k (child_index_below (suc d) k))
next_gives d n (Record r es) k are = refl

after_gives : (d j : ℕ) (es : Entries) (k : Voxel)
    → class_in d es (suc j) k ≡ class_in d (after_child es) j k
unfolding after_child class_in
after_gives d j End k = refl
after_gives d j (Plain c es) k = refl
after_gives d j (Record r es) k = refl

-- what is left of a side are its entries from this one on
abbrev pub AreFrom : ℕ → ℕ → Entries → Entries → Type 0
AreFrom d i r es = (j : ℕ) (k : Voxel) → class_in d r (i + j) k ≡ class_in d es j k

pub from_first : (d : ℕ) (r : Entries) → AreFrom d 0 r r
from_first d r j k = (let e : 0 + j ≡ j = omega arith in ap (λ (m : ℕ). class_in d r m k) e)

pub from_next : (d i : ℕ) (r es : Entries) → AreFrom d i r es → AreFrom d (i + 1) r (after_child es)
from_next d i r es from j k =
    let e : i + 1 + j ≡ i + suc j = omega arith in
    ap (λ (m : ℕ). class_in d r m k) e ∙ from (suc j) k ∙ after_gives d j es k

-- so the record of a block gives the voxels of child i what the child's gives them
pub child_gives : (c : Cube) (d i n : ℕ) (r es : Entries) (k : Voxel) → IsBlock c → c.depth ≡ d
    → d ≤ 15 → i < 8 → AreEntries d (suc n) es → AreFrom d i r es → HoldsVoxel (child_of c i) k
    → class_by c.depth r k ≡ class_by (child_of c i).depth (next_child es) k
child_gives c d i n r es k ok deep low li are from held =
    let at : child_index_of c.depth k ≡ i =
    ((child_holds c i k (omega (arith, deep, low)) li).0 held).1 in
    let zero_more : i ≡ i + 0 = omega arith in
    let level : suc d ≡ (child_of c i).depth =
    (let one = depth_child_of c i in omega (arith, one, deep)) in
    ap (λ (m : ℕ). class_in c.depth r m k) (at ∙ zero_more)
    ∙ ap (λ (m : ℕ). class_in m r (i + 0) k) deep ∙ from 0 k ∙ next_gives d n es k are
    ∙ ap (λ (m : ℕ). class_by m (next_child es) k) level

-- ---- child after child

-- The first i children of a block are counted, and of both sides these entries are left.
pub record IsCounting (lo hi : Voxel) (c : Cube) (a b : ℕ) (first second : List ℕ)
    (r s : Entries) (p q : List ℕ) (old now : List ℕ) (at to left other i : ℕ) : Type 0 where
  pub n : ℕ
  pub count : i + n ≡ 8
  pub es : Entries
  pub fs : Entries
  pub mine : IsAhead c.depth a first at left n r p es
  pub theirs : IsAhead c.depth b second to other n s q fs
  pub mine_from : AreFrom c.depth i r es
  pub theirs_from : AreFrom c.depth i s fs
  pub counted : (m : ℕ) → m < 9 → slice_index_or now m 0
      ≡ slice_index_or old m 0
      + sum_below (λ j. pairs_in lo hi (class_by c.depth r) (class_by c.depth s) m (child_of c j)) i

pub counting_first : (lo hi : Voxel) (c : Cube) (a b : ℕ) (first second : List ℕ)
    (r s : Entries) (p q old : List ℕ) (at to left other : ℕ)
    → IsAhead c.depth a first at left 8 r p r → IsAhead c.depth b second to other 8 s q s
    → IsCounting lo hi c a b first second r s p q old old at to left other 0
counting_first lo hi c a b first second r s p q old at to left other mine theirs = record {
  n = 8;
  count = refl;
  es = r;
  fs = s;
  mine = mine;
  theirs = theirs;
  mine_from = from_first c.depth r;
  theirs_from = from_first c.depth s;
  counted = λ m l. child_first
      (λ j. pairs_in lo hi (class_by c.depth r) (class_by c.depth s) m (child_of c j))
      (slice_index_or old m 0);
}

-- the next child of both sides
pub record AreNextTwo (lo hi : Voxel) (c : Cube) (a b : ℕ) (first second : List ℕ)
    (r s : Entries) (p q old now : List ℕ) (at to left other i : ℕ) : Type 0 where
  pub r' : Entries
  pub s' : Entries
  pub p' : List ℕ
  pub q' : List ℕ
  pub side : IsSide (c.depth + 1) (left % 4) r'
  pub other_side : IsSide (c.depth + 1) (other % 4) s'
  pub front : drop at first ≡ side_text (left % 4) r' ++ p'
  pub other_front : drop to second ≡ side_text (other % 4) s' ++ q'
  pub low : left % 4 ≡ 3 → c.depth < 15
  pub other_low : other % 4 ≡ 3 → c.depth < 15
  pub within : at + length (side_text (left % 4) r') ≤ length (side_text a r)
  pub other_within : to + length (side_text (other % 4) s') ≤ length (side_text b s)
  pub block : IsBlock (child_of c i)
  pub pairs : (m : ℕ)
      → pairs_in lo hi (class_by c.depth r) (class_by c.depth s) m (child_of c i)
      ≡ pairs_by lo hi r' s' m (child_of c i)
  pub room : ((m : ℕ) → m < 9 → slice_index_or old m 0 + pairs_by lo hi r s m c < 2 ^ 64)
      → (m : ℕ) → m < 9 → slice_index_or now m 0 + pairs_by lo hi r' s' m (child_of c i) < 2 ^ 64
  pub step : (new : List ℕ) (read : Read)
      → IsTabled lo hi (child_of c i) (left % 4) (other % 4) r' s' now new read
      → IsCounting lo hi c a b first second r s p q old new (at + read.first) (to + read.second)
      (left / 4) (other / 4) (i + 1)

pub counting_next : (lo hi : Voxel) (c : Cube) (a b : ℕ) (first second : List ℕ)
    (r s : Entries) (p q old now : List ℕ) (at to left other i : ℕ) → IsBlock c → c.depth ≤ 15
    → i < 8
    → IsCounting lo hi c a b first second r s p q old now at to left other i
    → AreNextTwo lo hi c a b first second r s p q old now at to left other i
counting_next lo hi c a b first second r s p q old now at to left other i ok low li j =
    by_count j.n j.count j.mine j.theirs
  where
    by_count : (n : ℕ) → i + n ≡ 8 → IsAhead c.depth a first at left n r p j.es
        → IsAhead c.depth b second to other n s q j.fs
        → AreNextTwo lo hi c a b first second r s p q old now at to left other i
    by_count zero count mine theirs = absurd (omega (arith, count, li))
    by_count (suc n) count mine theirs =
        (let x = side_next c.depth a first at left n r p j.es mine in
        let y = side_next c.depth b second to other n s q j.fs theirs in
        let used = x.after.used in
        let other_used = y.after.used in
        let block : IsBlock (child_of c i) = child_in_map c i ok (omega (arith, low)) in
        let pairs : (m : ℕ)
        → pairs_in lo hi (class_by c.depth r) (class_by c.depth s) m (child_of c i)
        ≡ pairs_by lo hi (next_child j.es) (next_child j.fs) m (child_of c i) = λ m.
        pairs_same lo hi (class_by c.depth r) (class_by c.depth s)
        (class_by (child_of c i).depth (next_child j.es))
        (class_by (child_of c i).depth (next_child j.fs)) m (child_of c i) block
        (λ k held. child_gives c c.depth i n r j.es k ok refl low li mine.are j.mine_from held)
        (λ k held. child_gives c c.depth i n s j.fs k ok refl low li theirs.are j.theirs_from
        held) in
        record {
          r' = next_child j.es;
          s' = next_child j.fs;
          p' = bodies_of (after_child j.es) ++ p;
          q' = bodies_of (after_child j.fs) ++ q;
          side = x.side;
          other_side = y.side;
          front = x.front;
          other_front = y.front;
          low = x.low;
          other_low = y.low;
          within = omega (arith, used);
          other_within = omega (arith, other_used);
          block = block;
          pairs = pairs;
          room = λ room m l.
              (let fits = child_room lo hi (class_by c.depth r) (class_by c.depth s) m i c
              (slice_index_or old m 0) (slice_index_or now m 0) low li (room m l)
              (j.counted m l) in
              let same = pairs m in
              omega (arith, fits, same));
          step = λ new read is. record {
            n = n;
            count = omega (arith, count);
            es = after_child j.es;
            fs = after_child j.fs;
            mine = subst (λ (m : ℕ). IsAhead c.depth a first (at + m) (left / 4) n r p
                (after_child j.es)) (sym is.first) x.after;
            theirs = subst (λ (m : ℕ). IsAhead c.depth b second (to + m) (other / 4) n s q
                (after_child j.fs)) (sym is.second) y.after;
            mine_from = from_next c.depth i r j.es j.mine_from;
            theirs_from = from_next c.depth i s j.fs j.theirs_from;
            counted = λ m l. child_next
                (λ j. pairs_in lo hi (class_by c.depth r) (class_by c.depth s) m (child_of c j))
                (slice_index_or old m 0) (slice_index_or now m 0) (slice_index_or new m 0) i
                (j.counted m l)
                (is.counted m l
                ∙ ap (λ (v : ℕ). slice_index_or now m 0 + v) (sym (pairs m)));
          };
        })

-- the same by other words
pub same_counting : (lo hi : Voxel) (c : Cube) (a b : ℕ) (first second : List ℕ)
    (r s : Entries) (p q old now new : List ℕ) (at at' to to' left other i : ℕ)
    → new ≡ now → at' ≡ at → to' ≡ to
    → IsCounting lo hi c a b first second r s p q old now at to left other i
    → IsCounting lo hi c a b first second r s p q old new at' to' left other i
same_counting lo hi c a b first second r s p q old now new at at' to to' left other i now_is at_is
    to_is j =
    subst (λ (t : List ℕ). IsCounting lo hi c a b first second r s p q old t at' to' left other i)
    (sym now_is)
    (subst (λ (n : ℕ). IsCounting lo hi c a b first second r s p q old now n to' left other i)
    (sym at_is)
    (subst (λ (n : ℕ). IsCounting lo hi c a b first second r s p q old now at n left other i)
    (sym to_is) j))

-- all children
pub counting_all : (lo hi : Voxel) (c : Cube) (a b : ℕ) (first second : List ℕ)
    (r s : Entries) (p q old now : List ℕ) (at to left other i : ℕ) (read : Read) → c.depth ≤ 15
    → i ≡ 8 → read.first ≡ at → read.second ≡ to
    → IsCounting lo hi c a b first second r s p q old now at to left other i
    → IsTabled lo hi c a b r s old now read
unfolding bodies_of
counting_all lo hi c a b first second r s p q old now at to left other i read low end one two j =
    let count = j.count in
    let none : j.n ≡ 0 = omega (arith, count, end) in
    let first_end : j.es ≡ End = ends j.es c.depth j.n none j.mine.are in
    let second_end : j.fs ≡ End = ends j.fs c.depth j.n none j.theirs.are in
    let short : length (bodies_of j.es) ≡ 0 = ap (λ es. length (bodies_of es)) first_end in
    let other_short : length (bodies_of j.fs) ≡ 0 = ap (λ es. length (bodies_of es)) second_end in
    let used = j.mine.used in
    let other_used = j.theirs.used in
    record {
      counted = λ m l. child_last lo hi (class_by c.depth r) (class_by c.depth s) m i c
          (slice_index_or old m 0) (slice_index_or now m 0) low end (j.counted m l);
      first = omega (arith, used, short, one);
      second = omega (arith, other_used, other_short, two);
    }

-- ---- one child

no_text : (code : ℕ) (r : Entries) → (code ≡ 3 → ⊥) → length (side_text code r) ≡ 0
no_text code r other = elim (eqb_tells code 3) [
  | inl (e, at) ↦ absurd (other at)
  | inr (e, ne) ↦ ap (λ (t : Bool). length (if t then flat r else [])) e
]

-- a block with a class in both files
pub leaf_pairs : (lo hi : Voxel) (c : Cube) (d a b : ℕ) (r s : Entries) (place voxels n : ℕ)
    → IsBlock c → (a ≡ 3 → ⊥) → (b ≡ 3 → ⊥) → IsSide d a r → IsSide d b s
    → ((x y : Class) → a ≡ class_code x → b ≡ class_code y → place ≡ pair_of x y)
    → voxels ≡ shared_in lo hi c
    → pairs_by lo hi r s n c ≡ cond (nat_eq place n) voxels 0
leaf_pairs lo hi c d a b r s place voxels n ok no_a no_b (is, inl three) side' at share =
    absurd (no_a three)
leaf_pairs lo hi c d a b r s place voxels n ok no_a no_b side' (is, inl three) at share =
    absurd (no_b three)
leaf_pairs lo hi c d a b r s place voxels n ok no_a no_b (is, inr (x, at_x, all_x))
    (is', inr (y, at_y, all_y)) at share =
    pairs_plain lo hi (class_by c.depth r) (class_by c.depth s) n c x y ok
    (λ k held. ap (λ (r : Entries). class_by c.depth r k) all_x
    ∙ alike_class x c.depth 8 (child_index_of c.depth k) k (child_index_below c.depth k))
    (λ k held. ap (λ (s : Entries). class_by c.depth s k) all_y
    ∙ alike_class y c.depth 8 (child_index_of c.depth k) k (child_index_below c.depth k))
    ∙ ap (λ (p : ℕ). cond (nat_eq p n) (shared_in lo hi c) 0) (sym (at x y at_x at_y))
    ∙ ap (λ (v : ℕ). cond (nat_eq place n) v 0) (sym share)

pub code_few : (d code : ℕ) (r : Entries) → (code ≡ 3 → ⊥) → IsSide d code r → code < 3
code_few d code r other side' = (codes_of_class d code r other side').1

pub leaf_counts : (lo hi : Voxel) (c : Cube) (a b : ℕ) (first second : List ℕ)
    (r s : Entries) (p q old now new : List ℕ) (at to left other i place voxels : ℕ)
    → AreNextTwo lo hi c a b first second r s p q old now at to left other i
    → (left % 4 ≡ 3 → ⊥) → (other % 4 ≡ 3 → ⊥)
    → ((x y : Class) → left % 4 ≡ class_code x → other % 4 ≡ class_code y → place ≡ pair_of x y)
    → voxels ≡ shared_in lo hi (child_of c i)
    → ((n : ℕ) → n < 9 → slice_index_or new n 0
    ≡ slice_index_or now n 0 + cond (nat_eq place n) voxels 0)
    → IsCounting lo hi c a b first second r s p q old new at to (left / 4) (other / 4) (i + 1)
leaf_counts lo hi c a b first second r s p q old now new at to left other i place voxels x no_a no_b
    place_is share added =
    let read : Read = record { first = 0; second = 0 } in
    let same : at ≡ at + 0 = omega arith in
    let other_same : to ≡ to + 0 = omega arith in
    same_counting lo hi c a b first second r s p q old new new (at + 0) at (to + 0) to (left / 4)
    (other / 4) (i + 1) refl same other_same
    (x.step new read (record {
      counted = λ n l. added n l ∙ ap (λ (m : ℕ). slice_index_or now n 0 + m)
          (sym (leaf_pairs lo hi (child_of c i) (c.depth + 1) (left % 4) (other % 4) x.r' x.s' place
          voxels n x.block no_a no_b x.side x.other_side place_is share));
      first = sym (no_text (left % 4) x.r' no_a);
      second = sym (no_text (other % 4) x.s' no_b);
    }))

pub leaf_room : (lo hi : Voxel) (c : Cube) (a b : ℕ) (first second : List ℕ)
    (r s : Entries) (p q old now : List ℕ) (at to left other i place voxels : ℕ)
    → AreNextTwo lo hi c a b first second r s p q old now at to left other i
    → ((m : ℕ) → m < 9 → slice_index_or old m 0 + pairs_by lo hi r s m c < 2 ^ 64)
    → (left % 4 ≡ 3 → ⊥) → (other % 4 ≡ 3 → ⊥)
    → ((x y : Class) → left % 4 ≡ class_code x → other % 4 ≡ class_code y → place ≡ pair_of x y)
    → place < 9 → voxels ≡ shared_in lo hi (child_of c i)
    → slice_index_or now place 0 + voxels < 2 ^ 64
leaf_room lo hi c a b first second r s p q old now at to left other i place voxels x room no_a no_b
    place_is few share =
    counted_room (slice_index_or now place 0) voxels place
    (pairs_by lo hi x.r' x.s' place (child_of c i))
    (leaf_pairs lo hi (child_of c i) (c.depth + 1) (left % 4) (other % 4) x.r' x.s' place voxels
    place x.block no_a no_b x.side x.other_side place_is share)
    (x.room room place few)

-- a child that doesn't meet the box
pub passed_counts : (lo hi : Voxel) (c : Cube) (a b : ℕ) (first second : List ℕ)
    (r s : Entries) (p q old now : List ℕ) (at to left other i voxels : ℕ) (read : Read)
    → (x : AreNextTwo lo hi c a b first second r s p q old now at to left other i)
    → voxels ≡ shared_in lo hi (child_of c i) → voxels ≡ 0
    → read.first ≡ length (side_text (left % 4) x.r')
    → read.second ≡ length (side_text (other % 4) x.s')
    → IsCounting lo hi c a b first second r s p q old now (at + read.first) (to + read.second)
    (left / 4) (other / 4) (i + 1)
passed_counts lo hi c a b first second r s p q old now at to left other i voxels read x share none
    one two =
    x.step now read (record {
      counted = λ n l. counted_none lo hi (class_by (child_of c i).depth x.r')
          (class_by (child_of c i).depth x.s') n (child_of c i) voxels (slice_index_or now n 0)
          x.block share none;
      first = one;
      second = two;
    })

-- a child that is counted by itself
pub child_hand : (lo hi : Voxel) (c child : Cube) (a b : ℕ) (first second later others : List ℕ)
    (r s : Entries) (p q old now : List ℕ) (at to left other i : ℕ)
    → AreNextTwo lo hi c a b first second r s p q old now at to left other i
    → ((m : ℕ) → m < 9 → slice_index_or old m 0 + pairs_by lo hi r s m c < 2 ^ 64)
    → child ≡ child_of c i → later ≡ drop at first → others ≡ drop to second
    → AreAtHand lo hi child (left % 4) (other % 4) later others now
child_hand lo hi c child a b first second later others r s p q old now at to left other i x room is
    one two =
    let level : c.depth + 1 ≡ (child_of c i).depth = sym (depth_child_of c i) in
    subst (λ (c : Cube). AreAtHand lo hi c (left % 4) (other % 4) later others now) (sym is)
    (record {
      r = x.r';
      s = x.s';
      p = x.p';
      q = x.q';
      side = subst (λ (d : ℕ). IsSide d (left % 4) x.r') level x.side;
      other_side = subst (λ (d : ℕ). IsSide d (other % 4) x.s') level x.other_side;
      text = one ∙ x.front;
      other_text = two ∙ x.other_front;
      room = x.room room;
    })

pub child_tabled : (lo hi : Voxel) (c child : Cube) (a b : ℕ)
    (first second later others : List ℕ)
    (r s : Entries) (p q old now new : List ℕ) (at to left other i : ℕ) (read : Read)
    → (x : AreNextTwo lo hi c a b first second r s p q old now at to left other i)
    → child ≡ child_of c i → later ≡ drop at first → others ≡ drop to second
    → ((r s : Entries) (p q : List ℕ) → IsSide child.depth (left % 4) r
    → later ≡ side_text (left % 4) r ++ p → IsSide child.depth (other % 4) s
    → others ≡ side_text (other % 4) s ++ q
    → IsTabled lo hi child (left % 4) (other % 4) r s now new read)
    → IsTabled lo hi (child_of c i) (left % 4) (other % 4) x.r' x.s' now new read
child_tabled lo hi c child a b first second later others r s p q old now new at to left other i read
    x is one two counted =
    let level : c.depth + 1 ≡ child.depth =
    sym (depth_child_of c i) ∙ ap (λ (c : Cube). c.depth) (sym is) in
    subst (λ (c : Cube). IsTabled lo hi c (left % 4) (other % 4) x.r' x.s' now new read) is
    (counted x.r' x.s' x.p' x.q' (subst (λ (d : ℕ). IsSide d (left % 4) x.r') level x.side)
    (one ∙ x.front) (subst (λ (d : ℕ). IsSide d (other % 4) x.s') level x.other_side)
    (two ∙ x.other_front))

-- ---- the length of a side

-- the records of the first i children are passed over
pub record IsPassing (d code : ℕ) (text : List ℕ) (r : Entries) (tail : List ℕ) (at left i : ℕ)
    : Type 0 where
  pub n : ℕ
  pub count : i + n ≡ 8
  pub es : Entries
  pub ahead : IsAhead d code text at left n r tail es

pub record IsPassed (d code : ℕ) (text : List ℕ) (r : Entries) (tail : List ℕ) (at left i : ℕ)
    : Type 0 where
  pub r' : Entries
  pub p' : List ℕ
  pub side : IsSide (d + 1) (left % 4) r'
  pub front : drop at text ≡ side_text (left % 4) r' ++ p'
  pub low : left % 4 ≡ 3 → d < 15
  pub within : at + length (side_text (left % 4) r') ≤ length (side_text code r)
  pub step : (m : ℕ) → m ≡ at + length (side_text (left % 4) r')
      → IsPassing d code text r tail m (left / 4) (i + 1)

pub passing_first : (d code : ℕ) (text : List ℕ) (r : Entries) (tail : List ℕ) (at left : ℕ)
    → IsSide d code r → text ≡ side_text code r ++ tail
    → at ≡ (if nat_eq code 3 then 2 else 0) → left ≡ codes_of r
    → IsPassing d code text r tail at left 0
passing_first d code text r tail at left side' is start codes = record {
  n = 8;
  count = refl;
  es = r;
  ahead = ahead_first d code text at left r tail side' is start codes;
}

pub passing_next : (d code : ℕ) (text : List ℕ) (r : Entries) (tail : List ℕ) (at left i : ℕ)
    → i < 8 → IsPassing d code text r tail at left i → IsPassed d code text r tail at left i
passing_next d code text r tail at left i li j = by_count j.n j.count j.ahead
  where
    by_count : (n : ℕ) → i + n ≡ 8 → IsAhead d code text at left n r tail j.es
        → IsPassed d code text r tail at left i
    by_count zero count ahead = absurd (omega (arith, count, li))
    by_count (suc n) count ahead =
        (let x = side_next d code text at left n r tail j.es ahead in
        let used = x.after.used in
        record {
          r' = next_child j.es;
          p' = bodies_of (after_child j.es) ++ tail;
          side = x.side;
          front = x.front;
          low = x.low;
          within = omega (arith, used);
          step = λ m is. record {
            n = n;
            count = omega (arith, count);
            es = after_child j.es;
            ahead = subst (λ (m : ℕ). IsAhead d code text m (left / 4) n r tail
                (after_child j.es)) (sym is) x.after;
          };
        })

pub passed_leaf : (d code : ℕ) (text : List ℕ) (r : Entries) (tail : List ℕ) (at left i m : ℕ)
    → IsPassed d code text r tail at left i → (left % 4 ≡ 3 → ⊥) → m ≡ at
    → IsPassing d code text r tail m (left / 4) (i + 1)
passed_leaf d code text r tail at left i m x other is =
    (let none = no_text (left % 4) x.r' other in x.step m (omega (arith, none, is)))

pub passing_all : (d code : ℕ) (text : List ℕ) (r : Entries) (tail : List ℕ) (at left i : ℕ)
    → i ≡ 8 → IsPassing d code text r tail at left i → at ≡ length (side_text code r)
unfolding bodies_of
passing_all d code text r tail at left i end j =
    let count = j.count in
    let none : j.n ≡ 0 = omega (arith, count, end) in
    let short : length (bodies_of j.es) ≡ 0 =
    ap (λ es. length (bodies_of es)) (ends j.es d j.n none j.ahead.are) in
    let used = j.ahead.used in
    omega (arith, used, short)

-- ---- the shares of the children

products_agree : {x y z u v w : ℕ} → x ≡ u → y ≡ v → z ≡ w → x * y * z ≡ u * v * w
products_agree ex ey ez = rw (ex, ey, ez) refl

pub shares_are : (lo hi : Voxel) (c : Cube) (x0 x1 y0 y1 z0 z1 i : ℕ) → i < 8
    → x0 ≡ shared lo.x (hi.x + 1) (side (c.depth + 1)) (2 * c.x + 0)
    → x1 ≡ shared lo.x (hi.x + 1) (side (c.depth + 1)) (2 * c.x + 1)
    → y0 ≡ shared lo.y (hi.y + 1) (side (c.depth + 1)) (2 * c.y + 0)
    → y1 ≡ shared lo.y (hi.y + 1) (side (c.depth + 1)) (2 * c.y + 1)
    → z0 ≡ shared lo.z (hi.z + 1) (side (c.depth + 1)) (2 * c.z + 0)
    → z1 ≡ shared lo.z (hi.z + 1) (side (c.depth + 1)) (2 * c.z + 1)
    → slice_index_or {A = ℕ} (x0 * y0 * z0 ∷ x1 * y0 * z0 ∷ x0 * y1 * z0 ∷ x1 * y1 * z0
    ∷ x0 * y0 * z1 ∷ x1 * y0 * z1 ∷ x0 * y1 * z1 ∷ x1 * y1 * z1 ∷ []) i 0
    ≡ shared_in lo hi (child_of c i)
unfolding child_of
shares_are lo hi c x0 x1 y0 y1 z0 z1 zero l ex0 ex1 ey0 ey1 ez0 ez1 =
    products_agree ex0 ey0 ez0
shares_are lo hi c x0 x1 y0 y1 z0 z1 (suc zero) l ex0 ex1 ey0 ey1 ez0 ez1 =
    products_agree ex1 ey0 ez0
shares_are lo hi c x0 x1 y0 y1 z0 z1 (suc (suc zero)) l ex0 ex1 ey0 ey1 ez0 ez1 =
    products_agree ex0 ey1 ez0
shares_are lo hi c x0 x1 y0 y1 z0 z1 (suc (suc (suc zero))) l ex0 ex1 ey0 ey1 ez0 ez1 =
    products_agree ex1 ey1 ez0
shares_are lo hi c x0 x1 y0 y1 z0 z1 (suc (suc (suc (suc zero)))) l ex0 ex1 ey0 ey1 ez0 ez1 =
    products_agree ex0 ey0 ez1
shares_are lo hi c x0 x1 y0 y1 z0 z1 (suc (suc (suc (suc (suc zero))))) l ex0 ex1 ey0 ey1 ez0 ez1 =
    products_agree ex1 ey0 ez1
shares_are lo hi c x0 x1 y0 y1 z0 z1 (suc (suc (suc (suc (suc (suc zero)))))) l ex0 ex1 ey0 ey1 ez0
    ez1 = products_agree ex0 ey1 ez1
shares_are lo hi c x0 x1 y0 y1 z0 z1 (suc (suc (suc (suc (suc (suc (suc zero))))))) l ex0 ex1 ey0
    ey1 ez0 ez1 = products_agree ex1 ey1 ez1
shares_are lo hi c x0 x1 y0 y1 z0 z1 (suc (suc (suc (suc (suc (suc (suc (suc i)))))))) l ex0 ex1 ey0
    ey1 ez0 ez1 = absurd (omega (arith, l))

pub product_small : (a b c : ℕ) → a ≤ 2 ^ 16 → b ≤ 2 ^ 16 → c ≤ 2 ^ 16
    → a * b * c < 18446744073709551616
product_small a b c la lb lc =
    (let all : a * b * c ≤ 2 ^ 16 * 2 ^ 16 * 2 ^ 16 = mul-le-mul (mul-le-mul la lb) lc in
    omega (arith, all))

pub share_is : (lo hi : Voxel) (c : Cube) (shares : List ℕ) (index i : ℕ) → i < 8 → index ≡ i
    → ((i : ℕ) → i < 8 → slice_index_or shares i 0 ≡ shared_in lo hi (child_of c i))
    → slice_index_or shares index 0 ≡ shared_in lo hi (child_of c i)
share_is lo hi c shares index i li is each =
    ap (λ (n : ℕ). slice_index_or shares n 0) is ∙ each i li

-- ---- the whole table

held_in_root : (k : Voxel) → HoldsVoxel root_block k → IsInMap k
held_in_root k held =
    let (_, x) = held.x in
    let (_, y) = held.y in
    let (_, z) = held.z in
    record { x = omega (arith, x); y = omega (arith, y); z = omega (arith, z) }

pub root_hand : (lo hi : Voxel) (map : Cube) (first second : List ℕ) (a b : ℕ) → IsInMap hi
    → map ≡ root_block → IsRoot first a → IsRoot second b
    → AreAtHand lo hi map a b first second (replicate 9 0)
root_hand lo hi map first second a b v is x y =
    subst (λ (c : Cube). AreAtHand lo hi c a b first second (replicate 9 0)) (sym is) (record {
      r = x.r;
      s = y.r;
      p = [];
      q = [];
      side = x.side;
      other_side = y.side;
      text = x.text;
      other_text = y.text;
      room = λ n l. empty_room lo hi (class_by 0 x.r) (class_by 0 y.r) n v l;
    })

pub root_table : (lo hi : Voxel) (map : Cube) (first second counts : List ℕ) (a b : ℕ) (read : Read)
    → map ≡ root_block → IsRoot first a → IsRoot second b → length counts ≡ 9
    → ((r s : Entries) (p q : List ℕ) → IsSide map.depth a r
    → first ≡ side_text a r ++ p → IsSide map.depth b s
    → second ≡ side_text b s ++ q
    → IsTabled lo hi map a b r s (replicate 9 0) counts read)
    → counts ≡ pair_counts lo hi (data_classes first) (data_classes second)
root_table lo hi map first second counts a b read is x y nine counted =
    let depth : 0 ≡ map.depth = ap (λ (c : Cube). c.depth) (sym is) in
    let t : IsTabled lo hi root_block a b x.r y.r (replicate 9 0) counts read =
    subst (λ (c : Cube). IsTabled lo hi c a b x.r y.r (replicate 9 0) counts read) is
    (counted x.r y.r [] [] (subst (λ (d : ℕ). IsSide d a x.r) depth x.side) x.text
    (subst (λ (d : ℕ). IsSide d b y.r) depth y.side) y.text) in
    whole_table lo hi (data_classes first) (data_classes second) counts nine
    (λ n l. from_none _ _ _ (t.counted n l) (zeros n l)
    ∙ pairs_same lo hi (class_by 0 x.r) (class_by 0 y.r) (data_classes first) (data_classes second)
    n root_block root_in_map (λ k held. x.gives k (held_in_root k held))
    (λ k held. y.gives k (held_in_root k held)))
