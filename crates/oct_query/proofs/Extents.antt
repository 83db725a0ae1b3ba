-- The least box around the voxels of a block, and those around the voxels of its children.
use Rattle.std.proofs.Common.{◌≡◌, ℕ, ◌+◌, ◌-◌, ◌*◌, ◌^◌, ◌<◌, ◌≤◌, min, max, Bool, true}
use Rattle.std.proofs.Common.{false, Option, Some, None, inl, inr, refl, sym, subst, ◌∙◌, ap, arith}
use Rattle.std.specs.Prelude.{◌⊎◌}
use Rattle.std.proofs.lemmas.Bool.{false≢true, cases_lt}
use Rattle.std.proofs.Math.Nat.{mul-le-mul_right, min-le_left, min-le_right, le-max_left}
use Rattle.std.proofs.Math.Nat.{le-max_right, le-min, max-le}
use Rattle.std.proofs.lemmas.Nat.{pow_pos, pow-add}
use Rattle.oct_key.specs.Voxel.{Voxel}
use Rattle.oct_key.specs.Block.{Cube, IsBlock, HoldsVoxel, child_of, child_index_of, side}
use Rattle.oct_key.specs.Block.{lowest_voxel, root_block}
use Rattle.oct_key.specs.Boxes.{IsInBox, IsBetween, Window}
use Rattle.oct_key.proofs.Blocks.{child_index_below, lowest_held, root_holds, root_in_map}
use Rattle.oct_key.proofs.Held.{held_by_parent, held_by_child, held_in_map}
use Rattle.oct_odds.specs.declared.event.Class.{Class}
use Rattle.oct_values.specs.Classes.{Classes}
use Rattle.oct_query.specs.declared.sought.Sought.{Sought}
use Rattle.oct_query.specs.Extent.{IsExtent, IsFound, IsFoundIn, is_sought, joined}
use Rattle.oct_query.specs.Extent.{lower, higher, highest_voxel}

-- those that are sought in the first n children of a block
abbrev pub IsFoundInFirst : Classes → Sought → Cube → ℕ → Voxel → Type 0
IsFoundInFirst classes sought b n k = (j : ℕ) × (j < n) × IsFoundIn classes sought (child_of b j) k

-- the same voxels have the same extent
pub extent_same : (These Those : Voxel → Type 0) (o : Option Window)
    → ((k : Voxel) → These k → Those k) → ((k : Voxel) → Those k → These k) → IsExtent These o
    → IsExtent Those o
extent_same These Those None to from e = λ k those. e k (from k those)
extent_same These Those (Some box) to from e = record {
  holds = λ k those. e.holds k (from k those);
  least = λ lo hi all. e.least lo hi (λ k these. all k (to k these));
}

-- ---- the last voxel of a block

-- the end of a block is a number of the map
pub end_fits : (d n : ℕ) → d ≤ 16 → n < 2 ^ d → (n + 1) * side d ≤ 65536
end_fits d n l h =
    let next : (n + 1) * 2 ^ (16 - d) ≤ 2 ^ d * 2 ^ (16 - d) =
    mul-le-mul_right (2 ^ (16 - d)) (omega (arith, h)) in
    let all : d + (16 - d) ≡ 16 = omega (arith, l) in
    let whole : 2 ^ d * 2 ^ (16 - d) ≡ 65536 = sym (pow-add 2 d (16 - d))
    ∙ ap (λ (m : ℕ). 2 ^ m) all in
    omega (arith, next, whole)

pub some_side : (d n : ℕ) → 0 < (n + 1) * side d
some_side d n =
    (let some : 0 < 2 ^ (16 - d) = pow_pos (16 - d) in
    let grow : 1 * 2 ^ (16 - d) ≤ (n + 1) * 2 ^ (16 - d) =
    mul-le-mul_right (2 ^ (16 - d)) (omega arith) in omega (arith, some, grow))

-- the last number of a block on an axis is one of its own
pub last_held : (d n : ℕ)
    → (n * side d ≤ (n + 1) * side d - 1) × ((n + 1) * side d - 1 < (n + 1) * side d)
last_held d n =
    let some : 0 < 2 ^ (16 - d) = pow_pos (16 - d) in
    let more : (n + 1) * 2 ^ (16 - d) ≡ n * 2 ^ (16 - d) + 2 ^ (16 - d) = omega arith in
    (omega (arith, some, more), omega (arith, some, more))

pub highest_held : (b : Cube) → HoldsVoxel b (highest_voxel b)
highest_held b = record {
  x = last_held b.depth b.x;
  y = last_held b.depth b.y;
  z = last_held b.depth b.z;
}

held_between : (d n v : ℕ) → n * side d ≤ v → v < (n + 1) * side d
    → IsBetween (n * side d) ((n + 1) * side d - 1) v
held_between d n v low high = (low, omega (arith, high))

pub held_in_box : (b : Cube) (k : Voxel) → HoldsVoxel b k
    → IsInBox (lowest_voxel b) (highest_voxel b) k
held_in_box b k held = record {
  x = held_between b.depth b.x k.x held.x.0 held.x.1;
  y = held_between b.depth b.y k.y held.y.0 held.y.1;
  z = held_between b.depth b.z k.z held.z.0 held.z.1;
}

-- ---- a block all whose voxels are sought, or none

pub extent_of_all : (classes : Classes) (sought : Sought) (b : Cube)
    → ((k : Voxel) → HoldsVoxel b k → is_sought sought (classes k) ≡ true)
    → IsExtent (IsFoundIn classes sought b)
    (Some (record { lo = lowest_voxel b; hi = highest_voxel b }))
extent_of_all classes sought b all = record {
  holds = λ k (held, is). held_in_box b k held;
  least = λ lo hi each. (
    each (lowest_voxel b) (lowest_held b, all (lowest_voxel b) (lowest_held b)),
    each (highest_voxel b) (highest_held b, all (highest_voxel b) (highest_held b)),
  );
}

pub extent_of_none : (classes : Classes) (sought : Sought) (b : Cube)
    → ((k : Voxel) → HoldsVoxel b k → is_sought sought (classes k) ≡ false)
    → IsExtent (IsFoundIn classes sought b) None
extent_of_none classes sought b none = λ k (held, is). false≢true (sym (none k held) ∙ is)

pub extent_of_block : (classes : Classes) (sought : Sought) (b : Cube) (class : Class) (t : Bool)
    (o : Option Window) → IsBlock b
    → ((k : Voxel) → HoldsVoxel b k → classes k ≡ class) → t ≡ is_sought sought class
    → (t ≡ false → o ≡ None)
    → (t ≡ true → o ≡ Some (record { lo = lowest_voxel b; hi = highest_voxel b }))
    → IsExtent (IsFoundIn classes sought b) o
extent_of_block classes sought b class true o ok all is none some =
    subst (IsExtent (IsFoundIn classes sought b)) (sym (some refl))
    (extent_of_all classes sought b (λ k held. ap (is_sought sought) (all k held) ∙ sym is))
extent_of_block classes sought b class false o ok all is none some =
    subst (IsExtent (IsFoundIn classes sought b)) (sym (none refl))
    (extent_of_none classes sought b (λ k held. ap (is_sought sought) (all k held) ∙ sym is))

-- ---- the box around two boxes

-- a voxel is one of these or one of those
abbrev Either : (Voxel → Type 0) → (Voxel → Type 0) → Voxel → Type 0
Either These Those k = These k ⊎ Those k

wider_first : (a b : Window) (k : Voxel) → IsInBox a.lo a.hi k
    → IsInBox (lower a.lo b.lo) (higher a.hi b.hi) k
wider_first a b k h = record {
  x = axis a.lo.x a.hi.x b.lo.x b.hi.x k.x h.x;
  y = axis a.lo.y a.hi.y b.lo.y b.hi.y k.y h.y;
  z = axis a.lo.z a.hi.z b.lo.z b.hi.z k.z h.z;
}
  where
    axis : (al ah bl bh n : ℕ) → IsBetween al ah n → IsBetween (min al bl) (max ah bh) n
    axis al ah bl bh n (low, high) =
        (let least = min-le_left al bl in
        let most = le-max_left ah bh in
        (omega (arith, least, low), omega (arith, most, high)))

wider_second : (a b : Window) (k : Voxel) → IsInBox b.lo b.hi k
    → IsInBox (lower a.lo b.lo) (higher a.hi b.hi) k
wider_second a b k h = record {
  x = axis a.lo.x a.hi.x b.lo.x b.hi.x k.x h.x;
  y = axis a.lo.y a.hi.y b.lo.y b.hi.y k.y h.y;
  z = axis a.lo.z a.hi.z b.lo.z b.hi.z k.z h.z;
}
  where
    axis : (al ah bl bh n : ℕ) → IsBetween bl bh n → IsBetween (min al bl) (max ah bh) n
    axis al ah bl bh n (low, high) =
        (let least = min-le_right al bl in
        let most = le-max_right ah bh in
        (omega (arith, least, low), omega (arith, most, high)))

lower_in : (lo hi a b : Voxel) → IsInBox lo hi a → IsInBox lo hi b → IsInBox lo hi (lower a b)
lower_in lo hi a b f g = record {
  x = axis lo.x hi.x a.x b.x f.x g.x;
  y = axis lo.y hi.y a.y b.y f.y g.y;
  z = axis lo.z hi.z a.z b.z f.z g.z;
}
  where
    axis : (l h m n : ℕ) → IsBetween l h m → IsBetween l h n → IsBetween l h (min m n)
    axis l h m n f g = (let least = min-le_left m n in
        (le-min f.0 g.0, omega (arith, least, f.1)))

higher_in : (lo hi a b : Voxel) → IsInBox lo hi a → IsInBox lo hi b → IsInBox lo hi (higher a b)
higher_in lo hi a b f g = record {
  x = axis lo.x hi.x a.x b.x f.x g.x;
  y = axis lo.y hi.y a.y b.y f.y g.y;
  z = axis lo.z hi.z a.z b.z f.z g.z;
}
  where
    axis : (l h m n : ℕ) → IsBetween l h m → IsBetween l h n → IsBetween l h (max m n)
    axis l h m n f g = (let most = le-max_left m n in
        (omega (arith, most, f.0), max-le f.1 g.1))

pub extent_joined : (These Those : Voxel → Type 0) (a b : Option Window) → IsExtent These a
    → IsExtent Those b → IsExtent (Either These Those) (joined a b)
extent_joined These Those None None f g = λ k either. elim either [
  | inl these ↦ f k these
  | inr those ↦ g k those
]
extent_joined These Those None (Some b) f g =
    extent_same Those (Either These Those) (Some b) (λ k those. inr those)
    (λ k either. elim either [ inl these ↦ absurd (f k these) | inr those ↦ those ]) g
extent_joined These Those (Some a) None f g =
    extent_same These (Either These Those) (Some a) (λ k these. inl these)
    (λ k either. elim either [ inl these ↦ these | inr those ↦ absurd (g k those) ]) f
extent_joined These Those (Some a) (Some b) f g = record {
  holds = λ k either. elim either [
    | inl these ↦ wider_first a b k (f.holds k these)
    | inr those ↦ wider_second a b k (g.holds k those)
  ];
  least = λ lo hi all. (let first = f.least lo hi (λ k these. all k (inl these)) in
      let second = g.least lo hi (λ k those. all k (inr those)) in
      (lower_in lo hi a.lo b.lo first.0 second.0, higher_in lo hi a.hi b.hi first.1 second.1));
}

-- ---- the children of a block

pub extent_next : (classes : Classes) (sought : Sought) (b c : Cube) (i : ℕ)
    (before here now : Option Window)
    → IsExtent (IsFoundInFirst classes sought b i) before
    → IsExtent (IsFoundIn classes sought c) here → c ≡ child_of b i → now ≡ joined before here
    → IsExtent (IsFoundInFirst classes sought b (i + 1)) now
extent_next classes sought b c i before here now first next child is =
    subst (IsExtent (IsFoundInFirst classes sought b (i + 1))) (sym is)
    (extent_same (Either (IsFoundInFirst classes sought b i) (IsFoundIn classes sought c))
    (IsFoundInFirst classes sought b (i + 1)) (joined before here) to from
    (extent_joined (IsFoundInFirst classes sought b i) (IsFoundIn classes sought c) before here
    first next))
  where
    to : (k : Voxel)
        → Either (IsFoundInFirst classes sought b i) (IsFoundIn classes sought c) k
        → IsFoundInFirst classes sought b (i + 1) k
    to k (inl (j, less, found)) = (j, omega (arith, less), found)
    to k (inr found) =
        (i, omega arith, subst (λ d. IsFoundIn classes sought d k) child found)

    from : (k : Voxel) → IsFoundInFirst classes sought b (i + 1) k
        → Either (IsFoundInFirst classes sought b i) (IsFoundIn classes sought c) k
    from k (j, less, found) = elim (cases_lt j i) [
      | inl old ↦ inl (j, old, found)
      | inr last ↦ (let e : j ≡ i = omega (arith, less, last) in
          inr (subst (λ d. IsFoundIn classes sought d k)
          (ap (child_of b) e ∙ sym child) found))
    ]

pub extent_whole : (classes : Classes) (sought : Sought) (b : Cube) (n : ℕ) (o : Option Window)
    → b.depth < 16 → n ≡ 8 → IsExtent (IsFoundInFirst classes sought b n) o
    → IsExtent (IsFoundIn classes sought b) o
extent_whole classes sought b n o low end first =
    extent_same (IsFoundInFirst classes sought b n) (IsFoundIn classes sought b) o
    (λ k (j, less, (held, is)). (held_by_parent b j k low (omega (arith, less, end)) held, is))
    (λ k (held, is). (let less = child_index_below b.depth k in
    (child_index_of b.depth k, omega (arith, end, less), (held_by_child b k low held, is)))) first

-- the voxels of the map are those of its block
pub extent_of_map : (classes : Classes) (sought : Sought) (b : Cube) (o : Option Window)
    → b ≡ root_block → IsExtent (IsFoundIn classes sought b) o
    → IsExtent (IsFound classes sought) o
extent_of_map classes sought b o root first =
    extent_same (IsFoundIn classes sought b) (IsFound classes sought) o
    (λ k (held, is). (
      held_in_map root_block k root_in_map
          (subst (λ c. HoldsVoxel c k) root held),
      is,
    ))
    (λ k (inside, is). (subst (λ c. HoldsVoxel c k) (sym root) (root_holds k inside), is)) first
