-- A number in the places that a code has for it is counted as in those of x.
use Rattle.std.proofs.Common.{◌≡◌, ℕ, zero, suc, ◌+◌, ◌-◌, ◌*◌, ◌/◌, ◌%◌, ◌^◌, ◌<◌, ◌≤◌}
use Rattle.std.proofs.Common.{Bool, true, false, if◌then◌else◌, inl, inr, refl, sym, ◌∙◌, ap, arith}
use Rattle.std.proofs.Common.{bit_and}
use Rattle.std.proofs.lemmas.Nat.{and_block}
use Rattle.oct_key.specs.Dilated.{IsDilated, dilated}
use Rattle.oct_key.specs.Morton.{gathered, morton_of}
use Rattle.oct_key.proofs.Interleavings.{gathered_below, morton_of_sum}
use Rattle.oct_key.proofs.Carries.{bits_stepped_is, dilated_below, dilated_fits, dilated_some_bit}
use Rattle.oct_key.proofs.Carries.{gathered_dilated, stepped_below}
use Rattle.oct_ray.specs.Placed.{IsPlaced, IsUnit, Placed, after_steps, placed_of}
use Rattle.oct_ray.specs.declared.placed.PlacedNumber.TheInside.{Inside}

-- what holds of 1, 2 and 4 holds of a unit
pub unit_is : (P : ℕ → Type 0) (u : ℕ) → IsUnit u → P 1 → P 2 → P 4 → P u
unit_is P u (inl e) one two four = rw e one
unit_is P u (inr (inl e)) one two four = rw e two
unit_is P u (inr (inr e)) one two four = rw e four

-- a number of units has the bits of the number, as much higher
and_units : (u : ℕ) → IsUnit u → (n m : ℕ) → bit_and (u * n) (u * m) ≡ u * bit_and n m
and_units u h n m = unit_is (λ v. bit_and (v * n) (v * m) ≡ v * bit_and n m) u h
    (let a : 1 * n ≡ n = omega arith in let b : 1 * m ≡ m = omega arith in
    rw (a, b) (omega arith))
    (let a : 2 * n ≡ n * 2 + 0 = omega arith in let b : 2 * m ≡ m * 2 + 0 = omega arith in
    rw (a, b) (and_block 1 n m 0 0 (omega arith) (omega arith) ∙ omega arith))
    (let a : 4 * n ≡ n * 4 + 0 = omega arith in let b : 4 * m ≡ m * 4 + 0 = omega arith in
    rw (a, b) (and_block 2 n m 0 0 (omega arith) (omega arith) ∙ omega arith))

divided : (u : ℕ) → IsUnit u → (n : ℕ) → u * n / u ≡ n
divided u h n =
    unit_is (λ v. v * n / v ≡ n) u h (omega arith) (omega arith) (omega arith)

-- these are the bits of this number
pub number_of : (u v bits : ℕ) → IsUnit u → v < 65536 → bits ≡ u * dilated v
    → gathered 16 (bits / u) ≡ v
number_of u v bits h l e =
    let d = divided u h (dilated v) in
    rw (e, d) (gathered_dilated v l)

pub placed_is : (p : Inside) (v : ℕ) → IsUnit p.unit → v < 65536
    → p.bits ≡ p.unit * dilated v → p.mask ≡ p.unit * 40210710958665
    → p.by ≡ (if p.rises then p.unit * 241264265751991 else 2 ^ 64 - p.unit) → IsPlaced p
placed_is p v h l e mask by = record {
  units = h;
  bits = e ∙ ap (λ (n : ℕ). p.unit * dilated n) (sym (number_of p.unit v p.bits h l e));
  mask = mask;
  by = by;
}

-- the code of a voxel on the axis of x is its number's bits
pub code_is : (n : ℕ) → morton_of (record { x = n; y = 0; z = 0 }) ≡ dilated n
unfolding morton_of
code_is n = refl

-- the bits without the place
below_of : (p : Inside) → IsPlaced p → p.bits / p.unit ≡ dilated (gathered 16 (p.bits / p.unit))
below_of p r =
    let v : ℕ = gathered 16 (p.bits / p.unit) in
    ap (λ (n : ℕ). n / p.unit) r.bits ∙ divided p.unit r.units (dilated v)

pub part_below : (p : Inside) → IsPlaced p → p.bits < 2 ^ 48
part_below p r =
    let l = dilated_below (gathered 16 (p.bits / p.unit)) in
    rw r.bits (unit_is (λ u. u * dilated (gathered 16 (p.bits / p.unit)) < 2 ^ 48) p.unit r.units
    (omega (arith, l)) (omega (arith, l)) (omega (arith, l)))

-- to count in the place of a unit is to count so many units
sum_of_units : (u : ℕ) (rises : Bool) (b now : ℕ) → IsUnit u → b < 2 ^ 46 → now ≤ 1
    → (rises ≡ false → now ≤ b)
    → (u * b + now * (if rises then u * 241264265751991 else 2 ^ 64 - u)) % 18446744073709551616
    ≡ u * ((b + now * (if rises then 241264265751991 else 18446744073709551615))
    % 18446744073709551616)
sum_of_units u true b zero h l k some =
    unit_is (λ v. (v * b + 0 * (v * 241264265751991)) % 18446744073709551616
    ≡ v * ((b + 0 * 241264265751991) % 18446744073709551616)) u h
    (omega (arith, l)) (omega (arith, l)) (omega (arith, l))
sum_of_units u true b (suc zero) h l k some =
    unit_is (λ v. (v * b + 1 * (v * 241264265751991)) % 18446744073709551616
    ≡ v * ((b + 1 * 241264265751991) % 18446744073709551616)) u h
    (omega (arith, l)) (omega (arith, l)) (omega (arith, l))
sum_of_units u false b zero h l k some =
    unit_is (λ v. (v * b + 0 * (2 ^ 64 - v)) % 18446744073709551616
    ≡ v * ((b + 0 * 18446744073709551615) % 18446744073709551616)) u h
    (omega (arith, l)) (omega (arith, l)) (omega (arith, l))
sum_of_units u false b (suc zero) h l k some =
    let s = some refl in
    unit_is (λ v. (v * b + 1 * (2 ^ 64 - v)) % 18446744073709551616
    ≡ v * ((b + 1 * 18446744073709551615) % 18446744073709551616)) u h
    (omega (arith, l, s)) (omega (arith, l, s)) (omega (arith, l, s))
sum_of_units u rises b (suc (suc n)) h l k some = absurd (omega (arith, k))

-- the bits after so many steps
pub stepped_bits : (p : Inside) → IsPlaced p → (now : ℕ) → now ≤ 1
    → (p.rises ≡ false → now ≤ gathered 16 (p.bits / p.unit))
    → bit_and ((p.bits + now * p.by) % 18446744073709551616) p.mask
    ≡ p.unit * dilated (if p.rises then gathered 16 (p.bits / p.unit) + now
    else gathered 16 (p.bits / p.unit) - now)
stepped_bits p r now l down =
    let u : ℕ = p.unit in
    let b : ℕ = p.bits / u in
    let is : IsDilated b = below_of p r in
    let whole : p.bits ≡ u * b = r.bits ∙ ap (λ (n : ℕ). u * n) (sym is) in
    let small = dilated_fits b is in
    let some : p.rises ≡ false → now ≤ b =
    λ e. first now b l (λ s. dilated_some_bit b is (omega (arith, down e, s))) in
    let sum = sum_of_units u p.rises b now r.units small l some in
    ap (λ (n : ℕ). bit_and ((n + now * p.by) % 18446744073709551616) p.mask) whole
    ∙ ap (λ (n : ℕ). bit_and ((u * b + now * n) % 18446744073709551616) p.mask) r.by
    ∙ ap (λ (n : ℕ). bit_and n p.mask) sum ∙ ap (bit_and (u * plain b)) r.mask
    ∙ and_units u r.units (plain b) 40210710958665
    ∙ ap (λ (n : ℕ). u * n) (bits_stepped_is p.rises b now _ is l down refl)
  where
    plain : ℕ → ℕ
    plain b = (b + now * (if p.rises then 241264265751991 else 18446744073709551615))
        % 18446744073709551616

    first : (i n : ℕ) → i ≤ 1 → (i ≡ 1 → 0 < n) → i ≤ n
    first zero n h f = omega arith
    first (suc zero) n h f = omega (arith, f refl)
    first (suc (suc i)) n h f = absurd (omega (arith, h))

-- a number after so many steps, as it is kept
abbrev pub inside_after : ℕ → Inside → Inside
inside_after now p = record {
  bits = bit_and ((p.bits + now * p.by) % 18446744073709551616) p.mask;
  mask = p.mask;
  by = p.by;
  unit = p.unit;
  rises = p.rises;
}

-- it stays in its places, and is that many on
pub record HasCounted (now : ℕ) (p : Inside) (q : Placed) : Type 0 where
  pub placed : IsPlaced (inside_after now p)
  pub counted : placed_of (inside_after now p) ≡ after_steps now q

pub has_counted : (now : ℕ) (p : Inside) (q : Placed) → IsPlaced p → placed_of p ≡ q → now ≤ 1
    → (q.rises ≡ true → q.number + now < 65536) → (q.rises ≡ false → now ≤ q.number)
    → HasCounted now p q
has_counted now p q r e l up down =
    let n : ℕ = gathered 16 (p.bits / p.unit) in
    let number = ap (λ (q : Placed). q.number) e in
    let rises = ap (λ (q : Placed). q.rises) e in
    let next : ℕ = if p.rises then n + now else n - now in
    let below = stepped_below p.rises n now (gathered_below 16 (p.bits / p.unit))
    (λ s. omega (arith, number, up (sym rises ∙ s))) in
    let bits = stepped_bits p r now l (λ s. omega (arith, number, down (sym rises ∙ s))) in
    record {
      placed = placed_is (inside_after now p) next r.units below bits r.mask r.by;
      counted =
          ap (λ (m : ℕ). let q : Placed =
          record { number = m; unit = p.unit; rises = p.rises } in q)
          (number_of p.unit next _ r.units below bits) ∙ ap (after_steps now) e;
    }

-- a new number in its places
pub record IsNewPlaced (p : Inside) (n : ℕ) : Type 0 where
  pub placed : IsPlaced p
  pub number : gathered 16 (p.bits / p.unit) ≡ n

pub new_placed : (p : Inside) (n zero_x zero_y code : ℕ) → IsUnit p.unit → n < 65536
    → zero_x ≡ 0 → zero_y ≡ 0 → code ≡ morton_of (record { x = n; y = zero_x; z = zero_y })
    → p.bits ≡ p.unit * code → p.mask ≡ p.unit * 40210710958665
    → p.by ≡ (if p.rises then p.unit * 241264265751991 else 2 ^ 64 - p.unit) → IsNewPlaced p n
new_placed p n x y code h l ex ey ec eb mask by =
    let none = ap (λ (m : ℕ). morton_of (record { x = n; y = m; z = y })) ex
    ∙ ap (λ (m : ℕ). morton_of (record { x = n; y = 0; z = m })) ey ∙ code_is n in
    let bits = eb ∙ ap (λ (m : ℕ). p.unit * m) (ec ∙ none) in
    record {
      placed = placed_is p n h l bits mask by;
      number = number_of p.unit n p.bits h l bits;
    }

-- the code of a voxel is the sum of its parts
pub parts_of : (x y z : ℕ)
    → 1 * dilated x + 2 * dilated y + 4 * dilated z ≡ morton_of (record { x = x; y = y; z = z })
parts_of x y z =
    let lx = dilated_below x in
    let ly = dilated_below y in
    let lz = dilated_below z in
    (let sum : 1 * dilated x + 2 * dilated y + 4 * dilated z
    ≡ dilated x + dilated y * 2 % 2 ^ 64 + dilated z * 4 % 2 ^ 64 = omega (arith, lx, ly, lz) in
    sum) ∙ morton_of_sum (record { x = x; y = y; z = z }) (dilated x) (dilated y) (dilated z)
    refl refl refl lx ly lz
