-- Numbers of voxels on an axis, with their bits where a code has them.
use Rattle.std.specs.Prelude.{◌≡◌, ℕ, ◌+◌, ◌-◌, ◌*◌, ◌/◌, ◌^◌, ◌⊎◌, Bool, if◌then◌else◌}
use Rattle.oct_key.specs.Dilated.{dilated}
use Rattle.oct_key.specs.Morton.{gathered}
use Rattle.oct_ray.specs.declared.placed.PlacedNumber.TheInside.{Inside}

-- a number, the place of its lowest bit in a code, and whether it is counted up
pub record Placed : Type 0 where
  pub number : ℕ
  pub unit : ℕ
  pub rises : Bool

-- the part of a code that a number makes
abbrev pub part_of_code : Placed → ℕ
part_of_code p = p.unit * dilated p.number

-- a number after so many steps
abbrev pub after_steps : ℕ → Placed → Placed
after_steps now p = record {
  number = if p.rises then p.number + now else p.number - now;
  unit = p.unit;
  rises = p.rises;
}

-- the places of the lowest bits of x, y and z
abbrev pub IsUnit : ℕ → Type 0
IsUnit unit = (unit ≡ 1) ⊎ (unit ≡ 2) ⊎ (unit ≡ 4)

abbrev pub placed_of : Inside → Placed
placed_of p = record {
  number = gathered 16 (p.bits / p.unit);
  unit = p.unit;
  rises = p.rises;
}

-- the bits are those of the number, and the others what it is counted by
pub record IsPlaced (p : Inside) : Type 0 where
  pub units : IsUnit p.unit
  pub bits : p.bits ≡ p.unit * dilated (gathered 16 (p.bits / p.unit))
  pub mask : p.mask ≡ p.unit * 40210710958665
  pub by : p.by ≡ (if p.rises then p.unit * 241264265751991 else 2 ^ 64 - p.unit)
