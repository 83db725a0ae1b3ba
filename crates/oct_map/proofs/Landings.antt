-- Which corners of a moved map leave the map.
use Rattle.std.proofs.Common.{◌≡◌, Bool, true, false, Some, None, Ok, Err, refl, sym, ◌∙◌, ap}
use Rattle.std.specs.Prelude.{Option, is_some, if◌then◌else◌}
use Rattle.oct_key.specs.Boxes.{Window}
use Rattle.oct_shift.specs.declared.shift.Shift.{Shift}
use Rattle.oct_shift.specs.Shifted.{target}
use Rattle.oct_map.specs.declared.fault.MapFault.TheVariants.{Outside}
use Rattle.oct_map.specs.Shifts.{landing_answer}

pub lands_none : (s : Shift) (extent : Option Window) → extent ≡ None
    → Ok tt ≡ landing_answer s extent
lands_none s extent e = rw e refl

pub lower_leaves : (s : Shift) (box : Window) (extent : Option Window) → extent ≡ Some box
    → is_some (target s box.lo) ≡ false → Err (Outside 1) ≡ landing_answer s extent
lower_leaves s box extent e low =
    sym (ap (landing_answer s) e
    ∙ ap (λ (a : Bool). if a then (if is_some (target s box.hi) then Ok tt else Err (Outside 2))
    else Err (Outside 1)) low)

pub upper_leaves : (s : Shift) (box : Window) (extent : Option Window) → extent ≡ Some box
    → is_some (target s box.lo) ≡ true → is_some (target s box.hi) ≡ false
    → Err (Outside 2) ≡ landing_answer s extent
upper_leaves s box extent e low high =
    sym (ap (landing_answer s) e
    ∙ ap (λ (a : Bool). if a then (if is_some (target s box.hi) then Ok tt else Err (Outside 2))
    else Err (Outside 1)) low
    ∙ ap (λ (a : Bool). if a then Ok tt else Err (Outside 2)) high)

pub both_land : (s : Shift) (box : Window) (extent : Option Window) → extent ≡ Some box
    → is_some (target s box.lo) ≡ true → is_some (target s box.hi) ≡ true
    → Ok tt ≡ landing_answer s extent
both_land s box extent e low high =
    sym (ap (landing_answer s) e
    ∙ ap (λ (a : Bool). if a then (if is_some (target s box.hi) then Ok tt else Err (Outside 2))
    else Err (Outside 1)) low
    ∙ ap (λ (a : Bool). if a then Ok tt else Err (Outside 2)) high)
