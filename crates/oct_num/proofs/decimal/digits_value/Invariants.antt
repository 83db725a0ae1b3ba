use Rattle.std.proofs.Common.{◌≡◌, ◌^◌, ◌<◌, take}
use Rattle.oct_num.specs.Decimal.{decimal_value}
use Rattle.oct_num.proofs.decimal.digits_value.Given as goal

abbrev pub invariant-loop-digit : goal.invariant-loop-digit
invariant-loop-digit l =
    (l.value ≡ decimal_value (take l.digit-index l.digits)) × (l.value < 10 ^ l.digit-index)
