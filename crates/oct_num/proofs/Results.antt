-- What holds of a result, whichever it is.
use Rattle.std.proofs.Common.{Result, Ok, Err, OnErr}

-- what is so in any case is so after an error
pub on_any_err : {T E : Type 0} (r : Result T E) (P : Type 0) → P → OnErr r P
on_any_err (Ok x) P p = tt
on_any_err (Err e) P p = p
