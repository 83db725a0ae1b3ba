-- What is true of the map of a handle, as that of the handle.
use Rattle.std.proofs.Common.{◌≡◌, refl, sym, subst}
use Rattle.std.specs.Prelude.{Some, Result, Ok}
use Rattle.oct_map.specs.Map.{Map}
use Rattle.oct_map.specs.declared.fault.MapFault.{MapFault}
use Rattle.octofix.specs.Changed.{DoneFrom, IsAsked, IsDone}
use Rattle.octofix.specs.Codes.{of_map}
use Rattle.octofix.specs.HandleLends.{open_with}
use Rattle.octofix.specs.Handles.{Handle}
use Rattle.octofix.specs.declared.refusal.Refusal.{Refusal}

-- what a call answers and leaves where there was a map
pub done_open : {A : Type 0} (h : Handle) (m u : Map)
    (R : Map → Map → Result A Refusal → Type 0) (answer : Result A Refusal)
    → h.slot.map ≡ Some m → R m u answer → IsDone h (open_with h u) R answer
done_open h m u R answer is so =
    subst (λ o. DoneFrom o h (open_with h u) R answer) (sym is) (u, refl, so)

-- what the map is asked
pub asked_ok : {X A : Type 0} (request : Result X Refusal)
    (R : X → Map → Map → Result A MapFault → Type 0) (m n : Map) (x : X) (done : Result A MapFault)
    (answer : Result A Refusal) → request ≡ Ok x → R x m n done → answer ≡ of_map done
    → IsAsked request R m n answer
asked_ok request R m n x done answer is so told =
    subst (λ r. IsAsked r R m n answer) (sym is) (done, so, told)
