-- The name of a code is that of its row in the code's table.
use Rattle.std.proofs.Common.{◌≡◌, ℕ, List, [], ◌∷◌, map, nat_eq, true, false, cond}
use Rattle.std.proofs.Common.{refl, ap, ◌∙◌, Option, Some, option_map}
use Rattle.std.specs.List.{find}
use Rattle.octofix.specs.Names.{Named, name_of, names, row_seen}
use Rattle.octofix.specs.declared.names.Row.{Row}

-- the text of a code among rows is that among what they are seen as
at_seen : (code : ℕ) (rows : List Row) →
    option_map (λ (row : Row). row.text.now) (find (λ (row : Row). nat_eq row.code code) rows)
    ≡ option_map (λ (row : Named). row.text)
    (find (λ (row : Named). nat_eq row.code code) (map row_seen rows))
at_seen code [] = refl
at_seen code (first ∷ rows) = elim (nat_eq first.code code) as (λ b.
    option_map (λ (row : Row). row.text.now)
    (cond b (Some first) (find (λ (row : Row). nat_eq row.code code) rows))
    ≡ option_map (λ (row : Named). row.text)
    (cond b (Some (row_seen first))
    (find (λ (row : Named). nat_eq row.code code) (map row_seen rows))))
    [ true ↦ refl | false ↦ at_seen code rows ]

-- what was found of a code
pub found : (code : ℕ) (rows : List Row) (r : Option Row) (text : Option (List ℕ))
    → map row_seen rows ≡ names →
    r ≡ find (λ (row : Row). nat_eq row.code code) rows
    → text ≡ option_map (λ (row : Row). row.text.now) r →
    text ≡ name_of code
found code rows r text seen is same =
    same ∙ ap (option_map (λ (row : Row). row.text.now)) is ∙ at_seen code rows
    ∙ ap (λ wanted. option_map (λ (row : Named). row.text)
    (find (λ (row : Named). nat_eq row.code code) wanted)) seen
