-- Edits one after another.
use Rattle.std.proofs.Common.{ℕ, ◌+◌, ◌<◌, List, length, drop, get_or, refl, sym}
use Rattle.std.proofs.Common.{subst}
use Rattle.std.proofs.Common.{inl, inr, Bool}
use Rattle.std.specs.Prelude.{⊤, Result, Ok, Err}
use Rattle.std.proofs.lemmas.List.{drop_more}
use Rattle.oct_map.specs.Map.{Map}
use Rattle.octofix.specs.Codes.{refusal_at}
use Rattle.octofix.specs.Edits.{AreEdits, IsPointEdit}
use Rattle.octofix.specs.declared.refusal.Refusal.{Refusal}
use Rattle.octofix.specs.declared.types.PointEdit.{PointEdit}

-- i edits have led from m to u: what the others make of u, all make of m
abbrev pub LeadsTo : List PointEdit → Bool → Map → ℕ → Map → Type 0
LeadsTo edits lazy m i u = (n : Map) (done : ℕ) (answer : Result ⊤ Refusal)
    → AreEdits (drop i edits) i lazy u n done answer → AreEdits edits 0 lazy m n done answer

-- one edit more
pub leads_on : (edits : List PointEdit) (lazy : Bool) (m u v : Map) (i : ℕ) (d : PointEdit)
    → i < length edits → LeadsTo edits lazy m i u
    → IsPointEdit (get_or edits i d) lazy u v (Ok tt) → LeadsTo edits lazy m (i + 1) v
leads_on edits lazy m u v i d within leads edited n done answer rest =
    leads n done answer (subst (λ es. AreEdits es i lazy u n done answer)
    (sym (drop_more edits i d within)) (inl (v, edited, rest)))

-- one that is refused
pub leads_out : (edits : List PointEdit) (lazy : Bool) (m u n : Map) (i : ℕ) (d : PointEdit)
    (why : Refusal) → i < length edits → LeadsTo edits lazy m i u
    → IsPointEdit (get_or edits i d) lazy u n (Err why)
    → AreEdits edits 0 lazy m n i (Err (refusal_at i why))
leads_out edits lazy m u n i d why within leads refused =
    leads n i (Err (refusal_at i why)) (subst
    (λ es. AreEdits es i lazy u n i (Err (refusal_at i why)))
    (sym (drop_more edits i d within)) (inr (why, refused, refl, refl)))
