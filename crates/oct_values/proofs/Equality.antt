-- Tests for equal answers.
use Rattle.std.specs.Prelude.{◌≡◌, ◌↔◌, Bool, IsTrue}

-- what is one answer passes the test, and nothing else
abbrev pub IsEquality : {A : Type 0} → (A → A → Bool) → Type 0
IsEquality {A} same = (x y : A) → IsTrue (same x y) ↔ (x ≡ y)
