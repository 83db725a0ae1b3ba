-- The path of the reading, from its end.
use Rattle.std.proofs.Common.{◌≡◌, ℕ, zero, suc, ◌+◌, ◌-◌, ◌<◌, ◌≤◌, List, [], ◌∷◌, ◌++◌, length}
use Rattle.std.proofs.Common.{get_or, set, take, refl, sym, ◌∙◌, ap, arith, append_assoc}
use Rattle.std.proofs.Common.{append-nil}
use Rattle.std.specs.Prelude.{replicate}
use Rattle.std.proofs.Math.Seq.{set-append_seam}
use Rattle.oct_bt.specs.Path.{pending_at, IsTopped, without_next}

-- one depth more at the end
pub pending_push : (path : List ℕ) (d n : ℕ) → pending_at d (path ++ n ∷ [])
    ≡ replicate n (d + length path) ++ pending_at d path
unfolding pending_at
pending_push [] d n =
    let at : d + 0 ≡ d = omega arith in
    let goal : replicate n d ≡ replicate n (d + 0) ++ [] =
    sym (append-nil (replicate n (d + 0)) ∙ ap (replicate n) at) in
    goal
pending_push (m ∷ path) d n =
    let at : suc d + length path ≡ d + suc (length path) = omega arith in
    ap (λ t. t ++ replicate m d) (pending_push path (suc d) n)
    ∙ append_assoc (replicate n (suc d + length path)) (pending_at (suc d) path) (replicate m d)
    ∙ ap (λ (x : ℕ). replicate n x ++ pending_at d (m ∷ path)) at

-- none of it: nothing changes
pub pending_none : (path : List ℕ) → pending_at 0 (path ++ 0 ∷ []) ≡ pending_at 0 path
pending_none path = pending_push path 0 0

-- a list that has an end
last_of : (x : ℕ) (path : List ℕ) → x ∷ path ≡ take (length path) (x ∷ path) ++ get_or (x ∷ path)
    (length path) 0 ∷ []
last_of x [] = refl
last_of x (y ∷ path) = ap (λ t. x ∷ t) (last_of y path)

pub ends_with : (path : List ℕ) → 0 < length path
    → path ≡ take (length path - 1) path ++ get_or path (length path - 1) 0 ∷ []
ends_with [] l = absurd (omega arith)
ends_with (x ∷ path) l =
    let at : suc (length path) - 1 ≡ length path = omega arith in
    last_of x path ∙ ap (λ (n : ℕ). take n (x ∷ path) ++ get_or (x ∷ path) n 0 ∷ []) (sym at)

-- a path whose end is empty
pub end_dropped : (path : List ℕ) → 0 < length path → get_or path (length path - 1) 0 ≡ 0
    → pending_at 0 (take (length path - 1) path) ≡ pending_at 0 path
end_dropped path l none =
    sym (ap (pending_at 0)
    (ends_with path l ∙ ap (λ (n : ℕ). take (length path - 1) path ++ n ∷ []) none)
    ∙ pending_none (take (length path - 1) path))

-- the next record of a path with an end is of the depth of that end
next_at : (front : List ℕ) (m : ℕ) → pending_at 0 (front ++ suc m ∷ [])
    ≡ length front ∷ pending_at 0 (front ++ m ∷ [])
next_at front m =
    let at : 0 + length front ≡ length front = omega arith in
    pending_push front 0 (suc m) ∙ ap (λ (x : ℕ). replicate (suc m) x ++ pending_at 0 front) at
    ∙ ap (λ t. length front ∷ t)
    (sym (pending_push front 0 m ∙ ap (λ (x : ℕ). replicate m x ++ pending_at 0 front) at))

long_take : (n : ℕ) (path : List ℕ) → n ≤ length path → length (take n path) ≡ n
long_take zero path l = refl
long_take (suc n) [] l = absurd (omega arith)
long_take (suc n) (x ∷ path) l = ap (λ (n : ℕ). suc n) (long_take n path (omega arith))

-- the next record, and those after it
pub next_record : (path : List ℕ) → 0 < length path → IsTopped path → pending_at 0 path
    ≡ (length path - 1) ∷ pending_at 0 (without_next path)
next_record path l topped = by_end (get_or path (length path - 1) 0) (take (length path - 1) path)
    (ends_with path l) (topped l)
    (long_take (length path - 1) path (omega arith))
  where
    by_end : (n : ℕ) (front : List ℕ) → path ≡ front ++ n ∷ [] → 0 < n
        → length front ≡ length path - 1
        → pending_at 0 path ≡ (length path - 1) ∷ pending_at 0 (set path (length path - 1) (n - 1))
    by_end zero front is some long = absurd (omega arith)
    by_end (suc m) front is some long = (
        let less : suc m - 1 ≡ m = omega arith in
        let lowered : set path (length path - 1) (suc m - 1) ≡ front ++ m ∷ [] =
        ap (λ (i : ℕ). set path i (suc m - 1)) (sym long)
        ∙ ap (λ p. set p (length front) (suc m - 1)) is
        ∙ set-append_seam front (suc m) [] (suc m - 1) ∙ ap (λ (n : ℕ). front ++ n ∷ []) less in
        ap (pending_at 0) is ∙ next_at front m
        ∙ ap (λ (n : ℕ). n ∷ pending_at 0 (front ++ m ∷ [])) long
        ∙ ap (λ p. (length path - 1) ∷ pending_at 0 p) (sym lowered))
