-- What some line begins, and none ends since: it holds, or not, behind each front of the lines.
use Rattle.std.proofs.Common.{◌≡◌, List, [], ◌∷◌, ◌++◌, ◌⊎◌, inl, inr, refl, sym, ap, subst, ◌∙◌}
use Rattle.std.proofs.Common.{append_assoc, append-nil}
use Rattle.oct_script.specs.Lines.{Line}
use Rattle.oct_promise.specs.Marks.{IsSince}

-- ---- lists

no_parts : (between : List Line) (next : Line) (rest : List Line) → [] ≡ between ++ next ∷ rest → ⊥
no_parts [] next rest e = cc
no_parts (b ∷ bs) next rest e = cc

-- how a list with one line more parts: behind the last line, or within the others
abbrev Parts : List Line → Line → List Line → Line → Type 0
Parts xs x between next =
    ((between ≡ xs) × (next ≡ x)) ⊎ ((front : List Line) × (xs ≡ between ++ next ∷ front))

abbrev head_of : Line → List Line → Line
head_of x [] = x
head_of x (y ∷ ys) = y

abbrev tail_of : List Line → List Line
tail_of [] = []
tail_of (x ∷ xs) = xs

parts_of : (xs : List Line) (x : Line) (between : List Line) (next : Line) (rest : List Line)
    → xs ++ x ∷ [] ≡ between ++ next ∷ rest → Parts xs x between next
parts_of [] x [] next rest e = inl (refl, ap (head_of x) (sym e))
parts_of [] x (b ∷ bs) next rest e = absurd (no_parts bs next rest (ap tail_of e))
parts_of (y ∷ ys) x [] next rest e = inr (ys, ap (λ (z : Line). z ∷ ys) (ap (head_of x) e))
parts_of (y ∷ ys) x (b ∷ bs) next rest e = by_tail (parts_of ys x bs next rest (ap tail_of e))
  where
    same : y ≡ b
    same = ap (head_of x) e

    by_tail : Parts ys x bs next → Parts (y ∷ ys) x (b ∷ bs) next
    by_tail (inl (all, last)) = inl (
      ap (λ (z : Line). z ∷ bs) (sym same) ∙ ap (λ (l : List Line). y ∷ l) all,
      last,
    )
    by_tail (inr (front, is)) = inr (
      front,
      ap (λ (z : Line). z ∷ ys) same ∙ ap (λ (l : List Line). b ∷ l) is,
    )

-- ---- lines

module _ (Begins Ends : List Line → Line → Type 0) where
  -- a line that begins it, behind these
  begun : (start : List Line) (x : Line) → Begins start x
      → IsSince Begins Ends (start ++ x ∷ []) start
  begun start x begins = record {
    line = x;
    later = [];
    parts = refl;
    begins = begins;
    none = λ between next rest e. absurd (no_parts between next rest e);
  }

  -- one line more, which doesn't end it
  extended : (start before : List Line) (x : Line) → ¬ Ends start x
      → IsSince Begins Ends start before → IsSince Begins Ends (start ++ x ∷ []) before
  extended start before x never since = record {
    line = since.line;
    later = since.later ++ x ∷ [];
    parts = ap (λ (l : List Line). l ++ x ∷ []) since.parts
        ∙ append_assoc before (since.line ∷ since.later) (x ∷ []);
    begins = since.begins;
    none = λ between next rest e.
        by_parts between next (parts_of since.later x between next rest e);
  }
    where
      by_parts : (between : List Line) (next : Line) → Parts since.later x between next
          → ¬ Ends (before ++ since.line ∷ between) next
      by_parts between next (inl (all, last)) = λ ends. never
          (subst (λ (l : List Line). Ends l x) (sym since.parts)
          (subst (λ (l : List Line). Ends (before ++ since.line ∷ l) x) all
          (subst (Ends (before ++ since.line ∷ between)) last ends)))
      by_parts between next (inr (front, is)) = since.none between next front is

  module _ (Holds : List Line → Type 0) (Such : List Line → Type 0) where
    -- a line behind which it holds begins it, or doesn't end it
    abbrev pub StepsBack : Type 0
    StepsBack = (start : List Line) (x : Line) → Holds (start ++ x ∷ [])
        → (Begins start x × Such start) ⊎ (Holds start × ¬ Ends start x)

    -- it was begun, behind lines that are such
    abbrev pub WasBegun : List Line → Type 0
    WasBegun lines = (before : List Line) × IsSince Begins Ends lines before × Such before

    found_from : StepsBack → (start rest : List Line) → (Holds start → WasBegun start)
        → Holds (start ++ rest) → WasBegun (start ++ rest)
    found_from back start [] found holds =
        subst WasBegun (sym (append-nil start)) (found (subst Holds (append-nil start) holds))
    found_from back start (x ∷ rest) found holds =
        subst WasBegun (append_assoc start (x ∷ []) rest)
        (found_from back (start ++ x ∷ []) rest (λ more. by_step (back start x more))
        (subst Holds (sym (append_assoc start (x ∷ []) rest)) holds))
      where
        by_step : (Begins start x × Such start) ⊎ (Holds start × ¬ Ends start x)
            → WasBegun (start ++ x ∷ [])
        by_step (inl (begins, such)) = (start, begun start x begins, such)
        by_step (inr (was, never)) =
            (let (before, since, such) = found was in
            (before, extended start before x never since, such))

    -- where it holds behind lines, one of them has begun it
    pub found_begun : StepsBack → ¬ Holds [] → (lines : List Line) → Holds lines → WasBegun lines
    found_begun back never lines holds =
        found_from back [] lines (λ was. absurd (never was)) holds

    -- a line that doesn't end it leaves it
    abbrev pub Keeps : Type 0
    Keeps = (start : List Line) (x : Line) → ¬ Ends start x → Holds start → Holds (start ++ x ∷ [])

    kept_on : Keeps → (start rest : List Line)
        → ((between : List Line) (next : Line) (more : List Line) → rest ≡ between ++ next ∷ more
        → ¬ Ends (start ++ between) next)
        → Holds start → Holds (start ++ rest)
    kept_on keep start [] none holds = subst Holds (sym (append-nil start)) holds
    kept_on keep start (x ∷ rest) none holds =
        subst Holds (append_assoc start (x ∷ []) rest)
        (kept_on keep (start ++ x ∷ []) rest
        (λ between next more e. subst (λ (l : List Line). ¬ Ends l next)
        (sym (append_assoc start (x ∷ []) between))
        (none (x ∷ between) next more (ap (λ (l : List Line). x ∷ l) e)))
        (keep start x (subst (λ (l : List Line). ¬ Ends l x) (append-nil start)
        (none [] x rest refl)) holds))

    -- and where some line has begun it, it holds
    pub held_since : Keeps
        → ((start : List Line) (x : Line) → Begins start x → Such start → Holds (start ++ x ∷ []))
        → (lines before : List Line) → IsSince Begins Ends lines before → Such before → Holds lines
    held_since keep begin lines before since such =
        subst Holds (sym since.parts)
        (subst Holds (append_assoc before (since.line ∷ []) since.later)
        (kept_on keep (before ++ since.line ∷ []) since.later
        (λ between next more e. subst (λ (l : List Line). ¬ Ends l next)
        (sym (append_assoc before (since.line ∷ []) between))
        (since.none between next more e))
        (begin before since.line since.begins such)))
