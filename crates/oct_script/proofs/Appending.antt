-- What a text begins with stays where appending fails.
use Rattle.std.proofs.Common.{◌≡◌, ℕ, List, ◌++◌, length, take, drop, sym}
use Rattle.std.proofs.Common.{ap, ◌∙◌, append_assoc}
use Rattle.std.proofs.lemmas.List.{take-append-drop}
use Rattle.std.proofs.Math.Seq.{take-append_seam}

-- what was appended to before stays, where the text that it had become does
pub begun_kept : (n m : ℕ) (begun more old new : List ℕ) → n ≡ length begun → m ≡ length old
    → old ≡ begun ++ more → take m new ≡ old → take n new ≡ begun
begun_kept n m begun more old new many most was kept =
    let whole : new ≡ begun ++ (more ++ drop m new) =
    sym (take-append-drop m new) ∙ ap (λ t. t ++ drop m new) (kept ∙ was)
    ∙ append_assoc begun more (drop m new) in
    ap (λ i. take i new) many ∙ ap (take (length begun)) whole
    ∙ take-append_seam begun (more ++ drop m new)
