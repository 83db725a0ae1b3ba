-- Two maps of one resolution and the same log-odds.
use Rattle.std.proofs.Common.{◌≡◌, ◌∙◌, true, ap}
use Rattle.std.specs.Prelude.{ℤ, ◌&&◌}
use Rattle.std.specs.Cmp.{signed_Decides}
use Rattle.std.specs.Ordering.{int_eq}
use Rattle.std.proofs.lemmas.Bool.{and_parts}
use Rattle.oct_odds.specs.Odds.{Odds, odds}
use Rattle.octofix.specs.Merges.{are_same}

one : (a b : ℤ) → int_eq a b ≡ true → a ≡ b
one a b same = (signed_Decides a b).0 same

-- models of the same numbers are one
pub same_odds : (a b : Odds) → are_same a b ≡ true → a ≡ b
same_odds a b same =
    let (four, thr) = and_parts (int_eq a.hit b.hit && int_eq a.miss b.miss && int_eq a.min b.min
    && int_eq a.max b.max) (int_eq a.thr b.thr) same in
    let (three, max) = and_parts (int_eq a.hit b.hit && int_eq a.miss b.miss
    && int_eq a.min b.min) (int_eq a.max b.max) four in
    let (two, min) = and_parts (int_eq a.hit b.hit && int_eq a.miss b.miss)
    (int_eq a.min b.min) three in
    let (hit, miss) = and_parts (int_eq a.hit b.hit) (int_eq a.miss b.miss) two in
    ap (λ n. odds n a.miss a.min a.max a.thr) (one a.hit b.hit hit)
    ∙ ap (λ n. odds b.hit n a.min a.max a.thr) (one a.miss b.miss miss)
    ∙ ap (λ n. odds b.hit b.miss n a.max a.thr) (one a.min b.min min)
    ∙ ap (λ n. odds b.hit b.miss b.min n a.thr) (one a.max b.max max)
    ∙ ap (λ n. odds b.hit b.miss b.min b.max n) (one a.thr b.thr thr)
