-- Bricks of one block of depth 13: each is a child of its own.
use Rattle.std.proofs.Common.{◌≡◌, ℕ, ◌+◌, ◌/◌, ◌%◌, ◌^◌, ◌<◌, ◌≤◌, List, length, take, drop}
use Rattle.std.proofs.Common.{get_or}
use Rattle.std.proofs.Common.{refl, sym, subst, ◌∙◌, ap, arith}
use Rattle.std.proofs.lemmas.List.{length-take, length-drop, get_or-take, get_or-drop}
use Rattle.oct_brick.specs.declared.brick.Brick.{Brick}
use Rattle.oct_brick.specs.Bricks.{AreAscending}
use Rattle.oct_brick.proofs.Merging.{same_default}
use Rattle.oct_edit.specs.Bricks.{brick_child, AreAlike, AreCut, IsFirstBrick}
use Rattle.oct_edit.proofs.BrickCuts.{order_of}

-- of two bricks that begin alike, the later one is in a later child
rises : (a c prefix : ℕ) → a < c → a / 2 ^ 3 ≡ prefix → c / 2 ^ 3 ≡ prefix
    → a / 2 ^ 0 % 8 + 1 ≤ c / 2 ^ 0 % 8
rises a c prefix less e f = omega (arith, less, e, f)

-- the first brick is all of the first child
one_cut : (i : ℕ) (bs : List Brick) → IsFirstBrick 13 bs i → AreAscending bs
    → AreAlike 13 bs → AreCut 13 i bs (take 1 bs) (drop 1 bs)
one_cut i bs first ascend alike = record {
  count = 1;
  first = refl;
  last = refl;
  here = λ n d l.
      (let size = length-take 1 bs in
      let one : n < 1 = omega (arith, size, l) in
      let zero : n ≡ 0 = omega (arith, one) in
      let (m, there, is) = first.there in
      let up = order_of 13 bs (omega arith) ascend alike 0 m d (omega arith) there in
      let child = first.child in
      let same : get_or bs m d ≡ first.brick =
      same_default bs m first.brick d there ∙ is in
      subst (λ (b : Brick). brick_child 13 b.code ≤ i) (sym (get_or-take 1 bs n d one))
      (subst (λ k. brick_child 13 (get_or bs k d).code ≤ i) (sym zero)
      (subst (λ (c : ℕ). brick_child 13 (get_or bs 0 d).code ≤ c)
      (ap (λ (b : Brick). brick_child 13 b.code) same ∙ child) up)));
  after = λ n d l.
      (let size = length-drop 1 bs in
      let there : 1 + n < length bs = omega (arith, size, l) in
      let least = first.least 0 d (omega (arith, there)) in
      let up =
      rises (get_or bs 0 d).code (get_or bs (1 + n) d).code alike.0
      (ascend 0 (1 + n) d (omega arith) there) (alike.1 0 d (omega (arith, there)))
      (alike.1 (1 + n) d there) in
      subst (λ (b : Brick). i + 1 ≤ brick_child 13 b.code) (sym (get_or-drop 1 bs n d))
      (omega (arith, least, up)));
}

pub single_cut : (depth i : ℕ) (bs xs ys : List Brick) → depth ≡ 13 → xs ≡ take 1 bs
    → ys ≡ drop 1 bs → IsFirstBrick depth bs i → AreAscending bs → AreAlike depth bs
    → AreCut depth i bs xs ys
single_cut depth i bs xs ys deep front back first ascend alike =
    let cut : AreCut 13 i bs (take 1 bs) (drop 1 bs) =
    one_cut i bs (subst (λ d. IsFirstBrick d bs i) deep first) ascend
    (subst (λ d. AreAlike d bs) deep alike) in
    subst (λ d. AreCut d i bs xs ys) (sym deep)
    (subst (λ l. AreCut 13 i bs l ys) (sym front)
    (subst (λ l. AreCut 13 i bs (take 1 bs) l) (sym back) cut))

-- there is a first brick
pub first_there : (i : ℕ) (depth : ℕ) (bs : List Brick) → IsFirstBrick depth bs i → 1 ≤ length bs
first_there i depth bs first = (let (m, there, is) = first.there in omega (arith, there))
