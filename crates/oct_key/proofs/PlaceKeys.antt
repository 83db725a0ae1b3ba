-- Keys that are made one after another and then put in order.
use Rattle.std.proofs.Common.{◌≡◌, ℕ, zero, suc, ◌+◌, ◌*◌, ◌/◌, ◌%◌, ◌<◌, ◌≤◌, List, [], ◌∷◌}
use Rattle.std.proofs.Common.{◌++◌, length, map, get_or, refl, sym, subst, ◌∙◌, ap, arith}
use Rattle.std.specs.List.{All, range_with_len}
use Rattle.std.specs.List.Sorted.{IsPermutation}
use Rattle.std.proofs.lemmas.Nat.{div-mul-add, mod-mul-add}
use Rattle.std.proofs.lemmas.List.{get_or_default, map_push}
use Rattle.std.proofs.lemmas.List.Elements.{All-push}
use Rattle.std.proofs.lemmas.List.FromFn.{fill_by_all}
use Rattle.std.proofs.lemmas.List.Sorted.{All-permutation, IsPermutation-map}
use Rattle.std.proofs.lemmas.Simd.{map-map}
use Rattle.oct_key.specs.PlaceKeys.{IsKey, AreKeys, keyed_at}

-- n + 1 numbers from a on end with a + n
range_more : (a n : ℕ) → range_with_len a (n + 1) ≡ range_with_len a n ++ (a + n) ∷ []
range_more a zero = ap (λ (m : ℕ). m ∷ []) (omega arith)
range_more a (suc n) =
    let more : suc n + 1 ≡ suc (n + 1) = omega arith in
    ap (range_with_len a) more ∙ ap (λ (ms : List ℕ). a ∷ ms) (range_more (a + 1) n
    ∙ ap (λ (m : ℕ). range_with_len (a + 1) n ++ m ∷ []) (omega arith))

-- keys of the first n things, in their order
pub record AreFirst {X : Type 0} (HasCode : X → ℕ → Type 0) (step : ℕ) (things : List X)
    (n : ℕ) (keys : List ℕ) : Type 0 where
  pub each : All (IsKey HasCode step things) keys
  pub few : n ≤ length things
  pub places : map (λ key. key % step) keys ≡ range_with_len 0 n

-- the key of one thing more
pub first_more : {X : Type 0} (HasCode : X → ℕ → Type 0) (step : ℕ) (things : List X)
    (n code key : ℕ) (e : X) (keys keys' : List ℕ) → length things ≤ step → n < length things
    → HasCode (get_or things n e) code → key ≡ code * step + n → keys' ≡ keys ++ key ∷ []
    → AreFirst HasCode step things n keys → AreFirst HasCode step things (n + 1) keys'
first_more {X} HasCode step things n code key e keys keys' few l coded made is h =
    let below : n < step = omega (arith, few, l) in
    let place : key % step ≡ n = ap (λ (k : ℕ). k % step) made ∙ mod-mul-add code step n below in
    let above : key / step ≡ code =
    ap (λ (k : ℕ). k / step) made ∙ div-mul-add code step n below in
    let at : (d : X) → keyed_at step things d key ≡ get_or things n e = λ d.
    ap (λ i. get_or things i d) place ∙ get_or_default things n d e l in
    let from : n ≡ 0 + n = omega arith in
    subst (AreFirst HasCode step things (n + 1)) (sym is) (record {
      each = All-push (IsKey HasCode step things) keys key h.each (record {
        within = subst (λ m. m < length things) (sym place) l;
        coded = λ d. subst (λ (m : ℕ). HasCode (keyed_at step things d key) m) (sym above)
            (subst (λ (x : X). HasCode x code) (sym (at d)) coded);
      });
      few = omega (arith, l);
      places =
          map_push (λ (k : ℕ). k % step) keys key
          ∙ ap (λ (ms : List ℕ). ms ++ key % step ∷ []) h.places
          ∙ ap (λ (m : ℕ). range_with_len 0 n ++ m ∷ []) (place ∙ from)
          ∙ sym (range_more 0 n);
    })

-- the keys of all things, in another order
pub keys_moved : {X : Type 0} (HasCode : X → ℕ → Type 0) (step : ℕ) (things : List X) (n : ℕ)
    (keys keys' : List ℕ) → length things ≤ n → IsPermutation keys keys'
    → AreFirst HasCode step things n keys → AreKeys HasCode step things keys'
keys_moved HasCode step things n keys keys' all moved h =
    let whole : n ≡ length things = omega (arith, all, h.few) in
    record {
      each = All-permutation (IsKey HasCode step things) keys keys' moved h.each;
      places = subst (λ (ms : List ℕ). IsPermutation ms (map (λ k. k % step) keys'))
          (h.places ∙ ap (range_with_len 0) whole)
          (IsPermutation-map (λ k. k % step) keys keys' moved);
    }

-- what stands at the places that the keys have are the things of the list, in another order
pub things_moved : {X : Type 0} (HasCode : X → ℕ → Type 0) (step : ℕ) (things : List X)
    (keys : List ℕ) (d : X) → AreKeys HasCode step things keys
    → IsPermutation things (map (keyed_at step things d) keys)
things_moved {X} HasCode step things keys d are =
    let numbers : List ℕ = range_with_len 0 (length things) in
    let at : ℕ → X = λ i. get_or things i d in
    let all : things ≡ map at numbers =
    fill_by_all at things (length things) d refl (λ k l. refl) in
    subst (λ (xs : List X). IsPermutation xs (map (keyed_at step things d) keys)) (sym all)
    (subst (λ (xs : List X). IsPermutation (map at numbers) xs)
    (map-map at (λ k. k % step) keys)
    (IsPermutation-map at numbers (map (λ k. k % step) keys) are.places))
