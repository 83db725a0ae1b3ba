-- Elements that are put into a buffer, one after another.
use Rattle.std.proofs.Common.{◌≡◌, ℕ, ◌+◌, ◌-◌, ◌<◌, ◌≤◌, List, [], ◌∷◌, ◌++◌, length, map, take}
use Rattle.std.proofs.Common.{drop}
use Rattle.std.proofs.Common.{nat_lt, false, refl, sym, ap, ◌∙◌, arith, get_or, set}
use Rattle.std.proofs.Common.{append_assoc}
use Rattle.std.proofs.lemmas.Bool.{le-ltb}
use Rattle.std.proofs.lemmas.List.{drop_more, length-append, length-map, length-take-le, map-append}
use Rattle.std.proofs.lemmas.List.{drop-drop, drop_at, set_at, take-append-drop, take-take}
use Rattle.std.proofs.lemmas.List.{take_all, take_at, take_more}
use Rattle.std.proofs.lemmas.Slice.{between_is}
use Rattle.std.specs.List.{between}
use borrow.Rule.Slice.PartMut.{put_mid}
use Rattle.octofix.specs.Buffers.{filled, fronted}

-- one element more
set_front : {A : Type 0} (buffer ys : List A) (y : A) → length ys < length buffer
    → set (fronted buffer ys) (length ys) y ≡ fronted buffer (ys ++ y ∷ [])
set_front buffer ys y fits =
    ap (λ rest. set (ys ++ rest) (length ys) y) (drop_more buffer (length ys) y fits)
    ∙ set_at ys (get_or buffer (length ys) y) (drop (length ys + 1) buffer) y (length ys) refl
    ∙ ap (λ n. ys ++ y ∷ drop n buffer) (sym (length-append ys (y ∷ [])))
    ∙ sym (append_assoc ys (y ∷ []) (drop (length (ys ++ y ∷ [])) buffer))

-- one element more of a list, as the buffer has it
pub front_more : {X A : Type 0} (f : X → A) (xs : List X) (buffer now : List A) (i : ℕ) (d : X)
    (y : A) → i < length xs → length xs ≤ length buffer
    → now ≡ fronted buffer (map f (take i xs)) → y ≡ f (get_or xs i d)
    → set now i y ≡ fronted buffer (map f (take (i + 1) xs))
front_more f xs buffer now i d y within room is told =
    let done : length (map f (take i xs)) ≡ i =
    length-map (take i xs) f ∙ length-take-le i xs (omega arith) in
    let more : map f (take i xs) ++ y ∷ [] ≡ map f (take (i + 1) xs) =
    ap (λ v. map f (take i xs) ++ v ∷ []) told
    ∙ sym (map-append f (take i xs) (get_or xs i d ∷ []))
    ∙ ap (map f) (sym (take_more xs i d within)) in
    ap (λ b. set b i y) is
    ∙ ap (λ n. set (fronted buffer (map f (take i xs))) n y) (sym done)
    ∙ set_front buffer (map f (take i xs)) y (omega arith)
    ∙ ap (fronted buffer) more

-- the whole list, where the buffer has room for it
pub front_whole : {X A : Type 0} (f : X → A) (xs : List X) (buffer now : List A) (i : ℕ)
    → length xs ≤ i → length xs ≤ length buffer → now ≡ fronted buffer (map f (take i xs))
    → now ≡ filled buffer (map f xs)
front_whole f xs buffer now i all room is =
    let fits : nat_lt (length buffer) (length (map f xs)) ≡ false =
    le-ltb (length buffer) (length (map f xs)) (omega (arith, length-map xs f)) in
    is ∙ ap (λ ys. fronted buffer (map f ys)) (take_all i xs all) ∙ sym (rw fits refl)

-- the elements of a part of the list more
pub front_part : {X A : Type 0} (f : X → A) (xs : List X) (buffer now part : List A) (i e : ℕ)
    → i ≤ e → e ≤ length xs → now ≡ fronted buffer (map f (take i xs))
    → part ≡ map f (between i e xs)
    → put_mid i (e - i) now part ≡ fronted buffer (map f (take e xs))
front_part f xs buffer now part i e up within is told =
    let ys = map f (take i xs) in
    let done : length ys ≡ i = length-map (take i xs) f ∙ length-take-le i xs (omega arith) in
    let ended : length (map f (take e xs)) ≡ e =
    length-map (take e xs) f ∙ length-take-le e xs within in
    let rest : drop i now ≡ drop i buffer =
    ap (drop i) is ∙ drop_at ys (drop (length ys) buffer) i done ∙ ap (λ n. drop n buffer) done in
    let cut : drop (e - i) (drop i now) ≡ drop e buffer =
    ap (drop (e - i)) rest ∙ drop-drop (e - i) i buffer ∙ ap (λ n. drop n buffer) (omega arith) in
    let whole : take i xs ++ between i e xs ≡ take e xs =
    ap (λ zs. zs ++ between i e xs) (sym (take-take i e xs up))
    ∙ ap (λ zs. take i (take e xs) ++ zs) (between_is xs i e) ∙ take-append-drop i (take e xs) in
    let joined : ys ++ part ≡ map f (take e xs) =
    ap (λ zs. ys ++ zs) told ∙ sym (map-append f (take i xs) (between i e xs)) ∙ ap (map f) whole in
    ap (λ zs. zs ++ (part ++ drop (e - i) (drop i now)))
    (ap (take i) is ∙ take_at ys (drop (length ys) buffer) i done)
    ∙ ap (λ zs. ys ++ (part ++ zs)) cut
    ∙ sym (append_assoc ys part (drop e buffer))
    ∙ ap (λ zs. zs ++ drop e buffer) joined
    ∙ ap (λ n. map f (take e xs) ++ drop n buffer) (sym ended)
