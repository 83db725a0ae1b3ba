-- Bytes that are handed on in pieces of 4,096.
use Rattle.std.proofs.Common.{◌≡◌, ℕ, zero, suc, ◌+◌, ◌-◌, ◌*◌, ◌<◌, ◌≤◌, ◌⊎◌, inl, inr, List, []}
use Rattle.std.proofs.Common.{◌∷◌, ◌++◌, length, take, drop, Option, refl, sym, ◌∙◌, ap, subst}
use Rattle.std.proofs.Common.{arith, append_assoc, append-nil, length-append}
use Rattle.std.proofs.Math.Seq.{take-add, take-append-add, drop-append-add}
use Rattle.std.proofs.lemmas.List.{take-append-drop, drop-drop, length-drop}
use Rattle.oct_io.specs.Gathered.{handed_on}
use Rattle.oct_io.specs.Taken.{IsCutOff, IsGathered, IsTaken, IsRefused}
use Rattle.oct_io.specs.Told.{appended}
use Rattle.oct_io.proofs.Appending.{appended_twice, appended_nil}

-- some whole pieces of all the bytes were handed on, and these are held and to be taken
pub record IsPushing (all held rest : List ℕ) (old new : Option (List ℕ)) : Type 0 where
  pub rounds : ℕ
  pub left : held ++ rest ≡ drop (rounds * 4096) all
  pub long : rounds * 4096 + length (held ++ rest) ≡ length all
  pub written : new ≡ appended old (take (rounds * 4096) all)
  pub more : (rounds ≡ 0) ⊎ (0 < length rest)

-- at first none
pub pushing_first : (held rest : List ℕ) (old : Option (List ℕ))
    → IsPushing (held ++ rest) held rest old old
pushing_first held rest old = record {
  rounds = 0;
  left = refl;
  long = omega arith;
  written = appended_nil old;
  more = inl refl;
}

-- one more: what fits is held, and all that is held is handed on
pushing_step : (all held rest : List ℕ) (room : ℕ) (old new next : Option (List ℕ))
    → IsPushing all held rest old new
    → room + length held ≡ 4096 → room < length rest → next ≡ appended new (held ++ take room rest)
    → IsPushing all [] (drop room rest) old next
pushing_step all held rest room old new next p full over wrote =
    let count : length held + room ≡ 4096 = omega (arith, full) in
    let piece : take 4096 (held ++ rest) ≡ held ++ take room rest =
    ap (λ n. take n (held ++ rest)) (sym count) ∙ take-append-add held rest room in
    let behind : drop 4096 (held ++ rest) ≡ drop room rest =
    ap (λ n. drop n (held ++ rest)) (sym count) ∙ drop-append-add held rest room in
    let both : p.rounds * 4096 + 4096 ≡ suc p.rounds * 4096 = omega arith in
    let size : length (drop room rest) ≡ length rest - room = length-drop room rest in
    let parts = length-append held rest in
    let long = p.long in
    record {
      rounds = suc p.rounds;
      left = sym behind ∙ ap (drop 4096) p.left ∙ drop-drop 4096 (p.rounds * 4096) all
          ∙ ap (λ n. drop n all) both;
      long = omega (arith, long, parts, size, full, over);
      written = wrote ∙ ap (λ w. appended w (held ++ take room rest)) p.written
          ∙ appended_twice old (take (p.rounds * 4096) all) (held ++ take room rest)
          ∙ ap (λ l. appended old (take (p.rounds * 4096) all ++ l))
          (sym piece ∙ ap (take 4096) p.left)
          ∙ ap (appended old) (sym (take-add (p.rounds * 4096) 4096 all))
          ∙ ap (λ n. appended old (take n all)) both;
      more = inr (omega (arith, size, over));
    }

pub pushing_next : (all held rest held' rest' : List ℕ) (room : ℕ) (old new next : Option (List ℕ))
    → IsPushing all held rest old new
    → room + length held ≡ 4096 → room < length rest → held' ≡ [] → rest' ≡ drop room rest
    → next ≡ appended new (held ++ take room rest) → IsPushing all held' rest' old next
pushing_next all held rest held' rest' room old new next p full over none is wrote =
    subst (λ l. IsPushing all l rest' old next) (sym none)
    (subst (λ l. IsPushing all [] l old next) (sym is)
    (pushing_step all held rest room old new next p full over wrote))

-- what was pushed so far is all that a sink may have been called for
pub pushing_long : (all held rest : List ℕ) (room : ℕ) (old new : Option (List ℕ))
    → IsPushing all held rest old new
    → room + length held ≡ 4096 → room < length rest → length all ≤ 4096 → ⊥
pushing_long all held rest room old new p full over short =
    let parts = length-append held rest in
    let long = p.long in
    omega (arith, long, parts, full, over, short)

-- a part of a piece that comes after what was written, before more
pub cut_behind : (old out new : Option (List ℕ)) (front piece more : List ℕ)
    → out ≡ appended old front → IsCutOff out new piece
    → IsCutOff old new (front ++ (piece ++ more))
cut_behind old out new front piece more before (count, less, is) =
    let long = length-append front (piece ++ more) in
    let all = length-append piece more in (
      length front + count,
      omega (arith, less, long, all),
      is ∙ ap (λ o. appended o (take count piece)) before
          ∙ appended_twice old front (take count piece)
          ∙ ap (appended old)
          (ap (λ t. front ++ t) (sym (take_within piece more count (omega (arith, less))))
          ∙ sym (take_front front (piece ++ more) count)),
    )
  where
    take_front : (xs ys : List ℕ) (n : ℕ) → take (length xs + n) (xs ++ ys) ≡ xs ++ take n ys
    take_front [] ys n = (let e : 0 + n ≡ n = omega arith in ap (λ (k : ℕ). take k ys) e)
    take_front (x ∷ xs) ys n = (let e : suc (length xs) + n ≡ suc (length xs + n) = omega arith in
        ap (λ (k : ℕ). take k (x ∷ (xs ++ ys))) e ∙ ap (λ t. x ∷ t) (take_front xs ys n))

    take_within : (xs ys : List ℕ) (n : ℕ) → n ≤ length xs → take n (xs ++ ys) ≡ take n xs
    take_within xs ys zero l = refl
    take_within [] ys (suc n) l = absurd (omega arith)
    take_within (x ∷ xs) ys (suc n) l = ap (λ t. x ∷ t) (take_within xs ys n (omega arith))

-- where it gives up, a part of all was handed on
pub pushing_cut : (all held rest : List ℕ) (room n : ℕ) (old new next : Option (List ℕ))
    → IsPushing all held rest old new
    → n < length (held ++ take room rest) → next ≡ appended new (take n (held ++ take room rest))
    → IsCutOff old next all
pushing_cut all held rest room n old new next p less wrote =
    subst (IsCutOff old next) whole
    (cut_behind old new next (take (p.rounds * 4096) all) (held ++ take room rest)
    (drop room rest) p.written (n, less, wrote))
  where
    whole : take (p.rounds * 4096) all ++ ((held ++ take room rest) ++ drop room rest) ≡ all
    whole = ap (λ l. take (p.rounds * 4096) all ++ l)
        (append_assoc held (take room rest) (drop room rest)
        ∙ ap (λ l. held ++ l) (take-append-drop room rest) ∙ p.left)
        ∙ take-append-drop (p.rounds * 4096) all

-- this many whole pieces are those of the number
whole_pieces : (rounds left total : ℕ) → rounds * 4096 + left ≡ total → left ≤ 4096
    → (rounds ≡ 0) ⊎ (0 < left) → handed_on total ≡ rounds * 4096
whole_pieces rounds left total sum few (inl none) = omega (arith, sum, few, none)
whole_pieces rounds left total sum few (inr some) = omega (arith, sum, few, some)

-- in the end, what is left is held
pub pushing_held : (all held rest : List ℕ) (old new : Option (List ℕ))
    → IsPushing all held rest old new
    → length held + length rest ≤ 4096 → held ++ rest ≡ drop (handed_on (length all)) all
pushing_held all held rest old new p fits =
    let parts = length-append held rest in
    p.left ∙ ap (λ n. drop n all)
    (sym (whole_pieces p.rounds (length (held ++ rest))
    (length all) p.long (omega (arith, parts, fits)) (some p.more)))
  where
    some : (p.rounds ≡ 0) ⊎ (0 < length rest) → (p.rounds ≡ 0) ⊎ (0 < length (held ++ rest))
    some (inl none) = inl none
    some (inr l) = (let parts = length-append held rest in inr (omega (arith, parts, l)))

-- and the rest of all was handed on
pub pushing_handed : (all held rest : List ℕ) (old new : Option (List ℕ))
    → IsPushing all held rest old new
    → length held + length rest ≤ 4096 → new ≡ appended old (take (handed_on (length all)) all)
pushing_handed all held rest old new p fits =
    let parts = length-append held rest in
    p.written ∙ ap (λ n. appended old (take n all))
    (sym (whole_pieces p.rounds (length (held ++ rest))
    (length all) p.long (omega (arith, parts, fits)) (some p.more)))
  where
    some : (p.rounds ≡ 0) ⊎ (0 < length rest) → (p.rounds ≡ 0) ⊎ (0 < length (held ++ rest))
    some (inl none) = inl none
    some (inr l) = (let parts = length-append held rest in inr (omega (arith, parts, l)))

-- ---- for those who push: a text of which a front was written, and the rest is held

-- of no text
pub gathered_first : (old : Option (List ℕ)) → IsGathered [] old old []
gathered_first old = record { front = []; written = appended_nil old; split = refl }

-- a piece more
pub gathered_push : (text piece held held' : List ℕ) (n : ℕ) (old new next : Option (List ℕ))
    → IsGathered text old new held
    → next ≡ appended new (take n (held ++ piece)) → held' ≡ drop n (held ++ piece)
    → IsGathered (text ++ piece) old next held'
gathered_push text piece held held' n old new next g wrote is = record {
  front = g.front ++ take n (held ++ piece);
  written = wrote ∙ ap (λ w. appended w (take n (held ++ piece))) g.written
      ∙ appended_twice old g.front (take n (held ++ piece));
  split = ap (λ l. l ++ piece) g.split ∙ append_assoc g.front held piece
      ∙ ap (λ l. g.front ++ l)
      (sym (take-append-drop n (held ++ piece)) ∙ ap (λ l. take n (held ++ piece) ++ l)
      (sym is))
      ∙ sym (append_assoc g.front (take n (held ++ piece)) held');
}

-- a piece that was cut off
pub gathered_refused : (text piece held : List ℕ) (old new next : Option (List ℕ))
    → IsGathered text old new held
    → IsCutOff new next (held ++ piece) → IsCutOff old next (text ++ piece)
gathered_refused text piece held old new next g cut =
    subst (IsCutOff old next)
    (ap (λ l. g.front ++ l) (append-nil (held ++ piece)) ∙ sym (append_assoc g.front held piece)
    ∙ ap (λ l. l ++ piece) (sym g.split))
    (cut_behind old new next g.front (held ++ piece) [] g.written cut)

-- all that is held, written
pub gathered_whole : (text held : List ℕ) (old new next : Option (List ℕ))
    → IsGathered text old new held
    → next ≡ appended new held → next ≡ appended old text
gathered_whole text held old new next g wrote =
    wrote ∙ ap (λ w. appended w held) g.written ∙ appended_twice old g.front held
    ∙ ap (appended old) (sym g.split)

-- or a part of it
pub gathered_cut : (text held : List ℕ) (old new next : Option (List ℕ))
    → IsGathered text old new held
    → IsCutOff new next held → IsCutOff old next text
gathered_cut text held old new next g cut =
    subst (IsCutOff old next) (ap (λ l. g.front ++ l) (append-nil held) ∙ sym g.split)
    (cut_behind old new next g.front held [] g.written cut)

-- ---- pieces one after another

-- no piece
pub taken_none : (old : Option (List ℕ)) (held : List ℕ) → IsTaken [] old held old held
taken_none old held text start g = subst (λ t. IsGathered t start old held)
    (sym (append-nil text)) g

-- two pieces
pub taken_more : (first second : List ℕ) (old new next : Option (List ℕ))
    (held held' held'' : List ℕ) → IsTaken first old held new held'
    → IsTaken second new held' next held'' → IsTaken (first ++ second) old held next held''
taken_more first second old new next held held' held'' one two text start g =
    subst (λ t. IsGathered t start next held'') (append_assoc text first second)
    (two (text ++ first) start (one text start g))

-- the first of two is cut off
pub refused_first : (first second : List ℕ) (old new : Option (List ℕ)) (held : List ℕ)
    → IsRefused first old held new
    → IsRefused (first ++ second) old held new
refused_first first second old new held cut text start g =
    subst (IsCutOff start new) (append_assoc text first second)
    (longer (text ++ first) (cut text start g))
  where
    longer : (t : List ℕ) → IsCutOff start new t → IsCutOff start new (t ++ second)
    longer t c = cut_behind start start new [] t second (appended_nil start) c

-- the second one is
pub refused_second : (first second : List ℕ) (old new next : Option (List ℕ)) (held held' : List ℕ)
    → IsTaken first old held new held'
    → IsRefused second new held' next → IsRefused (first ++ second) old held next
refused_second first second old new next held held' one cut text start g =
    subst (IsCutOff start next) (append_assoc text first second)
    (cut (text ++ first) start (one text start g))
