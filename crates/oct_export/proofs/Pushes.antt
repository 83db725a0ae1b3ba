-- Texts that are pushed to a gather, one after the other.
use Rattle.std.proofs.Common.{◌≡◌, ℕ, List, [], ◌++◌, take, drop, Option, refl, sym, ◌∙◌, ap, subst}
use Rattle.std.proofs.Common.{append_assoc, append-nil}
use Rattle.std.proofs.lemmas.List.{take-append-drop}
use Rattle.oct_io.specs.Told.{appended}
use Rattle.oct_io.specs.Taken.{IsCutOff}
use Rattle.oct_io.proofs.Appending.{appended_twice, appended_nil}
use Rattle.oct_io.proofs.Gathering.{cut_behind}
use Rattle.oct_export.specs.Pushed.{IsPushed}

-- nothing yet
pub pushed_none : (held : List ℕ) (told : Option (List ℕ)) → IsPushed [] held held told told
pushed_none held told = (
  record { done = []; rest = held ++ []; written = appended_nil told; split = refl },
  append-nil held,
)

pub pushed_start : (t held : List ℕ) (told : Option (List ℕ)) → t ≡ []
    → IsPushed t held held told told
pushed_start t held told none = subst (λ l. IsPushed l held held told told) (sym none)
    (pushed_none held told)

-- another text, where it is the same one
pub pushed_as : (t u h h' : List ℕ) (w w' : Option (List ℕ)) → IsPushed t h h' w w' → t ≡ u
    → IsPushed u h h' w w'
pushed_as t u h h' w w' p same = subst (λ l. IsPushed l h h' w w') same p

-- one piece
pub pushed_piece : (piece h h' : List ℕ) (n : ℕ) (w w' : Option (List ℕ))
    → w' ≡ appended w (take n (h ++ piece))
    → h' ≡ drop n (h ++ piece) → IsPushed piece h h' w w'
pushed_piece piece h h' n w w' wrote is = (
  record {
    done = take n (h ++ piece);
    rest = drop n (h ++ piece);
    written = wrote;
    split =
        sym (take-append-drop n (h ++ piece));
  },
  sym is,
)

-- a text after another
pub pushed_more : (t u all h0 h1 h2 : List ℕ) (w0 w1 w2 : Option (List ℕ)) → IsPushed t h0 h1 w0 w1
    → IsPushed u h1 h2 w1 w2
    → t ++ u ≡ all → IsPushed all h0 h2 w0 w2
pushed_more t u all h0 h1 h2 w0 w1 w2 (b, e) (d, f) is = (
  record {
    done = b.done ++ d.done;
    rest = d.rest;
    written = d.written ∙ ap (λ o. appended o d.done) b.written ∙ appended_twice w0 b.done d.done;
    split = ap (λ l. h0 ++ l) (sym is) ∙ sym (append_assoc h0 t u) ∙ ap (λ l. l ++ u) b.split
        ∙ append_assoc b.done b.rest u
        ∙ ap (λ l. b.done ++ l) (ap (λ l. l ++ u) e ∙ d.split)
        ∙ sym (append_assoc b.done d.done d.rest);
  },
  f,
)

-- a text after another that was cut off
pub second_cut : (t u more all h0 h1 : List ℕ) (w0 w1 w2 : Option (List ℕ))
    → IsPushed t h0 h1 w0 w1 → IsCutOff w1 w2 (h1 ++ u)
    → t ++ (u ++ more) ≡ all → IsCutOff w0 w2 (h0 ++ all)
second_cut t u more all h0 h1 w0 w1 w2 (b, e) cut is =
    subst (IsCutOff w0 w2)
    (ap (λ l. b.done ++ l) (append_assoc h1 u more ∙ ap (λ l. l ++ (u ++ more)) (sym e))
    ∙ sym (append_assoc b.done b.rest (u ++ more)) ∙ ap (λ l. l ++ (u ++ more)) (sym b.split)
    ∙ append_assoc h0 t (u ++ more) ∙ ap (λ l. h0 ++ l) is)
    (cut_behind w0 w1 w2 b.done (h1 ++ u) more b.written cut)

-- three texts, one after the other, or the last of them cut off
pub pushed_three : (t u v all h0 h1 h2 h3 : List ℕ) (w0 w1 w2 w3 : Option (List ℕ))
    → t ++ (u ++ v) ≡ all → IsPushed t h0 h1 w0 w1
    → IsPushed u h1 h2 w1 w2 → IsPushed v h2 h3 w2 w3 → IsPushed all h0 h3 w0 w3
pushed_three t u v all h0 h1 h2 h3 w0 w1 w2 w3 is p q r =
    pushed_more (t ++ u) v all h0 h2 h3 w0 w2 w3
    (pushed_more t u (t ++ u) h0 h1 h2 w0 w1 w2 p q refl) r (append_assoc t u v ∙ is)

pub third_cut : (t u v all h0 h1 h2 : List ℕ) (w0 w1 w2 w3 : Option (List ℕ))
    → t ++ (u ++ v) ≡ all → IsPushed t h0 h1 w0 w1
    → IsPushed u h1 h2 w1 w2 → IsCutOff w2 w3 (h2 ++ v) → IsCutOff w0 w3 (h0 ++ all)
third_cut t u v all h0 h1 h2 w0 w1 w2 w3 is p q r =
    second_cut (t ++ u) v [] all h0 h2 w0 w2 w3
    (pushed_more t u (t ++ u) h0 h1 h2 w0 w1 w2 p q refl) r
    (ap (λ l. (t ++ u) ++ l) (append-nil v) ∙ append_assoc t u v ∙ is)

-- a text that was cut off, with more after it
pub first_cut : (t more all h : List ℕ) (w w' : Option (List ℕ)) → IsCutOff w w' (h ++ t)
    → t ++ more ≡ all → IsCutOff w w' (h ++ all)
first_cut t more all h w w' cut is =
    subst (IsCutOff w w') (append_assoc h t more ∙ ap (λ l. h ++ l) is)
    (cut_behind w w w' [] (h ++ t) more (appended_nil w) cut)

-- all that was pushed to a gather that held nothing, written
pub pushed_whole : (t h0 h1 : List ℕ) (w0 w1 w2 : Option (List ℕ)) → IsPushed t h0 h1 w0 w1
    → h0 ≡ [] → w2 ≡ appended w1 h1
    → w2 ≡ appended w0 t
pushed_whole t h0 h1 w0 w1 w2 (b, e) none wrote =
    wrote ∙ ap (λ o. appended o h1) b.written ∙ appended_twice w0 b.done h1
    ∙ ap (appended w0) (ap (λ l. b.done ++ l) (sym e) ∙ sym b.split ∙ ap (λ l. l ++ t) none)

-- or a part of it
pub pushed_cut : (t h0 h1 : List ℕ) (w0 w1 w2 : Option (List ℕ)) → IsPushed t h0 h1 w0 w1
    → h0 ≡ [] → IsCutOff w1 w2 h1 → IsCutOff w0 w2 t
pushed_cut t h0 h1 w0 w1 w2 (b, e) none cut =
    subst (IsCutOff w0 w2)
    (ap (λ l. b.done ++ l) (append-nil h1 ∙ sym e) ∙ sym b.split ∙ ap (λ l. l ++ t) none)
    (cut_behind w0 w1 w2 b.done h1 [] b.written cut)

-- what was cut off after a gather that held nothing
pub cut_of_none : (t h : List ℕ) (w w' : Option (List ℕ)) → h ≡ [] → IsCutOff w w' (h ++ t)
    → IsCutOff w w' t
cut_of_none t h w w' none = subst (λ l. IsCutOff w w' (l ++ t) → IsCutOff w w' t) (sym none)
    (λ cut. cut)

pub cut_as : (t u h : List ℕ) (w w' : Option (List ℕ)) → IsCutOff w w' (h ++ t) → t ≡ u
    → IsCutOff w w' (h ++ u)
cut_as t u h w w' cut same = subst (λ l. IsCutOff w w' (h ++ l)) same cut
