-- The bytes of names.
use Rattle.std.proofs.Common.{◌≡◌, ℕ, zero, suc, ◌+◌, ◌-◌, ◌<◌, ◌≤◌, Bool, true, List, [], ◌∷◌}
use Rattle.std.proofs.Common.{◌++◌, length, take, drop, replicate, get_or, Option, Some, None, cond}
use Rattle.std.proofs.Common.{refl, sym, ap, subst, ◌∙◌, arith, rules, tests}
use Rattle.std.proofs.Math.Seq.{take-append_seam}
use Rattle.std.proofs.lemmas.Bool.{and_parts}
use Rattle.std.proofs.lemmas.List.{drop-replicate}
use Rattle.std.proofs.lemmas.Str.{IsUtf8-from_ascii}
use Rattle.std.specs.List.{prefix_len, list_all}
use Rattle.std.specs.Str.{IsAscii, IsUtf8}
use Rattle.oct_script.specs.Names.{is_name_byte, is_name, name_of, is_kept, padded, without_padding}

named_kept : (b : ℕ) → is_name_byte b ≡ true → is_kept b ≡ true
named_kept b e = search (rules, tests)

named_ascii : (b : ℕ) → is_name_byte b ≡ true → b < 128
named_ascii b e = search (rules, tests)

one_more : (n : ℕ) → 1 + n ≡ suc n
one_more n = omega arith

zeros_end : (n : ℕ) → prefix_len is_kept (replicate n 0) ≡ 0
zeros_end zero = refl
zeros_end (suc n) = refl

-- the zeros after a name are the first
kept_before : (word : List ℕ) (n : ℕ) → list_all is_name_byte word ≡ true
    → prefix_len is_kept (word ++ replicate n 0) ≡ length word
kept_before [] n all = zeros_end n
kept_before (b ∷ word) n all =
    let parts = and_parts (is_name_byte b) (list_all is_name_byte word) all in
    rw (named_kept b parts.0, kept_before word n parts.1) (one_more (length word))

all_ascii : (word : List ℕ) → list_all is_name_byte word ≡ true → IsAscii word
all_ascii [] all = λ i. search rules
all_ascii (b ∷ word) all =
    let parts = and_parts (is_name_byte b) (list_all is_name_byte word) all in
    λ i. elim i as (λ i. get_or (b ∷ word) i 0 < 128) [
      | zero ↦ named_ascii b parts.0
      | suc i ↦ all_ascii word parts.1 i
    ]

-- the parts of a name
parts_of : (word : List ℕ) → is_name word ≡ true
    → (length word ≤ 64) × (list_all is_name_byte word ≡ true)
parts_of [] e = cc
parts_of (b ∷ word) e = search (rules, tests)

-- a name without the zeros after it
pub name_kept : (word : List ℕ) → is_name word ≡ true → without_padding (padded word) ≡ word
name_kept word is =
    ap (λ n. take n (padded word)) (kept_before word (64 - length word) (parts_of word is).1)
    ∙ take-append_seam word (replicate (64 - length word) 0)

pub name_text : (word : List ℕ) → is_name word ≡ true → IsUtf8 word
name_text word is = IsUtf8-from_ascii word (all_ascii word (parts_of word is).1)

pub zeros_behind : (word : List ℕ) → word ++ drop (length word) (replicate 64 0) ≡ padded word
zeros_behind word = ap (λ zeros. word ++ zeros) (drop-replicate (length word) 64 0)

-- what a name is made of
pub name_holds : (word bytes : List ℕ) (is : Bool) → is ≡ is_name word → is ≡ true
    → bytes ≡ padded word →
    (bytes ≡ padded (without_padding bytes)) × (is_name (without_padding bytes) ≡ true)
name_holds word bytes is test passed made =
    let named : is_name word ≡ true = sym test ∙ passed in
    let kept : without_padding bytes ≡ word = ap without_padding made ∙ name_kept word named in
    (made ∙ sym (ap padded kept), ap is_name kept ∙ named)

pub name_made : (word bytes : List ℕ) (is : Bool) → is ≡ is_name word → is ≡ true
    → bytes ≡ padded word → Some (without_padding bytes) ≡ name_of word
name_made word bytes is test passed made =
    let named : is_name word ≡ true = sym test ∙ passed in
    ap (λ name. let o : Option (List ℕ) = Some name in o)
    (ap without_padding made ∙ name_kept word named)
    ∙ sym (ap (λ b. cond b (Some word) None) named)

-- the bytes before the first zero are a text
pub front_text : (bytes front : List ℕ) (n : ℕ) → front ≡ take n bytes
    → n ≡ prefix_len is_kept bytes → is_name (without_padding bytes) ≡ true → IsUtf8 front
front_text bytes front n is count named =
    subst IsUtf8 (sym (is ∙ ap (λ n. take n bytes) count)) (name_text (without_padding bytes) named)
