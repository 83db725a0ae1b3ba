-- The record of a block, from its last child to its first.
use Rattle.std.proofs.Common.{◌≡◌, ℕ, suc, ◌+◌, ◌-◌, ◌*◌, ◌<◌, Option, Some, None}
use Rattle.std.proofs.Common.{List, [], ◌∷◌, ◌++◌, length, refl, sym, subst, ◌∙◌, ap, arith}
use Rattle.std.proofs.Common.{append_assoc, append-nil, length-append}
use Rattle.std.specs.List.{flat_map}
use Rattle.oct_key.specs.Block.{Cube, child_of}
use Rattle.oct_odds.specs.declared.event.Class.{Class}
use Rattle.oct_values.specs.Classes.{Classes, class_of_block}
use Rattle.oct_bt.specs.declared.writing.Part.{Part}
use Rattle.oct_bt.specs.declared.mixture.Mixture.{Mixture}
use Rattle.oct_bt.specs.declared.mixture.Mixture.TheVariants.{Pure, Mixed}
use Rattle.oct_bt.specs.Records.{code_bytes}
use Rattle.oct_bt.specs.Canonical.{block_code, child_codes, data_of_child, data_below}
use Rattle.oct_bt.specs.Mixtures.{IsFirstOther, IsMixtureOf, class_of_mixture}
use Rattle.oct_bt.specs.Parts.{IsPart, ArePart, parts_text, IsRecordOf}
use Rattle.oct_bt.proofs.Numbering.{numbers_from}
use Rattle.oct_bt.proofs.Mixtures.{IsAbove, class_by_mixture}
use Rattle.oct_key.proofs.Blocks.{child_in_map}
use Rattle.oct_io.specs.Taken.{IsTaken, IsRefused}
use Rattle.oct_io.proofs.Gathering.{taken_more, refused_first, refused_second}

-- one part more
pub parts_push : (c : Classes) (d : ℕ) (b : Cube) (list : List Part) (part : Part)
    → ArePart c d b list → IsPart c d b part
    → ArePart c d b (list ++ part ∷ [])
unfolding ArePart
parts_push c d b [] part are is = (is, tt)
parts_push c d b (x ∷ list) part are is = (are.0, parts_push c d b list part are.1 is)

pub parts_last : (c : Classes) (d : ℕ) (b : Cube) (list : List Part) (part : Part)
    → ArePart c d b (list ++ part ∷ [])
    → ArePart c d b list × IsPart c d b part
unfolding ArePart
parts_last c d b [] part are = (tt, are.0)
parts_last c d b (x ∷ list) part are =
    (let (before, last) = parts_last c d b list part are.1 in ((are.0, before), last))

pub text_push : (c : Classes) (d : ℕ) (b : Cube) (list : List Part) (part : Part)
    → parts_text c d b (list ++ part ∷ []) ≡ data_below c (16 - (d + 1))
    (child_of b part.i) ++ parts_text c d b list
unfolding parts_text
text_push c d b [] part = sym (append-nil (data_below c (16 - (d + 1)) (child_of b part.i)))
text_push c d b (x ∷ list) part =
    let piece : List ℕ = data_below c (16 - (d + 1)) (child_of b x.i) in
    ap (λ t. t ++ piece) (text_push c d b list part)
    ∙ append_assoc (data_below c (16 - (d + 1)) (child_of b part.i)) (parts_text c d b list) piece

pub push_long : (list more : List Part) (part : Part) → more ≡ list ++ part ∷ []
    → length more ≡ length list + 1
push_long list more part is =
    (let long = length-append list (part ∷ []) in
    let all : length more ≡ length (list ++ part ∷ []) = ap length is in omega (arith, all, long))

-- the data of the children from one on
abbrev pub data_from : Classes → ℕ → Cube → ℕ → ℕ → List ℕ
data_from c d b m n =
    flat_map (λ i. data_of_child (class_of_block c (child_of b i))
    (data_below c (16 - (d + 1)) (child_of b i))) (numbers_from m n)

pub record IsRecordFrom (c : Classes) (d : ℕ) (b : Cube) (done codes : ℕ)
    (parts : List Part) : Type 0 where
  pub codes_are : codes ≡ child_codes c b (numbers_from (8 - done) done)
  pub are : ArePart c d b parts
  pub text : data_from c d b (8 - done) done ≡ parts_text c d b parts

pub record_first : (c : Classes) (d : ℕ) (b : Cube) (parts : List Part) → parts ≡ []
    → IsRecordFrom c d b 0 0 parts
unfolding numbers_from child_codes ArePart parts_text
record_first c d b parts none = subst (IsRecordFrom c d b 0 0) (sym none) (record {
  codes_are = refl;
  are = tt;
  text = refl;
})

step_numbers : (done : ℕ) → done < 8 → numbers_from (8 - (done + 1)) (done + 1)
    ≡ (7 - done) ∷ numbers_from (8 - done) done
unfolding numbers_from
step_numbers done less =
    let at : 8 - (done + 1) ≡ 7 - done = omega arith in
    let more : done + 1 ≡ suc done = omega arith in
    let next : suc (7 - done) ≡ 8 - done = omega (arith, less) in
    ap (λ (m : ℕ). numbers_from m (done + 1)) at ∙ ap (numbers_from (7 - done)) more
    ∙ ap (λ (m : ℕ). (7 - done) ∷ numbers_from m done) next

codes_step : (c : Classes) (b : Cube) (done code codes : ℕ) (o : Option Class) → done < 8
    → class_of_block c (child_of b (7 - done)) ≡ o
    → code ≡ block_code o → codes ≡ child_codes c b (numbers_from (8 - done) done)
    → code + 4 * codes ≡ child_codes c b (numbers_from (8 - (done + 1)) (done + 1))
unfolding child_codes
codes_step c b done code codes o less is code_is codes_is =
    ap (λ (n : ℕ). n + 4 * codes) (code_is ∙ ap block_code (sym is))
    ∙ ap (λ (n : ℕ). block_code (class_of_block c (child_of b (7 - done))) + 4 * n) codes_is
    ∙ sym (ap (child_codes c b) (step_numbers done less))

text_step : (c : Classes) (d : ℕ) (b : Cube) (done : ℕ) (o : Option Class) → done < 8
    → class_of_block c (child_of b (7 - done)) ≡ o
    → data_from c d b (8 - (done + 1)) (done + 1)
    ≡ data_of_child o (data_below c (16 - (d + 1)) (child_of b (7 - done)))
    ++ data_from c d b (8 - done) done
text_step c d b done o less is =
    let piece : ℕ → List ℕ = λ i. data_of_child (class_of_block c (child_of b i))
    (data_below c (16 - (d + 1)) (child_of b i)) in
    ap (flat_map piece) (step_numbers done less)
    ∙ ap (λ o. data_of_child o (data_below c (16 - (d + 1)) (child_of b (7 - done)))
    ++ data_from c d b (8 - done) done) is

-- a child of one class
pub record_pure : (c : Classes) (d : ℕ) (b : Cube) (done code codes : ℕ) (parts : List Part)
    (m : Mixture) → done < 8 → IsAbove d b
    → IsMixtureOf c (16 - (d + 1)) (child_of b (7 - done)) m
    → code ≡ block_code (class_of_mixture m)
    → ((x : Class) (way : ℕ) → m ≡ Mixed x way → ⊥) → IsRecordFrom c d b done codes parts
    → IsRecordFrom c d b (done + 1) (code + 4 * codes) parts
record_pure c d b done code codes parts (Mixed x way) less a is code_is other s =
    absurd (other x way refl)
record_pure c d b done code codes parts (Pure x) less a is code_is other s = record {
  codes_are = codes_step c b done code codes (Some x) less is code_is s.codes_are;
  are = s.are;
  text = text_step c d b done (Some x) less is ∙ s.text;
}

-- and one of several
pub record_mixed : (c : Classes) (d : ℕ) (b : Cube) (done code codes : ℕ) (parts more : List Part)
    (part : Part) → done < 8 → IsAbove d b
    → IsMixtureOf c (16 - (d + 1)) (child_of b (7 - done)) (Mixed part.class part.way)
    → part.i ≡ 7 - done
    → code ≡ block_code None → more ≡ parts ++ part ∷ [] → IsRecordFrom c d b done codes parts
    → IsRecordFrom c d b (done + 1) (code + 4 * codes) more
record_mixed c d b done code codes parts more part less a is at code_is pushed s =
    let none : class_of_block c (child_of b (7 - done)) ≡ None =
    class_by_mixture c (16 - (d + 1)) (child_of b (7 - done)) (Mixed part.class part.way)
    (a.child (7 - done))
    (child_in_map b (7 - done) a.ok a.low) is in
    subst (IsRecordFrom c d b (done + 1) (code + 4 * codes)) (sym pushed) (record {
      codes_are = codes_step c b done code codes None less none code_is s.codes_are;
      are = parts_push c d b parts part s.are (record {
        few = omega (arith, at);
        some = is.0;
        first = subst (λ (i : ℕ). IsFirstOther c part.class (16 - (d + 1)) (child_of b i) part.way)
            (sym at) is.1;
      });
      text = text_step c d b done None less none
          ∙ ap (λ t. data_below c (16 - (d + 1)) (child_of b (7 - done)) ++ t) s.text
          ∙ ap (λ (i : ℕ). data_below c (16 - (d + 1)) (child_of b i) ++ parts_text c d b parts)
          (sym at)
          ∙ sym (text_push c d b parts part);
    })

-- all children
pub record_all : (c : Classes) (d : ℕ) (b : Cube) (done codes : ℕ) (parts : List Part) → done ≡ 8
    → IsAbove d b
    → IsRecordFrom c d b done codes parts → IsRecordOf c d b codes parts
unfolding data_below numbers_from
record_all c d b done codes parts end a s = record {
  are = s.are;
  text = ap (λ (h : ℕ). data_below c h b) a.next
      ∙ ap (λ (n : ℕ). code_bytes n ++ data_from c d b 0 8)
      (sym (s.codes_are ∙ ap (λ (n : ℕ). child_codes c b (numbers_from (8 - n) n)) end))
      ∙ ap (λ t. code_bytes codes ++ t)
      (ap (λ (n : ℕ). data_from c d b (8 - n) n) (sym end) ∙ s.text);
}

-- ---- what was written of a block, and which of its parts are to come

pub record IsSent (c : Classes) (d : ℕ) (b : Cube) (parts : List Part) (old : Option (List ℕ))
    (held : List ℕ) (new : Option (List ℕ))
    (left : List ℕ) : Type 0 where
  pub done : List ℕ
  pub are : ArePart c d b parts
  pub whole : data_below c (16 - d) b ≡ done ++ parts_text c d b parts
  pub taken : IsTaken done old held new left

pub sent_first : (c : Classes) (d : ℕ) (b : Cube) (codes : ℕ) (parts : List Part)
    (old new : Option (List ℕ)) (held left : List ℕ)
    → IsRecordOf c d b codes parts → IsTaken (code_bytes codes) old held new left
    → IsSent c d b parts old held new left
sent_first c d b codes parts old new held left r taken = record {
  done = code_bytes codes;
  are = r.are;
  whole = r.text;
  taken = taken;
}

-- the codes were cut off
pub cut_first : (c : Classes) (d : ℕ) (b : Cube) (codes : ℕ) (parts : List Part)
    (old new : Option (List ℕ)) (held : List ℕ)
    → IsRecordOf c d b codes parts → IsRefused (code_bytes codes) old held new
    → IsRefused (data_below c (16 - d) b) old held new
cut_first c d b codes parts old new held r cut =
    subst (λ (t : List ℕ). IsRefused t old held new) (sym r.text)
    (refused_first (code_bytes codes) (parts_text c d b parts) old new held cut)

-- the last part
last_text : (c : Classes) (d : ℕ) (b : Cube) (parts less : List Part) (part : Part) (done : List ℕ)
    → parts ≡ less ++ part ∷ []
    → data_below c (16 - d) b ≡ done ++ parts_text c d b parts
    → data_below c (16 - d) b ≡ (done ++ data_below c (16 - (d + 1)) (child_of b part.i))
    ++ parts_text c d b less
last_text c d b parts less part done is whole =
    let piece : List ℕ = data_below c (16 - (d + 1)) (child_of b part.i) in
    whole ∙ ap (λ (l : List Part). done ++ parts_text c d b l) is ∙ ap (λ (t : List ℕ). done ++ t)
    (text_push c d b less part)
    ∙ sym (append_assoc done piece (parts_text c d b less))

pub last_part : (c : Classes) (d : ℕ) (b : Cube) (parts less : List Part) (part : Part)
    (old new : Option (List ℕ)) (held left : List ℕ)
    → parts ≡ less ++ part ∷ [] → IsSent c d b parts old held new left → IsPart c d b part
last_part c d b parts less part old new held left is s =
    (parts_last c d b less part (subst (ArePart c d b) is s.are)).1

pub sent_part : (c : Classes) (d : ℕ) (b : Cube) (parts less : List Part) (part : Part)
    (old new next : Option (List ℕ)) (held left rest : List ℕ)
    → parts ≡ less ++ part ∷ [] → IsSent c d b parts old held new left
    → IsTaken (data_below c (16 - (d + 1)) (child_of b part.i)) new left next rest
    → IsSent c d b less old held next rest
sent_part c d b parts less part old new next held left rest is s taken =
    let piece : List ℕ = data_below c (16 - (d + 1)) (child_of b part.i) in
    record {
      done = s.done ++ piece;
      are = (parts_last c d b less part (subst (ArePart c d b) is s.are)).0;
      whole = last_text c d b parts less part s.done is s.whole;
      taken = taken_more s.done piece old new next held left rest s.taken taken;
    }

pub cut_part : (c : Classes) (d : ℕ) (b : Cube) (parts less : List Part) (part : Part)
    (old new next : Option (List ℕ)) (held left : List ℕ)
    → parts ≡ less ++ part ∷ [] → IsSent c d b parts old held new left
    → IsRefused (data_below c (16 - (d + 1)) (child_of b part.i)) new left next
    → IsRefused (data_below c (16 - d) b) old held next
cut_part c d b parts less part old new next held left is s cut =
    let piece : List ℕ = data_below c (16 - (d + 1)) (child_of b part.i) in
    subst (λ (t : List ℕ). IsRefused t old held next)
    (sym (last_text c d b parts less part s.done is s.whole))
    (refused_first (s.done ++ piece) (parts_text c d b less) old next held
    (refused_second s.done piece old new next held left s.taken cut))

-- no part is to come
pub sent_whole : (c : Classes) (d : ℕ) (b : Cube) (parts : List Part) (old new : Option (List ℕ))
    (held left : List ℕ) → length parts ≡ 0
    → IsSent c d b parts old held new left → IsTaken (data_below c (16 - d) b) old held new left
unfolding parts_text
sent_whole c d b [] old new held left none s =
    subst (λ (t : List ℕ). IsTaken t old held new left) (sym (s.whole ∙ append-nil s.done)) s.taken
sent_whole c d b (x ∷ parts) old new held left none s = absurd (omega (arith, none))
