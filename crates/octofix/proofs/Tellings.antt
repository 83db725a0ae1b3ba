-- What a call leaves that tells a list which the map answered.
use Rattle.std.proofs.Common.{◌≡◌, ℕ, ◌<◌, nat_lt, true, List, [], ◌∷◌, length, map, refl, sym}
use Rattle.std.proofs.Common.{ap, ◌∙◌, inl, inr}
use Rattle.std.specs.Prelude.{Option, None, Result, Ok, Err, IsOk}
use Rattle.std.proofs.lemmas.Bool.{lt-ltb}
use Rattle.oct_map.specs.Answers.{IsAnswerOrMemory}
use Rattle.oct_map.specs.Map.{Map}
use Rattle.oct_map.specs.declared.fault.MapFault.{MapFault}
use Rattle.oct_map.specs.declared.fault.MapFault.TheVariants.{Memory}
use Rattle.octofix.specs.Asked.{IsReached, asked, told_each}
use Rattle.octofix.specs.Buffers.{IsListTold, IsSomeList, count_left, filled, list_code}
use Rattle.octofix.specs.Buffers.{list_left, room_code}
use Rattle.octofix.specs.Codes.{answer_details, no_details}
use Rattle.octofix.specs.Codes.{refusal_code}
use Rattle.octofix.specs.declared.refusal.Refusal.{Refusal}
use Rattle.octofix.specs.declared.refusal.Refusal.TheVariants as refusal

-- what was reached of an answer is that of the answer, as C reads it
reached_told : {A B : Type 0} (told : A → B) (answer found : Result (List A) MapFault)
    (may_run_out : Type 0) → IsAnswerOrMemory answer found
    → (Path (Result (List A) MapFault) found (Err Memory) → may_run_out)
    → IsReached (told_each told answer) may_run_out (told_each told found)
reached_told told answer found may_run_out (inl is) out = inl (ap (told_each told) is)
reached_told told answer found may_run_out (inr is) out = inr (ap (told_each told) is, out is)

-- what a call leaves that tells the list which the map answers
pub list_told : {A B : Type 0} (told : A → B) (answer found : Result (List A) MapFault)
    (may_run_out : Type 0) (code : ℕ) (old new : List B) (count count_after : ℕ)
    → IsAnswerOrMemory answer found
    → (Path (Result (List A) MapFault) found (Err Memory) → may_run_out)
    → code ≡ list_code (length old) (told_each told found)
    → new ≡ list_left old (told_each told found)
    → count_after ≡ count_left count (told_each told found)
    → IsListTold (told_each told answer) may_run_out code old new count count_after
list_told told answer found may_run_out code old new count count_after is out coded left counted =
    record {
      reached = told_each told found;
      right = reached_told told answer found may_run_out is out;
      coded = coded;
      left = left;
      counted = counted;
    }

-- a list that isn't empty is none when each of its elements is told
pub some_told : {A B : Type 0} (told : A → B) (items : List A) → (items ≡ [] → ⊥)
    → IsSomeList {A = B} (Ok (map told items))
some_told told [] some = some refl
some_told told (item ∷ items) some = tt

-- the same of an answer
pub some_answered : {A B : Type 0} (told : A → B) (answer : Result (List A) MapFault)
    → IsOk answer → (Path (Result (List A) MapFault) answer (Ok []) → ⊥)
    → IsSomeList (told_each told answer)
some_answered told (Ok items) is some = some_told told items (λ none. some (ap Ok none))
some_answered told (Err fault) is some = cc

-- an answer that is a list is one when each of its elements is told
pub each_ok : {A B : Type 0} (told : A → B) (answer : Result (List A) MapFault) → IsOk answer
    → IsOk (told_each told answer)
each_ok told (Ok items) is = is
each_ok told (Err fault) is = is

-- what a call leaves that puts a text into its buffer
pub text_told : {A : Type 0} (text old new : List A) (may_run_out : Type 0)
    (code count count_after : ℕ) → code ≡ room_code (length old) (length text)
    → new ≡ filled old text → count_after ≡ length text
    → IsListTold (Ok text) may_run_out code old new count count_after
text_told text old new may_run_out code count count_after coded left counted = record {
  reached = Ok text;
  right = inl refl;
  coded = coded;
  left = left;
  counted = counted;
}

-- what it leaves where the buffer is too small
pub text_unfit : {A : Type 0} (text old : List A) (may_run_out : Type 0) (count count_after : ℕ)
    → length old < length text → count_after ≡ length text
    → IsListTold (Ok text) may_run_out 46 old old count count_after
text_unfit text old may_run_out count count_after short counted =
    let full : nat_lt (length old) (length text) ≡ true =
    lt-ltb (length old) (length text) short in
    text_told text old old may_run_out 46 count count_after (sym (rw full refl))
    (sym (rw full refl)) counted

-- what a call leaves for which memory ran out
pub memory_told : {A : Type 0} (answer : Result (List A) Refusal) (may_run_out : Type 0)
    (old : List A) (count : ℕ) → may_run_out
    → IsListTold answer may_run_out 45 old old count count
memory_told answer may_run_out old count may = record {
  reached = Err (refusal.Map Memory);
  right = inr (refl, may);
  coded = refl;
  left = refl;
  counted = refl;
}

-- what a call leaves that is refused
pub refused_told : {A : Type 0} (answer : Result (List A) Refusal) (may_run_out : Type 0)
    (why : Refusal) (code : ℕ) (old : List A) (count : ℕ) → answer ≡ Err why
    → code ≡ refusal_code why → IsListTold answer may_run_out code old old count count
refused_told answer may_run_out why code old count is coded = record {
  reached = Err why;
  right = inl (sym is);
  coded = coded;
  left = refl;
  counted = refl;
}

-- what a call leaves on a handle without a map
pub closed_told : {A : Type 0} (handle : Option Map) (answer : Map → Result (List A) Refusal)
    (may_run_out : Type 0) (why : Refusal) (code : ℕ) (old : List A) (count : ℕ)
    → handle ≡ None → why ≡ refusal.Closed → code ≡ refusal_code why
    → IsListTold (asked handle answer) may_run_out code old old count count
closed_told handle answer may_run_out why code old count none closed coded = record {
  reached = Err refusal.Closed;
  right = inl (sym (ap (λ h. asked h answer) none));
  coded = coded ∙ ap refusal_code closed;
  left = refl;
  counted = refl;
}

-- an answer that is none of a refusal names nothing
ok_details : {A : Type 0} (answer : Result A Refusal) → IsOk answer
    → no_details ≡ answer_details answer
ok_details (Ok done) is = refl
ok_details (Err refusal) is = cc

-- the details of what was found are those of the answer
pub details_told : {A B : Type 0} (told : A → B) (answer found : Result (List A) MapFault)
    → IsAnswerOrMemory answer found
    → (Path (Result (List A) MapFault) found (Err Memory) → IsOk answer)
    → answer_details (told_each told found) ≡ answer_details (told_each told answer)
details_told told answer found (inl is) out = ap (λ a. answer_details (told_each told a)) is
details_told told answer found (inr is) out =
    ap (λ a. answer_details (told_each told a)) is
    ∙ ok_details (told_each told answer) (each_ok told answer (out is))
