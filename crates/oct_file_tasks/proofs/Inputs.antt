-- What is read of a file, piece by piece, and how the reading ends.
use Rattle.std.specs.Prelude.{◌⊎◌}
use Rattle.std.proofs.Common.{◌≡◌, ℕ, ◌+◌, ◌-◌, ◌<◌, ◌≤◌, List, [], ◌++◌, length, take, drop}
use Rattle.std.proofs.Common.{Option, Some, None, IfSome, Result, Ok, Err, IsErrAnd, inl, inr, sym}
use Rattle.std.proofs.Common.{◌∙◌, ap, subst, arith, length-append}
use Rattle.std.proofs.lemmas.List.{length-take-le}
use Rattle.oct_io.specs.Told.{dropped}
use Rattle.oct_io.specs.Taken.{HasTaken, before}
use Rattle.oct_io.proofs.Taking.{before_piece, before_twice, before_taken, before_all}
use Rattle.oct_bt.specs.declared.fault.BtFault.{BtFault}
use Rattle.oct_bt.specs.declared.fault.BtFault.TheVariants as fault
use Rattle.oct_bt.specs.File.{FileRead, reading}
use Rattle.oct_bt.specs.Reading.{FileProgress, StandsFor}
use Rattle.oct_bt.proofs.Short.{reading_short}
use Rattle.oct_file_tasks.specs.declared.input.NoFile.{NoFile}
use Rattle.oct_file_tasks.specs.declared.input.NoFile.TheVariants.{ReadFault, Memory}
use Rattle.oct_file_tasks.specs.Input.{MayRead, IsReadToEnd, HasTakenAtMost, by_fault, HasFed}

-- one read, whose piece was taken after what the reader was fed
pub record HasRead (piece : List ℕ) (n : ℕ) (old new : Option (List ℕ)) : Type 0 where
  pub count : length piece ≡ n
  pub moved : new ≡ dropped n old
  pub same : IfSome old (λ left. piece ≡ take n left)

-- a read that gave nothing, where nothing is left
pub record HasEnded (n : ℕ) (old new : Option (List ℕ)) : Type 0 where
  pub zero : n ≡ 0
  pub moved : new ≡ dropped n old
  pub none : IfSome old (λ left. left ≡ [])

left_same : (n : ℕ) (old new : Option (List ℕ)) → HasEnded n old new → new ≡ old
left_same n None new end = end.moved
left_same n (Some left) new end = end.moved ∙ ap (λ k. Some (drop k left)) end.zero

-- an input that is told, after this many bytes were taken of it
input_taken : (reader : FileProgress) (taken : ℕ) (first left : Option (List ℕ))
    → HasFed reader taken first left
    → IfSome first (λ bytes. HasTaken taken bytes left)
input_taken reader taken None left fed = tt
input_taken reader taken (Some bytes) left fed =
    subst (λ n. HasTaken n bytes left) fed.count (before_taken fed.bytes bytes left fed.input)

-- after one read more
input_more : (reader : FileProgress) (taken n : ℕ) (first old new : Option (List ℕ))
    (piece : List ℕ) → HasRead piece n old new
    → HasFed reader taken first old → IfSome first (λ bytes. HasTaken (taken + n) bytes new)
input_more reader taken n None old new piece read fed = tt
input_more reader taken n (Some bytes) old new piece read fed =
    let size : length (fed.bytes ++ piece) ≡ taken + n =
    (let long = length-append fed.bytes piece in let a = fed.count in let b = read.count in
    omega (arith, long, a, b)) in
    subst (λ n. HasTaken n bytes new) size
    (before_taken (fed.bytes ++ piece) bytes new
    (fed.input ∙ ap (before fed.bytes) (before_piece old new piece n read.moved read.same)
    ∙ before_twice fed.bytes piece new))

-- the reading is cut off within the limit, before a read
pub cut_off : (reader : FileProgress) (taken most : ℕ) (first old left : Option (List ℕ))
    → taken ≤ most → left ≡ old
    → HasFed reader taken first old → IfSome first (λ bytes. HasTakenAtMost most bytes left)
cut_off reader taken most None old left few same fed = tt
cut_off reader taken most (Some bytes) old left few same fed =
    record {
      taken = taken;
      few = few;
      input = subst (HasTaken taken bytes) (sym same)
          (input_taken reader taken (Some bytes) old fed);
    }

-- or after it
pub cut_more : (reader : FileProgress) (taken n most : ℕ) (first old new : Option (List ℕ))
    (piece : List ℕ) → taken ≤ most
    → n ≤ most - taken → HasRead piece n old new → HasFed reader taken first old
    → IfSome first (λ bytes. HasTakenAtMost most bytes new)
cut_more reader taken n most None old new piece few within read fed = tt
cut_more reader taken n most (Some bytes) old new piece few within read fed =
    record {
      taken = taken + n;
      few = omega (arith, few, within);
      input = input_more reader taken n (Some bytes) old new piece read fed;
    }

-- one read more went beyond the limit
pub too_long : (reader : FileProgress) (taken n most : ℕ) (first old new : Option (List ℕ))
    (piece : List ℕ) → taken ≤ most
    → most - taken < n → n ≤ most - taken + 1 → HasRead piece n old new
    → HasFed reader taken first old
    → IfSome first (λ bytes. HasTaken (most + 1) bytes new)
too_long reader taken n most None old new piece few over one read fed = tt
too_long reader taken n most (Some bytes) old new piece few over one read fed =
    let all : taken + n ≡ most + 1 = omega (arith, few, over, one) in
    subst (λ k. HasTaken k bytes new) all
    (input_more reader taken n (Some bytes) old new piece read fed)

-- the end of the input
ended : (reader : FileProgress) (taken n most : ℕ) (bytes : List ℕ) (old left : Option (List ℕ))
    → taken ≤ most → HasEnded n old left
    → HasFed reader taken (Some bytes) old → StandsFor reader bytes × IsReadToEnd most bytes left
ended reader taken n most bytes old left few end fed =
    let (all, nothing) = before_all fed.bytes bytes old fed.input end.none in (
      subst (StandsFor reader) (sym all) fed.stands,
      record {
        few = (let a = fed.count in let b : length bytes ≡ length fed.bytes = ap length all in
            omega (arith, a, b, few));
        end = left_same n old left end ∙ nothing;
      },
    )

-- which has no more records than the input has bytes
pub read_short : (reader : FileProgress) (taken most : ℕ) (first left : Option (List ℕ))
    (file : FileRead) → taken ≤ most
    → HasFed reader taken first left
    → ((text : List ℕ) → StandsFor reader text → Ok file ≡ reading text) → length file.codes ≤ most
read_short reader taken most first left file few fed answer =
    let short = reading_short fed.bytes file (sym (answer fed.bytes fed.stands)) in
    let a = fed.count in omega (arith, short, a, few)

-- or a fault
pub read_err : (reader : FileProgress) (taken n most : ℕ) (first old left : Option (List ℕ))
    (e : BtFault) (stop : NoFile) → stop ≡ by_fault e
    → taken ≤ most → HasEnded n old left → HasFed reader taken first old
    → ((text : List ℕ) → StandsFor reader text → Err e ≡ reading text)
    → IfSome first (λ bytes. MayRead most bytes left (Err stop))
read_err reader taken n most None old left e stop is few end fed answer = tt
read_err reader taken n most (Some bytes) old left e stop is few end fed answer =
    subst (λ stop. MayRead most bytes left (Err stop)) (sym is)
    (by e (ended reader taken n most bytes old left few end fed) answer)
  where
    by : (e : BtFault) → StandsFor reader bytes × IsReadToEnd most bytes left
        → ((text : List ℕ) → StandsFor reader text → Err e ≡ reading text)
        → MayRead most bytes left (Err (by_fault e))
    by fault.Memory end' answer =
        cut_off reader taken most (Some bytes) old left few (left_same n old left end) fed
    by fault.NotOctomap (stands, end') answer = (sym (answer bytes stands), end')
    by fault.FloatTree (stands, end') answer = (sym (answer bytes stands), end')
    by fault.WrongId (stands, end') answer = (sym (answer bytes stands), end')
    by (fault.MissingField word) (stands, end') answer = (sym (answer bytes stands), end')
    by (fault.BadField word) (stands, end') answer = (sym (answer bytes stands), end')
    by fault.HeaderTooLong (stands, end') answer = (sym (answer bytes stands), end')
    by (fault.TooDeep at) (stands, end') answer = (sym (answer bytes stands), end')
    by (fault.Truncated at) (stands, end') answer = (sym (answer bytes stands), end')
    by (fault.TrailingBytes at) (stands, end') answer = (sym (answer bytes stands), end')
    by (fault.SizeMismatch said found) (stands, end') answer = (sym (answer bytes stands), end')

-- the piece that a read gave
pub piece_read : (piece buffer was : List ℕ) (n : ℕ) (old new : Option (List ℕ))
    → piece ≡ take n buffer → n ≤ length was
    → length buffer ≡ length was → new ≡ dropped n old
    → IfSome old (λ left. take n buffer ≡ take n left) → HasRead piece n old new
piece_read piece buffer was n old new front within long moved same = record {
  count = ap length front ∙ length-take-le n buffer (omega (arith, within, long));
  moved = moved;
  same = by old same;
}
  where
    by : (old : Option (List ℕ)) → IfSome old (λ left. take n buffer ≡ take n left)
        → IfSome old (λ left. piece ≡ take n left)
    by None same = tt
    by (Some left) same = front ∙ same

-- the same, of what a `?` answers
pub stopped_at_end : (r : Result FileRead NoFile) (reader : FileProgress) (taken n most : ℕ)
    (first old left : Option (List ℕ)) (e : BtFault)
    → IsErrAnd r (λ stop. stop ≡ by_fault e) → taken ≤ most → HasEnded n old left
    → HasFed reader taken first old
    → ((text : List ℕ) → StandsFor reader text → Err e ≡ reading text)
    → IfSome first (λ bytes. MayRead most bytes left r)
stopped_at_end (Ok file) reader taken n most first old left e is few end fed answer = absurd is
stopped_at_end (Err stop) reader taken n most first old left e is few end fed answer =
    read_err reader taken n most first old left e stop is few end fed answer

cut_as : (stop : NoFile) (first left : Option (List ℕ)) (most : ℕ)
    → (stop ≡ Memory) ⊎ (stop ≡ ReadFault) → IfSome first (λ bytes. HasTakenAtMost most bytes left)
    → IfSome first (λ bytes. MayRead most bytes left (Err stop))
cut_as stop first left most (inl is) cut =
    subst (λ stop. IfSome first (λ bytes. MayRead most bytes left (Err stop))) (sym is) cut
cut_as stop first left most (inr is) cut =
    subst (λ stop. IfSome first (λ bytes. MayRead most bytes left (Err stop))) (sym is) cut

pub stopped_in_piece : (r : Result FileRead NoFile) (reader : FileProgress) (taken n most : ℕ)
    (first old new : Option (List ℕ)) (piece : List ℕ)
    → IsErrAnd r (λ stop. stop ≡ Memory) → taken ≤ most → n ≤ most - taken → HasRead piece n old new
    → HasFed reader taken first old
    → IfSome first (λ bytes. MayRead most bytes new r)
stopped_in_piece (Ok file) reader taken n most first old new piece is few within read fed =
    absurd is
stopped_in_piece (Err stop) reader taken n most first old new piece is few within read fed =
    cut_as stop first new most (inl is)
    (cut_more reader taken n most first old new piece few within read fed)
