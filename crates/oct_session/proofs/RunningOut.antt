-- When what the map is ordered or asked runs out of memory, or what it is to take in.
use Rattle.std.specs.Prelude.{⊤, List}
use Rattle.std.proofs.Common.{◌≡◌, ℕ, [], ◌∷◌, ◌⊎◌, inl, inr, zero, suc, IsSome, Result, Ok}
use Rattle.std.proofs.Common.{Err, IsOk, OnErr, refl, sym, subst, ◌∙◌, false, arith}
use Rattle.std.proofs.lemmas.Result.{on_err_weaker}
use Rattle.oct_bt.proofs.Keeping.{read_keeps}
use Rattle.oct_bt.specs.File.{FileRead, reading}
use Rattle.oct_bt.specs.Reading.{KeepsSome, file_progress}
use Rattle.oct_bt.specs.declared.fault.BtFault.{BtFault}
use Rattle.oct_bt.specs.declared.fault.BtFault.TheVariants as bt_fault
use Rattle.oct_key.specs.declared.point.Point.{Point}
use Rattle.oct_scan.specs.Beam.{Sighting}
use Rattle.oct_scan.specs.Outcome.{TakesMemory}
use Rattle.oct_map.specs.Answers.{limit_answer}
use Rattle.oct_map.specs.Ground.{Ground}
use Rattle.oct_map.specs.Lists.{list_answer}
use Rattle.oct_map.specs.Map.{Map, ground_of, values_of}
use Rattle.oct_map.specs.declared.fault.MapFault.{MapFault}
use Rattle.oct_map.specs.declared.fault.MapFault.TheVariants as fault
use Rattle.oct_query.specs.Shown.{Shown}
use Rattle.oct_session.specs.Commands.{edit_reply}
use Rattle.oct_session.specs.MapMemory.{OrderTakesMemory, QuestionTakesMemory, BlockTakesMemory}
use Rattle.oct_session.specs.MapMemory.{HasBlocks, HasGroups}
use Rattle.oct_session.specs.ScanBlock.{is_zero}
use Rattle.oct_session.specs.ScanSoFar.{ScanSoFar, sighting_so_far}
use Rattle.oct_session.specs.declared.kinds.Order.{Order}
use Rattle.oct_session.specs.declared.kinds.Question.{Question}
use Rattle.oct_session.specs.declared.kinds.Question.TheVariants as question
use Rattle.oct_session.specs.declared.scan_block.ScanBlock.TheVariants.{Scanning}
use Rattle.oct_session.proofs.NonemptyReplies.{limit_some}

-- an order that was read as this one runs out of memory where the map did
pub order_runs_out : {A E : Type 0} (r : Result A E) (m : Map) (o read : Order)
    (did : Result ⊤ MapFault) → o ≡ read → OnErr r (did ≡ Err fault.Memory)
    → (did ≡ Err fault.Memory → OrderTakesMemory m read) → OnErr r (OrderTakesMemory m o)
order_runs_out r m o read did is short takes =
    on_err_weaker r (λ x. subst (OrderTakesMemory m) (sym is) (takes x)) short

-- a limit doesn't run out
pub limit_calm : (r : Result ⊤ MapFault) (g : Ground) (lo hi : Point) → r ≡ limit_answer g lo hi
    → r ≡ Err fault.Memory → ⊥
limit_calm r g lo hi answer memory =
    let some : IsSome (edit_reply (Err fault.Memory)) =
    subst (λ x. IsSome (edit_reply x)) (sym answer ∙ memory) (limit_some g lo hi) in cc

-- a question that was read as this one runs out of memory where that does
pub question_runs_out : {A E : Type 0} (r : Result A E) (m : Map) (q read : Question) → q ≡ read
    → OnErr r (QuestionTakesMemory m read) → OnErr r (QuestionTakesMemory m q)
question_runs_out r m q read is short =
    on_err_weaker r (subst (QuestionTakesMemory m) (sym is)) short

-- a list that is answered, and not as an empty one, has a block
has_blocks : (r : Result (List Shown) MapFault) → IsOk r → (r ≡ Ok [] → ⊥) → HasBlocks r
has_blocks (Ok []) ok some = absurd (some refl)
has_blocks (Ok (block ∷ blocks)) ok some = tt
has_blocks (Err f) ok some = cc

-- a list runs out where the map did
pub list_runs_out : {A E : Type 0} (r : Result A E) (m : Map) (lo hi : Point) (depth : ℕ)
    (listed : Result (List Shown) MapFault) → OnErr r (listed ≡ Err fault.Memory)
    → (listed ≡ Err fault.Memory
    → IsOk (list_answer (ground_of m) m.is_stale (values_of m) lo hi depth)
    × (list_answer (ground_of m) m.is_stale (values_of m) lo hi depth ≡ Ok [] → ⊥))
    → OnErr r (QuestionTakesMemory m (question.List lo hi depth))
list_runs_out r m lo hi depth listed short takes =
    on_err_weaker r (λ is. let took = takes is in has_blocks _ took.0 took.1) short

-- a scan runs out where the map did
pub scan_runs_out : {A E : Type 0} (r : Result A E) (m : Map) (scan : ScanSoFar) (s : Sighting)
    (f : MapFault) → is_zero scan.head ≡ false → s ≡ sighting_so_far scan
    → OnErr r (f ≡ fault.Memory)
    → (f ≡ fault.Memory → TakesMemory m.tree.res s m.max_cells)
    → OnErr r (BlockTakesMemory m (Scanning scan))
scan_runs_out r m scan s f turns saw short takes = on_err_weaker r (λ x. (
  turns,
  subst (λ y. TakesMemory m.tree.res y m.max_cells) saw (takes x),
)) short

-- a file was read of bytes of which some is kept
pub read_of_some : (file : FileRead) (bytes : List ℕ) →
    (◌≡◌ {A = Result FileRead BtFault} (Ok file) (reading bytes))
    ⊎ (◌≡◌ {A = Result FileRead BtFault} (Ok file) (Err bt_fault.Memory))
    → KeepsSome (file_progress []) bytes
read_of_some file bytes (inl is) = read_keeps bytes file is
read_of_some file bytes (inr memory) = absurd (differ memory)
  where
    differ : ◌≡◌ {A = Result FileRead BtFault} (Ok file) (Err bt_fault.Memory) → ⊥
    differ e = cc

-- a snapshot that is accepted, and not as one of no groups, has a group
pub has_groups : (r : Result ℕ MapFault) → IsOk r → (r ≡ Ok 0 → ⊥) → HasGroups r
has_groups (Ok zero) ok some = absurd (some refl)
has_groups (Ok (suc n)) ok some = omega arith
has_groups (Err f) ok some = cc
