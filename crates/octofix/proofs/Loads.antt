-- What a file is answered that was read, and that the map refuses.
use Rattle.std.proofs.Common.{◌≡◌, ℕ, List, [], ap, ◌∙◌, inl, inr}
use Rattle.std.specs.Prelude.{◌⊎◌, ⊤, Result, Ok, Err}
use Rattle.oct_bt.proofs.Keeping.{read_keeps}
use Rattle.oct_bt.specs.File.{FileRead, reading}
use Rattle.oct_bt.specs.Reading.{KeepsSome, file_progress}
use Rattle.oct_bt.specs.Records.{record_total}
use Rattle.oct_bt.specs.declared.fault.BtFault.{BtFault}
use Rattle.oct_bt.specs.declared.fault.BtFault.TheVariants as bt
use Rattle.oct_map.specs.Answers.{IsAnswerOrMemory}
use Rattle.oct_map.specs.Loads.{load_answer}
use Rattle.oct_map.specs.Map.{Map, ground_of}
use Rattle.oct_map.specs.declared.fault.MapFault.{MapFault}
use Rattle.octofix.specs.Asked.{IsReached}
use Rattle.octofix.specs.Codes.{of_map}
use Rattle.octofix.specs.Files.{load_by, loading}
use Rattle.octofix.specs.declared.refusal.Refusal.{Refusal}
use Rattle.octofix.specs.declared.refusal.Refusal.TheVariants as refusal

-- what the map refuses of a file that was read is the answer to its bytes, or memory ran out
pub refused_file : (bytes : List ℕ) (m : Map) (file : FileRead) (fault : MapFault)
    (result : Result ⊤ Refusal)
    → (◌≡◌ {A = Result FileRead BtFault} (Ok file) (reading bytes))
    ⊎ (◌≡◌ {A = Result FileRead BtFault} (Ok file) (Err bt.Memory))
    → IsAnswerOrMemory (load_answer (ground_of m) file.res (record_total file.codes)) (Err fault)
    → result ≡ Err (refusal.Map fault)
    → IsReached (loading bytes m) (KeepsSome (file_progress []) bytes) result
refused_file bytes m file fault result (inl read) (inl at) is =
    inl (is ∙ ap of_map at ∙ ap (load_by m) read)
refused_file bytes m file fault result (inl read) (inr out) is =
    inr (is ∙ ap of_map out, read_keeps bytes file read)
refused_file bytes m file fault result (inr other) answer is = absurd (differ other)
  where
    differ : ◌≡◌ {A = Result FileRead BtFault} (Ok file) (Err bt.Memory) → ⊥
    differ e = cc
