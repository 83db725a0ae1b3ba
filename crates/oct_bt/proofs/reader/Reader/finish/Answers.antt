use Rattle.std.proofs.Common.{◌≡◌, ◌≤◌, length, Result, Ok, Err, IfOk, ap, ◌∙◌, sym}
use Rattle.oct_values.specs.Classes.{Classes}
use Rattle.oct_bt.specs.Canonical.{canonical_data}
use Rattle.oct_bt.specs.File.{FileRead}
use Rattle.oct_bt.specs.NodeData.{IsDataOf}
use Rattle.oct_bt.specs.declared.fault.BtFault.{BtFault}
use Rattle.oct_bt.specs.Reading.{head_fault}
use Rattle.oct_bt.specs.Holding.{progress_of}
use Rattle.oct_bt.proofs.HeadEnds.{ends_in_head, ends_at_fault, ends_in_body, never_spent}
use Rattle.oct_bt.proofs.Standing.{least_of_all}
use Rattle.oct_bt.proofs.reader.Reader.finish.Goals as goal

least_read : (read : Result FileRead BtFault)
    → IfOk read (λ file. (classes : Classes) → IsDataOf classes file.codes
    → (length (canonical_data classes) ≤ length file.codes)
    × (length file.codes ≡ length (canonical_data classes)
    → file.codes ≡ canonical_data classes))
least_read (Ok file) = λ classes is. least_of_all classes file.codes is
least_read (Err fault) = tt

pub returns-in-InHead-clause-answer : goal.returns-in-InHead-clause-answer
returns-in-InHead-clause-answer c = λ text stands.
    ap Err (c.fault.ensures ∙ ap head_fault c.in-InHead.head-is)
    ∙ ends_in_head text c.in-InHead.head (sym (ap progress_of c.in-InHead.is) ∙ c.self.view_is
    ∙ stands)

pub returns-in-AtFault-clause-answer : goal.returns-in-AtFault-clause-answer
returns-in-AtFault-clause-answer c = λ text stands.
    ends_at_fault text c.in-AtFault.fault (sym (ap progress_of c.in-AtFault.is) ∙ c.self.view_is
    ∙ stands)

pub returns-in-OutOfMemory-clause-answer : goal.returns-in-OutOfMemory-clause-answer
returns-in-OutOfMemory-clause-answer c = λ text stands.
    absurd (never_spent text (sym (ap progress_of c.in-OutOfMemory.is) ∙ c.self.view_is ∙ stands))

pub returns-in-InBody-clause-answer : goal.returns-in-InBody-clause-answer
returns-in-InBody-clause-answer c = λ text stands.
    ends_in_body _ c.in-InBody.header _ c.in-InBody.nodes c.end_body.result c.in-InBody.header-is
    c.in-InBody.nodes-is c.end_body.ensures text
    (sym (ap progress_of c.in-InBody.is) ∙ c.self.view_is ∙ stands)

pub returns-in-InBody-clause-least : goal.returns-in-InBody-clause-least
returns-in-InBody-clause-least c = least_read c.end_body.result
