use Rattle.std.proofs.Common.{length}
use Rattle.std.specs.Prelude.{Ok}
use Rattle.octofix.proofs.Tellings.{closed_told}
use Rattle.octofix.specs.Asked.{asked}
use Rattle.octofix.specs.Buffers.{HasFit}
use Rattle.oct_map.specs.Files.{snapshot_of}
use Rattle.octofix.proofs.files.octofix_snapshot.Goals as goal

pub returns-in-Err-clause-told : goal.returns-in-Err-clause-told
returns-in-Err-clause-told c =
    let handle = c.args.handle.now.slot.map in
    closed_told handle (λ m. Ok (snapshot_of m))
    (HasFit (length c.args.bytes.now) (asked handle (λ m. Ok (snapshot_of m)))) c.in-Err.refusal
    c.code.result c.args.bytes.now c.args.len.now c.in-Err.ensures.closed.1
    c.in-Err.ensures.closed.0 c.code.ensures.code
