use Rattle.std.proofs.Common.{◌≤◌, ap, ◌∙◌, arith, length}
use Rattle.std.specs.Prelude.{Ok}
use Rattle.octofix.proofs.Tellings.{memory_told, text_told, text_unfit}
use Rattle.octofix.specs.Buffers.{filled, room_code}
use Rattle.oct_map.specs.Files.{snapshot_of}
use Rattle.octofix.proofs.files.snapshot.Goals as goal

pub returns-then-bytes-total : goal.returns-then-bytes-total
returns-then-bytes-total c =
    let text = snapshot_of c.args.map.now in
    text_unfit text c.args.bytes.now (length text ≤ length c.args.bytes.now) c.args.len.now
    c.snapshot_len-total.result (omega arith) c.snapshot_len-total.ensures.exact

pub returns-in-Ok : goal.returns-in-Ok
returns-in-Ok c =
    let p = c.put_bytes.ensures in
    let text = snapshot_of c.args.map.now in
    let old = c.args.bytes.now in
    let is = c.as_slice.ensures.value ∙ c.in-Ok.ensures.snapshot in
    text_told text old c.put_bytes.new.bytes (length text ≤ length old) c.put_bytes.result
    c.args.len.now c.put_bytes.new.len
    (p.code ∙ ap (λ bytes. room_code (length old) (length bytes)) is)
    (p.bytes ∙ ap (filled old) is)
    (p.len ∙ ap length is)

pub returns-in-Err : goal.returns-in-Err
returns-in-Err c =
    let text = snapshot_of c.args.map.now in
    memory_told (Ok text) (length text ≤ length c.args.bytes.now) c.args.bytes.now
    c.args.len.now (omega arith)
