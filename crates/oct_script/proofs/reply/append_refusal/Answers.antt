use Rattle.std.proofs.Common.{rules, sym, SFits, w64}
use Rattle.std.proofs.lemmas.Int.{to_z-of_z}
use Rattle.oct_script.proofs.reply.append_refusal.Goals as goal

pub returns-in-OtherResolution-clause-ok : goal.returns-in-OtherResolution-clause-ok
returns-in-OtherResolution-clause-ok c =
    let file : SFits w64 c.in-OtherResolution.file = search rules in
    let session : SFits w64 c.in-OtherResolution.session = search rules in
    rw c.in-OtherResolution.is
    (rw (sym (to_z-of_z w64 _ file)) (rw (sym (to_z-of_z w64 _ session))
    c.append_fields-in-OtherResolution.ensures.ok))
