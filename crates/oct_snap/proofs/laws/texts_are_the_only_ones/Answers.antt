use Rattle.std.proofs.Common.{Ok, inl, inr}
use Rattle.oct_snap.proofs.Again.{read_as}
use Rattle.oct_snap.proofs.MapAnswers.{snapshot_answered}
use Rattle.oct_snap.proofs.Sound.{fields_sound, snapshot_sound}
use Rattle.oct_snap.proofs.TextsOnly.{new_text, old_is}
use Rattle.oct_snap.proofs.WholeFills.{whole_read}
use Rattle.oct_snap.proofs.laws.texts_are_the_only_ones.Goals as goal

pub returns-clause-texts : goal.returns-clause-texts
returns-clause-texts c = λ o bytes s values small is agree. elim (read_as o bytes s is) [
  | inl old ↦ inl (old.fields.version, old_is o bytes s values small is agree old)
  | inr new ↦ inr (new.fields.version, new_text o bytes s values small is agree new)
]

pub returns-clause-sound : goal.returns-clause-sound
returns-clause-sound c = λ o bytes s sound small is.
    (let read = (whole_read o bytes s is).fields in
    let answer = (snapshot_answered o bytes s.head (Ok s) sound small read).0 is in
    snapshot_sound s (fields_sound o bytes s.head sound small read) answer.1)
