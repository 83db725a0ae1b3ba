use Rattle.std.proofs.Common.{◌≡◌, ◌∷◌, [], ◌++◌, length, ◌∙◌, ap, subst, arith, rules}
use Rattle.oct_key.specs.Voxel.{IsInMap}
use Rattle.oct_change.specs.declared.changes.Note.{Note}
use Rattle.oct_change.proofs.Compacts.{put_step, in_map_more}
use Rattle.oct_change.proofs.changes.put_notes.Goals as goal

pub loop-key-preserved : goal.loop-key-preserved
loop-key-preserved c =
    let taken : c.loop-key.key-iterator ≡ (c.in-Some.key.now, c.in-Some.before.now)
    ∷ c.next.new.self =
    search rules in
    let inside : IsInMap c.in-Some.key.now =
    subst (λ (n : Note). IsInMap n.key) c.new.ensures.exact c.new.ensures.in_map in
    let added =
    c.push_reserved.ensures.items
    ∙ ap (λ n. c.loop-key.notes.items ++ n ∷ []) c.new.ensures.exact in
    let shorter = ap length taken in
    let room = c.loop-key.invariant.1 in
    let longer = c.push_reserved.ensures.len in
    let same = c.push_reserved.ensures.capacity in (
      put_step c.loop-key.notes.items c.push_reserved.new.self.items _
          (c.in-Some.key.now, c.in-Some.before.now) _ _ taken added c.loop-key.invariant.0,
      omega (arith, shorter, room, longer, same),
      same ∙ c.loop-key.invariant.2,
      λ all. in_map_more c.loop-key.notes.items c.push_reserved.new.self.items _ added inside
          (c.loop-key.invariant.3 all),
    )
