use Rattle.std.proofs.Common.{◌≡◌, refl, sym, subst, ◌∙◌, ap, arith, rules, Some}
use Rattle.std.proofs.Common.{SFits, w32, to_z, of_z, to_z-of_z}
use Rattle.oct_odds.specs.Update.{IsWithin, applied}
use Rattle.oct_arena.specs.declared.node.Node.TheVariants.{Leaf}
use Rattle.oct_arena.specs.Nodes.{link_of, value_of}
use Rattle.oct_tree.specs.Tree.{value_at}
use Rattle.oct_tree.specs.Changes.{IsWritten, SetsBlock}
use Rattle.oct_edit.specs.Bricks.{listed_one}
use Rattle.oct_edit.specs.Scan.{events_of}
use Rattle.oct_edit.proofs.Leaves.{leaf_touched}
use Rattle.oct_edit.proofs.Needs.{place_in_map}
use Rattle.oct_edit.proofs.PlantedVoxels.{all_missed}
use Rattle.oct_edit.proofs.scan.plant_octet.Goals as goal

pub set_place-requires-clause-before : goal.set_place-requires-clause-before
set_place-requires-clause-before c = ap link_of c.requires.plain.absent

pub set_place-requires-clause-within : goal.set_place-requires-clause-within
set_place-requires-clause-within c =
    let fits : SFits w32 c.args.value = search rules in
    let same : to_z w32 (of_z w32 c.args.value) ≡ c.args.value = to_z-of_z fits in
    subst (λ v. IsWithin c.args.tree.now.odds (Some v)) (sym same) c.requires.plain.within

pub returns-else-has_gap : goal.returns-else-has_gap
returns-else-has_gap c = record {
  touched = λ b e.
      let deep = c.requires.can.depth b e in
      let fits : SFits w32 c.args.value = search rules in
      let same : to_z w32 (of_z w32 c.args.value) ≡ c.args.value = to_z-of_z fits in
      let t = c.args.tree.now in
      let u = c.set_place.new.self in
      leaf_touched t u c.args.p b (Leaf c.args.value) (events_of (listed_one c.args.update))
      c.args.update.miss c.requires.can.linked c.requires.can.place e
      (place_in_map t c.args.p b c.requires.can.linked e) (ap link_of c.requires.plain.absent)
      c.set_place.ensures.linked refl
      (subst (λ v. IsWritten t u c.args.p (Leaf v)) same c.set_place.ensures.written)
      (subst (λ v. SetsBlock (value_at t) (value_at u) b (Some v)) same
      (c.set_place.ensures.values b e))
      (c.set_place.ensures.outside b e)
      (c.requires.plain.value
      ∙ ap (λ n. applied t.odds c.args.update.miss (value_of n)) (sym c.requires.plain.absent))
      (all_missed b c.args.update.brick c.args.update.hit c.args.update.miss
      c.requires.plain.freed
      (c.if-has_gap.ensures.none b deep (c.requires.can.inside b e)));
  room = λ b e. omega (arith, c.set_place.ensures.written.spare);
}
