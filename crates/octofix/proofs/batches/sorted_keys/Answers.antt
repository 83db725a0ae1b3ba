use Rattle.std.proofs.Common.{◌∙◌, All, ap, arith, length, refl, subst, sym}
use Rattle.std.proofs.lemmas.List.{length-set}
use Rattle.std.proofs.lemmas.List.Sorted.{All-permutation}
use Rattle.oct_tree.specs.Tree.{Tree}
use Rattle.octofix.proofs.Keyed.{keyed_moved, next_keyed, next_told, told_right}
use Rattle.octofix.specs.Batches.{IsKeyOf}
use Rattle.octofix.specs.Queries.{told_at}
use Rattle.octofix.proofs.batches.sorted_keys.Goals.{in-Some+in_ok-push-in-Some, in-None}
use Rattle.octofix.proofs.batches.sorted_keys.Goals as goal

pub loop-i-init : goal.loop-i-init
loop-i-init c = record {
  keyed = record {
    own = subst (All (IsKeyOf c.args.map.now.tree.res c.args.points.now))
        (sym c.in_ok-keys.ensures.items) (λ k d l. absurd (omega (arith, l)));
    told = λ j d p l. absurd (omega (arith, l));
  };
  room = c.requires.room;
}

pub loop-i-preserved : goal.loop-i-preserved
loop-i-preserved c =
    let m = c.args.map.now in
    let points = c.args.points.now in
    let f = told_at c.args.depth m in
    record {
      keyed = elim c.match-key_of.branch [
        | in-Some+in_ok-push-in-Some w ↦ next_keyed m.tree.res points f c.loop-i.keys.items _
            c.loop-i.answers _ c.loop-i.i w.morton.result _ c.res.result _ c.point-p.result
            w.in-Some.k c.key_of.result c.requires.few c.loop-i-test.true
            (c.res.ensures ∙ ap (λ (t : Tree). t.res) c.tree.ensures.exact) c.point-p.ensures
            c.key_of.ensures.exact w.in-Some.is w.morton.ensures.exact w.morton.ensures.below refl
            (ap (λ v. v.items) w.keys-is ∙ w.in_ok-push-in-Some.ensures.items) w.answers-is
            c.loop-i.invariant.keyed
        | in-None w ↦ next_told m.tree.res points f c.loop-i.keys.items _ c.loop-i.answers _
            c.loop-i.i _ w.told.result c.loop-i-test.true c.loop-i.invariant.room
            (told_right m c.args.depth _ _ _ _ w.told.ensures w.get.ensures.answer
            c.point-p.ensures)
            (ap (λ v. v.items) w.keys-is) w.answers-is
            c.loop-i.invariant.keyed
      ];
      room = elim c.match-key_of.branch [
        | in-Some+in_ok-push-in-Some w ↦ ap length w.answers-is ∙ c.loop-i.invariant.room
        | in-None w ↦ ap length w.answers-is
            ∙ length-set c.loop-i.answers c.loop-i.i w.told.result
            ∙ c.loop-i.invariant.room
      ];
    }

pub returns-clause-keys : goal.returns-clause-keys
returns-clause-keys c =
    All-permutation (IsKeyOf c.args.map.now.tree.res c.args.points.now) c.loop-i.keys.items
    c.sort_unstable.new.self.items c.sort_unstable.ensures.permutation
    c.loop-i.invariant.keyed.own

pub returns-clause-told : goal.returns-clause-told
returns-clause-told c =
    keyed_moved (told_at c.args.depth c.args.map.now) c.args.points.now c.loop-i.keys.items
    c.sort_unstable.new.self.items c.loop-i.i (length c.args.points.now) c.loop-i.answers
    c.sort_unstable.ensures.permutation (omega (arith, c.loop-i-test.false))
    c.loop-i.invariant.keyed.told
