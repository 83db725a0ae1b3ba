use Rattle.std.proofs.Common.{rules, ◌≡◌, ◌∙◌, sym, ap, subst, inl, inr, refl, arith, Some}
use Rattle.std.proofs.lemmas.Bool.{false≢true}
use Rattle.oct_key.specs.Voxel.{IsInMap}
use Rattle.oct_key.specs.Block.{block_of}
use Rattle.oct_values.specs.Events.{event_at}
use Rattle.oct_arena.specs.Entries.{spare}
use Rattle.oct_arena.specs.Nodes.{value_of}
use Rattle.oct_tree.specs.Tree.{value_at}
use Rattle.oct_edit.specs.Saturated.{IsSaturated}
use Rattle.oct_edit.specs.Steps.{IsTouched}
use Rattle.oct_edit.proofs.OneVoxel.{at_root, takes_here}
use Rattle.oct_edit.proofs.Wholes.{whole_known}
use Rattle.oct_key.proofs.Blocks.{block_of_root}
use Rattle.oct_edit.proofs.Ways.{root_value}
use Rattle.oct_edit.proofs.voxel.touch_root.Goals as goal

pub touch_under-requires-clause-end : goal.touch_under-requires-clause-end
touch_under-requires-clause-end c =
    let v : IsInMap c.args.edit.k = search rules in
    record {
      place = tt;
      block = ap Some (sym (block_of_root c.args.edit.k v));
      node = c.root-node.ensures.exact;
      plain = c.requires.root;
      depth = omega arith;
    }

pub touch_under-requires-clause-taken : goal.touch_under-requires-clause-taken
touch_under-requires-clause-taken c =
    let v : IsInMap c.args.edit.k = search rules in
    let same : c.value.result ≡ value_at c.args.tree.now c.args.edit.k =
    c.value.ensures.exact ∙ ap value_of c.root-node.ensures.exact
    ∙ root_value c.args.tree.now c.args.edit.k c.requires.formed.linked v c.requires.root in
    record {
      voxel = v;
      small = c.requires.small;
      takes = takes_here c.args.tree.now c.args.edit.k c.args.edit.event
          (λ full. false≢true (c.if-is_saturated.ensures.saturated.1
          (subst (IsSaturated c.args.tree.now.odds c.args.edit.event) (sym same) full)));
    }

pub note_eager-requires : goal.note_eager-requires
note_eager-requires c eager =
    let v : IsInMap c.args.edit.k = search rules in
    let whole =
    at_root c.args.tree.now c.touch_under.new.tree c.args.edit.k c.args.edit.event c.args.edit.lazy
    v
    c.touch_under.ensures.touched in
    whole_known c.args.tree.now c.touch_under.new.tree (event_at (Some c.args.edit.k)
    c.args.edit.event)
    c.args.edit.lazy c.tidiness-known.result whole eager c.tidiness-known.ensures.so

pub returns-then-is_saturated : goal.returns-then-is_saturated
returns-then-is_saturated c =
    let v : IsInMap c.args.edit.k = search rules in
    let same : c.value.result ≡ value_at c.args.tree.now c.args.edit.k =
    c.value.ensures.exact ∙ ap value_of c.root-node.ensures.exact
    ∙ root_value c.args.tree.now c.args.edit.k c.requires.formed.linked v c.requires.root in
    record {
      done = inl (record {
        bounds = c.if-is_saturated.ensures.bounds;
        full = subst (IsSaturated c.args.tree.now.odds c.args.edit.event) same
            (c.if-is_saturated.ensures.saturated.0 refl);
        same = refl;
      });
    }

pub returns : goal.returns
returns c =
    let v : IsInMap c.args.edit.k = search rules in
    let same : c.value.result ≡ value_at c.args.tree.now c.args.edit.k =
    c.value.ensures.exact ∙ ap value_of c.root-node.ensures.exact
    ∙ root_value c.args.tree.now c.args.edit.k c.requires.formed.linked v c.requires.root in
    record {
      done = inr (record {
        takes = λ full. false≢true (c.if-is_saturated.ensures.saturated.1
            (subst (IsSaturated c.args.tree.now.odds c.args.edit.event) (sym same) full));
        touched = subst (λ u. IsTouched c.args.tree.now u (block_of 0 c.args.edit.k)
            (event_at (Some c.args.edit.k) c.args.edit.event) c.args.edit.lazy) (sym
            c.note_eager.ensures)
            c.touch_under.ensures.touched;
        spare = (let before = c.touch_under.ensures.spare in
            let kept = ap (λ u. spare u.groups) c.note_eager.ensures in
            omega (arith, before, kept));
      });
    }
