use Rattle.std.proofs.Common.{SFits, to_z, of_z, ◌≡◌, ◌++◌, ◌∷◌, [], ◌∙◌, ap, sym, Some, None}
use Rattle.std.proofs.Common.{rules, w32}
use Rattle.std.specs.Prelude.{ℤ}
use Rattle.std.proofs.lemmas.List.{append-nil}
use Rattle.oct_key.specs.CubeOf.{cube_of}
use Rattle.oct_key.specs.Block.{lowest_voxel}
use Rattle.oct_key.proofs.Blocks.{block_in_map}
use Rattle.oct_tree.specs.Tree.{reach, value_at}
use Rattle.oct_values.specs.Depths.{depth_value}
use Rattle.std.proofs.lemmas.Int.{to_z-of_z}
use Rattle.oct_num.proofs.Results.{on_any_err}
use Rattle.oct_query.proofs.RowSteps.{stored_answer, shown_known, shown_unknown, shown_with}
use Rattle.oct_query.proofs.RowSteps.{on_done, one_isnt_none}
use Rattle.oct_query.proofs.listing.list_block.Goals as goal

pub returns-in-Some : goal.returns-in-Some
returns-in-Some c =
    let node : c.go-node.result
    ≡ reach c.args.tree.now c.args.block.depth (lowest_voxel (cube_of c.args.block)) =
    c.go-node.ensures.node
    ∙ ap (reach c.args.tree.now c.args.block.depth) c.lowest_voxel.ensures.exact in
    let answer : depth_value (value_at c.args.tree.now) (cube_of c.args.block)
    ≡ Some c.in-Some.value =
    sym (stored_answer c.args.tree.now (cube_of c.args.block) c.go-node.result
    c.requires.path.linked (block_in_map c.args.block) c.requires.answers node)
    ∙ sym c.stored.ensures.exact ∙ c.in-Some.is in
    let fits : SFits w32 c.in-Some.value = search rules in
    let kept : to_z w32 (of_z w32 c.in-Some.value) ≡ c.in-Some.value =
    to_z-of_z w32 c.in-Some.value fits in
    let known = shown_known (value_at c.args.tree.now) (cube_of c.args.block) c.in-Some.value
    answer in
    record {
      listed = on_done c.push.result _ _ c.push.ensures.ok
          (λ e. (
            c.go-node.ensures.path,
            e ∙ ap (λ (v : ℤ). c.args.found.now ++ shown_with (cube_of c.args.block) v ∷ []) kept
                ∙ ap (λ l. c.args.found.now ++ l) (sym known),
          ));
      memory = on_any_err c.push.result _
          (λ none. one_isnt_none (shown_with (cube_of c.args.block) c.in-Some.value)
          (sym known ∙ none));
    }

pub returns-in-None : goal.returns-in-None
returns-in-None c =
    let node : c.go-node.result
    ≡ reach c.args.tree.now c.args.block.depth (lowest_voxel (cube_of c.args.block)) =
    c.go-node.ensures.node
    ∙ ap (reach c.args.tree.now c.args.block.depth) c.lowest_voxel.ensures.exact in
    let answer : depth_value (value_at c.args.tree.now) (cube_of c.args.block) ≡ None =
    sym (stored_answer c.args.tree.now (cube_of c.args.block) c.go-node.result
    c.requires.path.linked (block_in_map c.args.block) c.requires.answers node)
    ∙ sym c.stored.ensures.exact ∙ c.in-None.is in
    record {
      listed = (
        c.go-node.ensures.path,
        sym (append-nil c.args.found.now)
            ∙ ap (λ l. c.args.found.now ++ l)
            (sym (shown_unknown (value_at c.args.tree.now) (cube_of c.args.block) answer)),
      );
      memory = tt;
    }
