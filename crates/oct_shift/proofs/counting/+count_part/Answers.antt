use Rattle.std.proofs.Common.{◌≡◌, ℕ, ◌+◌, ◌-◌, ◌*◌, ◌^◌, ◌<◌, ◌≤◌, ◌↔◌, ◌∙◌, ap, sym, subst, arith}
use Rattle.std.proofs.Common.{rules}
use Rattle.std.specs.Prelude.{IsTrue, not, nat_lt, ◌||◌}
use Rattle.oct_key.specs.Block.{Cube, child_of, lowest_voxel}
use Rattle.oct_key.specs.CubeOf.{cube_of}
use Rattle.oct_key.proofs.Blocks.{block_in_map, depth_child_of, lowest_held, lowest_in_map}
use Rattle.oct_values.proofs.Axes.{sum_below}
use Rattle.oct_values.proofs.Uniform.{uniform_of}
use Rattle.oct_key.proofs.Held.{held_in_map}
use Rattle.oct_arena.specs.Nodes.{value_of}
use Rattle.oct_shift.specs.Moving.{groups_in, moved_values}
use Rattle.oct_shift.proofs.Counts.{groups_uniform, own_group, few_own, few_down, few_next}
use Rattle.oct_shift.proofs.Counts.{few_fits}
use Rattle.oct_shift.proofs.Counts.{sum_start, sum_more, even_more, first_even, lowest_first}
use Rattle.oct_shift.proofs.Rows.{child_row, row_value, row_low}
use Rattle.oct_shift.proofs.counting.+count_part.Goals as goal

pub returns-in-Some-clause-groups : goal.returns-in-Some-clause-groups
returns-in-Some-clause-groups t c =
    let b = cube_of c.args.block in
    let ok = block_in_map c.args.block in
    let (plain, all) = c.in-Some.ensures.some in
    sym (groups_uniform (moved_values c.args.tree.now c.args.offset) b ok
    (uniform_of (moved_values c.args.tree.now c.args.offset) b (value_of c.in-Some.node) ok
    (λ k held. row_value c.args.tree.now c.args.offset b c.args.row.now c.in-Some.node ok.depth
    c.requires.row plain all k (held_in_map b k ok held) held)))

pub returns-in-Some-clause-value : goal.returns-in-Some-clause-value
returns-in-Some-clause-value t c =
    let b = cube_of c.args.block in
    let ok = block_in_map c.args.block in
    let (plain, all) = c.in-Some.ensures.some in
    c.value.ensures.exact
    ∙ sym (row_value c.args.tree.now c.args.offset b c.args.row.now c.in-Some.node ok.depth
    c.requires.row plain all (lowest_voxel b) (lowest_in_map b ok) (lowest_held b))

pub new-way-requires : goal.new-way-requires
new-way-requires t c =
    let low = row_low c.args.tree.now c.args.offset (cube_of c.args.block) c.args.row.now
    c.requires.linked (block_in_map c.args.block) c.requires.row c.in_default.ensures.none in
    omega (arith, low)

pub child-requires-2-clause-depth : goal.child-requires-2-clause-depth
child-requires-2-clause-depth t c =
    let low = row_low c.args.tree.now c.args.offset (cube_of c.args.block) c.args.row.now
    c.requires.linked (block_in_map c.args.block) c.requires.row c.in_default.ensures.none in
    low

pub count_part-first-requires : goal.count_part-first-requires
count_part-first-requires t c =
    let low = row_low c.args.tree.now c.args.offset (cube_of c.args.block) c.args.row.now
    c.requires.linked (block_in_map c.args.block) c.requires.row c.in_default.ensures.none in
    let child = c.child-2.ensures.exact in
    let level : c.child-2.result.depth ≡ c.args.block.depth + 1 =
    ap (λ (a : Cube). a.depth) child ∙ depth_child_of (cube_of c.args.block) 0 in
    let row = child_row c.args.tree.now c.args.offset (cube_of c.args.block)
    (cube_of c.child-2.result) 0 c.new-way.result c.args.row.now c.child.result
    c.requires.linked low (omega arith) child c.new-way.ensures c.requires.row c.child.ensures in
    let d = c.decreases in
    (search rules, (c.requires.linked, row))

pub loop-i-init : goal.loop-i-init
loop-i-init t c =
    let v = moved_values c.args.tree.now c.args.offset in
    let b = cube_of c.args.block in
    let low = row_low c.args.tree.now c.args.offset (cube_of c.args.block) c.args.row.now
    c.requires.linked (block_in_map c.args.block) c.requires.row c.in_default.ensures.none in
    let child = c.child-2.ensures.exact in
    let level : c.child-2.result.depth ≡ c.args.block.depth + 1 =
    ap (λ (a : Cube). a.depth) child ∙ depth_child_of (cube_of c.args.block) 0 in
    let power = few_down c.args.block.depth c.child-2.result.depth c.count_part-first.result.groups
    level c.count_part-first.ensures.few in
    record {
      counted = sum_start (λ j. groups_in v (child_of b j)) c.count_part-first.result.groups
          (c.count_part-first.ensures.groups ∙ ap (groups_in v) child);
      few = omega (arith, power);
      even = first_even (λ j. v (lowest_voxel (child_of b j))) c.count_part-first.result.value
          (c.count_part-first.ensures.value ∙ ap (λ a. v (lowest_voxel a)) child);
      start = omega arith;
    }

pub child-requires-in-loop-i-2-clause-depth : goal.child-requires-in-loop-i-2-clause-depth
child-requires-in-loop-i-2-clause-depth t c =
    let low = row_low c.args.tree.now c.args.offset (cube_of c.args.block) c.args.row.now
    c.requires.linked (block_in_map c.args.block) c.requires.row c.in_default.ensures.none in
    low

pub count_part-part-requires : goal.count_part-part-requires
count_part-part-requires t c =
    let low = row_low c.args.tree.now c.args.offset (cube_of c.args.block) c.args.row.now
    c.requires.linked (block_in_map c.args.block) c.requires.row c.in_default.ensures.none in
    let less : c.loop-i.i < 8 = omega arith in
    let child = c.child-in-loop-i-2.ensures.exact in
    let level : c.child-in-loop-i-2.result.depth ≡ c.args.block.depth + 1 =
    ap (λ (a : Cube). a.depth) child ∙ depth_child_of (cube_of c.args.block) c.loop-i.i in
    let row = child_row c.args.tree.now c.args.offset (cube_of c.args.block)
    (cube_of c.child-in-loop-i-2.result) c.loop-i.i c.new-way.result c.args.row.now
    c.child-in-loop-i.result c.requires.linked low less child c.new-way.ensures c.requires.row
    c.child-in-loop-i.ensures in
    let d = c.decreases in
    (search rules, (c.requires.linked, row))

pub overflow_add-groups : goal.overflow_add-groups
overflow_add-groups t c =
    let low = row_low c.args.tree.now c.args.offset (cube_of c.args.block) c.args.row.now
    c.requires.linked (block_in_map c.args.block) c.requires.row c.in_default.ensures.none in
    let less : c.loop-i.i < 8 = omega arith in
    let child = c.child-in-loop-i-2.ensures.exact in
    let level : c.child-in-loop-i-2.result.depth ≡ c.args.block.depth + 1 =
    ap (λ (a : Cube). a.depth) child ∙ depth_child_of (cube_of c.args.block) c.loop-i.i in
    let power = few_down c.args.block.depth c.child-in-loop-i-2.result.depth
    c.count_part-part.result.groups level c.count_part-part.ensures.few in
    let sum = few_next c.loop-i.groups c.count_part-part.result.groups c.loop-i.i
    (9 ^ (15 - c.args.block.depth)) c.loop-i.invariant.few power in
    let fits = few_fits c.args.block.depth (c.loop-i.groups + c.count_part-part.result.groups)
    (c.loop-i.i + 1) low (omega (arith, less)) sum in
    let most : c.loop-i.groups + c.count_part-part.result.groups < 18446744073709551616 =
    omega (arith, fits) in
    search rules

pub loop-i-preserved : goal.loop-i-preserved
loop-i-preserved t c =
    let v = moved_values c.args.tree.now c.args.offset in
    let b = cube_of c.args.block in
    let low = row_low c.args.tree.now c.args.offset (cube_of c.args.block) c.args.row.now
    c.requires.linked (block_in_map c.args.block) c.requires.row c.in_default.ensures.none in
    let less : c.loop-i.i < 8 = omega arith in
    let child = c.child-in-loop-i-2.ensures.exact in
    let level : c.child-in-loop-i-2.result.depth ≡ c.args.block.depth + 1 =
    ap (λ (a : Cube). a.depth) child ∙ depth_child_of (cube_of c.args.block) c.loop-i.i in
    let power = few_down c.args.block.depth c.child-in-loop-i-2.result.depth
    c.count_part-part.result.groups level c.count_part-part.ensures.few in
    record {
      counted = sum_more (λ j. groups_in v (child_of b j)) c.loop-i.groups
          c.count_part-part.result.groups c.loop-i.i c.loop-i.invariant.counted
          (c.count_part-part.ensures.groups ∙ ap (groups_in v) child);
      few = few_next c.loop-i.groups c.count_part-part.result.groups c.loop-i.i
          (9 ^ (15 - c.args.block.depth)) c.loop-i.invariant.few power;
      even = even_more (λ j. v (lowest_voxel (child_of b j))) c.count_part-first.result.value
          c.count_part-part.result.value c.loop-i.i c.loop-i.is_even c.is_same_value-is_even.result
          c.loop-i.invariant.even
          (c.count_part-part.ensures.value ∙ ap (λ a. v (lowest_voxel a)) child)
          c.is_same_value-is_even.ensures;
      start = omega arith;
    }

pub with_own-requires : goal.with_own-requires
with_own-requires t c =
    let low = row_low c.args.tree.now c.args.offset (cube_of c.args.block) c.args.row.now
    c.requires.linked (block_in_map c.args.block) c.requires.row c.in_default.ensures.none in
    let less : c.loop-i.i ≤ 8 = omega arith in
    few_fits c.args.block.depth c.loop-i.groups c.loop-i.i low less c.loop-i.invariant.few

pub returns-clause-groups : goal.returns-clause-groups
returns-clause-groups t c =
    let v = moved_values c.args.tree.now c.args.offset in
    let b = cube_of c.args.block in
    let low = row_low c.args.tree.now c.args.offset (cube_of c.args.block) c.args.row.now
    c.requires.linked (block_in_map c.args.block) c.requires.row c.in_default.ensures.none in
    let end : c.loop-i.i ≡ 8 = omega arith in
    own_group v b c.loop-i.groups c.with_own.result c.loop-i.is_even c.count_part-first.result.value
    (block_in_map c.args.block) low
    (c.count_part-first.ensures.value ∙ ap (λ a. v (lowest_voxel a)) c.child-2.ensures.exact)
    (c.loop-i.invariant.counted ∙ ap (sum_below (λ j. groups_in v (child_of b j))) end)
    (subst (λ (n : ℕ). IsTrue c.loop-i.is_even ↔ ((j : ℕ) → j < n
    → v (lowest_voxel (child_of b j)) ≡ c.count_part-first.result.value)) end
    c.loop-i.invariant.even)
    c.with_own.ensures

pub returns-clause-value : goal.returns-clause-value
returns-clause-value t c =
    let v = moved_values c.args.tree.now c.args.offset in
    let low = row_low c.args.tree.now c.args.offset (cube_of c.args.block) c.args.row.now
    c.requires.linked (block_in_map c.args.block) c.requires.row c.in_default.ensures.none in
    c.count_part-first.ensures.value ∙ ap (λ a. v (lowest_voxel a)) c.child-2.ensures.exact
    ∙ ap v (lowest_first (cube_of c.args.block) low)

pub returns-clause-few : goal.returns-clause-few
returns-clause-few t c =
    let low = row_low c.args.tree.now c.args.offset (cube_of c.args.block) c.args.row.now
    c.requires.linked (block_in_map c.args.block) c.requires.row c.in_default.ensures.none in
    let end : c.loop-i.i ≡ 8 = omega arith in
    few_own c.args.block.depth c.loop-i.groups c.with_own.result
    (nat_lt 0 c.loop-i.groups || not c.loop-i.is_even) low
    (subst (λ (n : ℕ). c.loop-i.groups ≤ n * 9 ^ (15 - c.args.block.depth)) end
    c.loop-i.invariant.few) c.with_own.ensures
