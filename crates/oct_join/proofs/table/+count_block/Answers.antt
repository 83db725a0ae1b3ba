use Rattle.std.proofs.Common.{rules, ◌≡◌, ◌+◌, ◌%◌, ◌<◌, length, refl, ◌∙◌, ap}
use Rattle.std.proofs.Common.{arith}
use Rattle.oct_key.specs.CubeOf.{cube_of}
use Rattle.oct_key.proofs.Blocks.{block_in_map, depth_child_of}
use Rattle.oct_key.specs.Block.{Cube}
use Rattle.oct_join.proofs.Walks.{ahead_first, fits_text, parted_low, not_parted}
use Rattle.oct_join.proofs.Counting.{counting_first, counting_next, counting_all, same_counting}
use Rattle.oct_join.proofs.Counting.{leaf_counts, leaf_room, passed_counts, child_hand}
use Rattle.oct_join.proofs.Counting.{child_tabled, code_few, share_is}
use Rattle.oct_join.specs.Sides.{side_text}
use Rattle.oct_join.specs.declared.table.Read.{Read}
use Rattle.oct_join.proofs.table.+count_block.Goals as goal
use Rattle.oct_join.proofs.table.+count_block.Goals.{then-is_parted, then-voxels-eq0}
use Rattle.oct_join.proofs.table.+count_block.Goals.{else-voxels-eq0, else-is_parted}

pub loop-i-init : goal.loop-i-init
loop-i-init t c = record {
  counted = λ r s p q side_a is_a side_b is_b. counting_first c.args.window.lo
      c.args.window.hi
      (cube_of c.args.block) c.args.a c.args.b c.args.first.now c.args.second.now r s p q
      c.args.table.now.counts _ _ _ _
      (ahead_first c.args.block.depth c.args.a c.args.first.now _ _ r p side_a is_a
      c.record_bytes-at.ensures (c.side_codes-left.ensures c.args.block.depth r p side_a is_a))
      (ahead_first c.args.block.depth c.args.b c.args.second.now _ _ s q side_b is_b
      c.record_bytes-to.ensures (c.side_codes-other.ensures c.args.block.depth s q side_b is_b));
  long = refl;
}

pub split_at-requires : goal.split_at-requires
split_at-requires t c =
    let h = c.requires.sides in
    let low = c.requires.levels in
    let x = counting_next _ _ _ _ _ _ _ _ _ _ _ _ _ _ _ _ _ _ (block_in_map c.args.block) low
    c.loop-i-test.true
    (c.loop-i.invariant.counted h.r h.s h.p h.q h.side h.text h.other_side h.other_text) in
    let fits = fits_text _ _ c.args.first.now h.p x.within h.text in
    omega (arith, fits)

pub split_at-requires-then-is_parted : goal.split_at-requires-then-is_parted
split_at-requires-then-is_parted t c =
    let h = c.requires.sides in
    let low = c.requires.levels in
    let x = counting_next _ _ _ _ _ _ _ _ _ _ _ _ _ _ _ _ _ _ (block_in_map c.args.block) low
    c.loop-i-test.true
    (c.loop-i.invariant.counted h.r h.s h.p h.q h.side h.text h.other_side h.other_text) in
    let fits = fits_text _ _ c.args.second.now h.q x.other_within h.other_text in
    omega (arith, fits)

pub pass_over-read-requires-clause-levels : goal.pass_over-read-requires-clause-levels
pass_over-read-requires-clause-levels t c =
    let h = c.requires.sides in
    let low = c.requires.levels in
    let x = counting_next _ _ _ _ _ _ _ _ _ _ _ _ _ _ _ _ _ _ (block_in_map c.args.block) low
    c.loop-i-test.true
    (c.loop-i.invariant.counted h.r h.s h.p h.q h.side h.text h.other_side h.other_text) in
    let deep = parted_low _ _ _ c.args.block.depth c.is_parted.ensures c.if-is_parted.true x.low
    x.other_low in
    omega (arith, deep)

pub pass_over-read-requires-clause-first : goal.pass_over-read-requires-clause-first
pass_over-read-requires-clause-first t c =
    let h = c.requires.sides in
    let low = c.requires.levels in
    let x = counting_next _ _ _ _ _ _ _ _ _ _ _ _ _ _ _ _ _ _ (block_in_map c.args.block) low
    c.loop-i-test.true
    (c.loop-i.invariant.counted h.r h.s h.p h.q h.side h.text h.other_side h.other_text) in
    (x.r', x.p', x.side, c.split_at.ensures.back ∙ x.front)

pub pass_over-read-requires-clause-second : goal.pass_over-read-requires-clause-second
pass_over-read-requires-clause-second t c =
    let h = c.requires.sides in
    let low = c.requires.levels in
    let x = counting_next _ _ _ _ _ _ _ _ _ _ _ _ _ _ _ _ _ _ (block_in_map c.args.block) low
    c.loop-i-test.true
    (c.loop-i.invariant.counted h.r h.s h.p h.q h.side h.text h.other_side h.other_text) in
    (x.s', x.q', x.other_side, c.split_at-then-is_parted.ensures.back ∙ x.other_front)

pub count_block-read-requires : goal.count_block-read-requires
count_block-read-requires t c =
    let h = c.requires.sides in
    let low = c.requires.levels in
    let x = counting_next _ _ _ _ _ _ _ _ _ _ _ _ _ _ _ _ _ _ (block_in_map c.args.block) low
    c.loop-i-test.true
    (c.loop-i.invariant.counted h.r h.s h.p h.q h.side h.text h.other_side h.other_text) in
    let deep = parted_low _ _ _ c.args.block.depth c.is_parted.ensures c.if-is_parted.true x.low
    x.other_low in
    let level : c.child-child.result.depth ≡ c.args.block.depth + 1 =
    ap (λ (a : Cube). a.depth) c.child-child.ensures.exact
    ∙ depth_child_of (cube_of c.args.block) c.loop-i.i in (
      search rules,
      (
        omega (arith, deep, level),
        child_hand _ _ _ _ _ _ _ _ _ _ _ _ _ _ _ _ _ _ _ _ _ x h.room c.child-child.ensures.exact
            c.split_at.ensures.back c.split_at-then-is_parted.ensures.back,
      ),
    )

pub place_of-requires-clause-a : goal.place_of-requires-clause-a
place_of-requires-clause-a t c =
    let h = c.requires.sides in
    let low = c.requires.levels in
    let x = counting_next _ _ _ _ _ _ _ _ _ _ _ _ _ _ _ _ _ _ (block_in_map c.args.block) low
    c.loop-i-test.true
    (c.loop-i.invariant.counted h.r h.s h.p h.q h.side h.text h.other_side h.other_text) in
    let (no_a, no_b) = not_parted _ _ _ c.is_parted.ensures c.if-is_parted.false in
    code_few _ _ _ no_a x.side

pub place_of-requires-clause-b : goal.place_of-requires-clause-b
place_of-requires-clause-b t c =
    let h = c.requires.sides in
    let low = c.requires.levels in
    let x = counting_next _ _ _ _ _ _ _ _ _ _ _ _ _ _ _ _ _ _ (block_in_map c.args.block) low
    c.loop-i-test.true
    (c.loop-i.invariant.counted h.r h.s h.p h.q h.side h.text h.other_side h.other_text) in
    let (no_a, no_b) = not_parted _ _ _ c.is_parted.ensures c.if-is_parted.false in
    code_few _ _ _ no_b x.other_side

pub add-requires-clause-room : goal.add-requires-clause-room
add-requires-clause-room t c =
    let h = c.requires.sides in
    let low = c.requires.levels in
    let x = counting_next _ _ _ _ _ _ _ _ _ _ _ _ _ _ _ _ _ _ (block_in_map c.args.block) low
    c.loop-i-test.true
    (c.loop-i.invariant.counted h.r h.s h.p h.q h.side h.text h.other_side h.other_text) in
    let (no_a, no_b) = not_parted _ _ _ c.is_parted.ensures c.if-is_parted.false in
    leaf_room _ _ _ _ _ _ _ _ _ _ _ _ _ _ _ _ _ _ _ _ x h.room no_a no_b c.place_of.ensures.exact
    c.place_of.ensures.few
    (share_is _ _ _ c.shares_of-shares.result _ c.loop-i.i c.loop-i-test.true c.from.ensures
    c.shares_of-shares.ensures)

pub returns-clause-counted : goal.returns-clause-counted
returns-clause-counted t c = λ r s p q side_a is_a side_b is_b.
    counting_all _ _ _ _ _ _ _ _ _ _ _ _ _ _ _ _ _ _ _ c.requires.levels (omega arith) refl refl
    (c.loop-i.invariant.counted r s p q side_a is_a side_b is_b)

pub overflow_add-at : goal.overflow_add-at
overflow_add-at t c =
    let h = c.requires.sides in
    let low = c.requires.levels in
    let x = counting_next _ _ _ _ _ _ _ _ _ _ _ _ _ _ _ _ _ _ (block_in_map c.args.block) low
    c.loop-i-test.true
    (c.loop-i.invariant.counted h.r h.s h.p h.q h.side h.text h.other_side h.other_text) in
    let took : c.if-voxels-eq0.read.first ≡ length (side_text (c.loop-i.left % 4) x.r') =
    elim c.if-voxels-eq0.branch [
      | then-voxels-eq0 w ↦ ap (λ (r : Read). r.first) w.read-is
          ∙ w.pass_over-read.ensures.first x.r' x.p' x.side (c.split_at.ensures.back ∙ x.front)
      | else-voxels-eq0 w ↦ ap (λ (r : Read). r.first) w.read-is
          ∙ (child_tabled _ _ _ _ _ _ _ _ _ _ _ _ _ _ _ _ _ _ _ _ _ _ _ x
          w.child-child.ensures.exact c.split_at.ensures.back
          c.split_at-then-is_parted.ensures.back w.count_block-read.ensures.counted).first
    ] in
    let fits = fits_text _ _ c.args.first.now h.p x.within h.text in
    let most : length c.args.first.now < 18446744073709551616 = search rules in
    let sum : c.loop-i.at + c.if-voxels-eq0.read.first < 18446744073709551616 =
    omega (arith, fits, took, most) in
    search rules

pub overflow_add-to : goal.overflow_add-to
overflow_add-to t c =
    let h = c.requires.sides in
    let low = c.requires.levels in
    let x = counting_next _ _ _ _ _ _ _ _ _ _ _ _ _ _ _ _ _ _ (block_in_map c.args.block) low
    c.loop-i-test.true
    (c.loop-i.invariant.counted h.r h.s h.p h.q h.side h.text h.other_side h.other_text) in
    let took : c.if-voxels-eq0.read.second ≡ length (side_text (c.loop-i.other % 4) x.s') =
    elim c.if-voxels-eq0.branch [
      | then-voxels-eq0 w ↦ ap (λ (r : Read). r.second) w.read-is
          ∙ w.pass_over-read.ensures.second x.s' x.q' x.other_side
          (c.split_at-then-is_parted.ensures.back ∙ x.other_front)
      | else-voxels-eq0 w ↦ ap (λ (r : Read). r.second) w.read-is
          ∙ (child_tabled _ _ _ _ _ _ _ _ _ _ _ _ _ _ _ _ _ _ _ _ _ _ _ x
          w.child-child.ensures.exact c.split_at.ensures.back
          c.split_at-then-is_parted.ensures.back w.count_block-read.ensures.counted).second
    ] in
    let fits = fits_text _ _ c.args.second.now h.q x.other_within h.other_text in
    let most : length c.args.second.now < 18446744073709551616 = search rules in
    let sum : c.loop-i.to + c.if-voxels-eq0.read.second < 18446744073709551616 =
    omega (arith, fits, took, most) in
    search rules

pub loop-i-preserved : goal.loop-i-preserved
loop-i-preserved t c = record {
  counted = λ r s p q side_a is_a side_b is_b.
      (let x = counting_next _ _ _ _ _ _ _ _ _ _ _ _ _ _ _ _ _ _ (block_in_map c.args.block)
      c.requires.levels c.loop-i-test.true
      (c.loop-i.invariant.counted r s p q side_a is_a side_b is_b) in
      let share = share_is _ _ _ c.shares_of-shares.result _ c.loop-i.i c.loop-i-test.true
      c.from.ensures c.shares_of-shares.ensures in
      elim c.if-is_parted.branch [
        | then-is_parted w ↦ elim w.if-voxels-eq0.branch [
          | then-voxels-eq0 v ↦
              same_counting _ _ _ _ _ _ _ _ _ _ _ _ _ _ _ _ _ _ _ _ _
              (ap (λ t. t.counts) (w.table-is ∙ v.table-is))
              (w.at-is ∙ ap (λ (r : Read). c.loop-i.at + r.first) v.read-is)
              (w.to-is ∙ ap (λ (r : Read). c.loop-i.to + r.second) v.read-is)
              (passed_counts _ _ _ _ _ _ _ _ _ _ _ _ _ _ _ _ _ _ _ _ x share
              v.if-voxels-eq0.true
              (v.pass_over-read.ensures.first x.r' x.p' x.side (w.split_at.ensures.back ∙ x.front))
              (v.pass_over-read.ensures.second x.s' x.q' x.other_side
              (w.split_at-then-is_parted.ensures.back ∙ x.other_front)))
          | else-voxels-eq0 v ↦
              same_counting _ _ _ _ _ _ _ _ _ _ _ _ _ _ _ _ _ _ _ _ _
              (ap (λ t. t.counts) (w.table-is ∙ v.table-is))
              (w.at-is ∙ ap (λ (r : Read). c.loop-i.at + r.first) v.read-is)
              (w.to-is ∙ ap (λ (r : Read). c.loop-i.to + r.second) v.read-is)
              (x.step _ _ (child_tabled _ _ _ _ _ _ _ _ _ _ _ _ _ _ _ _ _ _ _ _ _ _ _ x
              v.child-child.ensures.exact w.split_at.ensures.back
              w.split_at-then-is_parted.ensures.back v.count_block-read.ensures.counted))
        ]
        | else-is_parted w ↦
            (let (no_a, no_b) = not_parted _ _ _ c.is_parted.ensures w.if-is_parted.false in
            same_counting _ _ _ _ _ _ _ _ _ _ _ _ _ _ _ _ _ _ _ _ _ (ap (λ t. t.counts) w.table-is)
            w.at-is w.to-is
            (leaf_counts _ _ _ _ _ _ _ _ _ _ _ _ _ _ _ _ _ _ _ _ _ x no_a no_b
            w.place_of.ensures.exact share w.add.ensures.counted))
      ]);
  long = elim c.if-is_parted.branch [
    | then-is_parted w ↦ elim w.if-voxels-eq0.branch [
      | then-voxels-eq0 v ↦ ap (λ t. length t.counts) (w.table-is ∙ v.table-is)
          ∙ c.loop-i.invariant.long
      | else-voxels-eq0 v ↦ ap (λ t. length t.counts) (w.table-is ∙ v.table-is)
          ∙ v.count_block-read.ensures.long ∙ c.loop-i.invariant.long
    ]
    | else-is_parted w ↦ ap (λ t. length t.counts) w.table-is ∙ w.add.ensures.long
        ∙ c.loop-i.invariant.long
  ];
}
