use Rattle.std.proofs.Common.{rules, ◌≡◌, ◌+◌, ◌*◌, ◌%◌, ◌<◌, ◌≤◌, ℕ, length}
use Rattle.std.proofs.Common.{refl, ◌∙◌, ap, arith}
use Rattle.std.specs.Prelude.{vec_len, vec_capacity}
use Rattle.oct_join.specs.declared.joining.Part.{Part}
use Rattle.oct_join.specs.Merged.{merged_class}
use Rattle.oct_join.proofs.Masks.{merged_first, merged_here, merged_step}
use Rattle.oct_join.proofs.Walks.{joining_first, joining_next, joining_all, joined_whole}
use Rattle.oct_join.proofs.Walks.{same_joining, leaf_next, parted_low, not_parted, fits_text}
use Rattle.oct_join.proofs.Walks.{product_fits, made_fits, unit_fits, long_whole}
use Rattle.oct_join.proofs.Walks.{both_none, is_one, leaves_joined, room_next, two_long, two_read}
use Rattle.oct_join.proofs.joining.+join_block.Goals as goal
use Rattle.oct_join.proofs.joining.+join_block.Goals.{then-is_parted, else-is_parted}

pub returns-then-are_leaves-clause-joined : goal.returns-then-are_leaves-clause-joined
returns-then-are_leaves-clause-joined t c = λ r s p q side_a is_a side_b is_b.
    (let none = both_none _ _ _ c.are_leaves.ensures c.if-are_leaves.true in
    leaves_joined c.args.rule c.args.depth c.args.a c.args.b r s _ _ _ _ _ _ side_a side_b
    (c.side_codes-first_codes.ensures c.args.depth r p side_a is_a)
    (c.side_codes-second_codes.ensures c.args.depth s q side_b is_b) none.0 none.1
    c.merged_codes-merged.ensures c.close_leaves-code.ensures.code c.close_leaves-code.ensures.text
    c.record_bytes.ensures c.record_bytes-2.ensures)

pub returns-then-are_leaves-clause-few : goal.returns-then-are_leaves-clause-few
returns-then-are_leaves-clause-few t c =
    let two = two_read _ _ _ _ c.requires.parted c.record_bytes.ensures
    c.record_bytes-2.ensures in
    let few = c.close_leaves-code.ensures.few in
    omega (arith, two, few)

pub close_leaves-code-requires : goal.close_leaves-code-requires
close_leaves-code-requires t c =
    let (r, p, side_a, is_a) = c.requires.first in
    let (s, q, side_b, is_b) = c.requires.second in
    let long = two_long c.args.depth c.args.a c.args.b _ _ r s p q c.requires.parted is_a is_b in
    let room = c.requires.room in
    omega (arith, long, room)

pub push_record-requires : goal.push_record-requires
push_record-requires t c =
    let (r, p, side_a, is_a) = c.requires.first in
    let (s, q, side_b, is_b) = c.requires.second in
    let long = two_long c.args.depth c.args.a c.args.b _ _ r s p q c.requires.parted is_a is_b in
    let room = c.requires.room in
    omega (arith, long, room)

pub loop-init : goal.loop-init
loop-init t c = record {
  joined = λ r s p q side_a is_a side_b is_b.
      joining_first (merged_class c.args.rule) c.args.depth c.args.a c.args.b c.args.first.now
      c.args.second.now r s p q c.args.out.now.items _ _ _ _ _ side_a is_a side_b is_b
      c.record_bytes.ensures c.record_bytes-2.ensures
      (c.side_codes-first_codes.ensures c.args.depth r p side_a is_a)
      (c.side_codes-second_codes.ensures c.args.depth s q side_b is_b) c.push_record.ensures.text;
  merged = merged_first _ _ _ _ c.merged_codes-merged.ensures;
  few =
      (let two = two_read _ _ _ _ c.requires.parted c.record_bytes.ensures
      c.record_bytes-2.ensures in
      let long = c.push_record.ensures.long in
      omega (arith, two, long));
  room = c.push_record.ensures.room;
}

pub split_at-requires : goal.split_at-requires
split_at-requires t c =
    let (r, p, side_a, is_a) = c.requires.first in
    let (s, q, side_b, is_b) = c.requires.second in
    let x = joining_next _ _ _ _ _ _ _ _ _ _ _ _ _ _ _ _ _ _ _ c.loop-test.true
    (c.loop.invariant.joined r s p q side_a is_a side_b is_b) in
    let fits = fits_text _ _ c.args.first.now p x.within is_a in
    omega (arith, fits)

pub split_at-requires-then-is_parted : goal.split_at-requires-then-is_parted
split_at-requires-then-is_parted t c =
    let (r, p, side_a, is_a) = c.requires.first in
    let (s, q, side_b, is_b) = c.requires.second in
    let x = joining_next _ _ _ _ _ _ _ _ _ _ _ _ _ _ _ _ _ _ _ c.loop-test.true
    (c.loop.invariant.joined r s p q side_a is_a side_b is_b) in
    let fits = fits_text _ _ c.args.second.now q x.other_within is_b in
    omega (arith, fits)

pub join_block-part-requires : goal.join_block-part-requires
join_block-part-requires t c =
    let (r, p, side_a, is_a) = c.requires.first in
    let (s, q, side_b, is_b) = c.requires.second in
    let x = joining_next _ _ _ _ _ _ _ _ _ _ _ _ _ _ _ _ _ _ _ c.loop-test.true
    (c.loop.invariant.joined r s p q side_a is_a side_b is_b) in
    let low = parted_low _ _ _ c.args.depth c.is_parted.ensures c.if-is_parted.true x.low
    x.other_low in
    let fits = fits_text _ _ c.args.first.now p x.within is_a in
    let fits' = fits_text _ _ c.args.second.now q x.other_within is_b in
    let within : c.loop.read.first ≤ length c.args.first.now = omega (arith, fits) in
    let within' : c.loop.read.second ≤ length c.args.second.now = omega (arith, fits') in (
      search rules,
      (
        omega (arith, low),
        (
          is_one _ _ _ c.is_parted.ensures c.if-is_parted.true,
          (
            (x.r', x.p', x.side, c.split_at.ensures.back ∙ x.front),
            (
              (x.s', x.q', x.other_side, c.split_at-then-is_parted.ensures.back ∙ x.other_front),
              room_next _ _ _ _ _ _ _ _ _ _ c.loop.invariant.few c.loop.invariant.room
                  c.requires.room within within'
                  c.split_at.ensures.back c.split_at-then-is_parted.ensures.back,
            ),
          ),
        ),
      ),
    )

pub overflow_add-read : goal.overflow_add-read
overflow_add-read t c =
    let (r, p, side_a, is_a) = c.requires.first in
    let (s, q, side_b, is_b) = c.requires.second in
    let x = joining_next _ _ _ _ _ _ _ _ _ _ _ _ _ _ _ _ _ _ _ c.loop-test.true
    (c.loop.invariant.joined r s p q side_a is_a side_b is_b) in
    let j = c.join_block-part.ensures.joined x.r' x.s' x.p' x.q' x.side
    (c.split_at.ensures.back ∙ x.front)
    x.other_side (c.split_at-then-is_parted.ensures.back ∙ x.other_front) in
    let fits = fits_text _ _ c.args.first.now p x.within is_a in
    let took = j.first in
    let most : length c.args.first.now < 18446744073709551616 = search rules in
    let sum : c.loop.read.first + c.join_block-part.result.first < 18446744073709551616 =
    omega (arith, fits, took, most) in
    search rules

pub overflow_add-read-then-is_parted : goal.overflow_add-read-then-is_parted
overflow_add-read-then-is_parted t c =
    let (r, p, side_a, is_a) = c.requires.first in
    let (s, q, side_b, is_b) = c.requires.second in
    let x = joining_next _ _ _ _ _ _ _ _ _ _ _ _ _ _ _ _ _ _ _ c.loop-test.true
    (c.loop.invariant.joined r s p q side_a is_a side_b is_b) in
    let j = c.join_block-part.ensures.joined x.r' x.s' x.p' x.q' x.side
    (c.split_at.ensures.back ∙ x.front)
    x.other_side (c.split_at-then-is_parted.ensures.back ∙ x.other_front) in
    let fits = fits_text _ _ c.args.second.now q x.other_within is_b in
    let took = j.second in
    let most : length c.args.second.now < 18446744073709551616 = search rules in
    let sum : c.loop.read.second + c.join_block-part.result.second < 18446744073709551616 =
    omega (arith, fits, took, most) in
    search rules

pub overflow_mul-codes : goal.overflow_mul-codes
overflow_mul-codes t c =
    let (r, p, side_a, is_a) = c.requires.first in
    let (s, q, side_b, is_b) = c.requires.second in
    let x = joining_next _ _ _ _ _ _ _ _ _ _ _ _ _ _ _ _ _ _ _ c.loop-test.true
    (c.loop.invariant.joined r s p q side_a is_a side_b is_b) in
    let j = c.join_block-part.ensures.joined x.r' x.s' x.p' x.q' x.side
    (c.split_at.ensures.back ∙ x.front)
    x.other_side (c.split_at-then-is_parted.ensures.back ∙ x.other_front) in
    let few = made_fits _ _ _ _ _ _ _ _ _ _ _ _ _ _ _ _ _ _ _ side_a side_b
    (x.step _ c.join_block-part.result j) in
    let fits = (product_fits c.loop.codes c.loop.unit c.join_block-part.result.code c.from.result
    c.from.ensures few).0 in
    search rules

pub overflow_add-codes : goal.overflow_add-codes
overflow_add-codes t c =
    let (r, p, side_a, is_a) = c.requires.first in
    let (s, q, side_b, is_b) = c.requires.second in
    let x = joining_next _ _ _ _ _ _ _ _ _ _ _ _ _ _ _ _ _ _ _ c.loop-test.true
    (c.loop.invariant.joined r s p q side_a is_a side_b is_b) in
    let j = c.join_block-part.ensures.joined x.r' x.s' x.p' x.q' x.side
    (c.split_at.ensures.back ∙ x.front)
    x.other_side (c.split_at-then-is_parted.ensures.back ∙ x.other_front) in
    let few = made_fits _ _ _ _ _ _ _ _ _ _ _ _ _ _ _ _ _ _ _ side_a side_b
    (x.step _ c.join_block-part.result j) in
    let fits = (product_fits c.loop.codes c.loop.unit c.join_block-part.result.code c.from.result
    c.from.ensures few).1 in
    search rules

pub overflow_mul-codes-else-is_parted : goal.overflow_mul-codes-else-is_parted
overflow_mul-codes-else-is_parted t c =
    let (r, p, side_a, is_a) = c.requires.first in
    let (s, q, side_b, is_b) = c.requires.second in
    let x = joining_next _ _ _ _ _ _ _ _ _ _ _ _ _ _ _ _ _ _ _ c.loop-test.true
    (c.loop.invariant.joined r s p q side_a is_a side_b is_b) in
    let (no_a, no_b) = not_parted _ _ _ c.is_parted.ensures c.if-is_parted.false in
    let few = made_fits _ _ _ _ _ _ _ _ _ _ _ _ _ _ _ _ _ _ _ side_a side_b
    (leaf_next _ _ _ _ _ _ _ _ _ _ _ _ _ _ _ _ _ _ _ (c.loop.merged % 4) x no_a no_b
    (merged_here _ _ _ _ _ c.loop-test.true c.loop.invariant.merged)) in
    let fits = (product_fits c.loop.codes c.loop.unit (c.loop.merged % 4)
    c.from-else-is_parted.result c.from-else-is_parted.ensures few).0 in
    search rules

pub overflow_add-codes-else-is_parted : goal.overflow_add-codes-else-is_parted
overflow_add-codes-else-is_parted t c =
    let (r, p, side_a, is_a) = c.requires.first in
    let (s, q, side_b, is_b) = c.requires.second in
    let x = joining_next _ _ _ _ _ _ _ _ _ _ _ _ _ _ _ _ _ _ _ c.loop-test.true
    (c.loop.invariant.joined r s p q side_a is_a side_b is_b) in
    let (no_a, no_b) = not_parted _ _ _ c.is_parted.ensures c.if-is_parted.false in
    let few = made_fits _ _ _ _ _ _ _ _ _ _ _ _ _ _ _ _ _ _ _ side_a side_b
    (leaf_next _ _ _ _ _ _ _ _ _ _ _ _ _ _ _ _ _ _ _ (c.loop.merged % 4) x no_a no_b
    (merged_here _ _ _ _ _ c.loop-test.true c.loop.invariant.merged)) in
    let fits = (product_fits c.loop.codes c.loop.unit (c.loop.merged % 4)
    c.from-else-is_parted.result c.from-else-is_parted.ensures few).1 in
    search rules

pub overflow_mul-unit : goal.overflow_mul-unit
overflow_mul-unit t c =
    let (r, p, side_a, is_a) = c.requires.first in
    let (s, q, side_b, is_b) = c.requires.second in
    let j = c.loop.invariant.joined r s p q side_a is_a side_b is_b in
    let few = unit_fits c.loop.unit c.loop.counter c.loop-test.true j.power in
    let fits : c.loop.unit * 4 < 4294967296 = omega (arith, few) in
    search rules

pub loop-preserved : goal.loop-preserved
loop-preserved t c = record {
  joined = λ r s p q side_a is_a side_b is_b.
      (let x = joining_next _ _ _ _ _ _ _ _ _ _ _ _ _ _ _ _ _ _ _ c.loop-test.true
      (c.loop.invariant.joined r s p q side_a is_a side_b is_b) in
      elim c.if-is_parted.branch [
        | then-is_parted w ↦
            same_joining _ _ _ _ _ _ _ _ _ _ _ _ _ _ _ _ _ _ _ _ _ _ _
            (ap (λ v. v.items) w.out-is) (ap (λ (r : Part). r.first) w.read-is)
            (ap (λ (r : Part). r.second) w.read-is)
            (w.codes-is ∙ ap (λ (n : ℕ). c.loop.codes + c.loop.unit * n) w.from.ensures)
            (x.step _ w.join_block-part.result
            (w.join_block-part.ensures.joined x.r' x.s' x.p' x.q' x.side
            (w.split_at.ensures.back ∙ x.front)
            x.other_side (w.split_at-then-is_parted.ensures.back ∙ x.other_front)))
        | else-is_parted w ↦
            (let (no_a, no_b) = not_parted _ _ _ c.is_parted.ensures w.if-is_parted.false in
            same_joining _ _ _ _ _ _ _ _ _ _ _ _ _ _ _ _ _ _ _ _ _ _ _
            (ap (λ v. v.items) w.out-is) (ap (λ (r : Part). r.first) w.read-is)
            (ap (λ (r : Part). r.second) w.read-is)
            (w.codes-is ∙ ap (λ (n : ℕ). c.loop.codes + c.loop.unit * n)
            w.from-else-is_parted.ensures)
            (leaf_next _ _ _ _ _ _ _ _ _ _ _ _ _ _ _ _ _ _ _ (c.loop.merged % 4) x no_a no_b
            (merged_here _ _ _ _ _ c.loop-test.true c.loop.invariant.merged)))
      ]);
  merged = merged_step _ _ _ _ _ c.loop-test.true c.loop.invariant.merged;
  few = elim c.if-is_parted.branch [
    | then-is_parted w ↦
        (let before = c.loop.invariant.few in
        let more = w.join_block-part.ensures.few in
        let long = ap vec_len w.out-is in
        let at = ap (λ (r : Part). r.first) w.read-is in
        let to = ap (λ (r : Part). r.second) w.read-is in
        omega (arith, before, more, long, at, to))
    | else-is_parted w ↦
        (let before = c.loop.invariant.few in
        let long = ap vec_len w.out-is in
        let at = ap (λ (r : Part). r.first) w.read-is in
        let to = ap (λ (r : Part). r.second) w.read-is in
        omega (arith, before, long, at, to))
  ];
  room = elim c.if-is_parted.branch [
    | then-is_parted w ↦ ap vec_capacity w.out-is ∙ w.join_block-part.ensures.room
        ∙ c.loop.invariant.room
    | else-is_parted w ↦ ap vec_capacity w.out-is ∙ c.loop.invariant.room
  ];
}

pub overflow_cast-codes : goal.overflow_cast-codes
overflow_cast-codes t c =
    let (r, p, side_a, is_a) = c.requires.first in
    let (s, q, side_b, is_b) = c.requires.second in
    let few = made_fits _ _ _ _ _ _ _ _ _ _ _ _ _ _ _ _ _ _ _ side_a side_b
    (c.loop.invariant.joined r s p q side_a is_a side_b is_b) in
    search rules

pub close-code-requires : goal.close-code-requires
close-code-requires t c =
    let (r, p, side_a, is_a) = c.requires.first in
    let (s, q, side_b, is_b) = c.requires.second in
    let all = joining_all _ _ _ _ _ _ _ _ _ _ _ _ _ _ _ _ _ _ _ (omega arith)
    (c.loop.invariant.joined r s p q side_a is_a side_b is_b) in
    let long = long_whole _ _ _ all.text in
    let start : c.len-start.result ≡ length c.args.out.now.items = search rules in
    omega (arith, long, start)

pub returns-clause-joined : goal.returns-clause-joined
returns-clause-joined t c = λ r s p q side_a is_a side_b is_b.
    (let all = joining_all _ _ _ _ _ _ _ _ _ _ _ _ _ _ _ _ _ _ _ (omega arith)
    (c.loop.invariant.joined r s p q side_a is_a side_b is_b) in
    let start : length c.args.out.now.items ≡ c.len-start.result = search rules in
    joined_whole (merged_class c.args.rule) c.args.a c.args.b r s c.args.out.now.items
    c.loop.out.items c.close-code.new.out.items c.loop.read.first c.loop.read.second c.loop.codes _
    all
    c.close-code.ensures.code refl refl
    (λ later is. c.close-code.ensures.text c.args.out.now.items later is start))

pub returns-clause-few : goal.returns-clause-few
returns-clause-few t c =
    let before = c.loop.invariant.few in
    let less = c.close-code.ensures.few in
    omega (arith, before, less)

pub returns-clause-room : goal.returns-clause-room
returns-clause-room t c = c.close-code.ensures.room ∙ c.loop.invariant.room
