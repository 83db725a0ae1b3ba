use Rattle.std.proofs.Common.{◌≡◌, ◌+◌, List, ℕ, [], ◌++◌, length, ◌∙◌, ap, arith, subst, rules}
use Rattle.std.specs.Prelude.{vec_len, vec_capacity, ◌⊎◌}
use Rattle.oct_bt.specs.Canonical.{data_of_child}
use Rattle.oct_bt.specs.Records.{codes_of, flat}
use Rattle.oct_join.specs.Joined.{joined, one_class}
use Rattle.oct_join.specs.Merged.{merged_class}
use Rattle.oct_join.specs.Sides.{IsJoined}
use Rattle.oct_join.proofs.Walks.{two_long}
use Rattle.oct_join.proofs.Whole.{root_of, joined_data, none_joined, root_room}
use Rattle.oct_join.proofs.joining.join_records.Goals as goal

pub join_block-map-requires-clause-first : goal.join_block-map-requires-clause-first
join_block-map-requires-clause-first c =
    let (n, accepted) = c.requires.first in
    let x = root_of n c.args.first.now c.root_code-a.result accepted c.root_code-a.ensures in
    (x.r, [], x.side, x.text)

pub join_block-map-requires-clause-second : goal.join_block-map-requires-clause-second
join_block-map-requires-clause-second c =
    let (n, accepted) = c.requires.second in
    let y = root_of n c.args.second.now c.root_code-b.result accepted c.root_code-b.ensures in
    (y.r, [], y.side, y.text)

pub close_map-requires : goal.close_map-requires
close_map-requires c = record {
  room = λ some few.
      (let (n, accepted) = c.requires.first in
      let (m, accepted') = c.requires.second in
      let x = root_of n c.args.first.now c.root_code-a.result accepted c.root_code-a.ensures in
      let y = root_of m c.args.second.now c.root_code-b.result accepted' c.root_code-b.ensures in
      let j = c.join_block-map.ensures.joined x.r y.r [] [] x.side x.text y.side y.text in
      let parted : (c.root_code-a.result ≡ 3) ⊎ (c.root_code-b.result ≡ 3) = search rules in
      let long = two_long 0 _ _ _ _ x.r y.r [] [] parted x.text y.text in
      let empty : c.in_ok-records.records.items ≡ [] = search rules in
      let room : vec_capacity c.in_ok-records.records
      ≡ length c.args.first.now + length c.args.second.now = search rules in
      let same = c.join_block-map.ensures.room in
      let fits = root_room (one_class (codes_of (joined (merged_class c.args.rule) x.r y.r)))
      c.join_block-map.result.code (vec_capacity c.join_block-map.new.out)
      (flat (joined (merged_class c.args.rule) x.r y.r)) c.join_block-map.new.out.items j.code few
      (j.text ∙ ap (λ (t : List ℕ). t
      ++ data_of_child (one_class (codes_of (joined (merged_class c.args.rule) x.r y.r)))
      (flat (joined (merged_class c.args.rule) x.r y.r))) empty)
      (omega (arith, long, room, same)) in
      let len : vec_len c.join_block-map.new.out ≡ length c.join_block-map.new.out.items =
      search rules in
      omega (arith, fits, len));
}

pub returns-then-is_empty-2-clause-codes : goal.returns-then-is_empty-2-clause-codes
returns-then-is_empty-2-clause-codes c =
    let (n, accepted) = c.requires.first in
    let (m, accepted') = c.requires.second in
    let one : length c.args.first.now ≡ 0 = search rules in
    let two : length c.args.second.now ≡ 0 = search rules in
    let empty : c.new.result.items ≡ [] = search rules in
    empty ∙ none_joined c.args.rule n m c.args.first.now c.args.second.now accepted accepted' one
    two

pub returns-clause-codes : goal.returns-clause-codes
returns-clause-codes c =
    let (n, accepted) = c.requires.first in
    let (m, accepted') = c.requires.second in
    let x = root_of n c.args.first.now c.root_code-a.result accepted c.root_code-a.ensures in
    let y = root_of m c.args.second.now c.root_code-b.result accepted' c.root_code-b.ensures in
    let empty : c.in_ok-records.records.items ≡ [] = search rules in
    let j = subst (λ (old : List ℕ). IsJoined (merged_class c.args.rule) c.root_code-a.result
    c.root_code-b.result x.r y.r old c.join_block-map.new.out.items c.join_block-map.result) empty
    (c.join_block-map.ensures.joined x.r y.r [] [] x.side x.text y.side y.text) in
    c.close_map.ensures.text (one_class (codes_of (joined (merged_class c.args.rule) x.r y.r)))
    (flat (joined (merged_class c.args.rule) x.r y.r)) j.code j.text
    ∙ joined_data c.args.rule c.args.first.now c.args.second.now c.root_code-a.result
    c.root_code-b.result _ _ x y j
