use Rattle.std.proofs.Common.{◌+◌, ◌^◌, ◌<◌, ◌∙◌, sym, subst, ap, rules, refl, slice_index_or}
use Rattle.std.proofs.Common.{replicate}
use Rattle.oct_key.specs.Voxel.{IsInMap}
use Rattle.oct_key.specs.Boxes.{Window}
use Rattle.oct_key.specs.CubeOf.{cube_of}
use Rattle.oct_values.specs.Classes.{classes_of}
use Rattle.oct_tree.specs.Tree.{IsOver, value_at}
use Rattle.oct_merge.specs.Pairs.{pairs_in}
use Rattle.oct_edit.proofs.NodesOver.{over_root}
use Rattle.oct_merge.proofs.Tables.{zeros, from_none, empty_room, whole_table, table_total}
use Rattle.oct_merge.proofs.table.class_table.Goals as goal

pub count_part-requires-clause-first : goal.count_part-requires-clause-first
count_part-requires-clause-first c =
    subst (λ q. IsOver c.args.a.now q c.root.result) (sym c.whole_map-map.ensures)
    (λ k held. over_root c.args.a.now k held ∙ sym c.root.ensures.exact)

pub count_part-requires-clause-second : goal.count_part-requires-clause-second
count_part-requires-clause-second c =
    subst (λ q. IsOver c.args.b.now q c.root-2.result) (sym c.whole_map-map.ensures)
    (λ k held. over_root c.args.b.now k held ∙ sym c.root-2.ensures.exact)

pub count_part-requires-clause-room : goal.count_part-requires-clause-room
count_part-requires-clause-room c n l =
    let v : IsInMap c.args.hi = search rules in
    subst (λ (w : Window). slice_index_or (replicate 9 0) n 0 + pairs_in w.lo w.hi
    (classes_of c.args.a.now.odds (value_at c.args.a.now))
    (classes_of c.args.b.now.odds (value_at c.args.b.now)) n (cube_of c.whole_map-map.result)
    < 2 ^ 64) (sym c.of-window.ensures)
    (subst (λ q. slice_index_or (replicate 9 0) n 0 + pairs_in c.args.lo c.args.hi
    (classes_of c.args.a.now.odds (value_at c.args.a.now))
    (classes_of c.args.b.now.odds (value_at c.args.b.now)) n q < 2 ^ 64)
    (sym c.whole_map-map.ensures)
    (empty_room c.args.lo c.args.hi (classes_of c.args.a.now.odds (value_at c.args.a.now))
    (classes_of c.args.b.now.odds (value_at c.args.b.now)) n v l))

pub returns-clause-exact : goal.returns-clause-exact
returns-clause-exact c =
    whole_table c.args.lo c.args.hi (classes_of c.args.a.now.odds (value_at c.args.a.now))
    (classes_of c.args.b.now.odds (value_at c.args.b.now)) c.count_part.new.table.counts
    (c.count_part.ensures.long ∙ refl)
    (λ n l. from_none _ _ _ (c.count_part.ensures.counted n l) (zeros n l)
    ∙ ap (λ (w : Window). pairs_in w.lo w.hi
    (classes_of c.args.a.now.odds (value_at c.args.a.now))
    (classes_of c.args.b.now.odds (value_at c.args.b.now)) n (cube_of c.whole_map-map.result))
    c.of-window.ensures
    ∙ ap (pairs_in c.args.lo c.args.hi (classes_of c.args.a.now.odds (value_at c.args.a.now))
    (classes_of c.args.b.now.odds (value_at c.args.b.now)) n)
    c.whole_map-map.ensures)

pub returns-clause-all : goal.returns-clause-all
returns-clause-all c =
    let v : IsInMap c.args.hi = search rules in
    table_total c.args.lo c.args.hi (classes_of c.args.a.now.odds (value_at c.args.a.now))
    (classes_of c.args.b.now.odds (value_at c.args.b.now)) c.count_part.new.table.counts v
    (returns-clause-exact c)
