use Rattle.std.proofs.Common.{◌≡◌, ◌<◌, ◌≤◌, IsOk, None, false, sym, ◌∙◌, ap, subst, arith, rules}
use Rattle.std.proofs.Common.{refl, inl}
use Rattle.oct_arena.specs.Entries.{spare}
use Rattle.oct_tree.specs.Tree.{Tree}
use Rattle.oct_bt.specs.Records.{record_total}
use Rattle.oct_map.specs.Map.{Map, ground_of}
use Rattle.oct_map.specs.Loads.{IsMapLoaded}
use Rattle.oct_map.proofs.Views.{map_of}
use Rattle.oct_map.proofs.Rooms.{no_memory}
use Rattle.oct_map.proofs.Loads.{load_fits, loaded_right}
use Rattle.oct_map.proofs.map.OccMap.load.Goals as goal

pub returns-in_err-reserve-clause-memory : goal.returns-in_err-reserve-clause-memory
returns-in_err-reserve-clause-memory c e =
    let same : c.args.file.now.res ≡ c.args.self.now.tree.res = search rules in
    let fits : record_total c.args.file.now.codes ≤ c.args.self.now.max_groups = search rules in (
      subst IsOk (sym (load_fits (ground_of c.args.self.now) c.args.file.now.res
          (record_total c.args.file.now.codes) same fits)) refl,
      subst (λ n. 0 < n) c.records-records.ensures
          (no_memory c.records-records.result 0 (spare c.new-tree.result.groups) c.reserve.result
          (omega arith) c.in_err-reserve.was (λ enough. (c.reserve.ensures.enough enough).0)),
    )

pub returns-clause-loaded : goal.returns-clause-loaded
returns-clause-loaded c =
    subst (λ mark. IsMapLoaded c.args.self.now
    (map_of c.fill.new.tree false c.self.inside.window c.self.inside.limits mark)
    c.args.file.now.codes) (sym c.unset.ensures)
    (subst (λ (m : Map). IsMapLoaded m
    (map_of c.fill.new.tree false c.self.inside.window c.self.inside.limits None)
    c.args.file.now.codes) c.self.view_is
    (loaded_right (map_of c.self.inside.tree c.self.inside.is_stale c.self.inside.window
    c.self.inside.limits c.self.inside.mark) c.args.file.now c.new-tree.result c.reserve.new.self
    c.fill.new.tree
    (ap (λ (t : Tree). t.groups) c.new-tree.ensures.exact)
    (ap (λ (t : Tree). t.odds) c.new-tree.ensures.exact ∙ c.odds.ensures)
    c.reserve.ensures.kept
    (search rules) (search rules)
    c.codes.ensures.accepted c.fill.ensures.values c.fill.ensures.pruned c.fill.ensures.groups
    c.fill.ensures.spare))

pub returns-clause-answer : goal.returns-clause-answer
returns-clause-answer c =
    let same : c.args.file.now.res ≡ c.args.self.now.tree.res = search rules in
    let fits : record_total c.args.file.now.codes ≤ c.args.self.now.max_groups = search rules in
    inl (sym (load_fits (ground_of c.args.self.now) c.args.file.now.res
    (record_total c.args.file.now.codes) same fits))
