use Rattle.std.proofs.Common.{rules, to_z, of_z, ◌≡◌, ◌<◌, ◌≤◌, ℕ, IsOk, Ok, Err, inl, sym, ◌∙◌, ap}
use Rattle.std.proofs.Common.{subst, arith, refl}
use Rattle.std.specs.Prelude.{pos}
use Rattle.std.proofs.lemmas.Int.{to_z-of_z}
use mir.Val.{SFits}
use mir.Syntax.{w64}
use Rattle.oct_odds.specs.Odds.{Odds, odds_of}
use Rattle.oct_arena.specs.Entries.{live, spare}
use Rattle.oct_tree.specs.Tree.{Tree}
use Rattle.oct_snap.specs.Reading.{read_snapshot}
use Rattle.oct_snap.specs.Checked.{IsChecked}
use Rattle.oct_map.specs.declared.fault.MapFault.TheVariants.{OtherResolution, Full}
use Rattle.oct_map.specs.Map.{Map, ground_of}
use Rattle.oct_map.specs.Restores.{box_after}
use Rattle.oct_map.proofs.Rooms.{no_memory}
use Rattle.oct_map.proofs.Restores.{info_of, other_answered, full_answered, groups_answered}
use Rattle.oct_map.proofs.Restores.{not_none, fillable, info_is, restored_right, are_other}
use Rattle.oct_map.proofs.map.OccMap.restore.Goals as goal

pub returns-then-ne-clause-answer : goal.returns-then-ne-clause-answer
returns-then-ne-clause-answer c =
    let checked : IsChecked (read_snapshot c.args.self.now.tree.odds c.args.bytes.now)
    (Ok c.in_ok-info.info) =
    subst (λ (o : Odds). IsChecked (read_snapshot o c.args.bytes.now) (Ok c.in_ok-info.info))
    (c.odds.ensures ∙ ap (λ (m : Map). m.tree.odds) c.self.view_is) c.in_ok-info.ensures in
    let mine : c.res-session.result ≡ c.args.self.now.tree.res = c.res-session.ensures
    ∙ ap (λ (m : Map). m.tree.res) c.self.view_is in
    let fits : SFits w64 c.nm.result = search rules in
    let fits_too : SFits w64 c.nm-then-ne.result = search rules in
    inl (sym (other_answered (ground_of c.args.self.now)
    (read_snapshot c.args.self.now.tree.odds c.args.bytes.now) c.in_ok-info.info checked
    (are_other c.ne.result c.in_ok-info.info.res c.res-session.result c.args.self.now.tree.res
    c.ne.ensures c.if-ne.true mine)
    ∙ ap (λ n. Err (OtherResolution n (pos c.args.self.now.tree.res)))
    (sym (to_z-of_z w64 c.nm.result fits ∙ c.nm.ensures.value))
    ∙ ap (λ n. Err (OtherResolution (to_z w64 (of_z w64 c.nm.result)) n))
    (sym (to_z-of_z w64 c.nm-then-ne.result fits_too ∙ c.nm-then-ne.ensures.value
    ∙ ap (λ (n : ℕ). pos n) mine))))

pub returns-then-info-from-clause-answer : goal.returns-then-info-from-clause-answer
returns-then-info-from-clause-answer c =
    let checked : IsChecked (read_snapshot c.args.self.now.tree.odds c.args.bytes.now)
    (Ok c.in_ok-info.info) =
    subst (λ (o : Odds). IsChecked (read_snapshot o c.args.bytes.now) (Ok c.in_ok-info.info))
    (c.odds.ensures ∙ ap (λ (m : Map). m.tree.odds) c.self.view_is) c.in_ok-info.ensures in
    let same : c.in_ok-info.info.res ≡ c.args.self.now.tree.res = search rules in
    let over : c.args.self.now.max_groups < c.in_ok-info.info.groups = search rules in
    let need : c.in_ok-info.info.groups ≡ c.from-then-info-from.result = search rules in
    inl (sym (full_answered (ground_of c.args.self.now)
    (read_snapshot c.args.self.now.tree.odds c.args.bytes.now) c.in_ok-info.info checked same over
    ∙ ap (λ (n : ℕ). Err (Full 0 n)) need))

pub returns-in_err-reserve-clause-memory : goal.returns-in_err-reserve-clause-memory
returns-in_err-reserve-clause-memory c e =
    let checked : IsChecked (read_snapshot c.args.self.now.tree.odds c.args.bytes.now)
    (Ok c.in_ok-info.info) =
    subst (λ (o : Odds). IsChecked (read_snapshot o c.args.bytes.now) (Ok c.in_ok-info.info))
    (c.odds.ensures ∙ ap (λ (m : Map). m.tree.odds) c.self.view_is) c.in_ok-info.ensures in
    let same : c.in_ok-info.info.res ≡ c.args.self.now.tree.res = search rules in
    let fits : c.in_ok-info.info.groups ≤ c.args.self.now.max_groups = search rules in
    let is = groups_answered (ground_of c.args.self.now)
    (read_snapshot c.args.self.now.tree.odds c.args.bytes.now) c.in_ok-info.info checked same
    fits in
    let some : 0 < c.in_ok-info.info.groups =
    no_memory c.in_ok-info.info.groups 0 (spare c.new-tree.result.groups) c.reserve.result
    (omega arith)
    c.in_err-reserve.was (search rules) in (
      subst IsOk (sym is) refl,
      not_none (ground_of c.args.self.now)
          (read_snapshot c.args.self.now.tree.odds c.args.bytes.now) c.in_ok-info.info is some,
    )

pub fill-requires-clause-accepted : goal.fill-requires-clause-accepted
fill-requires-clause-accepted c =
    let checked : IsChecked (read_snapshot c.args.self.now.tree.odds c.args.bytes.now)
    (Ok c.in_ok-info.info) =
    subst (λ (o : Odds). IsChecked (read_snapshot o c.args.bytes.now) (Ok c.in_ok-info.info))
    (c.odds.ensures ∙ ap (λ (m : Map). m.tree.odds) c.self.view_is) c.in_ok-info.ensures in
    let (s, is, i) = info_of (read_snapshot c.args.self.now.tree.odds c.args.bytes.now)
    c.in_ok-info.info checked in
    let odds : c.reserve.new.self.odds ≡ odds_of c.in_ok-info.info.odds =
    c.reserve.ensures.kept.odds ∙ ap (λ (t : Tree). t.odds) c.new-tree.ensures.exact in
    let room : c.in_ok-info.info.groups ≤ spare c.reserve.new.self.groups = search rules in
    let f = fillable c.args.self.now.tree.odds c.reserve.new.self c.args.bytes.now s
    c.in_ok-info.info is i odds room in
    (s, f.read, f.odds, f.room)

few : (c : goal.After-unset) → live c.fill.new.tree.groups ≤ c.self.inside.limits.max_groups
few c =
    let checked : IsChecked (read_snapshot c.args.self.now.tree.odds c.args.bytes.now)
    (Ok c.in_ok-info.info) =
    subst (λ (o : Odds). IsChecked (read_snapshot o c.args.bytes.now) (Ok c.in_ok-info.info))
    (c.odds.ensures ∙ ap (λ (m : Map). m.tree.odds) c.self.view_is) c.in_ok-info.ensures in
    let (s, is, i) = info_of (read_snapshot c.args.self.now.tree.odds c.args.bytes.now)
    c.in_ok-info.info checked in
    let odds : c.reserve.new.self.odds ≡ odds_of c.in_ok-info.info.odds =
    c.reserve.ensures.kept.odds ∙ ap (λ (t : Tree). t.odds) c.new-tree.ensures.exact in
    let room : c.in_ok-info.info.groups ≤ spare c.reserve.new.self.groups = search rules in
    let f = fillable c.args.self.now.tree.odds c.reserve.new.self c.args.bytes.now s
    c.in_ok-info.info is i odds room in
    let total = c.fill.ensures.groups s f.read in
    let groups = i.groups in
    let fits : c.in_ok-info.info.groups ≤ c.self.inside.limits.max_groups = search rules in
    omega (arith, total, groups, fits)

pub invariant_of-self : goal.invariant_of-self
invariant_of-self c = record {
  formed = c.fill.ensures.fresh.formed;
  fresh = λ _. c.fill.ensures.fresh;
  few = few c;
  limit = c.self.invariant.limit;
  cells = c.self.invariant.cells;
}

pub returns-clause-answer : goal.returns-clause-answer
returns-clause-answer c =
    let checked : IsChecked (read_snapshot c.args.self.now.tree.odds c.args.bytes.now)
    (Ok c.in_ok-info.info) =
    subst (λ (o : Odds). IsChecked (read_snapshot o c.args.bytes.now) (Ok c.in_ok-info.info))
    (c.odds.ensures ∙ ap (λ (m : Map). m.tree.odds) c.self.view_is) c.in_ok-info.ensures in
    let same : c.in_ok-info.info.res ≡ c.args.self.now.tree.res = search rules in
    let fits : c.in_ok-info.info.groups ≤ c.args.self.now.max_groups = search rules in
    inl (sym (groups_answered (ground_of c.args.self.now)
    (read_snapshot c.args.self.now.tree.odds c.args.bytes.now) c.in_ok-info.info checked same fits))

pub returns-clause-restored : goal.returns-clause-restored
returns-clause-restored c = λ s is.
    (let checked : IsChecked (read_snapshot c.args.self.now.tree.odds c.args.bytes.now)
    (Ok c.in_ok-info.info) =
    subst (λ (o : Odds). IsChecked (read_snapshot o c.args.bytes.now) (Ok c.in_ok-info.info))
    (c.odds.ensures ∙ ap (λ (m : Map). m.tree.odds) c.self.view_is) c.in_ok-info.ensures in
    let i = info_is (read_snapshot c.args.self.now.tree.odds c.args.bytes.now) s c.in_ok-info.info
    checked is in
    let odds : c.reserve.new.self.odds ≡ odds_of c.in_ok-info.info.odds =
    c.reserve.ensures.kept.odds ∙ ap (λ (t : Tree). t.odds) c.new-tree.ensures.exact in
    let room : c.in_ok-info.info.groups ≤ spare c.reserve.new.self.groups = search rules in
    let f = fillable c.args.self.now.tree.odds c.reserve.new.self c.args.bytes.now s
    c.in_ok-info.info is i odds room in
    restored_right c.args.self.now _ s c.in_ok-info.info c.new-tree.result c.reserve.new.self
    c.fill.new.tree i
    (ap (λ (t : Tree). t.groups) c.new-tree.ensures.exact)
    (ap (λ (t : Tree). t.odds) c.new-tree.ensures.exact)
    (ap (λ (t : Tree). t.res) c.new-tree.ensures.exact ∙ c.res-session.ensures
    ∙ ap (λ (m : Map). m.tree.res) c.self.view_is)
    c.reserve.ensures.kept (search rules) (search rules)
    (c.fill.ensures.values s f.read) c.fill.ensures.pruned (c.fill.ensures.groups s f.read)
    c.fill.ensures.spare c.fill.ensures.odds c.fill.ensures.res
    refl refl c.unset.ensures
    (c.box_after-self-inside.ensures
    ∙ ap (λ (m : Map). box_after m.update_box c.in_ok-info.info.version c.in_ok-info.info.window)
    c.self.view_is)
    (ap (λ (m : Map). m.max_groups) c.self.view_is) (ap (λ (m : Map). m.max_cells) c.self.view_is))

pub returns-clause-map : goal.returns-clause-map
returns-clause-map c = record {
  formed = c.fill.ensures.fresh.formed;
  fresh = λ _. c.fill.ensures.fresh;
  few = few c;
  limit = c.self.invariant.limit;
  cells = c.self.invariant.cells;
}
