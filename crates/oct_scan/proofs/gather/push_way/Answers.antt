use Rattle.std.proofs.Common.{None, IsNone, List, refl, sym, subst, ◌∙◌}
use Rattle.oct_key.specs.Morton.{morton_of}
use Rattle.oct_brick.specs.declared.brick.Brick.{Brick}
use Rattle.oct_scan.specs.Gathered.{EndsAt, IsRestAdded}
use Rattle.oct_scan.proofs.Ends.{end_is_last}
use Rattle.oct_scan.proofs.Marked.{given_back}
use Rattle.oct_scan.proofs.Parts.{begun_so, ok_so}
use Rattle.oct_scan.proofs.Tabled.{added_so}
use Rattle.oct_scan.proofs.gather.push_way.Goals as goal

pub near-requires : goal.near-requires
near-requires c =
    let (end, on_map, coded, ends) = c.requires.ends in
    record {
      voxel = end;
      on_map = on_map;
      last = end_is_last end c.args.walk ends;
      coded = sym coded;
    }

pub returns-in-Err : goal.returns-in-Err
returns-in-Err c =
    let (end, on_map, coded, ends) = c.requires.ends in
    let same = c.in-Err.ensures.far in
    ok_so c.push_steps-in-Err.result (λ h. begun_so None (morton_of end) c.args.end c.args.walk
    c.in-Err.walk c.around-in-Err.result c.args.bricks.now c.push_steps-in-Err.new.bricks coded
    c.around-in-Err.ensures.scanned same (h end on_map (subst (EndsAt end) (sym same) ends)))
    c.push_steps-in-Err.ensures

pub returns-in-Some : goal.returns-in-Some
returns-in-Some c =
    let (end, on_map, coded, ends) = c.requires.ends in
    let back = given_back c.in_ok-near-in-Ok.field-0 c.in-Some.near _ c.in-Some.is
    c.in_ok-near-in-Ok.ensures.same in
    let same = back.0 ∙ c.in-Ok.ensures.near in
    ok_so c.push_steps.result (λ h. begun_so None (morton_of end) c.args.end c.args.walk
    c.in-Some.near c.around.result c.args.bricks.now c.push_steps.new.bricks coded
    c.around.ensures.scanned same (subst (λ (bs : List Brick). IsRestAdded None (morton_of end)
    c.in-Some.near c.around.result bs c.push_steps.new.bricks) back.1
    (h end on_map (subst (EndsAt end) (sym same) ends))))
    c.push_steps.ensures

pub returns-in-None : goal.returns-in-None
returns-in-None c =
    let (end, on_map, coded, ends) = c.requires.ends in
    let same = c.in-Ok.ensures.near in
    added_so (morton_of end) c.args.end c.args.walk c.in-Ok.near c.args.bricks.now
    c.mark_way.new.self coded same
    (c.in_ok-near-in-Ok.ensures.added (subst IsNone (sym c.in-None.is) refl) end on_map
    (subst (EndsAt end) (sym same) ends))
