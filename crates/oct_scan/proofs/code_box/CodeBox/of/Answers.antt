use Rattle.std.proofs.Common.{rules}
use Rattle.oct_key.specs.Voxel.{IsInMap}
use Rattle.oct_scan.proofs.CodeBoxes.{voxel_of}
use Rattle.oct_scan.proofs.code_box.CodeBox.of.Goals as goal

pub returns-clause-lo : goal.returns-clause-lo
returns-clause-lo c =
    let on_map : IsInMap c.lo.result = search rules in
    voxel_of c.lo.result c.args.window.now.lo c.morton.result on_map c.morton.ensures.exact
    c.lo.ensures

pub returns-clause-hi : goal.returns-clause-hi
returns-clause-hi c =
    let on_map : IsInMap c.hi.result = search rules in
    voxel_of c.hi.result c.args.window.now.hi c.morton-2.result on_map c.morton-2.ensures.exact
    c.hi.ensures
