use Rattle.std.proofs.Common.{rules, [], ◌≡◌, ◌<◌, length, refl, sym, ◌∙◌, subst, arith}
use Rattle.oct_odds.specs.declared.event.Class.TheVariants.{Free, Occupied}
use Rattle.oct_bt.specs.NodeData.{IsAccepted, IsDataOf}
use Rattle.oct_bt.specs.Records.{record_total}
use Rattle.oct_bt.proofs.Fills.{root_asked}
use Rattle.oct_bt.proofs.Volumes.{counted_voxels, no_voxels}
use Rattle.oct_bt.proofs.bt_file.BtFile.voxels.Goals as goal

pub count_record-requires-clause-record_there : goal.count_record-requires-clause-record_there
count_record-requires-clause-record_there c =
    let some : 0 < length c.as_slice-codes.result.now = search rules in
    let same : c.as_slice-codes.result.now ≡ c.args.self.now.codes = c.as_slice-codes.ensures
    ∙ c.codes.ensures.codes in
    let r = root_asked c.as_slice-codes.result.now c.args.self.now.nodes
    (record_total c.as_slice-codes.result.now) some
    (subst (IsAccepted c.args.self.now.nodes) (sym same) c.codes.ensures.accepted) (omega arith) in
    (r.r, [], r.is, r.text)

pub returns-then-is_empty-clause-free : goal.returns-then-is_empty-clause-free
returns-then-is_empty-clause-free c = λ classes is.
    (let none : length c.as_slice-codes.result.now ≡ 0 = search rules in
    let same : c.as_slice-codes.result.now ≡ c.args.self.now.codes = c.as_slice-codes.ensures
    ∙ c.codes.ensures.codes in
    no_voxels Free classes c.as_slice-codes.result.now refl (subst (IsDataOf classes) (sym same) is)
    none)

pub returns-then-is_empty-clause-occupied : goal.returns-then-is_empty-clause-occupied
returns-then-is_empty-clause-occupied c = λ classes is.
    (let none : length c.as_slice-codes.result.now ≡ 0 = search rules in
    let same : c.as_slice-codes.result.now ≡ c.args.self.now.codes = c.as_slice-codes.ensures
    ∙ c.codes.ensures.codes in
    no_voxels Occupied classes c.as_slice-codes.result.now refl
    (subst (IsDataOf classes) (sym same) is) none)

pub returns-clause-free : goal.returns-clause-free
returns-clause-free c = λ classes is.
    (let some : 0 < length c.as_slice-codes.result.now = search rules in
    let same : c.as_slice-codes.result.now ≡ c.args.self.now.codes = c.as_slice-codes.ensures
    ∙ c.codes.ensures.codes in
    counted_voxels Free classes c.as_slice-codes.result.now c.count_record.result.voxels.free
    (subst (IsDataOf classes) (sym same) is) some
    (λ r tail is_r text. (c.count_record.ensures.counted r tail is_r text).free_voxels))

pub returns-clause-occupied : goal.returns-clause-occupied
returns-clause-occupied c = λ classes is.
    (let some : 0 < length c.as_slice-codes.result.now = search rules in
    let same : c.as_slice-codes.result.now ≡ c.args.self.now.codes = c.as_slice-codes.ensures
    ∙ c.codes.ensures.codes in
    counted_voxels Occupied classes c.as_slice-codes.result.now
    c.count_record.result.voxels.occupied (subst (IsDataOf classes) (sym same) is) some
    (λ r tail is_r text. (c.count_record.ensures.counted r tail is_r text).occupied_voxels))
