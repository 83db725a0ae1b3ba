use Rattle.std.proofs.Common.{sym, ◌∙◌, ap}
use Rattle.oct_bt.specs.Plain.{is_canonical_data}
use Rattle.oct_bt.proofs.Plains.{canonical_data_exactly}
use Rattle.oct_bt.proofs.Tested.{tested}
use Rattle.oct_bt.proofs.bt_file.BtFile.is_canonical.Goals as goal

pub returns-clause-test : goal.returns-clause-test
returns-clause-test c = c.passes.ensures
    ∙ ap is_canonical_data (c.as_slice.ensures ∙ c.codes.ensures.codes)
    ∙ tested c.args.self.now.nodes c.args.self.now.codes
    c.codes.ensures.accepted

pub returns-clause-exact : goal.returns-clause-exact
returns-clause-exact c = λ a is.
    (let test = c.passes.ensures
    ∙ ap is_canonical_data (c.as_slice.ensures ∙ c.codes.ensures.codes) in
    let exact = canonical_data_exactly a c.args.self.now.codes is in
    (λ h. exact.0 (sym test ∙ h), λ h. test ∙ exact.1 h))
