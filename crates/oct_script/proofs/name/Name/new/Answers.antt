use Rattle.oct_script.proofs.NameBytes.{name_holds, name_made}
use Rattle.oct_script.proofs.name.Name.new.Goals as goal

pub invariant_of-result : goal.invariant_of-result
invariant_of-result c =
    name_holds c.args.word.now _ _ c.is_name.ensures c.if-not-is_name.false c.padded.ensures

pub returns : goal.returns
returns c = name_made c.args.word.now _ _ c.is_name.ensures c.if-not-is_name.false c.padded.ensures
