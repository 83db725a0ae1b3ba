use Rattle.oct_join.proofs.Records.{unknown_is, free_is, occupied_is, none_is}
use Rattle.oct_join.proofs.codes.one_class.Goals as goal

pub returns-then-codes-eq0 : goal.returns-then-codes-eq0
returns-then-codes-eq0 c = unknown_is c.args.codes c.if-codes-eq0.true

pub returns-then-codes-eq-FREE_LEAVES : goal.returns-then-codes-eq-FREE_LEAVES
returns-then-codes-eq-FREE_LEAVES c = free_is c.args.codes c.if-codes-eq-FREE_LEAVES.true

pub returns-then-codes-eq-OCCUPIED_LEAVES : goal.returns-then-codes-eq-OCCUPIED_LEAVES
returns-then-codes-eq-OCCUPIED_LEAVES c = occupied_is c.args.codes
    c.if-codes-eq-OCCUPIED_LEAVES.true

pub returns : goal.returns
returns c =
    none_is c.args.codes c.if-codes-eq0.false c.if-codes-eq-FREE_LEAVES.false
    c.if-codes-eq-OCCUPIED_LEAVES.false
