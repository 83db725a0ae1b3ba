use Rattle.std.proofs.Common.{refl, sym, ◌∙◌, true, false}
use Rattle.std.specs.Prelude.{Err}
use Rattle.oct_odds.specs.Odds.{odds_of}
use Rattle.oct_snap.specs.declared.fault.SnapFault.TheVariants.{BadMagic}
use Rattle.oct_snap.proofs.Fields.{magic_old, magic_new}
use Rattle.oct_snap.proofs.head.read_fields.Goals as goal

pub returns-then-starts_with : goal.returns-then-starts_with
returns-then-starts_with c = magic_old (odds_of c.args.odds) c.args.bytes.now c.read_res.result
    (sym c.starts_with.ensures.value ∙ c.if-starts_with.true) c.read_res.ensures

pub returns-then-starts_with-2 : goal.returns-then-starts_with-2
returns-then-starts_with-2 c =
    magic_new (odds_of c.args.odds) c.args.bytes.now true c.read_res-then-starts_with-2.result
    (sym c.starts_with.ensures.value ∙ c.if-starts_with.false)
    (sym c.starts_with-2.ensures.value ∙ c.if-starts_with-2.true)
    c.read_res-then-starts_with-2.ensures

pub returns : goal.returns
returns c = magic_new (odds_of c.args.odds) c.args.bytes.now false (Err BadMagic)
    (sym c.starts_with.ensures.value ∙ c.if-starts_with.false)
    (sym c.starts_with-2.ensures.value ∙ c.if-starts_with-2.false) refl
