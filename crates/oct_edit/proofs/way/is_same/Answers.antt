use Rattle.std.proofs.Common.{rules, ◌≡◌, ◌∙◌, sym, ap}
use Rattle.std.specs.Prelude.{ℤ}
use Rattle.std.proofs.lemmas.Bool.{eqb-true}
use Rattle.std.proofs.lemmas.Int.{to_z-of_z}
use mir.Syntax.{w32}
use mir.Val.{SFits, to_z}
use Rattle.oct_arena.specs.declared.node.GroupId.{GroupId}
use Rattle.oct_arena.specs.declared.node.Node.{Node}
use Rattle.oct_arena.specs.declared.node.Node.TheVariants.{Inner}
use Rattle.oct_arena.proofs.Ids.{same_ids}
use Rattle.oct_edit.proofs.way.is_same.Goals as goal

same_inner : (v w : ℤ) (x y : GroupId) → v ≡ w → x ≡ y → ◌≡◌ {A = Node} (Inner v x) (Inner w y)
same_inner v w x y e f = cc

pub returns-then-v-w : goal.returns-then-v-w
returns-then-v-w c same =
    let i = c.in-Inner-Inner in
    let fits : SFits w32 c.in-Inner-Inner.v = search rules in
    let fits_too : SFits w32 c.in-Inner-Inner.w = search rules in
    let value : c.in-Inner-Inner.v ≡ c.in-Inner-Inner.w =
    sym (to_z-of_z w32 c.in-Inner-Inner.v fits) ∙ ap (to_z w32) c.if-v-w.true
    ∙ to_z-of_z w32 c.in-Inner-Inner.w fits_too in
    let link : c.in-Inner-Inner.x ≡ c.in-Inner-Inner.y =
    same_ids c.in-Inner-Inner.x c.in-Inner-Inner.y (eqb-true _ _ (sym c.eq.ensures ∙ same)) in
    i.is-0 ∙ same_inner _ _ _ _ value link ∙ sym i.is-1
