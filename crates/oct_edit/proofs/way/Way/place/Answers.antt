use Rattle.std.proofs.Common.{◌≡◌, ◌∙◌, ◌-◌, ◌+◌, sym, ap, arith, get_or}
use Rattle.std.proofs.lemmas.Option.{slice_get-get_or}
use Rattle.oct_key.specs.Block.{child_index_of}
use Rattle.oct_tree.specs.declared.place.Place.TheVariants.{Slot}
use Rattle.oct_edit.specs.Way.{place_on}
use Rattle.oct_edit.proofs.Ways.{place_below}
use Rattle.oct_edit.proofs.way.Way.place.Goals as goal

pub returns-then-depth-eq0 : goal.returns-then-depth-eq0
returns-then-depth-eq0 c = ap (place_on c.args.k c.args.self.now.groups) (sym c.if-depth-eq0.true)

pub returns : goal.returns
returns c =
    let some = c.if-depth-eq0.false in
    let deep = c.requires.depth in
    let long = c.requires.long in
    let more : (c.args.depth - 1) + 1 ≡ c.args.depth = omega arith in
    let index : c.child_of_code.result ≡ child_index_of (c.args.depth - 1) c.args.k =
    c.child_of_code.ensures.exact ∙ c.morton.ensures.child (c.args.depth - 1) (omega arith) in
    let id = get_or c.args.self.now.groups (c.args.depth - 1) c.index-self-above.result in
    ap (Slot id) index
    ∙ sym (place_below c.args.k c.args.self.now.groups (c.args.depth - 1) id
    (slice_get-get_or c.args.self.now.groups (c.args.depth - 1) c.index-self-above.result
    (omega arith)))
    ∙ ap (place_on c.args.k c.args.self.now.groups) more
