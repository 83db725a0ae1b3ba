use Rattle.std.proofs.Common.{◌+◌, ◌≤◌, ◌++◌, length, refl, sym, ap, subst, ◌∙◌, rules, arith}
use Rattle.std.proofs.Common.{append-nil}
use Rattle.std.specs.Prelude.{vec_len, vec_capacity}
use Rattle.oct_key.specs.Block.{Cube}
use Rattle.oct_key.specs.CubeOf.{cube_of}
use Rattle.oct_key.proofs.Blocks.{depth_child_of}
use Rattle.oct_frontier.specs.Found.{found_in}
use Rattle.oct_frontier.proofs.Walks.{list_start, list_step, list_room, list_end}
use Rattle.oct_frontier.proofs.walk.+list_under.Goals as goal
use Rattle.oct_frontier.proofs.walk.+list_under.Goals.{in-Pass, in-Take, in-Enter}

pub loop-i-init : goal.loop-i-init
loop-i-init t c = record {
  listed = list_start c.args.tree.now c.args.lo c.args.hi (cube_of c.args.patch.now.block)
      c.args.keys.now.items;
  capacity = refl;
}

pub push_reserved-requires : goal.push_reserved-requires
push_reserved-requires t c =
    let one = ap length c.in-Take.ensures in
    let same = c.loop-i.invariant.capacity in
    let room = list_room c.args.tree.now c.args.lo c.args.hi (cube_of c.args.patch.now.block) _
    c.loop-i.i c.args.keys.now.items
    c.loop-i.keys.items (vec_len c.args.keys.now) (vec_len c.loop-i.keys)
    (vec_capacity c.args.keys.now) c.requires.depth
    (omega arith) c.loop-i.invariant.listed refl (search rules) (search rules) c.requires.room in
    omega (arith, one, same, room)

pub list_under-requires : goal.list_under-requires
list_under-requires t c =
    let depth = ap (λ (b : Cube). b.depth) c.child.ensures.block in
    let deep = depth_child_of (cube_of c.args.patch.now.block) c.loop-i.i in
    let low = c.in-Enter.ensures in
    let d = c.decreases in
    let room = list_room c.args.tree.now c.args.lo c.args.hi (cube_of c.args.patch.now.block)
    (cube_of c.child.result.block)
    c.loop-i.i c.args.keys.now.items c.loop-i.keys.items (vec_len c.args.keys.now)
    (vec_len c.loop-i.keys)
    (vec_capacity c.args.keys.now) c.requires.depth (omega arith) c.loop-i.invariant.listed
    c.child.ensures.block
    (search rules) (search rules) c.requires.room in (
      search rules,
      (
        c.child.ensures.patch,
        (
          omega (arith, depth, low),
          (
            c.requires.order,
            subst (λ r. vec_len c.loop-i.keys
                + length (found_in c.args.tree.now c.args.lo c.args.hi
                (cube_of c.child.result.block))
                ≤ r)
                (sym c.loop-i.invariant.capacity) room,
          ),
        ),
      ),
    )

pub loop-i-preserved : goal.loop-i-preserved
loop-i-preserved t c = elim c.match-look_at.branch [
  | in-Pass w ↦ record {
    listed = list_step c.args.tree.now c.args.lo c.args.hi (cube_of c.args.patch.now.block) _
        c.loop-i.i
        c.args.keys.now.items c.loop-i.keys.items c.match-look_at.keys.items
        c.loop-i.invariant.listed refl
        (ap (λ v. v.items) w.keys-is
        ∙ sym (ap (λ l. c.loop-i.keys.items ++ l) w.in-Pass.ensures
        ∙ append-nil c.loop-i.keys.items));
    capacity = ap vec_capacity w.keys-is ∙ c.loop-i.invariant.capacity;
  }
  | in-Take w ↦ record {
    listed = list_step c.args.tree.now c.args.lo c.args.hi (cube_of c.args.patch.now.block) _
        c.loop-i.i
        c.args.keys.now.items c.loop-i.keys.items c.match-look_at.keys.items
        c.loop-i.invariant.listed refl
        (ap (λ v. v.items) w.keys-is ∙ w.push_reserved.ensures.items
        ∙ sym (ap (λ l. c.loop-i.keys.items ++ l) w.in-Take.ensures));
    capacity = ap vec_capacity w.keys-is ∙ w.push_reserved.ensures.capacity
        ∙ c.loop-i.invariant.capacity;
  }
  | in-Enter w ↦ record {
    listed = list_step c.args.tree.now c.args.lo c.args.hi (cube_of c.args.patch.now.block)
        (cube_of w.child.result.block) c.loop-i.i
        c.args.keys.now.items c.loop-i.keys.items c.match-look_at.keys.items
        c.loop-i.invariant.listed w.child.ensures.block
        (ap (λ v. v.items) w.keys-is ∙ w.list_under.ensures.listed);
    capacity = ap vec_capacity w.keys-is ∙ w.list_under.ensures.capacity
        ∙ c.loop-i.invariant.capacity;
  }
]

pub returns-clause-listed : goal.returns-clause-listed
returns-clause-listed t c =
    list_end c.args.tree.now c.args.lo c.args.hi (cube_of c.args.patch.now.block) c.loop-i.i
    c.args.keys.now.items
    c.loop-i.keys.items c.requires.depth (omega (arith, c.loop-i-test.false, c.loop-i.auto.i-end))
    c.loop-i.invariant.listed
