use Rattle.std.proofs.Common.{◌≡◌, ◌+◌, ◌*◌, ◌≤◌, ◌^◌, ◌++◌, List, [], ◌∷◌, ◌∙◌, sym, subst}
use Rattle.std.proofs.Common.{ap, arith, length, length-append, None, Option}
use Rattle.std.proofs.lemmas.List.{length-replicate}
use Rattle.oct_arena.specs.declared.node.Group.{Group}
use Rattle.oct_arena.specs.Entries.{Groups}
use Rattle.oct_arena.specs.Chunks.{joined, AllFull}
use Rattle.oct_arena.proofs.Chunks.{length_joined, full_more, joined_more}
use Rattle.oct_arena.proofs.rows.Rows.append.Goals as goal

pub invariant_of-self-2 : goal.invariant_of-self-2
invariant_of-self-2 c =
    let cs = c.self.inside.chunks.items in let k = c.in_ok-chunk.chunk in
    let all : length (joined cs) ≡ 1024 * length cs = length_joined cs c.self.invariant.0 in
    let view : length (joined cs) ≡ length c.args.self.now = ap length c.self.view_is in
    let long : length k ≡ 1024 =
    ap length c.in_ok-chunk.ensures ∙ length-replicate {A = Option Group} 1024 None in
    let more : length (cs ++ k ∷ []) ≡ length cs + 1 = length-append cs (k ∷ []) in (
      subst AllFull (sym c.in_ok-push.ensures.items) (full_more cs k c.self.invariant.0 long),
      subst (λ (xs : List Groups). length xs ≤ 2 ^ 21) (sym c.in_ok-push.ensures.items)
          (omega arith),
    )

pub returns-clause-ok : goal.returns-clause-ok
returns-clause-ok c =
    let cs = c.self.inside.chunks.items in let k = c.in_ok-chunk.chunk in
    ap joined c.in_ok-push.ensures.items ∙ joined_more cs k
    ∙ ap (λ xs. xs ++ k) c.self.view_is ∙ ap (λ xs. c.args.self.now ++ xs) c.in_ok-chunk.ensures
