use Rattle.std.proofs.Common.{rules, ◌≡◌, ◌*◌, ◌+◌, ◌++◌, ap, ◌∙◌, arith, length, vec_len}
use Rattle.oct_arena.specs.Entries.{vacant}
use Rattle.oct_arena.specs.Chunks.{joined}
use Rattle.oct_arena.proofs.Chunks.{length_joined}
use Rattle.oct_arena.proofs.Calls.{replicate_more}
use Rattle.oct_arena.proofs.Copies.{copied_none, copied_all}
use Rattle.oct_arena.proofs.rows.Rows.copy.Goals as goal

-- memory runs out only where there is a chunk, and so an entry
pub returns-in_err-append-clause-none : goal.returns-in_err-append-clause-none
returns-in_err-append-clause-none c = λ none.
    let cs = c.self.inside.chunks.items in
    let len : vec_len c.self.inside.chunks ≡ length cs = search rules in
    let all : length (joined cs) ≡ 1024 * length cs = length_joined cs c.self.invariant.0 in
    let no : length (joined cs) ≡ 0 = ap length (c.self.view_is ∙ none) in
    let some = c.room-test.true in
    let end : c.len-chunk-end.result ≡ length cs = c.len-chunk-end.ensures ∙ len in
    absurd (omega arith)

pub room-preserved : goal.room-preserved
room-preserved c =
    let more : 1024 * c.room._chunk + 1024 ≡ 1024 * (c.room._chunk + 1) = omega arith in
    c.in_ok-append.ensures.ok ∙ ap (λ gs. gs ++ vacant 1024) c.room.invariant
    ∙ replicate_more (1024 * c.room._chunk) 1024 ∙ ap vacant more

pub copy-init : goal.copy-init
copy-init c =
    let cs = c.self.inside.chunks.items in
    let len : vec_len c.self.inside.chunks ≡ length cs = search rules in
    let all : length (joined cs) ≡ 1024 * length cs = length_joined cs c.self.invariant.0 in
    let view : length (joined cs) ≡ length c.args.self.now = ap length c.self.view_is in
    let end : c.len-chunk-end.result ≡ length cs = c.len-chunk-end.ensures ∙ len in
    let at_end = c.room-test.false in let within = c.room.auto._chunk-end in
    let as_long : 1024 * c.room._chunk ≡ length c.args.self.now = omega arith in
    copied_none c.args.self.now c.room.rows (c.room.invariant ∙ ap vacant as_long)

pub returns-clause-exact : goal.returns-clause-exact
returns-clause-exact c =
    let at_end = c.copy-test.false in let within = c.copy.auto.i-end in
    let all : c.copy.i ≡ c.args.used = omega arith in
    copied_all c.args.self.now c.copy.rows c.copy.i c.copy.invariant
    (λ j l. c.requires.empty j (omega arith))
