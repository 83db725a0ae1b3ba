use Rattle.std.proofs.Common.{rules, ◌∙◌, ◌≡◌, ap, length, vec_len}
use Rattle.std.specs.Prelude.{slice_set}
use Rattle.std.proofs.lemmas.List.{length-set}
use Rattle.oct_arena.specs.Entries.{with_node}
use Rattle.oct_arena.proofs.Entries.{live_within}
use Rattle.oct_arena.proofs.Chunks.{chunk_within, live_place, read_place, written_full}
use Rattle.oct_arena.proofs.Chunks.{written}
use Rattle.oct_arena.proofs.rows.Rows.set_node.Goals as goal

pub index_mut-chunk-requires : goal.index_mut-chunk-requires
index_mut-chunk-requires c =
    let len : vec_len c.self.inside.chunks ≡ length c.self.inside.chunks.items = search rules in
    rw len
    (chunk_within c.self.inside.chunks.items c.args.self.now c.args.i c.self.invariant.0
    c.self.view_is (live_within c.args.self.now c.args.i c.requires.live))

pub set_node-requires-clause-live : goal.set_node-requires-clause-live
set_node-requires-clause-live c =
    live_place c.self.inside.chunks.items c.args.self.now c.args.i c.self.invariant.0
    c.self.view_is (live_within c.args.self.now c.args.i c.requires.live)
    c.index_mut-chunk.result.now c.index_mut-chunk.ensures.value c.requires.live

pub invariant_of-self : goal.invariant_of-self
invariant_of-self c = (
  written_full c.self.inside.chunks.items c.args.self.now c.args.i c.self.invariant.0 c.self.view_is
      (live_within c.args.self.now c.args.i c.requires.live) c.index_mut-chunk.result.now
      c.index_mut-chunk.ensures.value c.set_node.new.self _ c.set_node.ensures,
  rw length-set c.self.invariant.1,
)

pub returns : goal.returns
returns c =
    let k = c.index_mut-chunk.result.now in
    written c.self.inside.chunks.items c.args.self.now c.args.i c.self.invariant.0 c.self.view_is
    (live_within c.args.self.now c.args.i c.requires.live) k c.index_mut-chunk.ensures.value
    c.set_node.new.self _ c.set_node.ensures
    ∙ ap (λ e. slice_set c.args.self.now c.args.i (with_node e c.args.j c.args.node))
    (read_place c.self.inside.chunks.items c.args.self.now c.args.i c.self.invariant.0
    c.self.view_is (live_within c.args.self.now c.args.i c.requires.live) k
    c.index_mut-chunk.ensures.value)
