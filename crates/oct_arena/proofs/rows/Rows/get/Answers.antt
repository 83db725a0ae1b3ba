use Rattle.std.proofs.Common.{rules, sym, ◌∙◌, ◌≡◌, length, vec_len}
use Rattle.oct_arena.proofs.Entries.{live_within}
use Rattle.oct_arena.proofs.Chunks.{chunk_within, live_place, read_place}
use Rattle.oct_arena.proofs.rows.Rows.get.Goals as goal

pub index-chunk-requires : goal.index-chunk-requires
index-chunk-requires c =
    let len : vec_len c.self.inside.chunks ≡ length c.self.inside.chunks.items = search rules in
    rw len
    (chunk_within c.self.inside.chunks.items c.args.self.now c.args.i c.self.invariant.0
    c.self.view_is (live_within c.args.self.now c.args.i c.requires))

pub get-requires : goal.get-requires
get-requires c =
    live_place c.self.inside.chunks.items c.args.self.now c.args.i c.self.invariant.0
    c.self.view_is (live_within c.args.self.now c.args.i c.requires) c.index-chunk.result.now
    c.index-chunk.ensures c.requires

pub returns : goal.returns
returns c =
    sym (read_place c.self.inside.chunks.items c.args.self.now c.args.i c.self.invariant.0
    c.self.view_is (live_within c.args.self.now c.args.i c.requires) c.index-chunk.result.now
    c.index-chunk.ensures)
    ∙ c.get.ensures
