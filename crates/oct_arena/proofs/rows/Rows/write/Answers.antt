use Rattle.std.proofs.Common.{rules, ◌≡◌, ◌∙◌, length, vec_len}
use Rattle.std.proofs.lemmas.List.{length-set}
use Rattle.oct_arena.proofs.Chunks.{chunk_within, place_within, read_place, written_full, written}
use Rattle.oct_arena.proofs.rows.Rows.write.Goals as goal

pub index_mut-chunk-requires : goal.index_mut-chunk-requires
index_mut-chunk-requires c =
    let len : vec_len c.self.inside.chunks ≡ length c.self.inside.chunks.items = search rules in
    rw len
    (chunk_within c.self.inside.chunks.items c.args.self.now c.args.i c.self.invariant.0
    c.self.view_is c.requires.within)

pub write-requires-clause-within : goal.write-requires-clause-within
write-requires-clause-within c =
    place_within c.self.inside.chunks.items c.args.self.now c.args.i c.self.invariant.0
    c.self.view_is c.requires.within c.index_mut-chunk.result.now c.index_mut-chunk.ensures.value

pub write-requires-clause-empty : goal.write-requires-clause-empty
write-requires-clause-empty c =
    read_place c.self.inside.chunks.items c.args.self.now c.args.i c.self.invariant.0
    c.self.view_is c.requires.within c.index_mut-chunk.result.now c.index_mut-chunk.ensures.value
    ∙ c.requires.empty

pub invariant_of-self : goal.invariant_of-self
invariant_of-self c = (
  written_full c.self.inside.chunks.items c.args.self.now c.args.i c.self.invariant.0 c.self.view_is
      c.requires.within c.index_mut-chunk.result.now c.index_mut-chunk.ensures.value
      c.write.new.self _ c.write.ensures,
  rw length-set c.self.invariant.1,
)

pub returns : goal.returns
returns c =
    written c.self.inside.chunks.items c.args.self.now c.args.i c.self.invariant.0 c.self.view_is
    c.requires.within c.index_mut-chunk.result.now c.index_mut-chunk.ensures.value
    c.write.new.self _ c.write.ensures
