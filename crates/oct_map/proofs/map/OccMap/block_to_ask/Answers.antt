use Rattle.std.proofs.Common.{◌≡◌, ◌∙◌, ◌≤◌, false, inl, inr, sym, ap, subst, rules}
use Rattle.std.specs.Prelude.{◌⊎◌}
use Rattle.oct_key.specs.Voxel.{key_at}
use Rattle.oct_key.specs.CubeOf.{cube_of}
use Rattle.oct_map.specs.Asked.{IsToAsk}
use Rattle.oct_map.specs.Map.{Map}
use Rattle.oct_map.proofs.map.OccMap.block_to_ask.Goals as goal
use Rattle.oct_map.proofs.map.OccMap.block_to_ask.Goals.{else-self-via-then-self+else-depth-lt-VOXEL_DEPTH}
use Rattle.oct_map.proofs.map.OccMap.block_to_ask.Goals.{else-self-via-else-self}

-- the map isn't stale, or it is asked for a voxel
may_answer : (c : goal.After-of) → (c.self.inside.is_stale ≡ false) ⊎ (16 ≤ c.args.depth)
may_answer c = elim c.else-self.branch [
  | else-self-via-then-self+else-depth-lt-VOXEL_DEPTH w ↦ inr w.if-depth-lt-VOXEL_DEPTH.false
  | else-self-via-else-self w ↦ inl w.if-self.false
]

pub returns-clause-ok : goal.returns-clause-ok
returns-clause-ok c =
    subst (λ (m : Map). IsToAsk m c.args.p c.args.depth (cube_of c.of.result)) c.self.view_is
    (record {
      voxel = c.in-Some.k;
      in_map = search rules;
      key = ap (λ n. key_at n c.args.p) (sym c.res.ensures) ∙ sym c.key_of.ensures.exact
          ∙ c.in-Some.is;
      block = c.of.ensures.exact;
      low = c.if-depth-gt-VOXEL_DEPTH.false;
      fresh = may_answer c;
    })
