use Rattle.std.proofs.Common.{◌≡◌, ℕ, ◌<◌, ◌≤◌, ◌^◌, ◌∙◌, ap, arith, rules, slice_index_or, bit_and}
use Rattle.std.specs.Prelude.{pos, negsuc}
use Rattle.oct_odds.specs.declared.event.Event.TheVariants.{Add}
use Rattle.oct_brick.specs.declared.brick.Brick.{Brick}
use Rattle.oct_arena.specs.Entries.{spare}
use Rattle.oct_tree_tests.proofs.FewVoxels.{two_need, two_are, masked_brick}
use Rattle.oct_tree_tests.proofs.edits.scan.scan.Goals as goal

pub touch_all-requires-clause-bricks : goal.touch_all-requires-clause-bricks
touch_all-requires-clause-bricks g c =
    let first : 0 < (slice_index_or c.args.masks 0 (0, 0)).0 = search rules in
    let last : 0 < (slice_index_or c.args.masks 1 (0, 0)).0 = search rules in
    let first_fits : (slice_index_or c.args.masks 0 (0, 0)).0 < 2 ^ 64 = search rules in
    let last_fits : (slice_index_or c.args.masks 1 (0, 0)).0 < 2 ^ 64 = search rules in
    two_are _ _
    (masked_brick 3848290697216 (slice_index_or c.args.masks 0 (0, 0)).0
    (slice_index_or c.args.masks 0 (0, 0)).1 (omega arith) first first_fits)
    (masked_brick 3848290697217 (slice_index_or c.args.masks 1 (0, 0)).0
    (slice_index_or c.args.masks 1 (0, 0)).1 (omega arith) last last_fits)

abbrev masked : ℕ → ℕ → ℕ → Brick
masked code scanned hits = record { code = code; scanned = scanned; hits = bit_and scanned hits }

fits : (n room : ℕ) → n ≤ 4096 → 4096 ≤ room → n ≤ room
fits n room few there = omega (arith, few, there)

pub touch_all-requires-clause-room : goal.touch_all-requires-clause-room
touch_all-requires-clause-room g c =
    let there : c.spare.result ≡ spare c.args.tree.now.groups =
    c.spare.ensures.exact ∙ ap spare c.arena.ensures.exact in
    fits _ _ (two_need
    (masked 3848290697216 (slice_index_or c.args.masks 0 (0, 0)).0
    (slice_index_or c.args.masks 0 (0, 0)).1)
    (masked 3848290697217 (slice_index_or c.args.masks 1 (0, 0)).0
    (slice_index_or c.args.masks 1 (0, 0)).1)
    (Add (pos 850)) (Add (negsuc 399))) (omega (arith, there))
