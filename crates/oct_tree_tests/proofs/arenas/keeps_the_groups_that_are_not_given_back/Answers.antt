use Rattle.oct_arena.specs.Entries.{IsLive}
use Rattle.oct_arena.proofs.Callers.{live_taken, taken_apart, live_past_take, live_past_give}
use Rattle.oct_arena.proofs.Callers.{live_past_set_node}
use Rattle.oct_tree_tests.proofs.arenas.keeps_the_groups_that_are_not_given_back.Goals as goal

pub expect_group-requires-2 : goal.expect_group-requires-2
expect_group-requires-2 g c =
    let second : IsLive c.take-second.new.self c.take-second.result.number =
    live_taken _ _ _ _ c.take-second.ensures.filled c.take-second.ensures.within in
    let third : IsLive c.take-third.new.self c.take-third.result.number =
    live_taken _ _ _ _ c.take-third.ensures.filled c.take-third.ensures.within in
    let kept : IsLive c.give.new.self c.take-third.result.number =
    live_past_give _ _ _ _ c.give.ensures.vacated
    (taken_apart _ _ _ second c.take-third.ensures.vacant) third in
    live_past_take _ _ _ _ _ c.take-fourth.ensures.filled c.take-fourth.ensures.vacant kept

pub set_node-requires-clause-live : goal.set_node-requires-clause-live
set_node-requires-clause-live g c =
    let second : IsLive c.take-second.new.self c.take-second.result.number =
    live_taken _ _ _ _ c.take-second.ensures.filled c.take-second.ensures.within in
    let third : IsLive c.take-third.new.self c.take-third.result.number =
    live_taken _ _ _ _ c.take-third.ensures.filled c.take-third.ensures.within in
    let kept : IsLive c.give.new.self c.take-third.result.number =
    live_past_give _ _ _ _ c.give.ensures.vacated
    (taken_apart _ _ _ second c.take-third.ensures.vacant) third in
    live_past_take _ _ _ _ _ c.take-fourth.ensures.filled c.take-fourth.ensures.vacant kept

pub expect_group-requires-4 : goal.expect_group-requires-4
expect_group-requires-4 g c =
    let second : IsLive c.take-second.new.self c.take-second.result.number =
    live_taken _ _ _ _ c.take-second.ensures.filled c.take-second.ensures.within in
    let third : IsLive c.take-third.new.self c.take-third.result.number =
    live_taken _ _ _ _ c.take-third.ensures.filled c.take-third.ensures.within in
    let kept : IsLive c.give.new.self c.take-third.result.number =
    live_past_give _ _ _ _ c.give.ensures.vacated
    (taken_apart _ _ _ second c.take-third.ensures.vacant) third in
    let there =
    live_past_take _ _ _ _ _ c.take-fourth.ensures.filled c.take-fourth.ensures.vacant kept in
    live_past_set_node _ _ _ 2 _ _ c.set_node.ensures.changed there there
