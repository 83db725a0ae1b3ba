use Rattle.std.proofs.Common.{rules, ap, ◌∙◌}
use Rattle.std.proofs.lemmas.Int.{to_z-of_z}
use mir.Val.{SFits}
use mir.Syntax.{w32}
use Rattle.oct_odds.specs.Odds.{Odds}
use Rattle.oct_tree.specs.Tree.{Tree}
use Rattle.oct_session.specs.declared.kinds.Question.TheVariants.{Get, List, Cast, Counts, Changes}
use Rattle.oct_session.specs.Commands.{get_reply}
use Rattle.oct_session.specs.Standing.{with_reply}
use Rattle.oct_session.proofs.Replying.{cast_calm, cast_told, get_told, list_told, query_calm}
use Rattle.oct_session.proofs.Replying.{tells_as, told_as}
use Rattle.oct_session.proofs.RunningOut.{list_runs_out, question_runs_out}
use Rattle.oct_session.proofs.commands.ask.Goals as goal

pub tell_value-requires : goal.tell_value-requires
tell_value-requires c = query_calm c.args.map.now c.in-Get.p c.in-Get.depth c.get.result
    c.get.ensures.answer

pub returns-in-Get-clause-told : goal.returns-in-Get-clause-told
returns-in-Get-clause-told c = tells_as c.tell_value.new.reply c.args.map.now c.args.map.now
    c.args.question (Get c.in-Get.p c.in-Get.depth) c.in-Get.is
    (get_told c.tell_value.new.reply c.args.map.now c.in-Get.p c.in-Get.depth c.get.result
    (c.tell_value.ensures ∙ ap (λ odds. get_reply odds c.get.result)
    (c.odds.ensures ∙ ap (λ (t : Tree). t.odds) c.tree-in-Get.ensures.exact)) c.get.ensures.answer)

pub returns-in-List-clause-told : goal.returns-in-List-clause-told
returns-in-List-clause-told c =
    let fits : SFits w32 c.odds-threshold.result.thr = search rules in
    told_as (with_reply c.tell_blocks.result c.tell_blocks.new.reply) c.args.map.now c.args.map.now
    c.args.question (List c.in-List.lo c.in-List.hi c.in-List.depth) c.in-List.is
    (list_told (with_reply c.tell_blocks.result c.tell_blocks.new.reply) c.args.map.now c.in-List.lo
    c.in-List.hi c.in-List.depth c.list.result _ c.tell_blocks.ensures.ok c.tell_blocks.ensures.some
    (to_z-of_z w32 c.odds-threshold.result.thr fits
    ∙ ap (λ (o : Odds). o.thr)
    (c.odds-threshold.ensures ∙ ap (λ (t : Tree). t.odds) c.tree.ensures.exact))
    c.list.ensures.answer)

pub returns-in-List-clause-memory : goal.returns-in-List-clause-memory
returns-in-List-clause-memory c =
    question_runs_out c.tell_blocks.result c.args.map.now c.args.question
    (List c.in-List.lo c.in-List.hi c.in-List.depth) c.in-List.is
    (list_runs_out c.tell_blocks.result c.args.map.now c.in-List.lo c.in-List.hi c.in-List.depth
    c.list.result c.tell_blocks.ensures.err c.list.ensures.memory)

pub tell_found-requires : goal.tell_found-requires
tell_found-requires c = cast_calm c.args.map.now c.in-Cast.o c.in-Cast.e c.in-Cast.ignore
    c.cast.result c.cast.ensures.answer

pub returns-in-Cast-clause-told : goal.returns-in-Cast-clause-told
returns-in-Cast-clause-told c = tells_as c.tell_found.new.reply c.args.map.now c.args.map.now
    c.args.question (Cast c.in-Cast.o c.in-Cast.e c.in-Cast.ignore) c.in-Cast.is
    (cast_told c.tell_found.new.reply c.args.map.now c.in-Cast.o c.in-Cast.e c.in-Cast.ignore
    c.cast.result c.tell_found.ensures c.cast.ensures.answer)

pub returns-in-Counts-clause-told : goal.returns-in-Counts-clause-told
returns-in-Counts-clause-told c = tells_as c.count.new.reply c.args.map.now c.count.new.map
    c.args.question Counts c.in-Counts.is c.count.ensures

pub returns-in-Changes-clause-told : goal.returns-in-Changes-clause-told
returns-in-Changes-clause-told c =
    told_as (with_reply c.changes.result c.changes.new.reply) c.args.map.now c.args.map.now
    c.args.question Changes c.in-Changes.is c.changes.ensures.told

pub returns-in-Changes-clause-memory : goal.returns-in-Changes-clause-memory
returns-in-Changes-clause-memory c =
    question_runs_out c.changes.result c.args.map.now c.args.question Changes c.in-Changes.is
    c.changes.ensures.memory
