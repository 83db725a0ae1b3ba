use Rattle.std.proofs.Common.{List, ℕ, refl, sym, subst}
use Rattle.std.proofs.lemmas.Result.{on_err_weaker, on_ok_weaker}
use Rattle.oct_key.specs.Block.{root_block}
use Rattle.oct_io.specs.Taken.{IsTaken, IsRefused}
use Rattle.oct_tree.specs.Classes.{classes_in}
use Rattle.oct_bt.proofs.Encodings.{data_of_mixture}
use Rattle.oct_bt.proofs.encoding.write_data.Goals as goal

pub returns-in-Pure-clause-written : goal.returns-in-Pure-clause-written
returns-in-Pure-clause-written g c =
    (let text = data_of_mixture (classes_in c.args.tree.now) c.args.mixture _ c.requires
    c.in-Pure.is in
    on_ok_weaker c.write_leaves.result
    (λ is. subst
    (λ (t : List ℕ). IsTaken t (g.K.Sink.written c.args.sink.now) c.args.gather.now
    (g.K.Sink.written c.write_leaves.new.sink) c.write_leaves.new.gather) (sym text) is)
    c.write_leaves.ensures.written)

pub returns-in-Pure-clause-cut : goal.returns-in-Pure-clause-cut
returns-in-Pure-clause-cut g c =
    (let text = data_of_mixture (classes_in c.args.tree.now) c.args.mixture _ c.requires
    c.in-Pure.is in
    on_err_weaker c.write_leaves.result
    (λ is. subst
    (λ (t : List ℕ). IsRefused t (g.K.Sink.written c.args.sink.now) c.args.gather.now
    (g.K.Sink.written c.write_leaves.new.sink)) (sym text) is) c.write_leaves.ensures.cut)

pub returns-in-Mixed-clause-written : goal.returns-in-Mixed-clause-written
returns-in-Mixed-clause-written g c =
    (let text = data_of_mixture (classes_in c.args.tree.now) c.args.mixture _ c.requires
    c.in-Mixed.is in
    on_ok_weaker c.write_block.result
    (λ is. subst
    (λ (t : List ℕ). IsTaken t (g.K.Sink.written c.args.sink.now) c.args.gather.now
    (g.K.Sink.written c.write_block.new.sink) c.write_block.new.gather) (sym text)
    (is root_block refl)) c.write_block.ensures.written)

pub returns-in-Mixed-clause-cut : goal.returns-in-Mixed-clause-cut
returns-in-Mixed-clause-cut g c =
    (let text = data_of_mixture (classes_in c.args.tree.now) c.args.mixture _ c.requires
    c.in-Mixed.is in
    on_err_weaker c.write_block.result
    (λ is. subst
    (λ (t : List ℕ). IsRefused t (g.K.Sink.written c.args.sink.now) c.args.gather.now
    (g.K.Sink.written c.write_block.new.sink)) (sym text) (is root_block refl))
    c.write_block.ensures.cut)
