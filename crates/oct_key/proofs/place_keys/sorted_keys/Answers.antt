use Rattle.std.proofs.Common.{arith, refl}
use Rattle.std.specs.Fn.{FnReturnsAt}
use Rattle.std.proofs.lemmas.List.Sorted.{IsNonDecreasingBy-from_sort}
use Rattle.oct_key.proofs.PlaceKeys.{first_more, keys_moved}
use Rattle.oct_key.proofs.place_keys.sorted_keys.Goals as goal

pub overflow_mul-code_of : goal.overflow_mul-code_of
overflow_mul-code_of g c =
    let top =
    c.requires.below c.loop-place.place c.index-things-place.result c.loop-place-test.true
    c.code_of.result
    (record {
      shown = _;
      shows = c.index-things-place.is;
      says = record { met = c.code_of.ensures };
    }) in
    omega (arith, top)

pub overflow_add-code_of : goal.overflow_add-code_of
overflow_add-code_of g c =
    let top =
    c.requires.below c.loop-place.place c.index-things-place.result c.loop-place-test.true
    c.code_of.result
    (record {
      shown = _;
      shows = c.index-things-place.is;
      says = record { met = c.code_of.ensures };
    }) in
    omega (arith, top, c.requires.few, c.loop-place-test.true)

pub loop-place-preserved : goal.loop-place-preserved
loop-place-preserved g c =
    first_more (FnReturnsAt g.F.Fn c.args.code_of) c.args.step c.args.things.now
    c.loop-place.place c.code_of.result _ c.index-things-place.result c.loop-place.keys.items
    c.push.new.self.items c.requires.few c.loop-place-test.true
    (record {
      shown = _;
      shows = c.index-things-place.is;
      says = record { met = c.code_of.ensures };
    })
    refl c.in_ok-push.ensures.items c.loop-place.invariant

pub returns-clause-keys : goal.returns-clause-keys
returns-clause-keys g c =
    keys_moved (FnReturnsAt g.F.Fn c.args.code_of) c.args.step c.args.things.now
    c.loop-place.place c.loop-place.keys.items c.sort_unstable.new.self.items
    (omega (arith, c.loop-place-test.false)) c.sort_unstable.ensures.permutation
    c.loop-place.invariant

pub returns-clause-order : goal.returns-clause-order
returns-clause-order g c =
    IsNonDecreasingBy-from_sort (λ x. x) c.sort_unstable.new.self.items
    c.sort_unstable.ensures.sorted
