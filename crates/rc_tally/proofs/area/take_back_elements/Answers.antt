use Rattle.std.proofs.Common.{◌+◌, drop, length, arith, refl}
use Rattle.rc_tally.specs.Tally.{codes_refs}
use Rattle.rc_tally.proofs.Taken.{again, element_less, element_more, enough_left, mul_mono, suc_times, taken_more, taken_none}
use Rattle.rc_tally.proofs.area.take_back_elements.Goals as goal

pub loop-init : goal.loop-init
loop-init g c = record {
  place = omega arith;
  taken = taken_none c.args.directory.now _ (λ r. refl);
  cost = omega arith;
  never_falls = omega arith;
}

pub take_back_element-requires-clause-inside : goal.take_back_element-requires-clause-inside
take_back_element-requires-clause-inside g c =
    let next = mul_mono (c.loop.counter + 1) c.args.head.count (length c.args.shape.now) (omega (arith, c.loop-test.true)) in
    omega (arith, next, suc_times c.loop.counter (length c.args.shape.now), c.loop.invariant.place, c.requires.inside)

pub overflow_add-place : goal.overflow_add-place
overflow_add-place g c =
    let next = mul_mono (c.loop.counter + 1) c.args.head.count (length c.args.shape.now) (omega (arith, c.loop-test.true)) in
    omega (arith, next, suc_times c.loop.counter (length c.args.shape.now), c.loop.invariant.place, c.requires.inside, c.requires.few)

pub take_back_element-requires-clause-enough : goal.take_back_element-requires-clause-enough
take_back_element-requires-clause-enough g c =
    let shape = c.args.shape.now in
    let codes = c.args.area.now.codes in
    let start = c.args.head.start in
    enough_left c.args.directory.now c.loop.directory (λ r. codes_refs r c.args.holder (again c.loop.counter shape) (drop start codes)) (λ r. codes_refs r c.args.holder shape (drop c.loop.place codes))
    (λ r. codes_refs r c.args.holder (again c.args.head.count shape) (drop start codes)) c.loop.invariant.taken c.requires.enough
    (λ r. element_less r c.args.holder shape codes start c.loop.counter c.loop.place c.loop.invariant.place c.args.head.count c.loop-test.true)

pub loop-preserved : goal.loop-preserved
loop-preserved g c =
    let shape = c.args.shape.now in
    let codes = c.args.area.now.codes in
    let start = c.args.head.start in
    record {
      place = omega (arith, c.loop.invariant.place, suc_times c.loop.counter (length shape));
      taken = taken_more c.args.directory.now c.loop.directory c.take_back_element.new.directory (λ r. codes_refs r c.args.holder (again c.loop.counter shape) (drop start codes)) (λ r. codes_refs r c.args.holder shape (drop c.loop.place codes))
          (λ r. codes_refs r c.args.holder (again (c.loop.counter + 1) shape) (drop start codes)) c.loop.invariant.taken c.take_back_element.ensures.taken
          (λ r. element_more r c.args.holder shape codes start c.loop.counter c.loop.place c.loop.invariant.place);
      cost = omega (arith, c.loop.invariant.cost, c.take_back_element.ensures.cost, suc_times c.loop.counter (length shape));
      never_falls = omega (arith, c.loop.invariant.never_falls, c.take_back_element.ensures.never_falls);
    }
