use Rattle.std.proofs.Common.{◌≡◌, ◌∙◌, ℕ, suc, ◌+◌, Bool, true, false, ◌||◌, Some, refl, sym, ap, subst, arith}
use Rattle.std.specs.Prelude.{slice_get}
use Rattle.std.proofs.lemmas.Option.{slice_get-get_or}
use Rattle.std.proofs.lemmas.List.Elements.{All-get_or}
use Rattle.rc_facts.specs.Facts.{holds}
use Rattle.rc_prove.specs.Passing.{Reached}
use Rattle.rc_prove.specs.Visiting.{sets_of, SpotFits}
use Rattle.rc_prove.proofs.Shapes.{shape_none, shape_then, fewer_none, fewer_then, shrinks_then, visited_fewers, visited_shrinks, spot_later, place_later, visited_shape, visited_fewer, visited_ready}
use Rattle.rc_prove.proofs.Passes.{reached_next}
use Rattle.rc_prove.proofs.visit.pass.Goals as goal

next_is : (n m : ℕ) → suc (n + m) ≡ n + (m + 1)
next_is n m = omega arith

no_more : (n : ℕ) → n ≡ n + 0
no_more n = omega arith

or_again : (a b c : Bool) → ((a || b) || c) ≡ (a || (b || c))
or_again true b c = refl
or_again false b c = refl

or_none : (a : Bool) → a ≡ (a || false)
or_none true = refl
or_none false = refl

pub loop-at-init : goal.loop-at-init
loop-at-init c = record {
  shape = shape_none (sets_of c.args.entries.now c.args.exits.now c.args.frames.now);
  fewer = fewer_none (sets_of c.args.entries.now c.args.exits.now c.args.frames.now);
  shrinks = refl;
  fits = c.requires.place;
  variables = c.requires.work;
  ready = c.requires.ready;
  reached = λ image from are start lost r. subst (Reached image c.args.place.function (from + 0) start (sets_of c.args.entries.now c.args.exits.now c.args.frames.now) (holds c.args.work.now)) (or_none lost)
      (subst (λ m. Reached image c.args.place.function m start (sets_of c.args.entries.now c.args.exits.now c.args.frames.now) (holds c.args.work.now) lost) (no_more from) r);
}

pub visit-requires-clause-spot : goal.visit-requires-clause-spot
visit-requires-clause-spot c =
    let first = sets_of c.args.entries.now c.args.exits.now c.args.frames.now in
    spot_later c.args.place first (sets_of c.loop-at.entries c.loop-at.exits c.loop-at.frames) c.index-spots-at.result c.loop-at.invariant.shape
    (subst (SpotFits c.args.place first) (sym c.index-spots-at.is) (All-get_or (SpotFits c.args.place first) c.args.spots.now c.loop-at.at c.index-spots-at.result c.loop-at-test.true c.requires.spots))

pub loop-at-preserved : goal.loop-at-preserved
loop-at-preserved c =
    let first = sets_of c.args.entries.now c.args.exits.now c.args.frames.now in
    let old = sets_of c.loop-at.entries c.loop-at.exits c.loop-at.frames in
    let new = sets_of c.visit.new.entries c.visit.new.exits c.visit.new.frames in
    let spot = c.index-spots-at.result in
    let v = c.in_ok-more.ensures.visited in
    let here : slice_get c.args.spots.now c.loop-at.at ≡ Some spot = slice_get-get_or c.args.spots.now c.loop-at.at spot c.loop-at-test.true ∙ ap Some (sym c.index-spots-at.is) in
    let fits : SpotFits c.args.place old spot = spot_later c.args.place first old spot c.loop-at.invariant.shape
    (subst (SpotFits c.args.place first) (sym c.index-spots-at.is) (All-get_or (SpotFits c.args.place first) c.args.spots.now c.loop-at.at spot c.loop-at-test.true c.requires.spots)) in
    record {
      shape = shape_then first old new c.loop-at.invariant.shape (visited_shape c.args.place spot old new c.loop-at.work c.visit.new.work c.in_ok-more.more v);
      fewer = fewer_then first old new c.loop-at.invariant.fewer (visited_fewers c.args.place spot old new c.loop-at.work c.visit.new.work c.in_ok-more.more v);
      shrinks = shrinks_then c.loop-at.lost c.in_ok-more.more first old new c.loop-at.invariant.shrinks (visited_shrinks c.args.place spot old new c.loop-at.work c.visit.new.work c.in_ok-more.more v);
      fits = place_later c.args.place old new (visited_shape c.args.place spot old new c.loop-at.work c.visit.new.work c.in_ok-more.more v) (visited_fewer c.args.place spot old new c.loop-at.work c.visit.new.work c.in_ok-more.more v) c.loop-at.invariant.fits;
      variables = c.visit.ensures.variables ∙ c.loop-at.invariant.variables;
      ready = visited_ready c.args.place spot old new c.loop-at.work c.visit.new.work c.in_ok-more.more v c.loop-at.invariant.fits fits c.loop-at.invariant.ready;
      reached = λ image from are start lost r.
          subst (Reached image c.args.place.function (from + (c.loop-at.at + 1)) start new (holds c.visit.new.work)) (or_again lost c.loop-at.lost c.in_ok-more.more)
          (subst (λ m. Reached image c.args.place.function m start new (holds c.visit.new.work) ((lost || c.loop-at.lost) || c.in_ok-more.more)) (next_is from c.loop-at.at)
          (reached_next image (from + c.loop-at.at) c.args.place spot are.copies are.result (are.each c.loop-at.at spot here) (let l = are.inside in let t = c.loop-at-test.true in omega (arith, l, t)) fits.below start old new c.loop-at.work c.visit.new.work (lost || c.loop-at.lost) c.in_ok-more.more v
          (c.loop-at.invariant.reached image from are start lost r)));
    }

pub returns : goal.returns
returns c = record {
  shape = c.loop-at.invariant.shape;
  fewer = c.loop-at.invariant.fewer;
  shrinks = c.loop-at.invariant.shrinks;
  reached = λ image from are start lost r. subst (λ m. Reached image c.args.place.function (from + m) start (sets_of c.loop-at.entries c.loop-at.exits c.loop-at.frames) (holds c.loop-at.work) (lost || c.loop-at.lost)) (let f = c.loop-at-test.false in let e = c.loop-at.auto.at-end in omega (arith, f, e)) (c.loop-at.invariant.reached image from are start lost r);
}
