use Rattle.std.proofs.Common.{◌≡◌, ◌∙◌, ◌+◌, suc, length, refl, ap, subst, arith}
use Rattle.rc_sealed.specs.Carrying.{height}
use Rattle.rc_image_steps.specs.Sites.{function_in, image_of}
use Rattle.rc_prove.specs.Visiting.{SpotIs}
use Rattle.rc_prove_routes.specs.Routed.{AreFirstSpots}
use Rattle.rc_prove_routes.proofs.Routing.{spots_more, spots_none}
use Rattle.rc_prove_routes.proofs.spots.spots_of.Goals as goal

pub loop-at-init : goal.loop-at-init
loop-at-init c = record {
  high = refl;
  are = spots_none (image_of c.args.walk.now.site) c.args.walk.now.site.number c.in_ok-spots.spots.items c.in_ok-spots.ensures.items;
}

pub loop-at-preserved : goal.loop-at-preserved
loop-at-preserved c =
    let W = c.args.walk.now in
    let number = c.in_ok-number.number in
    let same : suc number ≡ c.loop-at.at + 1 = (let n = c.in_ok-number.ensures in omega (arith, n)) in
    record {
      high = c.next_height-next.ensures ∙ ap (height (image_of W.site) (function_in W.site)) same;
      are = spots_more (image_of W.site) W.site.number c.loop-at.at c.loop-at.spots.items c.put.new.out.items c.in_ok-spot.spot c.in_ok-put.ensures (subst (λ k. SpotIs (image_of W.site) W.site.number k c.in_ok-spot.spot) c.in_ok-number.ensures c.in_ok-spot.ensures) c.loop-at.invariant.are;
    }

pub returns : goal.returns
returns c =
    let W = c.args.walk.now in
    let last : c.loop-at.at ≡ length (function_in W.site).code = (let f = c.loop-at-test.false in let a = c.loop-at.auto.at-end in let e = c.size_of-size.ensures in omega (arith, f, a, e)) in
    subst (λ k. AreFirstSpots (image_of W.site) W.site.number k c.loop-at.spots.items) last c.loop-at.invariant.are
