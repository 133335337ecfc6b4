use Rattle.std.proofs.Common.{◌≡◌, ◌∙◌, ◌↔◌, ◌+◌, suc, IsTrue, List, [], get_or, sym, subst, ap, length, ◌<◌, Some, arith}
use Rattle.std.specs.Prelude.{slice_get}
use Rattle.std.proofs.lemmas.Option.{slice_get-get_or}
use Rattle.std.proofs.lemmas.List.{length-map, get_or-map}
use Rattle.std.proofs.lemmas.List.Elements.{All-get_or}
use Rattle.rc_facts.specs.Derivable.{Derivable}
use Rattle.rc_facts.specs.Facts.{Known, holds}
use Rattle.rc_facts.specs.Flow.{set_at}
use Rattle.rc_graph.specs.Nodes.{effect_of}
use Rattle.rc_carrying.specs.Passing.{CarriesOver}
use Rattle.rc_prove.specs.Family.{items_of, family_of, sets_at}
use Rattle.rc_prove.specs.Visiting.{SpotFits}
use Rattle.rc_prove_marks.proofs.Going.{asked_over, goes_to, tells_checked}
use Rattle.rc_prove_marks.proofs.marks.go_on.Goals as goal

pub proves-proved-requires : goal.proves-proved-requires
proves-proved-requires c =
    let m = family_of c.args.claims.now.entries.items c.args.claims.now.exits.items c.args.claims.now.frames.items in
    let route = c.args.route.now in
    let spot = c.index-spot.result.now in
    let fit : SpotFits route.place (sets_at m route.place.function) spot = subst (SpotFits route.place (sets_at m route.place.function)) (sym c.index-spot.ensures)
    (All-get_or (SpotFits route.place (sets_at m route.place.function)) route.spots.items c.args.at spot c.requires.there c.requires.fits.spots) in
    asked_over c.args.work.now.variables (suc route.place.result) (let w = c.requires.here.wide in omega (arith, w)) (effect_of spot.effect) fit.below

pub returns : goal.returns
returns c =
    let m = family_of c.args.claims.now.entries.items c.args.claims.now.exits.items c.args.claims.now.frames.items in
    let route = c.args.route.now in
    let g = route.place.function in
    let spot = c.index-spot.result.now in
    let n = suc (suc route.place.result) in
    let before = c.args.work.now in
    let mid = c.carry.new.set in
    let after = c.restart.new.work in
    let wide = c.requires.here.wide in
    let fit : SpotFits route.place (sets_at m g) spot = subst (SpotFits route.place (sets_at m g)) (sym c.index-spot.ensures)
    (All-get_or (SpotFits route.place (sets_at m g)) route.spots.items c.args.at spot c.requires.there c.requires.fits.spots) in
    let there : slice_get route.spots.items c.args.at ≡ Some spot = slice_get-get_or route.spots.items c.args.at spot c.requires.there ∙ ap Some (sym c.index-spot.ensures) in
    let within : g < length c.args.claims.now.frames.items = (let f = c.requires.fits.frames in let l = length-map c.args.claims.now.frames.items items_of in omega (arith, f, l)) in
    let frames : c.as_slice-2.result.now ≡ get_or m.frames g [] = c.as_slice-2.ensures.value ∙ ap items_of c.index.ensures ∙ sym (get_or-map items_of c.args.claims.now.frames.items g c.index.result.now [] within) in
    let next : route.place.result + 1 ≡ suc route.place.result = omega arith in
    let carries : CarriesOver n (suc route.place.result) m.exits (effect_of spot.effect) spot.low spot.top (holds before) (holds mid) =
    subst (λ k. CarriesOver k (suc route.place.result) m.exits (effect_of spot.effect) spot.low spot.top (holds before) (holds mid)) wide
    (subst (λ s. CarriesOver before.variables s m.exits (effect_of spot.effect) spot.low spot.top (holds before) (holds mid)) next
    (subst (λ (xs : List Known). CarriesOver before.variables (route.place.result + 1) xs (effect_of spot.effect) spot.low spot.top (holds before) (holds mid)) c.as_slice.ensures.value c.in_ok-carry.ensures.facts)) in
    record {
      next = goes_to route m c.requires.fits c.args.at spot there fit before mid after c.requires.here c.carry.ensures.variables c.restart.ensures.variables carries (record {
        kept = λ e. c.restart.ensures.kept (c.set-next.ensures ∙ e);
        whole = λ r e fact. subst (λ (fs : List Known). IsTrue (holds after fact) ↔ Derivable n (set_at fs r) fact) frames
            (subst (λ k. IsTrue (holds after fact) ↔ Derivable k (set_at c.as_slice-2.result.now r) fact) (c.carry.ensures.variables ∙ wide) (c.restart.ensures.whole r (c.set-next.ensures ∙ e) fact));
      });
      tells = tells_checked route m c.args.at spot there before c.requires.here c.proves-proved.result c.proves-proved.ensures;
    }
