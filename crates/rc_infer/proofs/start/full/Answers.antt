use Rattle.std.proofs.Common.{rules, ◌≡◌, ◌<◌, ◌∙◌, length, map, ap, subst, arith}
use Rattle.std.specs.Prelude.{slice_get, Some}
use Rattle.rc_rlang.specs.declared.code.RegionParts.{RegionParts}
use Rattle.rc_rlang.specs.Shapes.{rlang_of}
use Rattle.rc_edges.specs.Inferred.{family_of}
use Rattle.rc_infer.specs.Starting.{Started}
use Rattle.rc_infer.proofs.Places.{found_at, pushed, sets_of, some_at}
use Rattle.rc_infer.proofs.Starts.{few_variables, few_copies, heads_long, started_all, started_at, started_more}
use Rattle.rc_infer.proofs.start.full.Goals as goal

pub points-requires-clause-few : goal.points-requires-clause-few
points-requires-clause-few c =
    let r = rlang_of c.args.code.now in
    let gs = c.args.graphs.now in
    let g = c.loop-g.g in
    let lt : g < length gs = search rules in
    let graph = c.index-graphs-g.result in
    let at : slice_get gs g ≡ Some graph = found_at gs g graph lt c.index-graphs-g.is in
    let is = c.parts-parts.ensures.fits in
    let f = some_at r.functions g (let l = c.requires.long in omega (arith, lt, l)) in
    let of = c.requires.each g f.0 graph f.1 at in
    few_variables r is g f.0 f.1 graph of

pub points-requires-clause-heads : goal.points-requires-clause-heads
points-requires-clause-heads c =
    let r = rlang_of c.args.code.now in
    let gs = c.args.graphs.now in
    let g = c.loop-g.g in
    let lt : g < length gs = search rules in
    let graph = c.index-graphs-g.result in
    let at : slice_get gs g ≡ Some graph = found_at gs g graph lt c.index-graphs-g.is in
    let is = c.parts-parts.ensures.fits in
    let f = some_at r.functions g (let l = c.requires.long in omega (arith, lt, l)) in
    let of = c.requires.each g f.0 graph f.1 at in
    heads_long r is g f.0 f.1 graph of

pub entry-requires : goal.entry-requires
entry-requires c =
    let r = rlang_of c.args.code.now in
    let gs = c.args.graphs.now in
    let g = c.loop-g.g in
    let lt : g < length gs = search rules in
    let graph = c.index-graphs-g.result in
    let at : slice_get gs g ≡ Some graph = found_at gs g graph lt c.index-graphs-g.is in
    let is = c.parts-parts.ensures.fits in
    let f = some_at r.functions g (let l = c.requires.long in omega (arith, lt, l)) in
    let of = c.requires.each g f.0 graph f.1 at in
    let few = few_copies r is g f.0 f.1 graph of in omega (arith, few)

pub full-requires : goal.full-requires
full-requires c =
    let r = rlang_of c.args.code.now in
    let gs = c.args.graphs.now in
    let g = c.loop-g.g in
    let lt : g < length gs = search rules in
    let graph = c.index-graphs-g.result in
    let at : slice_get gs g ≡ Some graph = found_at gs g graph lt c.index-graphs-g.is in
    let is = c.parts-parts.ensures.fits in
    let f = some_at r.functions g (let l = c.requires.long in omega (arith, lt, l)) in
    let of = c.requires.each g f.0 graph f.1 at in
    few_copies r is g f.0 f.1 graph of

pub loop-g-preserved : goal.loop-g-preserved
loop-g-preserved c =
    let r = rlang_of c.args.code.now in
    let gs = c.args.graphs.now in
    let g = c.loop-g.g in
    let lt : g < length gs = search rules in
    let graph = c.index-graphs-g.result in
    let at : slice_get gs g ≡ Some graph = found_at gs g graph lt c.index-graphs-g.is in
    let is = c.parts-parts.ensures.fits in
    let f = some_at r.functions g (let l = c.requires.long in omega (arith, lt, l)) in
    let of = c.requires.each g f.0 graph f.1 at in
    let old = c.loop-g.facts in
    let sets = c.in_ok-sets.sets in
    let new = started_at r is g f.0 f.1 graph of sets.items c.in_ok-first.first c.in_ok-last.last c.parts-parts.result.now.main c.in_ok-sets.ensures.long c.in_ok-sets.ensures.whole c.in_ok-first.ensures.variables (ap (λ (p : RegionParts). p.main) c.parts-parts.ensures.parts) c.in_ok-first.ensures.facts c.in_ok-last.ensures.variables c.in_ok-last.ensures.facts in
    started_more r gs c.requires g f.0 graph (family_of old) (family_of (record { graphs = old.graphs; points = c.push.new.self; entries = c.push-in-loop-g.new.self; exits = c.push-in-loop-g-2.new.self })) sets.items c.in_ok-first.first c.in_ok-last.last f.1 at c.loop-g.invariant
    (ap (map sets_of) c.in_ok-push.ensures.items ∙ pushed old.points.items sets)
    c.in_ok-push-2.ensures.items c.in_ok-push-3.ensures.items new

pub returns : goal.returns
returns c =
    let r = rlang_of c.args.code.now in
    let gs = c.args.graphs.now in
    let test = c.loop-g-test.false in
    let top = c.loop-g.auto.g-end in
    let long = c.requires.long in
    let all : c.loop-g.g ≡ length r.functions = omega (arith, test, top, long) in
    started_all r gs c.requires c.parts-parts.ensures.fits (family_of c.loop-g.facts) (subst (λ k. Started r gs k (family_of c.loop-g.facts)) all c.loop-g.invariant)
