use Rattle.std.proofs.Common.{◌<◌, ◌∙◌, ◌++◌, ◌∷◌, [], length, take, ap, subst, arith}
use Rattle.std.specs.List.{AllByRecursion as Every}
use Rattle.std.proofs.lemmas.List.{take_all}
use Rattle.rc_code.specs.declared.image.Global.{Global}
use Rattle.rc_code.specs.declared.image.Parts.{Parts}
use Rattle.rc_worlds.specs.Meanings.{AreBytes}
use Rattle.rc_first_heap.specs.First.{first_of, holding, kept_global}
use Rattle.rc_first_heap.proofs.Each.{alone_then, few_then, globals_more, new_holds, objects_of}
use Rattle.rc_first_heap.proofs.Filling.{every_more}
use Rattle.rc_first_heap.proofs.globals.add_globals.Goals as goal

pub loop-global-init : goal.loop-global-init
loop-global-init g c = record { heap = new_holds (g.H.Heap.store c.args.heap.now) c.requires; bytes = tt }

pub add_global-requires-clause-alone : goal.add_global-requires-clause-alone
add_global-requires-clause-alone g c =
    alone_then (g.H.Heap.store c.args.heap.now) (g.H.Heap.store c.loop-global.heap) (objects_of c.args.image.now (take c.loop-global.global-index c.as_slice-global-items.result.now)) c.loop-global.invariant.heap

pub add_global-requires-clause-few : goal.add_global-requires-clause-few
add_global-requires-clause-few g c =
    let globals = c.as_slice-global-items.result.now in
    let i = c.loop-global.global-index in
    let low : i < length globals = c.loop-global-test.true in
    let same = ap length (c.as_slice-global-items.ensures ∙ ap (λ (p : Parts). p.globals) c.parts-parts.ensures.parts) in
    let count = c.parts-parts.ensures.fit.global_count in
    let few = few_then c.args.image.now (g.H.Heap.store c.args.heap.now) (g.H.Heap.store c.loop-global.heap) globals i c.loop-global.invariant.heap (omega (arith, low)) in
    omega (arith, low, same, count, few)

pub loop-global-preserved : goal.loop-global-preserved
loop-global-preserved g c =
    let s = g.H.Heap.store c.args.heap.now in
    let image = c.args.image.now in
    let globals = c.as_slice-global-items.result.now in
    let i = c.loop-global.global-index in
    let item = c.global-item.result in
    record {
      heap = c.in_ok-add_global.ensures.heap
          ∙ ap (λ now. holding (first_of now ++ kept_global c.parts-parts.result.now item ∷ []) now) c.loop-global.invariant.heap
          ∙ ap (λ p. holding (objects_of image (take i globals) ++ kept_global p item ∷ []) s) c.parts-parts.ensures.parts
          ∙ ap (λ objects. holding objects s) (globals_more image globals i item c.loop-global-test.true c.global-item.is);
      bytes = every_more (λ (x : Global). AreBytes x.initial) globals i item c.global-item.is c.in_ok-add_global.ensures.bytes c.loop-global.invariant.bytes;
    }

pub returns : goal.returns
returns g c =
    let s = g.H.Heap.store c.args.heap.now in
    let image = c.args.image.now in
    let globals = c.as_slice-global-items.result.now in
    let i = c.loop-global.global-index in
    let past = c.loop-global-test.false in
    let all = take_all i globals (omega (arith, past)) ∙ c.as_slice-global-items.ensures ∙ ap (λ (p : Parts). p.globals) c.parts-parts.ensures.parts in
    record {
      heap = c.loop-global.invariant.heap ∙ ap (λ gs. holding (objects_of image gs) s) all;
      bytes = subst (Every (λ (x : Global). AreBytes x.initial)) all c.loop-global.invariant.bytes;
    }
