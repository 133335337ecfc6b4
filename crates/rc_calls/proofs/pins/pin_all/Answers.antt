use Rattle.std.proofs.Common.{◌≡◌, ◌∙◌, ◌++◌, ◌∷◌, [], get_or, sym, ap, subst, arith}
use Rattle.std.specs.Prelude.{IsPermutation}
use Rattle.std.proofs.lemmas.List.{take_all}
use Rattle.std.proofs.lemmas.Option.{get_or_from_slice_get}
use Rattle.std.proofs.lemmas.List.Sorted.{IsPermutation-append_comm}
use Rattle.rc_core.specs.Heap.{Null}
use Rattle.rc_core.specs.Evaluation.{local_at}
use Rattle.rc_store.specs.Kept.{KeptStore}
use Rattle.rc_store.specs.Stores.{live_in}
use Rattle.rc_store.specs.Values.{value_of}
use Rattle.rc_calls.specs.Pinning.{fresh_of}
use Rattle.rc_calls.proofs.Pinned.{fresh_in, one_of, pins_more}
use Rattle.rc_calls.proofs.pins.pin_all.Goals as goal

pub loop-local-preserved : goal.loop-local-preserved
loop-local-preserved g c =
    let before = g.H.Heap.store c.args.heap.now in
    let now = g.H.Heap.store c.loop-local.heap in
    let after = g.H.Heap.store c.pin_fresh.new.heap in
    let i = c.loop-local.local-index in
    let pins = c.args.pins.now in
    let locals = c.args.pile.now.locals in
    let inv = c.loop-local.invariant in
    let v : value_of c.cell-value.result ≡ local_at locals (get_or pins i 0) = c.cell-value.ensures ∙ sym (get_or_from_slice_get locals (get_or pins i 0) _ Null c.local.ensures) in
    let more : after.pins ≡ now.pins ++ one_of (live_in before.regions) locals (value_of c.cell-value.result) = c.pin_fresh.ensures.pins ∙ ap (λ (s : KeptStore). now.pins ++ fresh_of (live_in s.regions) (value_of c.cell-value.result ∷ [])) inv.same in
    let spare = c.pin_fresh.ensures.spare in
    let room = inv.room in
    record {
      pins = pins_more (live_in before.regions) locals pins i before.pins now.pins after.pins (value_of c.cell-value.result) c.loop-local-test.true v inv.pins more;
      room = omega (arith, spare, room);
      same = c.pin_fresh.ensures.same ∙ ap (λ (s : KeptStore). record s { pins = after.pins; spare = after.spare }) inv.same;
    }

pub returns : goal.returns
returns g c =
    let before = g.H.Heap.store c.args.heap.now in
    let after = g.H.Heap.store c.loop-local.heap in
    let locals = c.args.pile.now.locals in
    let inv = c.loop-local.invariant in
    let all : after.pins ≡ before.pins ++ fresh_in (live_in before.regions) locals c.args.pins.now = inv.pins ∙ ap (λ ps. before.pins ++ fresh_in (live_in before.regions) locals ps) (take_all c.loop-local.local-index c.args.pins.now c.loop-local-test.false) in
    record {
      pins = subst (λ vs. IsPermutation vs (fresh_in (live_in before.regions) locals c.args.pins.now ++ before.pins)) (sym all) (IsPermutation-append_comm before.pins (fresh_in (live_in before.regions) locals c.args.pins.now));
      same = inv.same;
    }
