use Rattle.std.proofs.Common.{◌≡◌, ◌∙◌, ◌-◌, ◌<◌, ◌++◌, ◌∷◌, [], suc, length, take, drop, get_or, refl, sym, ap, subst, arith}
use Rattle.std.specs.Prelude.{IsPermutation}
use Rattle.std.proofs.lemmas.List.{drop_all, take_all}
use Rattle.std.proofs.lemmas.List.Sorted.{IsPermutation-refl}
use Rattle.std.proofs.lemmas.Option.{get_or_from_slice_get}
use Rattle.rc_core.specs.Heap.{Null, is_fresh}
use Rattle.rc_core.specs.Evaluation.{local_at}
use Rattle.rc_store.specs.Kept.{KeptStore}
use Rattle.rc_store.specs.Stores.{live_in}
use Rattle.rc_store.specs.Values.{value_of}
use Rattle.rc_calls.specs.Pinning.{fresh_of}
use Rattle.rc_calls.proofs.Pinned.{fresh_in, one_of, pins_fewer, pins_left, next_held}
use Rattle.rc_calls.proofs.pins.unpin_all.Goals as goal

pub loop-i-init : goal.loop-i-init
loop-i-init g c =
    let before = g.H.Heap.store c.args.heap.now in
    let pins = c.args.pins.now in
    let locals = c.args.pile.now.locals in
    let none = drop_all (length pins) pins (omega arith) in
    let all = take_all (length pins) pins (omega arith) in
    record {
      gone = subst (λ ps. IsPermutation before.pins (fresh_in (live_in before.regions) locals ps ++ before.pins)) (sym none) (IsPermutation-refl before.pins);
      left = (c.requires.held.0, subst (λ ps. IsPermutation before.pins (fresh_in (live_in before.regions) locals ps ++ c.requires.held.0)) (sym all) c.requires.held.1);
      same = refl;
    }

pub unpin_fresh-requires : goal.unpin_fresh-requires
unpin_fresh-requires g c = λ fresh.
    let before = g.H.Heap.store c.args.heap.now in
    let now = g.H.Heap.store c.loop-i.heap in
    let i = c.loop-i.i - 1 in
    let pins = c.args.pins.now in
    let locals = c.args.pile.now.locals in
    let inv = c.loop-i.invariant in
    let some = c.loop-i-test.true in
    let next : c.loop-i.i ≡ suc i = omega (arith, some) in
    let near = c.loop-i.near-i in
    let below : i < length pins = omega (arith, next, near) in
    let v : value_of c.cell-value.result ≡ local_at locals (get_or pins i 0) = c.cell-value.ensures ∙ sym (get_or_from_slice_get locals (get_or pins i 0) _ Null c.local.ensures) in
    let left = subst (λ n. IsPermutation now.pins (fresh_in (live_in before.regions) locals (take n pins) ++ inv.left.0)) next inv.left.1 in
    next_held (live_in before.regions) locals pins i now.pins inv.left.0 (value_of c.cell-value.result) below v left (sym (ap (λ (s : KeptStore). is_fresh (live_in s.regions) (value_of c.cell-value.result)) inv.same) ∙ fresh)

pub loop-i-preserved : goal.loop-i-preserved
loop-i-preserved g c =
    let before = g.H.Heap.store c.args.heap.now in
    let now = g.H.Heap.store c.loop-i.heap in
    let after = g.H.Heap.store c.unpin_fresh.new.heap in
    let i = c.loop-i.i - 1 in
    let pins = c.args.pins.now in
    let locals = c.args.pile.now.locals in
    let inv = c.loop-i.invariant in
    let some = c.loop-i-test.true in
    let next : c.loop-i.i ≡ suc i = omega (arith, some) in
    let near = c.loop-i.near-i in
    let below : i < length pins = omega (arith, next, near) in
    let v : value_of c.cell-value.result ≡ local_at locals (get_or pins i 0) = c.cell-value.ensures ∙ sym (get_or_from_slice_get locals (get_or pins i 0) _ Null c.local.ensures) in
    let gone = subst (λ n. IsPermutation before.pins (fresh_in (live_in before.regions) locals (drop n pins) ++ now.pins)) next inv.gone in
    let left = subst (λ n. IsPermutation now.pins (fresh_in (live_in before.regions) locals (take n pins) ++ inv.left.0)) next inv.left.1 in
    let fewer : IsPermutation now.pins (one_of (live_in before.regions) locals (value_of c.cell-value.result) ++ after.pins) = subst (λ (s : KeptStore). IsPermutation now.pins (fresh_of (live_in s.regions) (value_of c.cell-value.result ∷ []) ++ after.pins)) inv.same c.unpin_fresh.ensures.pins in
    record {
      gone = pins_fewer (live_in before.regions) locals pins i before.pins now.pins after.pins (value_of c.cell-value.result) below v gone fewer;
      left = (inv.left.0, pins_left (live_in before.regions) locals pins i now.pins after.pins inv.left.0 (value_of c.cell-value.result) below v left fewer);
      same = c.unpin_fresh.ensures.same ∙ ap (λ (s : KeptStore). record s { pins = after.pins; spare = after.spare }) inv.same;
    }

pub returns : goal.returns
returns g c =
    let before = g.H.Heap.store c.args.heap.now in
    let after = g.H.Heap.store c.loop-i.heap in
    let locals = c.args.pile.now.locals in
    let inv = c.loop-i.invariant in
    let none = c.loop-i-test.false in
    let all : c.loop-i.i ≡ 0 = omega (arith, none) in
    record {
      pins = subst (λ n. IsPermutation before.pins (fresh_in (live_in before.regions) locals (drop n c.args.pins.now) ++ after.pins)) all inv.gone;
      same = inv.same;
    }
