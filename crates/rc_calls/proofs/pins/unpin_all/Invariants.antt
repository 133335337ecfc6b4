use Rattle.std.proofs.Common.{◌≡◌, ◌++◌, List, take, drop}
use Rattle.std.specs.Prelude.{IsPermutation}
use Rattle.rc_core.specs.Heap.{Value}
use Rattle.rc_store.specs.Stores.{live_in}
use Rattle.rc_calls.proofs.Pinned.{fresh_in}
use Rattle.rc_calls.proofs.pins.unpin_all.Given as goal

abbrev pub invariant-loop-i : goal.invariant-loop-i
invariant-loop-i g l =
    let before = g.H.Heap.store l.fn.heap in
    let now = g.H.Heap.store l.heap in
    record {
      gone : IsPermutation before.pins (fresh_in (live_in before.regions) l.pile.locals (drop l.i l.pins) ++ now.pins);
      left : (rest : List Value) × IsPermutation now.pins (fresh_in (live_in before.regions) l.pile.locals (take l.i l.pins) ++ rest);
      same : now ≡ record before { pins = now.pins; spare = now.spare };
    }
