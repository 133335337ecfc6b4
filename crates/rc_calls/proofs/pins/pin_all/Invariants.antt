use Rattle.std.proofs.Common.{◌≡◌, ◌+◌, ◌≤◌, ◌++◌, length, take}
use Rattle.rc_store.specs.Stores.{live_in}
use Rattle.rc_calls.proofs.Pinned.{fresh_in}
use Rattle.rc_calls.proofs.pins.pin_all.Given as goal

abbrev pub invariant-loop-local : goal.invariant-loop-local
invariant-loop-local g l =
    let before = g.H.Heap.store l.fn.heap in
    let now = g.H.Heap.store l.heap in
    record {
      pins : now.pins ≡ before.pins ++ fresh_in (live_in before.regions) l.pile.locals (take l.local-index l.pins);
      room : length l.pins ≤ now.spare + l.local-index;
      same : now ≡ record before { pins = now.pins; spare = now.spare };
    }
