use Rattle.std.proofs.Common.{◌≡◌, pos, map, take}
use Rattle.rc_core.specs.Heap.{Number}
use Rattle.rc_values.proofs.object.literal.Given as goal

abbrev pub invariant-loop-byte : goal.invariant-loop-byte
invariant-loop-byte l = l.values ≡ map (λ byte. Number (pos byte)) (take l.byte-index l.bytes)
