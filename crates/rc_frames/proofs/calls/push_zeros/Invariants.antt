use Rattle.std.proofs.Common.{◌≡◌, ◌++◌, map, take}
use Rattle.rc_core.specs.Heap.{zero_of}
use Rattle.rc_core.specs.Shapes.{ty_of}
use Rattle.rc_frames.proofs.calls.push_zeros.Given as goal

abbrev pub invariant-loop-ty : goal.invariant-loop-ty
invariant-loop-ty l = l.values ≡ l.fn.values ++ map zero_of (map ty_of (take l.ty-index l.types))
