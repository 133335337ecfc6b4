use Rattle.std.proofs.Common.{◌≡◌, ◌++◌, List, map, take}
use Rattle.rc_core.specs.Heap.{global_object}
use Rattle.rc_core.specs.Programs.{Struct}
use Rattle.rc_core.specs.Shapes.{global_of}
use Rattle.rc_values.specs.Objects.{kept_object}
use Rattle.rc_core.specs.Laid.{AreLaidOut}
use Rattle.rc_memory.proofs.heap.push_globals.Given as goal

abbrev pub invariant-loop-global : goal.invariant-loop-global
invariant-loop-global l =
    (structs : List Struct) → AreLaidOut structs l.layouts → l.objects.items ≡ l.initial.objects.items ++ map kept_object (map (global_object structs) (map global_of (take l.global-index l.globals)))
