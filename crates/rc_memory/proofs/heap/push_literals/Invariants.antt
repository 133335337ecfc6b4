use Rattle.std.proofs.Common.{◌≡◌, ◌++◌, map, take}
use Rattle.rc_core.specs.Heap.{literal}
use Rattle.rc_core.specs.Shapes.{bytes_of}
use Rattle.rc_values.specs.Objects.{kept_object}
use Rattle.rc_memory.proofs.heap.push_literals.Given as goal

abbrev pub invariant-loop-string : goal.invariant-loop-string
invariant-loop-string l = l.objects.items ≡ l.initial.objects.items ++ map kept_object (map literal (map bytes_of (take l.string-index l.strings)))
