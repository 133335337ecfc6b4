use Rattle.std.proofs.Common.{drop, map}
use Rattle.std.specs.List.{AllByRecursion as Every}
use Rattle.rc_core.specs.Numbers.{IsByte}
use Rattle.rc_core.specs.Shapes.{bytes_of}
use Rattle.rc_typing.proofs.bounds.strings.Given as goal

abbrev pub invariant-loop-text : goal.invariant-loop-text
invariant-loop-text l = record { rest : Every (Every IsByte) (map bytes_of (drop l.text-index l.strings)) → Every (Every IsByte) (map bytes_of l.strings) }
