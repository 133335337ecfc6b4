use Rattle.std.proofs.Common.{◌≡◌, ◌++◌, drop, map}
use Rattle.rc_core.specs.Shapes.{bytes_of}
use Rattle.rc_routines.proofs.program.copy_strings.Given as goal

abbrev pub invariant-loop-bytes : goal.invariant-loop-bytes
invariant-loop-bytes l = map bytes_of l.copies.items ++ map bytes_of (drop l.bytes-index l.strings) ≡ map bytes_of l.strings
