use Rattle.std.proofs.Common.{◌≡◌, ◌++◌, drop, map}
use Rattle.rc_core.specs.Shapes.{global_of}
use Rattle.rc_routines.proofs.program.copy_globals.Given as goal

abbrev pub invariant-loop-global : goal.invariant-loop-global
invariant-loop-global l = map global_of l.copies.items ++ map global_of (drop l.global-index l.globals) ≡ map global_of l.globals
