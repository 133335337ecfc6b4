use Rattle.std.proofs.Common.{◌≡◌, ◌++◌}
use Rattle.rc_gen.specs.Program.{functions}
use Rattle.rc_gen.specs.Template.{text_of}
use Rattle.rc_gen.proofs.program.functions.Given as goal

abbrev pub invariant-loop-index : goal.invariant-loop-index
invariant-loop-index l = l.text ≡ l.fn.text ++ text_of (functions l.n l.index)
