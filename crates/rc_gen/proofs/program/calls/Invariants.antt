use Rattle.std.proofs.Common.{◌≡◌, ◌++◌}
use Rattle.rc_gen.specs.Program.{calls}
use Rattle.rc_gen.specs.Template.{text_of}
use Rattle.rc_gen.proofs.program.calls.Given as goal

abbrev pub invariant-loop-index : goal.invariant-loop-index
invariant-loop-index l = l.text ≡ l.fn.text ++ text_of (calls l.n l.index)
