use Rattle.std.proofs.Common.{◌≡◌, ◌++◌, length}
use Rattle.rc_gen.specs.Template.{filled}
use Rattle.rc_gen.proofs.text.Text.fill.Given as goal

abbrev pub invariant-loop-rest : goal.invariant-loop-rest
invariant-loop-rest l = l.self ++ filled l.numbers l.rest ≡ l.fn.self ++ filled l.numbers l.template

abbrev pub decreases-loop-rest : goal.decreases-loop-rest
decreases-loop-rest l = length l.rest
