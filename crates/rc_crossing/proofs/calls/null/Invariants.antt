use Rattle.std.proofs.Common.{◌≡◌, ◌++◌}
use Rattle.rc_facts.specs.Null.{in_each, null_news}
use Rattle.rc_crossing.proofs.calls.null.Given as goal

abbrev pub invariant-loop-other : goal.invariant-loop-other
invariant-loop-other l = l.all.items ++ in_each l.other l.variable ≡ null_news l.variables l.variable
