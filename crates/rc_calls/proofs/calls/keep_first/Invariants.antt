use Rattle.std.proofs.Common.{◌≡◌}
use Rattle.rc_calls.specs.Calling.{kept_first}
use Rattle.rc_calls.proofs.calls.keep_first.Given as goal

abbrev pub invariant-loop-x : goal.invariant-loop-x
invariant-loop-x l = l.pile ≡ record l.fn.pile { locals = kept_first l.x l.function.locals l.fn.pile.locals }
