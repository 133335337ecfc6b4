use Rattle.std.proofs.Common.{◌≡◌, drop, map}
use Rattle.rc_deletes.specs.Builtins.{row}
use Rattle.rc_deletes.specs.Scopes.{a_builtin}
use Rattle.rc_defined.specs.Contexts.{scope_of}
use Rattle.rc_items.proofs.walk.builtins.Given as goal

abbrev pub invariant-loop-i : goal.invariant-loop-i
invariant-loop-i l = scope_of l.names ≡ map (λ b. ((row b).name, a_builtin b)) (drop l.i l.all)
