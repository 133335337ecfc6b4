use Rattle.std.proofs.Common.{◌≡◌, ◌≤◌, ◌⊎◌, drop}
use Rattle.std.specs.Prelude.{max}
use Rattle.rc_core.specs.Shapes.{path_of, arguments_of}
use Rattle.rc_rlang.specs.Variables.{arguments_temporaries, path_temporaries, path_next}
use Rattle.rc_elab.proofs.temporaries.+temporaries.Given as goal

abbrev pub invariant-arguments-loop-argument : goal.invariant-arguments-loop-argument
invariant-arguments-loop-argument l =
    (arguments_temporaries (arguments_of l.arguments) l.h ≡ max l.most (arguments_temporaries (arguments_of (drop l.argument-index l.arguments)) l.next)) × (l.most ≤ 128) × (l.next ≤ 128)

abbrev pub invariant-path-loop-step : goal.invariant-path-loop-step
invariant-path-loop-step l =
    (path_temporaries (path_of l.path) l.h ≡ max l.most (path_temporaries (path_of (drop l.step-index l.path)) l.next))
    × (path_next (path_of l.path) l.h ≡ path_next (path_of (drop l.step-index l.path)) l.next)
    × (l.most ≤ 128) × (l.next ≤ 128) × ((l.next ≡ l.h) ⊎ (l.next ≤ l.most))
