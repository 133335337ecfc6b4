use Rattle.std.proofs.Common.{◌≡◌, ◌≤◌, drop}
use Rattle.std.specs.Prelude.{max}
use Rattle.rc_core.specs.Shapes.{stmts_of}
use Rattle.rc_rlang.specs.Variables.{body_temporaries}
use Rattle.rc_elab.proofs.variables.+variables.Given as goal

abbrev pub invariant-body-loop-s : goal.invariant-body-loop-s
invariant-body-loop-s l = (body_temporaries (stmts_of l.body) ≡ max l.most (body_temporaries (stmts_of (drop l.s-index l.body)))) × (l.most ≤ 128)
