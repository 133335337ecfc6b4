use Rattle.std.proofs.Common.{refl}
use Rattle.rc_stmt.proofs.Going.{fails_first, flat}
use Rattle.rc_parser.proofs.Declared.{param_part, param_part_refused}
use Rattle.rc_parser.proofs.params.param.Goals as goal

pub returns-in_err-type_name-clause-reads : goal.returns-in_err-type_name-clause-reads
returns-in_err-type_name-clause-reads c =
    fails_first c.from_residual.ensures.1 (flat (record { none = refl; plain = λ n r. refl }) (param_part_refused _ c.in_err-type_name.ensures.reads))

pub returns-clause-reads : goal.returns-clause-reads
returns-clause-reads c =
    flat (record { none = refl; plain = λ n r. refl }) (param_part c.in_ok-type_name.place c.in_ok-type_name.type_name c.in_ok-type_name.ensures.reads c.param_typed.ensures.reads)
