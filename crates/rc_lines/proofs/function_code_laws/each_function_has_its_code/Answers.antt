use Rattle.std.proofs.Common.{◌≡◌, length, map, sym, ap, ◌∙◌}
use Rattle.std.specs.Prelude.{Some, slice_get, option_map, unwrap_or}
use Rattle.std.proofs.lemmas.List.{length-map}
use Rattle.std.proofs.lemmas.Option.{slice_get-map}
use Rattle.rc_rlang.specs.RegionRuns.{deletes}
use Rattle.rc_emission.specs.StatementCode.{stack_function}
use Rattle.rc_emission.specs.KeptOperands.{slots_of, stack_code}
use Rattle.rc_lines.specs.ProgramCode.{function_of, bare_function}
use Rattle.rc_lines.proofs.function_code_laws.each_function_has_its_code.Goals as goal

pub returns-clause-count : goal.returns-clause-count
returns-clause-count c r code h =
    sym (length-map code function_of) ∙ ap length h ∙ length-map (stack_code r) bare_function ∙ length-map r.functions (stack_function slots_of (deletes r))

pub returns-clause-each : goal.returns-clause-each
returns-clause-each c r code h k f one there made =
    let stack = stack_function slots_of (deletes r) in
    let a : slice_get (map function_of code) k ≡ Some (function_of one) = slice_get-map function_of code k ∙ ap (option_map function_of) made in
    let b : slice_get (map bare_function (stack_code r)) k ≡ Some (bare_function (stack f)) =
    slice_get-map bare_function (stack_code r) k ∙ ap (option_map bare_function) (slice_get-map stack r.functions k ∙ ap (option_map stack) there) in
    ap (λ o. unwrap_or o (function_of one)) (sym a ∙ ap (λ xs. slice_get xs k) h ∙ b)
